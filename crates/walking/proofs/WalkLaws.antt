-- The laws of what specs/Walk.antt defines.
use Rattle.std.specs.Prelude.{ℕ, zero, suc, ◌+◌, ◌*◌, ◌%◌, ◌<◌, ◌≤◌, ◌≡◌, refl, Bool, true, false, not, ◌&&◌, List, eqb, ltb, length, get_or, set, replicate}
use Rattle.std.proofs.Common.{sym, ◌∙◌, ap, inl, inr, arith, length-set, get_or-set_same, get_or-set_other}
use borrow.Author.Tests.{eqb-true, eq-eqb, ne_eqb, lt-ltb, le-ltb}
use Rattle.std.proofs.lemmas.List.{length-replicate, get_or-replicate}
use Rattle.basics.specs.Tests.{test}
use Rattle.basics.proofs.Tests.{eq?, and_true}
use Rattle.cuckoo.specs.Round.{path}
use Rattle.cuckoo.proofs.Round.{path_none, path_step}
use Rattle.hashing.specs.Hash.{tables}
use Rattle.hashing.specs.Slots.{slot_0, slot_1}
use Rattle.hashing.proofs.Slots.{slot_0_lt, slot_1_lt}
use Rattle.layout.specs.Layout.{family_of, slots_of}
use Rattle.layout.proofs.Shape.{by_own_family}
use Rattle.walking.specs.Walk.{key_of, across, unvisited, with_visit, run_length, WalkRoom, New, Readable, Walked, Onward, Closed, Stepped}

-- as code writes it
pub noted_as : {r v n i j k : ℕ} (key : ℕ) (X : List ℕ) → i ≡ v → j ≡ r → k ≡ n → set (set X i (n + 1)) (2 * j + k) key ≡ with_visit r v n key X
noted_as {r} {n = n} key X p q e = let f : 2 * r + n ≡ r + r + n = omega arith in rw (p, q, e, f)

pub on_here : {i v : ℕ} (X : List ℕ) (t : Bool) → i ≡ v → get_or X i 0 ≡ 0 → t ≡ (eqb (get_or X v 0) 0 && t)
on_here {i} {v} X t q e = rw (← q, eq-eqb (get_or X i 0) 0 e)

pub not_here : {i v : ℕ} (X : List ℕ) (t : Bool) → i ≡ v → (get_or X i 0 ≡ 0 → ⊥) → false ≡ (eqb (get_or X v 0) 0 && t)
not_here {i} {v} X t q n = rw (← q, ne_eqb (get_or X i 0) 0 n)

-- The laws. Nothing is visited at first;
zeros_at : (k w : ℕ) → w < k → get_or {A = ℕ} (replicate k 0) w 0 ≡ 0
zeros_at k w l = get_or-replicate {A = ℕ} k w 0 0 l

unvisited_zeros : (n k : ℕ) → n ≤ k → unvisited n (replicate k 0) ≡ n
unfolding unvisited
unvisited_zeros zero k l = refl
unvisited_zeros (suc n) k l = rw (zeros_at k n (omega arith), unvisited_zeros n k (omega arith)) (omega arith)

-- a slot that is noted counts no more
unvisited_same : (n : ℕ) (X : List ℕ) (i x : ℕ) → n ≤ i → unvisited n (set X i x) ≡ unvisited n X
unfolding unvisited
unvisited_same zero X i x l = refl
unvisited_same (suc n) X i x l = rw (get_or-set_other X i n x 0 (λ q. omega arith), unvisited_same n X i x (omega arith))

unvisited_less : (n : ℕ) (X : List ℕ) (v x : ℕ) → v < n → v < length X → get_or X v 0 ≡ 0 → unvisited n X ≡ suc (unvisited n (set X v (x + 1)))
unfolding unvisited
unvisited_less zero X v x l k e = absurd (omega arith)
unvisited_less (suc n) X v x l k e = elim (eq? v n) [
  | inl q ↦
      let other : get_or (set X v (x + 1)) n 0 ≡ x + 1 = rw (← q) (get_or-set_same X v (x + 1) 0 k) in
      let one = ne_eqb (x + 1) 0 (λ z. omega arith) in
      let was : get_or X n 0 ≡ 0 = rw (← q) e in
      rw (other, one, was, unvisited_same n X v (x + 1) (omega arith)) (omega arith)
  | inr d ↦
      rw (get_or-set_other X v n (x + 1) 0 (λ z. d (sym z)), unvisited_less n X v x (omega arith) k e) (omega arith)
]

module _ {r n v : ℕ} {X : List ℕ} (N : New r X n v) where
  abbrev R : WalkRoom r X n v
  R = N.room

  -- so there is room for one more
  fewer : (key : ℕ) → n + suc (unvisited (r + r) (with_visit r v n key X)) ≡ r + r
  fewer key =
      omega (arith, R.count, unvisited_less (r + r) X v n R.inside (omega (arith, R)) N.fresh, unvisited_same (r + r) (set X v (n + 1)) (r + r + n) key (omega arith))

  pub noted_fits : n < r + r
  noted_fits = omega (arith, fewer 0)

  pub unvisited_falls : (key : ℕ) → unvisited (r + r) (with_visit r v n key X) < unvisited (r + r) X
  unvisited_falls key = omega (arith, R.count, fewer key)

  pub noted_room : (key w : ℕ) → w < r + r → WalkRoom r (with_visit r v n key X) (n + 1) w
  noted_room key w l = record { long = simp length-set (omega (arith, R.long)); inside = l; count = omega (arith, fewer key) }

  -- A step: slot v is noted with its key, and the walk goes on.
  module _ (g h : ℕ → ℕ) {key w : ℕ} (held : key ≡ h v) (on : w ≡ g v) (inside : w < r + r) where
    step_walked : (u : ℕ) → Walked g h u r X n v → Walked g h u r (with_visit r v n key X) (n + 1) w
    step_walked u W =
        let two : v < length X = omega (arith, R) in
        let back : r + r + n < length (set X v (n + 1)) = simp length-set (omega (arith, R, noted_fits)) in
        record {
          at = on ∙ ap g W.at ∙ sym (path_step g u n) ∙ ap (path g u) (omega arith);
          visits = λ y l.
              rw (get_or-set_other (set X v (n + 1)) (r + r + n) y key 0 (λ q. omega arith))
              (elim (eq? y v) [
                | inl q ↦ inr (n, omega arith, rw q (get_or-set_same X v (n + 1) 0 two), sym W.at ∙ sym q)
                | inr d ↦ rw (get_or-set_other X v y (n + 1) 0 d) (elim (W.visits y l) [ inl z ↦ inl z | inr k ↦ inr (k.0, omega (arith, k.1), k.2, k.3) ])
              ]);
          keys = λ i l. elim (eq? i n) [
            | inl q ↦ rw q (get_or-set_same (set X v (n + 1)) (r + r + n) key 0 back ∙ held ∙ ap h W.at)
            | inr d ↦
                rw (
                  get_or-set_other (set X v (n + 1)) (r + r + n) (r + r + i) key 0 (λ q. omega arith),
                  get_or-set_other X v (r + r + i) (n + 1) 0 (λ q. omega (arith, R.inside)),
                )
                (W.keys i (omega arith))
          ];
        }

    pub step_onward : Onward g h r X n v (with_visit r v n key X) (n + 1) w
    step_onward = record { room = noted_room key w inside; more = omega arith; walked = step_walked }

-- one stretch of the walk after another
pub onward_then : {g h : ℕ → ℕ} {r n v m w k y : ℕ} {X Y Z : List ℕ} → Onward g h r X n v Y m w → Onward g h r Y m w Z k y → Onward g h r X n v Z k y
onward_then A B = record { room = B.room; more = omega (arith, A.more, B.more); walked = λ u W. B.walked u (A.walked u W) }

-- the start, over zeros
pub walk_start : (g h : ℕ → ℕ) {r v k : ℕ} {X : List ℕ} → X ≡ replicate k 0 → r + r + (r + r) ≤ k → v < r + r
    → WalkRoom r X 0 v × Walked g h v r X 0 v
walk_start g h {r} {v} {k} e l i = rw e (
  record { long = simp length-replicate l; inside = i; count = omega (arith, unvisited_zeros (r + r) k (omega arith)) },
  record { at = sym (path_none g v); visits = λ w m. inl (zeros_at k w (omega arith)); keys = λ i m. absurd (omega arith) },
)

-- whether the slot, at which code looks by an index, is new, or the walk is over
pub new_here : {r n v i : ℕ} {X : List ℕ} → WalkRoom r X n v → i ≡ v → get_or X i 0 ≡ 0 → New r X n v
new_here room q e = record { room = room; fresh = rw (← q) e }

pub closed_here : {g h : ℕ → ℕ} {u r n v i : ℕ} {X : List ℕ} → WalkRoom r X n v → Walked g h u r X n v → i ≡ v → (get_or X i 0 ≡ 0 → ⊥)
    → Closed g h u r X n v
closed_here room walked q e = record { room = room; walked = walked; visited = rw (← q) e }

-- Code makes a step: w is the other slot of the key in v. Out of table 0 that is the key's slot in table 1, and back.
module _ {tabulation ws : List ℕ} {r station : ℕ} (A : Readable tabulation ws r station) {v key : ℕ} (held : key ≡ key_of ws v) where
  pub out_0 : {w : ℕ} → v < r → w ≡ slot_1 (tables tabulation r station) key → w ≡ across tabulation ws v
  unfolding across
  out_0 l e =
      let t = lt-ltb v (slots_of ws) (omega (arith, A.slots)) in
      by_own_family (λ F. slot_1 F key) tabulation ws A.slots A.stationed e ∙ (rw (held, t))

  pub out_1 : {w : ℕ} → r ≤ v → w ≡ slot_0 (tables tabulation r station) key → w ≡ across tabulation ws v
  unfolding across
  out_1 l e =
      let t = le-ltb v (slots_of ws) (omega (arith, A.slots)) in
      by_own_family (λ F. slot_0 F key) tabulation ws A.slots A.stationed e ∙ (rw (held, t))

pub across_lt : {tabulation ws : List ℕ} {r station : ℕ} → Readable tabulation ws r station → (v : ℕ) → across tabulation ws v < r + r
unfolding across
across_lt {tabulation} {ws} A v =
    let F = family_of tabulation ws in
    let some : 0 < slots_of ws = omega (arith, A.slots, A.hashing.has_slots) in
    elim (test (ltb v (slots_of ws))) [
      | inl t ↦ rw (t, A.slots) (slot_1_lt F some (key_of ws v))
      | inr t ↦ rw (t, A.slots) (omega (arith, slot_0_lt F some (key_of ws v)))
    ]

pub stepped : {tabulation ws : List ℕ} {r station n v key w : ℕ} {X Y : List ℕ} → Readable tabulation ws r station → New r X n v → key ≡ key_of ws v
    → Y ≡ with_visit r v n key X → w ≡ across tabulation ws v → Stepped tabulation ws r X n v Y w
stepped {tabulation} {ws} {r} {v = v} {key} {w} A N held e on =
    let l : w < r + r = rw on (across_lt A v) in
    rw e (record {
      onward = step_onward N (across tabulation ws) (key_of ws) held on l;
      falls = unvisited_falls N key;
      small = omega (arith, noted_fits N, A.hashing.slots_bound);
    })

-- A run that goes on is in a slot that is not yet visited.
pub goes_new : {r n v : ℕ} {Y : List ℕ} {t : Bool} → WalkRoom r Y n v → t ≡ true → t ≡ (eqb (get_or Y v 0) 0 && not (eqb (n % run_length) 0)) → New r Y n v
goes_new {n = n} {v} {Y} room on e =
    record { room = room; fresh = eqb-true (get_or Y v 0) 0 (and_true (eqb (get_or Y v 0) 0) (not (eqb (n % run_length) 0)) (sym e ∙ on)).0 }
