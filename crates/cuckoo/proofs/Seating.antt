-- The laws of what specs/Seating.antt defines.
use Prim.Native.Nat.{ℕ}
use Rattle.std.specs.Prelude.{◌≡◌, true, false, ◌&&◌, ◌||◌, ◌⊎◌}
use Rattle.std.proofs.Math.Path.{refl}
use Rattle.std.proofs.Common.{sym, ◌∙◌, ap, true≢false, eqb-true, eq-eqb, ne_eqb}
use Rattle.std.proofs.Math.Bool.{Bool, or-true}
use Rattle.std.proofs.Math.Logic.{inl, inr}
use mathlib.Core.List.Memᴰ.{head as here}
use mathlib.Core.List.{List, [], ◌∷◌, Memᴰ as In}
use Rattle.std.proofs.lemmas.Bool.{eqb-false, not-true}
use Rattle.std.proofs.Math.Dec.{eqb}
use Rattle.basics.specs.Tests.{test}
use Rattle.basics.proofs.Tests.{eq?, and_true}
use Rattle.basics.specs.Sets.{keep, without, first, Sub}
use Rattle.basics.proofs.Sets.{keep_in, keep_test, in_keep, out_in, in_out, outs, first_in, first_two}
use Rattle.cuckoo.specs.Graph.{joined, is_on_cycle, component, root, sits, occupant}
use Rattle.cuckoo.specs.Settling.{OnCycle, Settled}
use Rattle.cuckoo.proofs.Settling.{is_on_cycle_true, true_is_on_cycle, is_on_cycle?}
use Rattle.cuckoo.specs.Joined.{Joined, past, along, back}
use Rattle.cuckoo.proofs.Joined.{jrefl, jsym, jtrans, edge, mono, split_out, cut, joined_true, true_joined, no_joined}
use Rattle.cuckoo.specs.Seating.{Ends, Over, Bare, Sat, Rooted, from_a, from_b, past_it, by_v, by_w, tree_root, tree_away, cycle_root, cycle_away}

module _ {a b : ℕ → ℕ} where
  pub ends_edge : {R : List ℕ} {c v w : ℕ} → Ends a b c v w → In c R → Joined a b R v w
  ends_edge (from_a p q) i = rw (p, q) (edge i)
  ends_edge (from_b p q) i = rw (p, q) (jsym (edge i))

  pub ends_cycle : {R : List ℕ} {c v w : ℕ} → Ends a b c v w → Joined a b R v w → Joined a b R (a c) (b c)
  ends_cycle (from_a p q) j = rw (← p, ← q) j
  ends_cycle (from_b p q) j = rw (← p, ← q) (jsym j)

  pub ends_flip : {c v w : ℕ} → Ends a b c v w → Ends a b c w v
  ends_flip (from_a p q) = from_b q p
  ends_flip (from_b p q) = from_a q p

  -- a key has two ends
  pub ends_two : {c v w x y : ℕ} → Ends a b c v w → Ends a b c x y → (x ≡ v) ⊎ (x ≡ w)
  ends_two (from_a e f) (from_a g k) = inl (g ∙ sym e)
  ends_two (from_a e f) (from_b g k) = inr (g ∙ sym f)
  ends_two (from_b e f) (from_a g k) = inr (g ∙ sym f)
  ends_two (from_b e f) (from_b g k) = inl (g ∙ sym e)

  -- a key's slot is in its component
  pub ends_near : {R : List ℕ} {c v w : ℕ} → Ends a b c v w → In c R → Joined a b R v (a c)
  ends_near (from_a p q) i = rw p jrefl
  ends_near (from_b p q) i = rw p (jsym (edge i))

  at_root : {R : List ℕ} {c v w z : ℕ} → Ends a b c v w → c ≡ z → In z R → Joined a b R v (a z)
  at_root e p i = ends_near (rw p at e) i

  pub over : {c v w : ℕ} (R : List ℕ) {p q : ℕ} → Ends a b c v w → Joined a b R p q → Over a b (without c R) v w p q
  over {c} R (from_a e f) j = rw (e, f) (elim (split_out c R j) [ past k ↦ past_it k | along k l ↦ by_v k l | back k l ↦ by_w k l ])
  over {c} R (from_b e f) j = rw (e, f) (elim (split_out c R j) [ past k ↦ past_it k | along k l ↦ by_w k l | back k l ↦ by_v k l ])

module _ {a b : ℕ → ℕ} {X : List ℕ} {p : ℕ} where
  -- one end of a key is joined to p without it
  pub one_near : {c v w : ℕ} → Ends a b c v w → In c X → Joined a b X p v
      → Joined a b (without c X) v p ⊎ Joined a b (without c X) w p
  one_near e i j = elim (over X e j) [ past_it k ↦ inl (jsym k) | by_v k l ↦ inl (jsym k) | by_w k l ↦ inr (jsym k) ]

  -- no two keys are away from p at the same slot
  no_two : {c d v w x : ℕ} → Ends a b c v w → Ends a b d v x → In c X → In d X → Joined a b X p v
      → (Joined a b (without c X) v p → ⊥) → (Joined a b (without d X) v p → ⊥) → c ≡ d
  no_two {c} {d} {v} {w} {x} e f ic id j nc nd =
      elim (eq? c d) [
        | inl q ↦ q
        | inr ne ↦
            let dX : In d (without c X) = in_out c X ne id in
            let xp : Joined a b (without d X) x p = elim (one_near f id j) [ inl k ↦ absurd (nd k) | inr k ↦ k ] in
            let vx : Joined a b (without c X) v x = ends_edge f dX in
            let up : Sub (without c (without d X)) (without c X) = λ y h. search outs in
            let dn : Sub (without c (without d X)) (without d X) = λ y h. search outs in
            elim (over (without d X) e xp) [
              | past_it k ↦ absurd (nc (jtrans vx (mono up k)))
              | by_v k l ↦ absurd (nd (jtrans (jsym (mono dn k)) xp))
              | by_w k l ↦ absurd (nc (mono up l))
            ]
      ]

  module _ (bare : Bare a b X p) where
    -- and not both
    pub not_both : {c v w : ℕ} → Ends a b c v w → In c X → Joined a b (without c X) v p → Joined a b (without c X) w p → ⊥
    not_both {c} {v} {w} e i j k =
        let up : Sub (without c X) X = λ d h. out_in c X h in
        bare c i (jtrans (jsym (mono up j)) (ends_near e i)) (ends_cycle e (jtrans j (jsym k)))

    -- so one end of each key of the component is cut off from p without it
    pub away : {c : ℕ} → In c X → Joined a b X p (a c) → (Joined a b (without c X) (a c) p → ⊥) ⊎ (Joined a b (without c X) (b c) p → ⊥)
    away i j =
        elim (one_near (from_a refl refl) i j) [
          | inl k ↦ inr (λ l. not_both (from_a refl refl) i k l)
          | inr k ↦ inl (λ l. not_both (from_a refl refl) i l k)
        ]

module _ {a b : ℕ → ℕ} {K : List ℕ} {z : ℕ} where
  -- a slot holds one key
  sat_one : {c d v w x : ℕ} → Ends a b c v w → Ends a b d v x → In c K → In d K → In z K → Joined a b K (a z) v → Sat a b K z v c → Sat a b K z v d → c ≡ d
  sat_one e f ic id iz j (tree_root n p) (tree_root m q) = cc
  sat_one e f ic id iz j (tree_root n p) (tree_away m q o) = absurd (o (at_root e p (in_out _ K q iz)))
  sat_one e f ic id iz j (tree_away n p o) (tree_root m q) = absurd (o (at_root f q (in_out _ K p iz)))
  sat_one e f ic id iz j (tree_away n p o) (tree_away m q u) = no_two e f ic id j o u
  sat_one e f ic id iz j (tree_root n p) (cycle_root l q r) = absurd (n l)
  sat_one e f ic id iz j (tree_root n p) (cycle_away l q r) = absurd (n l)
  sat_one e f ic id iz j (tree_away n p o) (cycle_root l q r) = absurd (n l)
  sat_one e f ic id iz j (tree_away n p o) (cycle_away l q r) = absurd (n l)
  sat_one e f ic id iz j (cycle_root l q r) (tree_root n p) = absurd (n l)
  sat_one e f ic id iz j (cycle_away l q r) (tree_root n p) = absurd (n l)
  sat_one e f ic id iz j (cycle_root l q r) (tree_away n p o) = absurd (n l)
  sat_one e f ic id iz j (cycle_away l q r) (tree_away n p o) = absurd (n l)
  sat_one e f ic id iz j (cycle_root l q r) (cycle_root m s t) = cc
  sat_one e f ic id iz j (cycle_root l q r) (cycle_away m s t) = absurd (t (rw r jrefl))
  sat_one e f ic id iz j (cycle_away l q r) (cycle_root m s t) = absurd (r (rw t jrefl))
  sat_one e f ic id iz j (cycle_away l q r) (cycle_away m s t) = no_two e f (in_out z K (λ k. q (sym k)) ic) (in_out z K (λ k. s (sym k)) id) (cut z K l.closed j) r t

  -- each key sits in one of its slots
  sat_some : {c : ℕ} → In c K → Joined a b K (a z) (a c)
      → ((OnCycle a b K z → ⊥) → (d : ℕ) → Joined a b K (a z) (a d) → OnCycle a b K d → ⊥)
      → Settled a b K → Sat a b K z (a c) c ⊎ Sat a b K z (b c) c
  sat_some {c} i j flat stop = go (is_on_cycle? a b K z) (eq? c z)
    where
      go : OnCycle a b K z ⊎ (OnCycle a b K z → ⊥) → (c ≡ z) ⊎ (c ≡ z → ⊥) → Sat a b K z (a c) c ⊎ Sat a b K z (b c) c
      go (inl l) (inl q) = inl (cycle_root l q (ap a q))
      go (inr n) (inl q) = inl (tree_root n q)
      go (inr n) (inr m) =
          elim (away (λ d k x r. flat n d x (record { on = k; closed = r })) i j) [ inl o ↦ inl (tree_away n m o) | inr o ↦ inr (tree_away n m o) ]
      go (inl l) (inr m) =
          elim (away {X = without z K} (λ d k x r. stop z (record { cycle = l; rest = record { d = d; cycle = record { on = k; closed = r }; near = x } }))
          (in_out z K (λ q. m (sym q)) i) (cut z K l.closed j)) [ inl o ↦ inl (cycle_away l m o) | inr o ↦ inr (cycle_away l m o) ]

-- the Boolean rule, read as the laws above
module _ (a b : ℕ → ℕ) where
  -- `root` is such a key,
  pub rooted : (K : List ℕ) {v c : ℕ} → In c K → Joined a b K v (a c) → (Rooted a b) K v (root a b K v)
  unfolding root component
  rooted K {v} {c} i j =
      elim (first_two (keep (is_on_cycle a b K) G) G (in_G c i j)) [
        | inl k ↦ record { z_in = keep_in p K (keep_in (is_on_cycle a b K) G k); near = joined_true (keep_test p K (keep_in (is_on_cycle a b K) G k)); flat = λ n. absurd (n (is_on_cycle_true (keep_test (is_on_cycle a b K) G k))) }
        | inr k ↦ record { z_in = keep_in p K k.0; near = joined_true (keep_test p K k.0); flat = λ n d x l. no_mem k.1 (in_keep (is_on_cycle a b K) G (true_is_on_cycle l) (in_G d l.on x)) }
      ]
    where
      p : ℕ → Bool
      p d = joined a b K v (a d)

      G : List ℕ
      G = keep p K

      in_G : (d : ℕ) → In d K → Joined a b K v (a d) → In d G
      in_G d h x = in_keep p K (true_joined x) h

      no_mem : {L : List ℕ} {d : ℕ} → L ≡ [] → In d L → ⊥
      no_mem e h = elim (rw e at h) [ ]

  -- and the same for joined slots
  pub root_same : (K : List ℕ) {u v : ℕ} → Joined a b K u v → root a b K u ≡ root a b K v
  unfolding root component joined
  root_same K j = rw j.same

  -- `sits` is `Sat`, seen from the root
  pub sits_true : (K : List ℕ) (v c : ℕ) → sits a b K v c ≡ true → Sat a b K (root a b K (a c)) v c
  unfolding sits
  sits_true K v c e = go (test (eqb c z)) (test (is_on_cycle a b K z))
    where
      z : ℕ
      z = root a b K (a c)

      go : (eqb c z ≡ true) ⊎ (eqb c z ≡ false) → (is_on_cycle a b K z ≡ true) ⊎ (is_on_cycle a b K z ≡ false) → Sat a b K z v c
      go (inl q) (inl l) = cycle_root (is_on_cycle_true l) (eqb-true c z q) (eqb-true v (a z) (rw (q, l) at e))
      go (inl q) (inr l) = tree_root (λ k. true≢false (sym (true_is_on_cycle k) ∙ l)) (eqb-true c z q)
      go (inr q) (inl l) = cycle_away (is_on_cycle_true l) (eqb-false c z q) (λ k. true≢false (sym (true_joined k) ∙ not-true _ (rw (q, l) at e)))
      go (inr q) (inr l) = tree_away (λ k. true≢false (sym (true_is_on_cycle k) ∙ l)) (eqb-false c z q) (λ k. true≢false (sym (true_joined k) ∙ not-true _ (rw (q, l) at e)))

  false_is_on_cycle : {K : List ℕ} {c : ℕ} → (OnCycle a b K c → ⊥) → is_on_cycle a b K c ≡ false
  false_is_on_cycle {K} {c} n = elim (test (is_on_cycle a b K c)) [ inl e ↦ absurd (n (is_on_cycle_true e)) | inr e ↦ e ]

  pub true_sits : (K : List ℕ) (v c : ℕ) → Sat a b K (root a b K (a c)) v c → sits a b K v c ≡ true
  unfolding sits
  true_sits K v c (tree_root n q) = rw (eq-eqb c (root a b K (a c)) q, false_is_on_cycle n)
  true_sits K v c (tree_away n q o) = rw (ne_eqb c (root a b K (a c)) q, false_is_on_cycle n) (no_joined o)
  true_sits K v c (cycle_root l q r) = rw (eq-eqb c (root a b K (a c)) q, true_is_on_cycle l) (eq-eqb v (a (root a b K (a c))) r)
  true_sits K v c (cycle_away l q o) = rw (ne_eqb c (root a b K (a c)) q, true_is_on_cycle l) (no_joined o)

  -- the test for an end
  pub ends_of : (v c : ℕ) → (eqb v (a c) || eqb v (b c)) ≡ true → (w : ℕ) × Ends a b c v w
  ends_of v c e =
      elim (test (eqb v (a c))) [
        | inl t ↦ (b c, from_a (eqb-true v (a c) t) refl)
        | inr t ↦ (a c, from_b (eqb-true v (b c) (rw t at e)) refl)
      ]

  of_ends : {c v w : ℕ} → Ends a b c v w → (eqb v (a c) || eqb v (b c)) ≡ true
  of_ends {c} {v} (from_a p q) = rw (eq-eqb v (a c) p)
  of_ends {c} {v} (from_b p q) = rw (eq-eqb v (b c) p, or-true)

  -- a slot shows the key that sits there
  module _ (K : List ℕ) (v : ℕ) where
    here_sits : ℕ → Bool
    here_sits c = (eqb v (a c) || eqb v (b c)) && sits a b K v c

    -- a key that sits in a slot is its occupant
    pub occupant_is : {c w : ℕ} → In c K → Ends a b c v w → sits a b K v c ≡ true → occupant a b K v ≡ c
    unfolding occupant here_sits
    occupant_is {c} {w} i e t =
        let ic : In c (keep here_sits K) = in_keep here_sits K (rw (of_ends e) t) i in
        let f = first_in (keep here_sits K) ic in
        let d = first (keep here_sits K) in
        let g = and_true (eqb v (a d) || eqb v (b d)) (sits a b K v d) (keep_test here_sits K f) in
        let x = ends_of v d g.0 in
        let id = keep_in here_sits K f in
        let jc = ends_near e i in
        let jd = ends_near x.1 id in
        let z = root a b K v in
        let rc : root a b K (a c) ≡ z = root_same K (jsym jc) in
        let rd : root a b K (a d) ≡ z = root_same K (jsym jd) in
        let R = rooted K i jc in
        sat_one x.1 e id i R.z_in (jsym R.near) (rw rd at (sits_true K v d g.1)) (rw rc at (sits_true K v c t))

    -- a slot is empty, or its key is of K, has it as an end, and sits there
    pub occupant_from : (occupant a b K v ≡ 0)
        ⊎ (In (occupant a b K v) K × ((w : ℕ) × Ends a b (occupant a b K v) v w) × (sits a b K v (occupant a b K v) ≡ true))
    unfolding occupant here_sits
    occupant_from = go (keep here_sits K) refl
      where
        go : (L : List ℕ) → keep here_sits K ≡ L → (first L ≡ 0) ⊎ (In (first L) K × ((w : ℕ) × Ends a b (first L) v w) × (sits a b K v (first L) ≡ true))
        go [] e = inl refl
        go (d ∷ L) e =
            let f : In d (keep here_sits K) = rw e (here refl) in
            let g = and_true (eqb v (a d) || eqb v (b d)) (sits a b K v d) (keep_test here_sits K f) in
            inr (keep_in here_sits K f, ends_of v d g.0, g.1)

  -- where nothing is spare each key shows in one of its slots
  pub look : (K : List ℕ) → Settled a b K → (c : ℕ) → In c K → (occupant a b K (a c) ≡ c) ⊎ (occupant a b K (b c) ≡ c)
  look K stop c i =
      let R = rooted K i jrefl in
      elim (sat_some i (jsym R.near) (λ n d x l. R.flat n d (jtrans R.near x) l) stop) [
        | inl s ↦ inl (occupant_is K (a c) i (from_a refl refl) (true_sits K (a c) c s))
        | inr s ↦ inr (occupant_is K (b c) i (from_b refl refl) (true_sits K (b c) c s))
      ]
