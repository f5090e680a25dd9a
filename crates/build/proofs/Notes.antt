-- The laws of what specs/Notes.antt defines.
use Rattle.std.specs.Prelude.{ℕ, suc, ◌+◌, ◌-◌, ◌*◌, ◌%◌, ◌/◌, ◌<◌, ◌≤◌, ◌≡◌, not, set, replicate}
use Rattle.std.proofs.Math.Path.{refl}
use Rattle.std.proofs.Common.{sym, ◌∙◌, ap, get_or-set_same}
use Rattle.std.proofs.Math.Logic.{inl, inr}
use mathlib.Core.List.Memᴰ.{head as here}
use mathlib.Core.List.Memᴰ.{tail as there}
use mathlib.Core.List.{List, [], ◌∷◌, Memᴰ as In}
use native.Mathlib.Omega.{arith}
use Rattle.std.proofs.Math.ListN.{length, get_or, length-set}
use Rattle.std.proofs.lemmas.List.{length-replicate}
use Rattle.std.proofs.lemmas.List.Edits.{sets-eq}
use Rattle.std.proofs.Math.Seq.{get_or-set_other}
use borrow.Author.Tests.{lt-ltb, le-ltb}
use Rattle.basics.proofs.Lists.{get_or_zeros}
use Rattle.basics.specs.Sets.{member, keep}
use Rattle.cuckoo.specs.Graph.{seated, stash}
use Rattle.basics.proofs.Tests.{eq?, le?}
use Rattle.basics.proofs.Sets.{in?, in_member, no_member, below_in, below_lt, out_sub}
use Rattle.basics.specs.Sets.{Sub, Asc, some, below}
use Rattle.cuckoo.specs.Joined.{Joined}
use Rattle.cuckoo.proofs.Joined.{jsym, jrefl, mono}
use Rattle.cuckoo.specs.Forest.{forest}
use Rattle.cuckoo.proofs.Forest.{forest_in, spans_key, acyclic}
use Rattle.cuckoo.proofs.Settling.{seated_forest, seated_is, is_seated}
use Rattle.cuckoo.specs.Settling.{tree, smallest}
use Rattle.cuckoo.specs.Seating.{Bare}
use Rattle.cuckoo.proofs.Seating.{ends_near}
use Rattle.cuckoo.proofs.Tree.{far_some}
use Rattle.build.specs.Labels.{Labels, Words}
use Rattle.build.proofs.Labels.{label_fit, same_label, label_joined}
use Rattle.build.specs.Notes.{lows, Least, Lows, pair_base, Noting, note_at, stash_rank, overflowed, nothing_noted, noted, Going, NotedAs, Stashed, Smallest, found, none_of, none_yet, one_seen, full, done, over, fit, empty, rank}

module _ (m : ℕ) (next : List ℕ) where
  lows_skip : (c : ℕ) (R notes : List ℕ) → m ≤ get_or next c 0 → lows m next (c ∷ R) notes ≡ lows m next R notes
  unfolding lows
  lows_skip c R notes l = rw (le-ltb (get_or next c 0) m l)

  lows_put : (c : ℕ) (R notes : List ℕ) → get_or next c 0 < m → lows m next (c ∷ R) notes ≡ set (lows m next R notes) (get_or next c 0) c
  unfolding lows
  lows_put c R notes l = rw (lt-ltb (get_or next c 0) m l)

  pub lows_length : (R notes : List ℕ) → length (lows m next R notes) ≡ length notes
  unfolding lows
  lows_length [] notes = refl
  lows_length (c ∷ R) notes = elim (le? m (get_or next c 0)) [
    | inl l ↦ rw (le-ltb (get_or next c 0) m l) (lows_length R notes)
    | inr l ↦ rw (lt-ltb (get_or next c 0) m l) (length-set (lows m next R notes) (get_or next c 0) c ∙ lows_length R notes)
  ]

  least_skip : {c k old y : ℕ} {R : List ℕ} → (get_or next c 0 ≡ k → ⊥) → Least next R k old y → Least next (c ∷ R) k old y
  least_skip n (found i e low) = found (there i) e (λ x j q. elim j [ here p ↦ absurd (n (ap (λ (z : ℕ). get_or next z 0) (sym p) ∙ q)) | there t ↦ low x t q ])
  least_skip n (none_of e no') = none_of e (λ x j q. elim j [ here p ↦ n (ap (λ (z : ℕ). get_or next z 0) (sym p) ∙ q) | there t ↦ no' x t q ])

  -- Law of step 3, for any words
  pub lows_least : (notes : List ℕ) → length notes ≡ m → (R : List ℕ) → Asc R → (l : ℕ) → l < m
      → Least next R l (get_or notes l 0) (get_or (lows m next R notes) l 0)
  unfolding lows
  lows_least notes sz [] ordered l small = none_of refl (λ x i. elim i [ ])
  lows_least notes sz (c ∷ R) (some up ordered) l small =
      let ih = lows_least notes sz R ordered l small in
      let s = lows m next R notes in
      elim (eq? l (get_or next c 0)) [
        | inl q ↦
            let f : get_or next c 0 < m = omega arith in
            let e : get_or (lows m next (c ∷ R) notes) l 0 ≡ c =
            rw (lows_put c R notes f, q) (get_or-set_same s (get_or next c 0) c 0 (omega (arith, lows_length R notes))) in
            rw e (found (here refl) (sym q) (λ x i k. elim i [ here p ↦ omega arith | there t ↦ omega (arith, up x t) ]))
        | inr n ↦ elim (le? m (get_or next c 0)) [
          | inl g ↦ rw (lows_skip c R notes g) (least_skip (λ q. n (sym q)) ih)
          | inr g ↦ rw (lows_put c R notes g, get_or-set_other s (get_or next c 0) l c 0 n) (least_skip (λ q. n (sym q)) ih)
        ]
      ]

pub lows_all : (m : ℕ) (next : List ℕ) {S : List ℕ} → Asc S → Lows m S next (lows m next S (replicate m 0))
lows_all m next {S} asc = record {
  size = lows_length m next S (replicate m 0) ∙ length-replicate m 0;
  at = λ l small. let h = lows_least m next (replicate m 0) (length-replicate m 0) S asc l small in rw (get_or_zeros m l) at h;
}

-- A rank has one of the forest in its component that is not larger.
pub smaller_near : {a b : ℕ → ℕ} (S : List ℕ) {c : ℕ} → (a c ≡ b c → ⊥) → In c S
    → (x : ℕ) × In x (forest a b S) × Joined a b S (a c) (a x) × (x ≤ c)
smaller_near {a} {b} S {c} two i = elim (in? c (forest a b S)) [
  | inl f ↦ (c, f, jrefl, omega arith)
  | inr n ↦
      let X = below (suc c) (forest a b S) in
      let F = forest a b S in
      let bare : Bare a b X (b c) = λ x k j y. acyclic S (below_in (suc c) F k) (mono (out_sub x (λ d. below_in (suc c) F)) y) in
      let r = far_some bare (jsym (spans_key S (suc c) c (omega arith) i)) two in
      let f = below_in (suc c) F r.1.c_in in
      let l = below_lt (suc c) F r.1.c_in in
      (r.0, f, mono (λ d k. forest_in a b S d (below_in (suc c) F k)) (ends_near r.1.ends r.1.c_in), omega arith)
]

module _ (m c : ℕ) (R : List ℕ) (N : Noting) where
  pub noted_on : get_or N.next c 0 < m → noted m (c ∷ R) N ≡ noted m R N
  unfolding noted
  noted_on f = rw (lt-ltb (get_or N.next c 0) m f)

  module _ (l : ℕ) (e : get_or N.next c 0 ≡ m + l) where
    label_is : get_or N.next c 0 - m ≡ l
    label_is = omega arith

    pub noted_first : get_or N.notes l 0 < pair_base → noted m (c ∷ R) N ≡ noted m R (note_at l c N)
    unfolding noted
    noted_first f = rw (le-ltb (get_or N.next c 0) m (omega arith), label_is, lt-ltb (get_or N.notes l 0) pair_base f)

    pub noted_later : pair_base ≤ get_or N.notes l 0 → N.count < length N.stash → noted m (c ∷ R) N ≡ noted m R (stash_rank m c N)
    unfolding noted
    noted_later f r = rw (le-ltb (get_or N.next c 0) m (omega arith), label_is, le-ltb (get_or N.notes l 0) pair_base f, lt-ltb N.count (length N.stash) r)

    pub noted_full : pair_base ≤ get_or N.notes l 0 → length N.stash ≤ N.count → noted m (c ∷ R) N ≡ overflowed N
    unfolding noted
    noted_full f r = rw (le-ltb (get_or N.next c 0) m (omega arith), label_is, le-ltb (get_or N.notes l 0) pair_base f, le-ltb N.count (length N.stash) r)

module _ {a b : ℕ → ℕ} (m : ℕ) (fits : (c : ℕ) → (a c < m) × (b c < m)) {S : List ℕ} (asc : Asc S) {lab : ℕ → ℕ} (L : Labels a b S m lab)
    {next : List ℕ} (W : Words a b S m lab next) (inside : (x : ℕ) → In x S → (0 < x) × (x < pair_base) × (x < length next))
    {low : List ℕ} (lowest : Lows m S next low) where
  abbrev F : List ℕ
  F = forest a b S

  abbrev T : List ℕ
  T = seated a b S

  abbrev Run : List ℕ → Noting → Type 0
  Run R N = Going a b m S lab next low R N

  low_lt : (l : ℕ) → l < m → get_or low l 0 < pair_base
  low_lt l f = elim (lowest.at l f) [ found i e q ↦ (inside (get_or low l 0) i).1 | none_of e q ↦ omega arith ]

  -- a rank of the forest is passed over
  going_on : {R : List ℕ} {c : ℕ} {N : Noting} → In c S → In c F → Run (c ∷ R) N → Run R N
  going_on {R} {c} {N} ic f Q = record {
    notes_size = Q.notes_size;
    next_size = Q.next_size;
    seen = λ l k. elim (Q.seen l k) [
      | none_yet e h ↦ none_yet e (λ y i q. elim (h y i q) [ here p ↦ absurd (omega (arith, W.on y i (rw p f), label_fit L fits y)) | there t ↦ t ])
      | one_seen d e i q h n ↦ one_seen d e i q h (λ t. n (there t))
    ];
    ahead = λ x i. Q.ahead x (there i);
    placed = λ x i n. elim (eq? x c) [
      | inl q ↦ record { on = λ t. rw q (Q.ahead c (here refl) ∙ W.on c ic f); off = λ t. absurd (t (rw q (seated_forest a b S asc c f))) }
      | inr ne ↦ Q.placed x i (λ k. elim k [ here q ↦ ne q | there t ↦ n t ])
    ];
  }

  module _ {R : List ℕ} {c : ℕ} {N : Noting} (ic : In c S) (off : In c F → ⊥) (up : (x : ℕ) → In x R → c < x) (Q : Run (c ∷ R) N) where
    -- the first of a label stays,
    first_stays : get_or N.notes (lab (a c)) 0 < pair_base
        → In c T × (get_or N.notes (lab (a c)) 0 ≡ get_or low (lab (a c)) 0) × ((y : ℕ) → In y S → get_or next y 0 ≡ m + lab (a c) → c ≤ y)
    first_stays f = elim (Q.seen (lab (a c)) (label_fit L fits c)) [
      | none_yet e h ↦
          let least : (y : ℕ) → In y S → get_or next y 0 ≡ m + lab (a c) → c ≤ y = λ y i q. elim (h y i q) [ here p ↦ omega arith | there t ↦ omega (arith, up y t) ] in
          (is_seated a b S asc c ic (smallest (λ x k o j. least x k (rw (same_label L fits j) at (W.off x k o)))), e, least)
      | one_seen d e i q h n ↦ absurd (omega (arith, (inside d i).0))
    ]

    -- and a later one does not
    later_goes : pair_base ≤ get_or N.notes (lab (a c)) 0 → In c T → ⊥
    later_goes f t = elim (Q.seen (lab (a c)) (label_fit L fits c)) [
      | none_yet e h ↦ omega (arith, low_lt (lab (a c)) (label_fit L fits c))
      | one_seen d e i q h n ↦ elim (seated_is a b S asc c t) [
        | tree o ↦ off o
        | smallest s ↦
            let o : In d F → ⊥ = λ o. omega (arith, W.on d i o, label_fit L fits d) in
            let g : lab (a d) ≡ lab (a c) = omega (arith, W.off d i o) in
            n (here (omega (arith, s d i o (label_joined L fits d c g), h c ic (W.off c ic off))))
      ]
    ]

    going_first : get_or N.notes (lab (a c)) 0 < pair_base → Run R (note_at (lab (a c)) c N)
    going_first f =
        let r = first_stays f in
        let l = lab (a c) in
        let z = get_or N.notes l 0 + pair_base * c in
        record {
          notes_size = length-set N.notes l z ∙ Q.notes_size;
          next_size = length-set N.next c l ∙ Q.next_size;
          seen = λ k small. elim (eq? k l) [
            | inl q ↦
                let e : get_or (set N.notes l z) k 0 ≡ z = rw q (get_or-set_same N.notes l z 0 (rw Q.notes_size (label_fit L fits c))) in
                one_seen c (e ∙ rw (q, r.1)) ic (rw q (W.off c ic off)) (λ y i t. r.2 y i (rw q at t)) (λ t. omega (arith, up c t))
            | inr ne ↦ rw (get_or-set_other N.notes l k z 0 ne) (elim (Q.seen k small) [
              | none_yet e h ↦ none_yet e (λ y i q. elim (h y i q) [ here p ↦ absurd (ne (omega (arith, W.off c ic off, rw p at q))) | there t ↦ t ])
              | one_seen d e i q h n ↦ one_seen d e i q h (λ t. n (there t))
            ])
          ];
          ahead = λ x i. get_or-set_other N.next c x l 0 (λ q. omega (arith, up x i)) ∙ Q.ahead x (there i);
          placed = λ x i n. elim (eq? x c) [
            | inl q ↦ record {
              on = λ t. rw q (get_or-set_same N.next c l 0 (omega (arith, (inside c ic).2, Q.next_size)));
              off = λ t. absurd (t (rw q r.0));
            }
            | inr ne ↦
                let p = Q.placed x i (λ k. elim k [ here q ↦ ne q | there t ↦ n t ]) in
                let e = get_or-set_other N.next c x l 0 ne in
                record { on = λ t. e ∙ p.on t; off = λ t. e ∙ p.off t }
          ];
        }

    going_later : pair_base ≤ get_or N.notes (lab (a c)) 0 → Run R (stash_rank m c N)
    going_later f =
        let goes = later_goes f in
        record {
          notes_size = Q.notes_size;
          next_size = length-set N.next c m ∙ Q.next_size;
          seen = λ k small. elim (Q.seen k small) [
            | none_yet e h ↦ none_yet e (λ y i q. elim (h y i q) [
              | here p ↦
                  let g : k ≡ lab (a c) = omega (arith, W.off c ic off, rw p at q) in
                  absurd (omega (arith, low_lt k small, rw (← g) at f))
              | there t ↦ t
            ])
            | one_seen d e i q h n ↦ one_seen d e i q h (λ t. n (there t))
          ];
          ahead = λ x i. get_or-set_other N.next c x m 0 (λ q. omega (arith, up x i)) ∙ Q.ahead x (there i);
          placed = λ x i n. elim (eq? x c) [
            | inl q ↦ record {
              on = λ t. absurd (goes (rw q at t));
              off = λ t. rw q (get_or-set_same N.next c m 0 (omega (arith, (inside c ic).2, Q.next_size)));
            }
            | inr ne ↦
                let p = Q.placed x i (λ k. elim k [ here q ↦ ne q | there t ↦ n t ]) in
                let e = get_or-set_other N.next c x m 0 ne in
                record { on = λ t. e ∙ p.on t; off = λ t. e ∙ p.off t }
          ];
        }

  -- those of R that go to the stash
  abbrev rest : List ℕ → List ℕ
  rest R = keep (λ c. not (member c T)) R

  abbrev Out : List ℕ → Noting → Noting → Type 0
  Out D N out = NotedAs a b m S lab next low D N out

  along : {D : List ℕ} (l c : ℕ) {N out : Noting} → Out D (note_at l c N) out → Out D N out
  along l c (full k e) = full k e
  along l c (done x e k t h) = done x e k t h

  before : {D : List ℕ} {c : ℕ} {N out : Noting} → Out D (stash_rank m c N) out → Out (c ∷ D) N out
  before {D = D} {c = c} {N = N} (full l e) = full (omega (arith, length-set N.stash N.count c)) e
  before {D = D} {c = c} {N = N} (done l e k t h) = done (omega (arith, length-set N.stash N.count c)) e (omega arith) t h

  noted_from : (R : List ℕ) (N : Noting) → Asc R → Sub R S → N.count ≤ length N.stash → Run R N → Out (rest R) N (noted m R N)
  unfolding noted
  noted_from [] N ordered sub room Q = done (omega arith) refl (omega arith) refl Q
  noted_from (c ∷ R) N (some up ordered) sub room Q =
      let ic = sub c (here refl) in
      let sub' : Sub R S = λ x i. sub x (there i) in
      elim (in? c F) [
        | inl f ↦
            let small : get_or N.next c 0 < m = omega (arith, Q.ahead c (here refl), W.on c ic f, label_fit L fits c) in
            rw (noted_on m c R N small, in_member (seated_forest a b S asc c f)) (noted_from R N ordered sub' room (going_on ic f Q))
        | inr n ↦
            let l = lab (a c) in
            let e : get_or N.next c 0 ≡ m + l = Q.ahead c (here refl) ∙ W.off c ic n in
            elim (le? pair_base (get_or N.notes l 0)) [
              | inr g ↦
                  rw (noted_first m c R N l e g, in_member (first_stays ic n up Q g).0)
                  (along l c (noted_from R (note_at l c N) ordered sub' room (going_first ic n up Q g)))
              | inl g ↦ rw (no_member c T (later_goes ic n up Q g)) (elim (le? (length N.stash) N.count) [
                | inl k ↦ rw (noted_full m c R N l e g k) (full (omega arith) refl)
                | inr k ↦ rw (noted_later m c R N l e g k)
                    (before (noted_from R (stash_rank m c N) ordered sub' (omega (arith, length-set N.stash N.count c)) (going_later ic n up Q g)))
              ])
            ]
      ]

  -- Law of step 4: the notes and the words of the ranks are right, and the stash words are the stash, then what stood there before; but overflow where the
  -- stash has more ranks than there are words.
  pub stashed : (words : List ℕ) → Stashed a b m S lab next low words (noted m S (nothing_noted low next words))
  unfolding stash
  stashed words =
      elim (noted_from S (nothing_noted low next words) asc (λ x i. i) (omega arith) (record {
        notes_size = lowest.size;
        next_size = refl;
        seen = λ l k. none_yet refl (λ y i q. i);
        ahead = λ x i. refl;
        placed = λ x i n. absurd (n i);
      })) [
        | full l e ↦ over (omega arith) e
        | done l e k t Q ↦
            let z : 0 + length (stash a b S) ≡ length (stash a b S) = omega arith in
            fit (omega arith) e (omega arith) (t ∙ rw z at (sets-eq (stash a b S) words 0 (omega arith))) Q
      ]

pub smallest_of : {a b : ℕ → ℕ} (m : ℕ) → ((c : ℕ) → (a c < m) × (b c < m)) → {S : List ℕ} → ((c : ℕ) → In c S → a c ≡ b c → ⊥)
    → {lab : ℕ → ℕ} → Labels a b S m lab → {next : List ℕ} → Words a b S m lab next → {low : List ℕ} → Lows m S next low
    → (l : ℕ) → l < m → Smallest a b S lab l (get_or low l 0)
smallest_of {a} {b} m fits {S} two {lab} L {next} W {low} lowest l f =
    let near : (x : ℕ) → In x S → lab (a x) ≡ l → (y : ℕ) × In y S × (get_or next y 0 ≡ l) × (y ≤ x) = λ x i e.
    let r = smaller_near S (two x i) i in
    let k = forest_in a b S r.0 r.1 in
    (r.0, k, W.on r.0 k r.1 ∙ sym (same_label L fits r.2) ∙ e, r.3) in
    elim (lowest.at l f) [
      | none_of e n ↦ empty e (λ x i q. let y = near x i q in n y.0 y.1 y.2)
      | found i e h ↦ elim (in? (get_or low l 0) (forest a b S)) [
        | inl o ↦ rank o (sym (W.on (get_or low l 0) i o) ∙ e) (λ x k q. let y = near x k q in omega (arith, h y.0 y.1 y.2))
        | inr o ↦ absurd (omega (arith, W.off (get_or low l 0) i o))
      ]
    ]

-- a word of the notes taken apart
pub split_pair : (z d : ℕ) → z < pair_base → ((z + pair_base * d) % pair_base ≡ z) × ((z + pair_base * d) / pair_base ≡ d)
split_pair z d l = (omega arith, omega arith)
