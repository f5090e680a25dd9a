-- The laws of what specs/Next.antt defines.
use Rattle.std.specs.Prelude.{ℕ, ◌%◌, ◌<◌, ◌≤◌, ◌≡◌, length, get_or, set}
use Rattle.std.proofs.Math.Path.{refl}
use Rattle.std.proofs.Common.{sym, ◌∙◌, ap, arith, length-set}
use Rattle.std.proofs.Math.Logic.{inl, inr}
use mathlib.Core.List.Memᴰ.{head as here}
use mathlib.Core.List.Memᴰ.{tail as there}
use mathlib.Core.List.{List, [], ◌∷◌, Memᴰ as In}
use Rattle.std.proofs.Math.Seq.{get_or-set_same, get_or-set_other}
use borrow.Author.Tests.{ne_eqb, lt-ltb, le-ltb}
use Rattle.cuckoo.specs.Graph.{seated, occupant, next, slot_key, slot_next}
use Rattle.basics.proofs.Tests.{eq?, le?}
use Rattle.basics.proofs.Sets.{in?}
use Rattle.basics.specs.Sets.{Sub, Asc, some}
use Rattle.cuckoo.proofs.Settling.{seated_asc, seated_sub, seated_forest}
use Rattle.cuckoo.proofs.Seating.{occupant_from}
use Rattle.cuckoo.specs.Next.{larger, around}
use Rattle.cuckoo.proofs.Next.{next_is}
use Rattle.build.specs.Labels.{Labels}
use Rattle.build.proofs.Labels.{label_fit, same_label, label_joined}
use Rattle.build.specs.Notes.{pair_base, lows, found, none_of, RankPlaced, Smallest, empty, rank}
use Rattle.build.proofs.Notes.{lows_least}
use Rattle.build.specs.Finish.{Occupied}
use Rattle.build.proofs.Finish.{down, raise}
use Rattle.build.specs.Next.{Chaining, chained, nexts}

module _ (m : ℕ) where
  chained_skip : (c : ℕ) (R : List ℕ) (P : Chaining) → m ≤ get_or (chained m R P).next c 0 → chained m (c ∷ R) P ≡ chained m R P
  unfolding chained
  chained_skip c R P f = rw (le-ltb (get_or (chained m R P).next c 0) m f)

  chained_put : (c : ℕ) (R : List ℕ) (P : Chaining) (l : ℕ) → get_or (chained m R P).next c 0 ≡ l → l < m
      → chained m (c ∷ R) P ≡ record { notes = set (chained m R P).notes l c; next = set (chained m R P).next c (get_or (chained m R P).notes l 0 % pair_base) }
  unfolding chained
  chained_put c R P l e f = rw (e, lt-ltb l m f)

  pub chained_length : (R : List ℕ) (P : Chaining) → length (chained m R P).next ≡ length P.next
  unfolding chained
  chained_length [] P = refl
  chained_length (c ∷ R) P =
      let Q = chained m R P in
      elim (le? m (get_or Q.next c 0)) [
        | inl l ↦ rw (le-ltb (get_or Q.next c 0) m l) (chained_length R P)
        | inr l ↦ rw (lt-ltb (get_or Q.next c 0) m l) (length-set Q.next c (get_or Q.notes (get_or Q.next c 0) 0 % pair_base) ∙ chained_length R P)
      ]

  -- the word of a rank stays until its turn
  chained_still : (R : List ℕ) (P : Chaining) (x : ℕ) → (In x R → ⊥) → get_or (chained m R P).next x 0 ≡ get_or P.next x 0
  unfolding chained
  chained_still [] P x n = refl
  chained_still (c ∷ R) P x n =
      let Q = chained m R P in
      let ih = chained_still R P x (λ i. n (there i)) in
      elim (le? m (get_or Q.next c 0)) [
        | inl l ↦ rw (le-ltb (get_or Q.next c 0) m l) ih
        | inr l ↦ rw (lt-ltb (get_or Q.next c 0) m l) (get_or-set_other Q.next c x (get_or Q.notes (get_or Q.next c 0) 0 % pair_base) 0 (λ q. n (here q)) ∙ ih)
      ]

  -- so the notes are those of step 3, for the words as they are now
  chained_notes : (R : List ℕ) (P : Chaining) → Asc R → (chained m R P).notes ≡ lows m P.next R P.notes
  unfolding chained lows
  chained_notes [] P ordered = refl
  chained_notes (c ∷ R) P (some up ordered) =
      let e = chained_still R P c (λ i. omega (arith, up c i)) in
      let ih = chained_notes R P ordered in
      elim (le? m (get_or P.next c 0)) [
        | inl l ↦ rw (e, le-ltb (get_or P.next c 0) m l) ih
        | inr l ↦ rw (e, lt-ltb (get_or P.next c 0) m l, ih)
      ]

module _ {a b : ℕ → ℕ} (m : ℕ) (fits : (c : ℕ) → (a c < m) × (b c < m)) {S : List ℕ} (asc : Asc S) {lab : ℕ → ℕ} (L : Labels a b S m lab)
    (P : Chaining) (sz : length P.notes ≡ m) (inside : (x : ℕ) → In x S → (0 < x) × (x < pair_base) × (x < length P.next))
    (placed : (x : ℕ) → In x S → RankPlaced a b S m lab P.next x) (low : (l : ℕ) → l < m → Smallest a b S lab l (get_or P.notes l 0 % pair_base)) where
  abbrev T : List ℕ
  T = seated a b S

  -- what is read at the seated rank c, when the larger ranks R have been seen
  last_next : (R : List ℕ) {c : ℕ} → In c T → Asc R → Sub R S → ((x : ℕ) → In x R → c < x) → ((x : ℕ) → In x S → c < x → In x R)
      → get_or (lows m P.next R P.notes) (lab (a c)) 0 % pair_base ≡ next a b T c
  last_next R {c} ic ordered sub up cover =
      let l = lab (a c) in
      let f = label_fit L fits c in
      let s : Sub T S = seated_sub a b S asc in
      let word : (x : ℕ) → In x T → get_or P.next x 0 ≡ lab (a x) = λ x i. (placed x (s x i)).on i in
      sym (next_is a b (seated_asc a b S asc) ic (elim (lows_least m P.next P.notes sz R ordered l f) [
        | found i e h ↦
            let d = get_or (lows m P.next R P.notes) l 0 in
            let same : d % pair_base ≡ d = omega (arith, (inside d (sub d i)).1) in
            rw same (elim (in? d T) [
              | inl t ↦ larger t (down a b S asc (label_joined L fits c d (sym e ∙ word d t))) (up d i)
                  (λ x ix j g. h x (cover x (s x ix) g) (word x ix ∙ sym (same_label L fits (raise a b S asc j))))
              | inr n ↦ absurd (omega (arith, (placed d (sub d i)).off n))
            ])
        | none_of e n ↦ rw e (elim (low l f) [
          | empty z no' ↦ absurd (no' c (s c ic) refl)
          | rank o k h ↦
              let t = seated_forest a b S asc (get_or P.notes l 0 % pair_base) o in
              around t (down a b S asc (label_joined L fits c (get_or P.notes l 0 % pair_base) (sym k)))
              (λ x ix j g. n x (cover x (s x ix) g) (word x ix ∙ sym (same_label L fits (raise a b S asc j))))
              (λ x ix j. h x (s x ix) (sym (same_label L fits (raise a b S asc j))))
        ])
      ]))

  chain_all : (R : List ℕ) → Asc R → Sub R S → ((x y : ℕ) → In x R → In y S → x < y → In y R)
      → (x : ℕ) → In x R → In x T → get_or (chained m R P).next x 0 ≡ next a b T x
  chain_all [] ordered sub cover x i t = elim i [ ]
  chain_all (c ∷ R) (some up ordered) sub cover x i t =
      let sub' : Sub R S = λ y k. sub y (there k) in
      let ic = sub c (here refl) in
      let cover' : (y : ℕ) → In y S → c < y → In y R = λ y k l. elim (cover c y (here refl) k l) [ here q ↦ absurd (omega arith) | there j ↦ j ] in
      let Q = chained m R P in
      let e = chained_still m R P c (λ k. omega (arith, up c k)) in
      let ih : In x R → get_or Q.next x 0 ≡ next a b T x = λ k. chain_all R ordered sub' (λ y z j w l. cover' z w (omega (arith, up y j))) x k t in
      elim (in? c T) [
        | inl tc ↦
            let w = e ∙ (placed c ic).on tc in
            let z = get_or Q.notes (lab (a c)) 0 % pair_base in
            rw (chained_put m c R P (lab (a c)) w (label_fit L fits c)) (elim (eq? x c) [
              | inl q ↦ rw q (get_or-set_same Q.next c z 0 (omega (arith, chained_length m R P, (inside c ic).2))
                  ∙ ap (λ (M : List ℕ). get_or M (lab (a c)) 0 % pair_base) (chained_notes m R P ordered) ∙ last_next R tc ordered sub' up cover')
              | inr n ↦ get_or-set_other Q.next c x z 0 n ∙ ih (elim i [ here q ↦ absurd (n q) | there k ↦ k ])
            ])
        | inr n ↦
            rw (chained_skip m c R P (omega (arith, e, (placed c ic).off n)))
            (ih (elim i [ here q ↦ absurd (n (rw q at t)) | there k ↦ k ]))
      ]

  -- Law of step 6: the word of each seated rank is its next,
  pub next_all : (x : ℕ) → In x T → get_or (nexts m S P) x 0 ≡ next a b T x
  unfolding nexts
  next_all x t =
      let i = seated_sub a b S asc x t in
      get_or-set_other (chained m S P).next 0 x 0 0 (λ q. omega (arith, (inside x i).0)) ∙ chain_all S asc (λ y k. k) (λ y z k j l. j) x i t

  -- so that of the rank that a slot holds is what the slot points to, and 0 where it is empty.
  pub next_held : {held : List ℕ} → Occupied a b T m held → 0 < length P.next → (v : ℕ) → v < m
      → get_or (nexts m S P) (get_or held v 0) 0 ≡ slot_next a b S v
  unfolding slot_next slot_key nexts
  next_held {held} O long v f = rw (O.is v f) (elim (occupant_from a b T v) [
    | inl z ↦ rw (z, get_or-set_same (chained m S P).next 0 0 0 (omega (arith, chained_length m S P)))
    | inr q ↦
        let c = occupant a b T v in
        let nz : c ≡ 0 → ⊥ = λ z. omega (arith, (inside c (seated_sub a b S asc c q.0)).0) in
        rw (ne_eqb c 0 nz) (next_all c q.0)
  ])
