-- The laws of what specs/NotesCode.antt defines.
use Prim.Native.Nat.{ℕ, suc, ◌*◌, ◌+◌, ◌-◌, ◌<◌, ◌≤◌}
use Rattle.std.specs.Prelude.{◌≡◌, Bool, ltb, length, get_or, replicate, set, Option, Some, None}
use Rattle.std.proofs.Math.Path.{refl}
use Rattle.std.proofs.Common.{sym, ◌∙◌, ap, inl, inr, get_or-set_same, get_or-set_other}
use mathlib.Core.List.{List, [], ◌∷◌, ◌++◌}
use Rattle.std.proofs.Math.Bool.{true, false, cond}
use native.Mathlib.Omega.{arith}
use Rattle.std.proofs.Math.Seq.{set_out}
use borrow.Author.Tests.{lt-ltb, le-ltb}
use Rattle.basics.specs.Tests.{test}
use Rattle.basics.proofs.Tests.{eq?, le?, zero_one}
use Rattle.cuckoo.specs.Renaming.{from, ranks}
use Rattle.cuckoo.proofs.Renaming.{ranks_more}
use Rattle.build.specs.Notes.{lows, pair_base, Noting, note_at, stash_rank, overflowed, noted}
use Rattle.build.proofs.Notes.{noted_on, noted_first, noted_later, noted_full}
use Rattle.build.specs.Access.{Enough}
use Rattle.build.specs.Scratch.{Parts, parts, with_stash, with_sets}
use Rattle.build.specs.Build.{number, values}
use Rattle.build.specs.NotesCode.{cleared_parts, smallest_parts, noting_in, with_noting, answer, rank_noted, ranks_noted, Labelled, Lowing, Closing}

pub labelled_set : {r n : ℕ} {next : List ℕ} (v x : ℕ) → x < 4 * r → Labelled r n next → Labelled r n (set next v x)
labelled_set {r} {n} {next} v x l L = record {
  low = λ y o k. elim (eq? y v) [
    | inl q ↦ elim (le? (length next) v) [
      | inl z ↦ rw (set_out next v x z) (L.low y o k)
      | inr z ↦ rw (q, get_or-set_same next v x 0 z) l
    ]
    | inr ne ↦ rw (get_or-set_other next v y x 0 ne) (L.low y o k)
  ];
}

-- Step 3, descending: the ranks to k are still to come.
module _ (m : ℕ) (next : List ℕ) where
  lows_append : (R Q notes : List ℕ) → lows m next (R ++ Q) notes ≡ lows m next R (lows m next Q notes)
  unfolding lows
  lows_append [] Q notes = refl
  lows_append (c ∷ R) Q notes = rw (lows_append R Q notes)

  pub lows_none : (notes : List ℕ) → lows m next (ranks 0) notes ≡ notes
  unfolding lows from
  lows_none notes = refl

  pub lows_skip_last : (k : ℕ) (notes : List ℕ) → m ≤ get_or next (suc k) 0 → lows m next (ranks (suc k)) notes ≡ lows m next (ranks k) notes
  unfolding lows
  lows_skip_last k notes l = rw (ranks_more k, lows_append (ranks k) (suc k ∷ []) notes, lows, le-ltb (get_or next (suc k) 0) m l)

  pub lows_put_last : (k : ℕ) (notes : List ℕ) → get_or next (suc k) 0 < m
      → lows m next (ranks (suc k)) notes ≡ lows m next (ranks k) (set notes (get_or next (suc k) 0) (suc k))
  unfolding lows
  lows_put_last k notes l = rw (ranks_more k, lows_append (ranks k) (suc k ∷ []) notes, lows, lt-ltb (get_or next (suc k) 0) m l)

-- Step 4, ascending. A rank, and then the others: what it does decides whether they come.
module _ (m : ℕ) where
  pub noted_turn : (c : ℕ) (R : List ℕ) (N : Noting) → (noted m (c ∷ []) N).overflow ≡ false
      → noted m (c ∷ R) N ≡ noted m R (noted m (c ∷ []) N)
  unfolding noted
  noted_turn c R N e = go (ltb (get_or N.next c 0) m) (ltb (get_or N.notes (get_or N.next c 0 - m) 0) pair_base) (ltb N.count (length N.stash)) e
    where
      go : (p q t : Bool)
          → (cond p N (cond q (note_at (get_or N.next c 0 - m) c N) (cond t (stash_rank m c N) (overflowed N)))).overflow ≡ false
          → cond p (noted m R N) (cond q (noted m R (note_at (get_or N.next c 0 - m) c N)) (cond t (noted m R (stash_rank m c N)) (overflowed N)))
          ≡ noted m R (cond p N (cond q (note_at (get_or N.next c 0 - m) c N) (cond t (stash_rank m c N) (overflowed N))))
      go true q t e = refl
      go false true t e = refl
      go false false true e = refl
      go false false false e = absurd (zero_one (ap (λ (b : Bool). cond b 0 1) e))

  pub noted_over : (c : ℕ) (R : List ℕ) (N : Noting) → (noted m (c ∷ []) N).overflow ≡ true → N.overflow ≡ false
      → noted m (c ∷ R) N ≡ noted m (c ∷ []) N
  unfolding noted
  noted_over c R N e o = go (ltb (get_or N.next c 0) m) (ltb (get_or N.notes (get_or N.next c 0 - m) 0) pair_base) (ltb N.count (length N.stash)) e
    where
      go : (p q t : Bool)
          → (cond p N (cond q (note_at (get_or N.next c 0 - m) c N) (cond t (stash_rank m c N) (overflowed N)))).overflow ≡ true
          → cond p (noted m R N) (cond q (noted m R (note_at (get_or N.next c 0 - m) c N)) (cond t (noted m R (stash_rank m c N)) (overflowed N)))
          ≡ cond p N (cond q (note_at (get_or N.next c 0 - m) c N) (cond t (stash_rank m c N) (overflowed N)))
      go true q t e = absurd (zero_one (ap (λ (b : Bool). cond b 1 0) (sym o ∙ e)))
      go false true t e = absurd (zero_one (ap (λ (b : Bool). cond b 1 0) (sym o ∙ e)))
      go false false true e = absurd (zero_one (ap (λ (b : Bool). cond b 1 0) (sym o ∙ e)))
      go false false false e = refl

module _ {r n : ℕ} {P₀ : Parts} where
  pub lowing_start : Lowing r n P₀ n P₀
  lowing_start = record { rest = refl; to_come = refl }

  module _ {rank : ℕ} {P : Parts} (L : Lowing r n P₀ rank P) where
    pub lowing_done : rank ≡ 0 → P ≡ smallest_parts r n P₀
    lowing_done e = L.rest ∙ ap (with_sets P₀) (sym (L.to_come ∙ (rw e (lows_none (2 * r) P₀.next P.sets))))

    same_next : P.next ≡ P₀.next
    same_next = ap (λ (Z : Parts). Z.next) L.rest

    module _ (some : 0 < rank) where
      last : rank ≡ suc (rank - 1)
      last = omega arith

      pub lowing_skip : 2 * r ≤ get_or P.next rank 0 → Lowing r n P₀ (rank - 1) P
      lowing_skip l = record {
        rest = L.rest;
        to_come =
            L.to_come ∙ ap (λ (k : ℕ). lows (2 * r) P₀.next (ranks k) P.sets) last
            ∙ lows_skip_last (2 * r) P₀.next (rank - 1) P.sets (rw (← last, ← same_next) l);
      }

      pub lowing_put : get_or P.next rank 0 < 2 * r → {Q : Parts} → Q ≡ with_sets P (set P.sets (get_or P.next rank 0) rank) → Lowing r n P₀ (rank - 1) Q
      lowing_put l {Q} e = record {
        rest = e ∙ rw (← ap (λ (Z : Parts). Z.sets) e) (ap (λ (Z : Parts). with_sets Z Q.sets) L.rest);
        to_come =
            L.to_come ∙ ap (λ (k : ℕ). lows (2 * r) P₀.next (ranks k) P.sets) last
            ∙ lows_put_last (2 * r) P₀.next (rank - 1) P.sets (rw (← last, ← same_next) l)
            ∙ rw (e, ← last, same_next) refl;
      }

-- One rank of step 4, by what is found of it: its word, and what is noted at its label.
module _ (r rank count : ℕ) (P : Parts) where
  abbrev word : ℕ
  word = get_or P.next rank 0

  pub rank_on : word < 2 * r → rank_noted r rank count P ≡ noting_in P count
  unfolding noted
  rank_on l = noted_on (2 * r) rank [] (noting_in P count) l

  module _ (label : ℕ) (e : word ≡ 2 * r + label) where
    pub rank_first : get_or P.sets label 0 < pair_base → rank_noted r rank count P ≡ note_at label rank (noting_in P count)
    unfolding noted
    rank_first l = noted_first (2 * r) rank [] (noting_in P count) label e l

    pub rank_later : pair_base ≤ get_or P.sets label 0 → count < length P.stash → rank_noted r rank count P ≡ stash_rank (2 * r) rank (noting_in P count)
    unfolding noted
    rank_later l k = noted_later (2 * r) rank [] (noting_in P count) label e l k

    pub rank_full : pair_base ≤ get_or P.sets label 0 → length P.stash ≤ count → rank_noted r rank count P ≡ overflowed (noting_in P count)
    unfolding noted
    rank_full l k = noted_full (2 * r) rank [] (noting_in P count) label e l k

-- Afterwards the words are labels, or labels and 2r more, as before.
pub rank_labelled : {r n : ℕ} (rank count : ℕ) (P : Parts) → 0 < rank → rank ≤ n → Labelled r n P.next → Labelled r n (rank_noted r rank count P).next
unfolding noted
rank_labelled {r} {n} rank count P o k L =
    let w = get_or P.next rank 0 in
    elim (le? (2 * r) w) [
      | inr l ↦ rw (lt-ltb w (2 * r) l) L
      | inl l ↦ rw (le-ltb w (2 * r) l) (go (ltb (get_or P.sets (w - 2 * r) 0) pair_base) (ltb count (length P.stash)))
    ]
  where
    go : (q t : Bool) → Labelled r n (cond q (note_at (get_or P.next rank 0 - 2 * r) rank (noting_in P count))
        (cond t (stash_rank (2 * r) rank (noting_in P count)) (overflowed (noting_in P count)))).next
    go true t = labelled_set rank (get_or P.next rank 0 - 2 * r) (omega (arith, L.low rank o k)) L
    go false true = labelled_set rank (2 * r) (omega (arith, L.low rank o k)) L
    go false false = L

-- no note and no stash: the sets filled, then the stash, each as long as it was
pub cleared_done : {r s n : ℕ} {xs : List ℕ} {Q R : Parts} → Enough r s n xs → let P = parts r s n xs in Q ≡ with_sets P (replicate (length P.sets) 0)
    → R ≡ with_stash Q (replicate (length Q.stash) 0) → length P.sets ≡ 2 * r → length Q.stash ≡ s → R ≡ cleared_parts r s P
cleared_done E e f h k = f ∙ (rw (k, e, h))

-- what an answer tells
pub ranks_told : (N : Noting) {k : ℕ} → Some k ≡ answer N → (N.overflow ≡ false) × (N.count ≡ k)
ranks_told N {k} e = elim (test N.overflow) [
  | inl t ↦ absurd (let z : ◌≡◌ {A = ℕ} 0 8 = ap number (rw t at e) in omega arith)
  | inr t ↦ (t, let v = ap values (rw t at e) in cc)
]

pub overflow_told : (N : Noting) → None ≡ answer N → N.overflow ≡ true
overflow_told N e = elim (test N.overflow) [
  | inl t ↦ t
  | inr t ↦ absurd (let z : ◌≡◌ {A = ℕ} 8 0 = ap number (rw t at e) in omega arith)
]

noting_with : (P : Parts) (N : Noting) (k : ℕ) → N.overflow ≡ false → N.count ≡ k → N ≡ noting_in (with_noting P N) k
noting_with P N k o c = rw (← c, ← o) refl

module _ {r n : ℕ} {P₀ : Parts} where
  pub closing_start : Labelled r n P₀.next → Closing r n P₀ 0 0 P₀
  closing_start L = record { rest = refl; to_come = refl; labelled = L }

  module _ {i count : ℕ} {P : Parts} (C : Closing r n P₀ i count P) where
    -- what a pass makes of it
    abbrev Told : Parts → Option ℕ → Type 0
    Told Q k = (Q ≡ with_noting P₀ (ranks_noted r n 0 0 P₀)) × (k ≡ answer (ranks_noted r n 0 0 P₀))

    pub closing_done : n ≤ i → Told P (Some count)
    unfolding noted from
    closing_done l =
        let z : n - i ≡ 0 = omega arith in
        let e : ranks_noted r n 0 0 P₀ ≡ noting_in P count = C.to_come ∙ (rw z) in
        (rw e C.rest, rw e)

    module _ (l : i < n) {Q : Parts} (is : Q ≡ with_noting P (rank_noted r (suc i) count P)) where
      one_more : ranks_noted r n i count P ≡ noted (2 * r) (suc i ∷ from (suc (suc i)) (n - suc i)) (noting_in P count)
      unfolding from
      one_more = let z : n - i ≡ suc (n - suc i) = omega arith in rw z

      pub closing_more : {k : ℕ} → Some k ≡ answer (rank_noted r (suc i) count P) → Closing r n P₀ (suc i) k Q
      closing_more {k} e =
          let N = rank_noted r (suc i) count P in
          let t = ranks_told N e in
          let same : N ≡ noting_in Q k = rw is (noting_with P N k t.0 t.1) in
          record {
            rest = is ∙ ap (λ (Z : Parts). with_noting Z N) C.rest ∙ ap (with_noting P₀) same;
            to_come = C.to_come ∙ one_more ∙ noted_turn (2 * r) (suc i) (from (suc (suc i)) (n - suc i)) (noting_in P count) t.0
                ∙ ap (noted (2 * r) (from (suc (suc i)) (n - suc i))) same;
            labelled = rw is (rank_labelled (suc i) count P (omega arith) l C.labelled);
          }

      pub closing_over : None ≡ answer (rank_noted r (suc i) count P) → Told Q None
      closing_over e =
          let N = rank_noted r (suc i) count P in
          let all : ranks_noted r n 0 0 P₀ ≡ N =
          C.to_come ∙ one_more ∙ noted_over (2 * r) (suc i) (from (suc (suc i)) (n - suc i)) (noting_in P count) (overflow_told N e) refl in
          (is ∙ ap (λ (Z : Parts). with_noting Z N) C.rest ∙ ap (with_noting P₀) (sym all), rw all e)
