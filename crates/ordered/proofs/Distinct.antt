-- The laws of what specs/Distinct.antt defines.
use Prim.Native.Nat.{ℕ, suc, ◌+◌, ◌≤◌, ◌<◌}
use Rattle.std.specs.Prelude.{◌≡◌, refl, cond, List, [], ◌∷◌, eqb, get_or, set, take}
use Rattle.std.proofs.Common.{sym, ◌∙◌, append_assoc, le_refl, eq-eqb, ne_eqb}
use Rattle.std.proofs.Math.Logic.{inl, inr}
use mathlib.Core.List.Memᴰ.{head as here}
use mathlib.Core.List.Memᴰ.{tail as there}
use Rattle.std.proofs.Math.Nat.{add-zero}
use Rattle.std.proofs.Math.Numerals.{add-one}
use native.Mathlib.Omega.{arith}
use Rattle.std.proofs.Math.ListN.{length, drop_of_length-le}
use Rattle.std.proofs.Math.Seq.{take-suc-set, take-set-le, drop-set-lt, drop-cons}
use Rattle.basics.proofs.Tests.{eq?}
use Rattle.basics.specs.Sets.{Sub, Asc}
use Rattle.ordered.specs.Keys.{sorted, distinct}
use Rattle.ordered.specs.Sorting.{Sorted}
use Rattle.ordered.proofs.Sorting.{sorted_sorted, sorted_in, in_sorted}
use Rattle.ordered.specs.Distinct.{keeping}

-- one element of the list at a time
distinct_double : (x y : ℕ) (ys : List ℕ) → x ≡ y → distinct (x ∷ y ∷ ys) ≡ distinct (y ∷ ys)
unfolding distinct
distinct_double x y ys e = rw (eq-eqb x y e)

distinct_new : (x y : ℕ) (ys : List ℕ) → (x ≡ y → ⊥) → distinct (x ∷ y ∷ ys) ≡ x ∷ distinct (y ∷ ys)
unfolding distinct
distinct_new x y ys ne = rw (ne_eqb x y ne)

distinct_in : (xs : List ℕ) → Sub (distinct xs) xs
unfolding distinct
distinct_in [] d h = h
distinct_in (x ∷ []) d h = h
distinct_in (x ∷ y ∷ ys) d h =
    elim (eq? x y) [
      | inl e ↦ there (distinct_in (y ∷ ys) d (rw (distinct_double x y ys e) at h))
      | inr ne ↦ elim (rw (distinct_new x y ys ne) at h) [ here q ↦ here q | there i ↦ there (distinct_in (y ∷ ys) d i) ]
    ]

in_distinct : (xs : List ℕ) → Sub xs (distinct xs)
unfolding distinct
in_distinct [] d h = h
in_distinct (x ∷ []) d h = h
in_distinct (x ∷ y ∷ ys) d h =
    elim (eq? x y) [
      | inl e ↦ rw (distinct_double x y ys e) (in_distinct (y ∷ ys) d (elim h [ here q ↦ here (q ∙ e) | there i ↦ i ]))
      | inr ne ↦ rw (distinct_new x y ys ne) (elim h [ here q ↦ here q | there i ↦ there (in_distinct (y ∷ ys) d i) ])
    ]

pub distinct_length : (xs : List ℕ) → length (distinct xs) ≤ length xs
unfolding distinct
distinct_length [] = le_refl _
distinct_length (x ∷ []) = le_refl _
distinct_length (x ∷ y ∷ ys) =
    elim (eq? x y) [
      | inl e ↦ rw (distinct_double x y ys e) (omega (arith, distinct_length (y ∷ ys)))
      | inr ne ↦ rw (distinct_new x y ys ne) (omega (arith, distinct_length (y ∷ ys)))
    ]

distinct_asc : {xs : List ℕ} → Sorted xs → Asc (distinct xs)
unfolding distinct
distinct_asc Sorted.none = Asc.none
distinct_asc (Sorted.some {c = x} {R = []} h k) = Asc.some {c = x} {R = []} (λ d i. elim i [ ]) Asc.none
distinct_asc (Sorted.some {c = x} {R = y ∷ ys} h (Sorted.some g k)) =
    let r = distinct_asc (Sorted.some g k) in
    elim (eq? x y) [
      | inl e ↦ rw (distinct_double x y ys e) r
      | inr ne ↦ rw (distinct_new x y ys ne) (Asc.some {c = x} {R = distinct (y ∷ ys)} (λ d i.
          let l : x < y = omega (arith, h y (here refl)) in
          elim (distinct_in (y ∷ ys) d i) [ here q ↦ omega arith | there j ↦ omega (arith, g d j) ]) r)
    ]

-- of any keys, the set of them
pub distinct_sorted_asc : (xs : List ℕ) → Asc (distinct (sorted xs))
distinct_sorted_asc xs = distinct_asc (sorted_sorted xs)

pub distinct_sorted_in : (xs : List ℕ) → Sub (distinct (sorted xs)) xs
distinct_sorted_in xs d h = sorted_in xs d (distinct_in (sorted xs) d h)

pub in_distinct_sorted : (xs : List ℕ) → Sub xs (distinct (sorted xs))
in_distinct_sorted xs d h = in_distinct (sorted xs) d (in_sorted xs d h)

pub distinct_none : (xs : List ℕ) → length xs ≡ 0 → distinct xs ≡ []
unfolding distinct
distinct_none [] e = refl
distinct_none (x ∷ xs) e = absurd (omega arith)

module _ (s : List ℕ) (n i : ℕ) where
  -- the key at i is written in any case, and kept if the next is another
  pub keeping_step :
      n ≤ i → i + 1 < length s
      → keeping s n i ≡ keeping (set s n (get_or s i 0)) (n + cond (eqb (get_or s i 0) (get_or s (i + 1) 0)) 0 1) (i + 1)
  unfolding keeping distinct
  keeping_step l h =
      let a : i < length s = omega arith in
      let b : suc i < length s = omega arith in
      let d : n < length s = omega arith in
      let e : n < suc i = omega arith in
      rw (add-one i, drop-cons s i 0, drop-cons s (suc i) 0, drop-set-lt, drop-cons s (suc i) 0) (elim (eq? (get_or s i 0) (get_or s (suc i) 0)) [
        | inl q ↦ rw (eq-eqb _ _ q, add-zero, take-set-le n s n (get_or s i 0) (le_refl n))
        | inr ne ↦ rw (ne_eqb _ _ ne, add-one n, take-suc-set) (sym (append_assoc (take n s) (get_or s i 0 ∷ []) _))
      ])

  pub keeping_last : n ≤ i → i + 1 ≡ length s → keeping s n i ≡ take (n + 1) (set s n (get_or s i 0))
  unfolding keeping distinct
  keeping_last l h =
      let a : i < length s = omega arith in
      let b : length s ≤ suc i = omega arith in
      let d : n < length s = omega arith in
      simp (add-one, take-suc-set, drop-cons s i 0 a, drop_of_length-le s b)
