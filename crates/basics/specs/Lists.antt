-- Lists beyond membership (which is in Sets): equality as a test, what tests keep, and, of numbers, what stands where,
-- images, the smallest of an ascending list, and counting. Nothing here knows of slots. Assumes nothing.
use Rattle.std.specs.Prelude.{ℕ, zero, suc, ◌+◌, ◌-◌, ◌%◌, ◌<◌, ◌≤◌, ◌≡◌, refl, Bool, true, false, not, ◌&&◌, ◌⊎◌, eqb, ltb, length, get_or, take, drop, replicate}
use Rattle.std.proofs.Common.{zero-le, sym, ◌∙◌, ap, inl, inr, arith, not-suc-le-zero, le_of_eq, mod-eq_of_lt, add-one, eqb-true, eq-eqb, ltb-true, lt-ltb, le-ltb, drop_of_length-le, drop-cons}
use Rattle.std.proofs.lemmas.Bool.{false≢true}
use mathlib.Core.List.Memᴰ.{head as here}
use mathlib.Core.List.Memᴰ.{tail as there}
use mathlib.Core.List.{List, [], ◌∷◌, ◌++◌, map, Memᴰ as In}
use Rattle.std.proofs.Math.Nat.{mod_self}
use Rattle.basics.specs.Tests.{test}
use Rattle.basics.specs.Sets.{keep, first, below, Asc, none, some}

-- equality

-- two lists are equal, as a test, where `test` says of two elements whether they are
abbrev pub same_by : {A : Type 0} → (A → A → Bool) → List A → List A → Bool
same_by test [] [] = true
same_by test [] (y ∷ ys) = false
same_by test (x ∷ xs) [] = false
same_by test (x ∷ xs) (y ∷ ys) = test x y && same_by test xs ys

-- two lists of numbers
unfoldable pub same : List ℕ → List ℕ → Bool
same xs ys = same_by eqb xs ys

-- ascending lists

-- ascending, and above n: a test of one member after the other, and what it means
abbrev pub rises : ℕ → List ℕ → Bool
rises n [] = true
rises n (c ∷ S) = ltb n c && rises c S

-- x is the smallest member of C that passes the test p, or, where none passes, the smallest
pub data Picked (p : ℕ → Bool) (C : List ℕ) (x : ℕ) : Type 0 where
  passes : In x C → p x ≡ true → ((d : ℕ) → In d C → p d ≡ true → x ≤ d) → Picked p C x
  fails : In x C → ((d : ℕ) → In d C → p d ≡ true → ⊥) → ((d : ℕ) → In d C → x ≤ d) → Picked p C x

-- 0 .. n - 1
unfoldable pub upto : ℕ → List ℕ
upto zero = []
upto (suc n) = n ∷ upto n
