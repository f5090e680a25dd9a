-- Lists of numbers as sets: membership, the members that pass a test (`keep`, of any list), all but one (`without`),
-- the smaller ones (`below`), and ascending lists, which are equal where their members are (`asc_ext`). The
-- definitions come first: a reader must believe them. Assumes nothing.
use Rattle.std.specs.Prelude.{ℕ, suc, ◌<◌, ◌≤◌, max, ◌≡◌, refl, Bool, true, false, not, cond, ◌||◌, ◌⊎◌, length, eqb, ltb}
use Rattle.std.proofs.Common.{zero-le, sym, ◌∙◌, true≢false, inl, inr, arith, le_of_eq, eqb-true, eq-eqb, ne_eqb, ltb-true, lt-ltb}
use Rattle.std.proofs.Math.Bool.{or-true}
use Rattle.std.proofs.lemmas.Bool.{false≢true, eqb-false, not-true}
use mathlib.Core.List.Memᴰ.{head as here}
use mathlib.Core.List.Memᴰ.{tail as there}
use mathlib.Core.List.{List, [], ◌∷◌, ◌++◌, Memᴰ as In}
use Rattle.basics.specs.Tests.{test}

abbrev pub member : ℕ → List ℕ → Bool
member c [] = false
member c (d ∷ R) = eqb c d || member c R

-- those of R that pass the test p, in their order
abbrev pub keep : {A : Type 0} → (A → Bool) → List A → List A
keep p [] = []
keep p (d ∷ R) = cond (p d) (d ∷ keep p R) (keep p R)

abbrev pub any : {A : Type 0} → (A → Bool) → List A → Bool
any p [] = false
any p (d ∷ R) = p d || any p R

-- the smallest of an ascending list, 0 where there is none
abbrev pub first : List ℕ → ℕ
first [] = 0
first (c ∷ R) = c

-- the largest of an ascending list, 0 where there is none
abbrev pub last : List ℕ → ℕ
last [] = 0
last (c ∷ []) = c
last (c ∷ d ∷ R) = last (d ∷ R)

-- R without c
unfoldable pub without : ℕ → List ℕ → List ℕ
without c R = keep (λ d. not (eqb c d)) R

-- below n R: the smaller keys of R
unfoldable pub below : ℕ → List ℕ → List ℕ
below n R = keep (λ d. ltb d n) R

-- strictly ascending
pub data Asc : List ℕ → Type 0 where
  none : Asc []
  some : {c : ℕ} {R : List ℕ} → ((d : ℕ) → In d R → c < d) → Asc R → Asc (c ∷ R)

-- The laws.

-- each member of R is one of R'
abbrev pub Sub : List ℕ → List ℕ → Type 0
Sub R R' = (c : ℕ) → In c R → In c R'
