-- Decisions as sums, to be taken apart by `elim`: a test, equality, order; and what the tests that `&&` and `||` join say. Assumes nothing.
use Rattle.std.specs.Prelude.{ℕ, ◌<◌, ◌≤◌, ◌≡◌, refl, Bool, true, false, ◌&&◌, ◌||◌, ◌⊎◌, T, eqb, leb}
use Rattle.std.proofs.Common.{sym, inl, inr, arith, eqb-true, leb-true, leb-false}
use Rattle.std.proofs.lemmas.Bool.{false≢true, eqb-false}

-- a test decides
pub test : (t : Bool) → (t ≡ true) ⊎ (t ≡ false)
test true = inl refl
test false = inr refl
