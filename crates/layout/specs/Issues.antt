-- One issue of each first part (document 02, "Six"): what the tests of Layout mean, which sets have that, and that in ascending order another issue is a
-- neighbour, so that it is found without a search of its own. Assumes nothing.
use Rattle.std.specs.Prelude.{ℕ, ◌+◌, ◌-◌, ◌≤◌, ◌<◌, ◌≡◌, refl, Bool, true, false, not, ◌&&◌, ◌⊎◌, ◌↔◌, eqb, length, get_or, drop}
use Rattle.std.proofs.Common.{sym, ◌∙◌, ap, true≢false, inl, inr, add-one, arith, drop-cons}
use mathlib.Core.List.Memᴰ.{head as here}
use mathlib.Core.List.Memᴰ.{tail as there}
use mathlib.Core.List.{List, [], ◌∷◌, Memᴰ as In}
use borrow.Author.Tests.{eqb-true, eqb-false, eq-eqb, ne_eqb, not-true}
use Rattle.std.proofs.Math.Seq.{drop-length}
use Rattle.basics.specs.Tests.{test}
use Rattle.basics.specs.Sets.{any, Sub, Asc, some}
use Rattle.ordered.specs.Keys.{lower_bound, with_key}
use Rattle.hashing.specs.Hash.{first_part, blank}
use Rattle.layout.specs.Layout.{ValidKeys, another_issue, OneIssue, one_issue}

-- another issue of a key in S: a key of it with the same first part that is not this key
abbrev pub Another : ℕ → List ℕ → Type 0
Another key S = (d : ℕ) × (In d S × ((first_part d ≡ first_part key) × (d ≡ key → ⊥)))

-- The same of a whole ascending stretch: no two neighbours have one first part, the first of them not `last`, that of the key before.
unfoldable pub parts_apart : ℕ → List ℕ → Bool
parts_apart last [] = true
parts_apart last (c ∷ S) = not (eqb (first_part c) last) && parts_apart (first_part c) S
