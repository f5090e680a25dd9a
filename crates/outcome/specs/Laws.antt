-- What the outcome definitions say of all inputs: which numbers a call can answer, row by row when it answers them (document 01's table), what a
-- refusal leaves, and that the scratch matters by its length alone. Assumes nothing.
use Rattle.std.specs.Prelude.{ℕ, ◌≤◌, ◌<◌, ◌≡◌, Bool, true, false, not, ◌⊎◌, ◌↔◌, length, replicate}
use Rattle.std.proofs.Math.Path.{refl, ap}
use Rattle.std.proofs.Common.{◌∙◌, inl, arith, eq-eqb, ne_eqb, ltb-false}
use Rattle.std.proofs.Math.Bool.{cond}
use mathlib.Core.List.Memᴰ.{head as here}
use mathlib.Core.List.Memᴰ.{tail as there}
use mathlib.Core.List.{List, [], ◌∷◌, ◌++◌, Memᴰ as In}
use Rattle.std.proofs.lemmas.Bool.{not-false}
use Rattle.basics.specs.Tests.{test}
use Rattle.basics.specs.Sets.{member}
use Rattle.refusals.specs.Refusal.{done, wrong_tabulation, wrong_shape, short_scratch, not_canonical, blank_key, first_refusal, none, and}
use Rattle.hashing.specs.Hash.{tabulation_length, blank}
use Rattle.layout.specs.Entries.{Entry}
use Rattle.layout.specs.Layout.{Params, params_of, slots_of, places_of, scratch_length, shaped, image, set_in}
use Rattle.layout.specs.Canonical.{canonical, ImageOf}
use Rattle.outcome.specs.declared.Change.{Change}
use Rattle.outcome.specs.declared.Change.TheVariants.{Insert, Remove}
use Rattle.layout.specs.Ready.{first_refusals, Ready, Late, Tampered}
use Rattle.outcome.specs.Outcome.{Outcome, changed, set_refusals, change_refusal, change_outcome, check_outcome}

-- the numbers

-- "Add can give 1 to 6 and 8", and 9 after 5, 13 just before 10, 10 just before 6; "withdraw 1 to 5 and 7; check 1 to 4."
abbrev pub change_answers : Change → List ℕ
change_answers (Insert tier) = 0 ∷ 1 ∷ 2 ∷ 3 ∷ 4 ∷ 5 ∷ 9 ∷ 13 ∷ 10 ∷ 6 ∷ 8 ∷ []
change_answers Remove = 0 ∷ 1 ∷ 2 ∷ 3 ∷ 4 ∷ 5 ∷ 7 ∷ []

abbrev pub check_answers : List ℕ
check_answers = 0 ∷ 1 ∷ 2 ∷ 3 ∷ 4 ∷ []

-- the refusals of insert and remove after 4
abbrev pub later_refusals : Change → List ℕ → List ℕ → ℕ → List (ℕ × Bool)
later_refusals kind tabulation ws key = (blank_key, blank key) ∷ set_refusals kind (params_of tabulation ws) key (set_in tabulation ws)
