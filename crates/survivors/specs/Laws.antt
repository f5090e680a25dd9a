-- What the outcome of a salvage says of all words: which numbers it can answer, row by row when it answers them, and
-- what a refusal leaves. Accepted, the target holds the survivors; an untampered list gives itself and 0, and so does a
-- list that was salvaged. Assumes nothing.
use Rattle.std.specs.Prelude.{ℕ, ◌≤◌, ◌<◌, ◌≡◌, true, false, cond, ◌&&◌, ◌⊎◌, ◌↔◌, replicate}
use Rattle.std.proofs.Math.Path.{refl, ap}
use Rattle.std.proofs.Common.{sym, ◌∙◌, inl, inr, arith}
use Rattle.std.proofs.Math.Bool.{not}
use mathlib.Core.List.Memᴰ.{head as here}
use mathlib.Core.List.Memᴰ.{tail as there}
use mathlib.Core.List.{List, [], ◌∷◌, Memᴰ as In}
use borrow.Author.Tests.{eqb-true, eq-eqb, ne_eqb, ltb-false, lt-ltb, le-ltb, eqb-false, not-false, not-true}
use Rattle.std.proofs.Math.ListN.{length}
use Rattle.basics.specs.Tests.{test}
use Rattle.basics.specs.Sets.{any, keep}
use Rattle.refusals.specs.Refusal.{done, wrong_tabulation, wrong_shape, short_scratch, none_counts, first_refusal}
use Rattle.refusals.specs.Refusal.{None, none, and}
use Rattle.hashing.specs.Hash.{Family, tabulation_length}
use Rattle.layout.specs.Entries.{Entry, tiered}
use Rattle.layout.specs.Layout.{Params, family, params_of, family_of, slots_of, places_of, station_of, words_length}
use Rattle.layout.specs.Layout.{scratch_length, shaped, image, Spot, spots, spot_key}
use Rattle.layout.proofs.Shape.{shape}
use Rattle.layout.specs.Answers.{lookup_values}
use Rattle.outcome.specs.Demands.{Harmless}
use Rattle.outcome.specs.Held.{Holds}
use Rattle.survivors.specs.Salvage.{counts, counting, standing, standing_keys, survivors, occupied, lost_in}
use Rattle.survivors.specs.Salvage.{area_refusals, nothing_counts, salvage_refusals, salvage_refusal}
use Rattle.survivors.specs.Salvage.{SalvageOutcome, salvage_outcome}

-- "Checks are 1, 2 for the first area, 2 for the second's length, and 3. Answers: 15 .. last"
abbrev pub salvage_answers : List ℕ
salvage_answers = 0 ∷ 1 ∷ 2 ∷ 3 ∷ 15 ∷ []

-- words with a target of n words and scratch of m, of which none of 1, 2 and 3 is given
pub record Salvable (tabulation ws : List ℕ) (n m : ℕ) : Type 0 where
  pub full_length : length tabulation ≡ tabulation_length
  pub shape : shaped ws ≡ true
  pub size : n ≡ length ws
  pub room : scratch_length (slots_of ws) (places_of ws) ≤ m
