-- What the outcome of a bulk load says of all inputs: which numbers it can answer, row by row when it answers them, and
-- what a refusal leaves. Accepted, the target holds the set that the input is, its stash is what the request's own rule
-- gives, and 8 means that no placement of the set exists. Assumes nothing.
use Rattle.std.specs.Prelude.{ℕ, ◌+◌, ◌*◌, ◌≤◌, ◌<◌, ◌≡◌, Bool, true, false, not, cond, ◌&&◌, ◌||◌, ◌↔◌, eqb, ltb, length, replicate}
use Rattle.std.proofs.Math.Path.{refl}
use Rattle.std.proofs.Common.{sym, ◌∙◌, ap, inl, inr, arith}
use mathlib.Core.List.{List, [], ◌∷◌, ◌++◌, Memᴰ as In}
use borrow.Author.Tests.{eqb-true, eq-eqb, ne_eqb, ltb-false, le-ltb, not-false}
use Rattle.basics.specs.Tests.{test}
use Rattle.basics.specs.Sets.{any}
use Rattle.refusals.specs.Refusal.{done, blank_key, stash_full, wrong_tier}
use Rattle.refusals.specs.Refusal.{other_issue, not_rising, first_refusal, None, none, and}
use Rattle.cuckoo.specs.Placement.{Placement}
use Rattle.cuckoo.specs.Rising.{rising_stash}
use Rattle.hashing.specs.Hash.{tabulation_length, blank}
use Rattle.hashing.specs.Slots.{slot_0, slot_1}
use Rattle.layout.specs.Entries.{Entry, max_tier, tier_of}
use Rattle.layout.specs.Layout.{Params, one_issue, family, params_in_range, words_length, scratch_length}
use Rattle.layout.specs.Layout.{fits, image, place_words}
use Rattle.layout.specs.Answers.{lookup_values, view_of}
use Rattle.outcome.specs.Demands.{Harmless}
use Rattle.outcome.specs.Held.{Holds}
use Rattle.bulk.specs.Bulk.{input_keys, input_tiers, input_set, odd_length, rising, target_refusals}
use Rattle.bulk.specs.Bulk.{input_refusals, room_refusals, bulk_refusal, bulk_outcome}
use Rattle.bulk.specs.Input.{SoundInput, input_of}

-- "Checks are 1, 2 .., and 3; then 5, 9, 14 and 13 ..; then 8."
abbrev pub bulk_answers : List ℕ
bulk_answers = 0 ∷ 1 ∷ 2 ∷ 3 ∷ 5 ∷ 9 ∷ 14 ∷ 13 ∷ 8 ∷ []

-- a target of n words, and scratch of m, of which none of 1, 2 and 3 is given
pub record Layable (P : Params) (n m : ℕ) : Type 0 where
  pub full_length : length P.tabulation ≡ tabulation_length
  pub range : params_in_range P.slots P.places P.station ≡ true
  pub size : n ≡ words_length P.slots P.places
  pub room : scratch_length P.slots P.places ≤ m

-- words and scratch

module _ (P : Params) (input ws scratch : List ℕ) where
  -- "and a refusal leaves the target unchanged."
  pub bulk_refused : ((bulk_outcome P input ws scratch).answer ≡ done → ⊥) → (bulk_outcome P input ws scratch).words ≡ ws
  unfolding bulk_outcome
  bulk_refused n = rw (ne_eqb (bulk_refusal P input (length ws) (length scratch)) done n)
