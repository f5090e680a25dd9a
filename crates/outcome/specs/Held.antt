-- Insert, remove and check on a dictionary that holds a set: its words are the image of the set. The rows of document 01's table that look at the
-- set then say it of this set, an accepted change leaves the image of the new one, and 8 means that no placement of the new set exists.
-- Assumes nothing.
use Rattle.std.specs.Prelude.{ℕ, ◌+◌, ◌≤◌, ◌<◌, ◌≡◌, refl, Bool, true, false, not, cond, ◌&&◌, ◌⊎◌, ◌↔◌, eqb, ltb, length}
use Rattle.std.proofs.Common.{sym, ◌∙◌, ap, true≢false, inl, inr, arith}
use mathlib.Core.List.Memᴰ.{head as here}
use mathlib.Core.List.Memᴰ.{tail as there}
use mathlib.Core.List.{List, [], ◌∷◌, ◌++◌, Memᴰ as In}
use borrow.Author.Tests.{eq-eqb, ne_eqb, lt-ltb, le-ltb, ltb-false, not-false}
use Rattle.basics.specs.Tests.{test}
use Rattle.basics.specs.Sets.{Asc, without, member}
use Rattle.cuckoo.specs.Placement.{Placement}
use Rattle.ordered.specs.Keys.{with_key}
use Rattle.refusals.specs.Refusal.{done, short_scratch, blank_key, key_present, key_absent, stash_full, wrong_tier, other_tier, other_issue, first_refusal, None, none, and}
use Rattle.hashing.specs.Hash.{tabulation_length, first_part, blank}
use Rattle.hashing.specs.Slots.{slot_0, slot_1}
use Rattle.layout.specs.Entries.{Entry, max_tier, keys_of, tier_of, tiered}
use Rattle.layout.specs.Layout.{Params, ValidKeys, another_issue, OneIssue, ValidSet, family, params_of, slots_of, places_of, scratch_length, params_in_range, station_of, shaped, fits, image, keys_in, tier_in, set_in}
use Rattle.layout.specs.Canonical.{canonical, ImageOf}
use Rattle.layout.specs.Answers.{lookup_values, looked_up}
use Rattle.outcome.specs.declared.Change.{Change}
use Rattle.outcome.specs.declared.Change.TheVariants.{Insert, Remove}
use Rattle.layout.specs.Ready.{first_refusals, Ready}
use Rattle.outcome.specs.Outcome.{keys_changed, tier_changed, changed, set_refusals, change_refusal, change_outcome, check_outcome}

-- The words are a dictionary that holds S: r, s and the station are in their ranges, and the words are the image of S, a set that fits.
pub record Holds (P : Params) (L : List Entry) (ws : List ℕ) : Type 0 where
  pub range : params_in_range P.slots P.places P.station ≡ true
  pub is : ImageOf P L ws

-- the tier that a change gives is 0 to 7
abbrev pub SmallTier : Change → Type 0
SmallTier (Insert tier) = tier ≤ max_tier
SmallTier Remove = Unit {0}

-- of a key that comes in, no other issue is there
abbrev pub NewIssue : Change → ℕ → List ℕ → Type 0
NewIssue (Insert tier) key S = another_issue key S ≡ false
NewIssue Remove key S = Unit {0}

-- A card that is issued anew: the old issue goes, and the new one comes in, with whatever tier. That is never refused with 8: the set fits as it did.
module _ {P : Params} {L : List Entry} {ws : List ℕ} (h : Holds P L ws) (full_length : length P.tabulation ≡ tabulation_length)
    {old : ℕ} (key tier : ℕ) (i : In old (keys_of L)) (q : first_part key ≡ first_part old) (small : tier ≤ 7)
    (scratch scratch' : List ℕ) (room : scratch_length P.slots P.places ≤ length scratch) (room' : scratch_length P.slots P.places ≤ length scratch') where
  abbrev pub S : List ℕ
  S = keys_of L
