-- The number of an answer: 0, or that of its refusal (document 01, "What a call gives back"). What an answer that is done holds besides, its
-- values, is said with each call.
use Rattle.std.specs.Prelude.{ℕ, Result, Ok, Err}
use Rattle.refusals.specs.declared.Refusal.{Refusal}
use Rattle.refusals.specs.declared.Refusal.TheVariants.{WrongTabulation, WrongShape, ShortScratch, NotCanonical, BlankKey, KeyPresent, KeyAbsent}
use Rattle.refusals.specs.declared.Refusal.TheVariants.{StashFull, WrongTier, OtherTier, ShortTrail, WrongPrice, OtherIssue, NotRising}
use Rattle.refusals.specs.declared.Refusal.TheVariants.{NoneCounts, TableFull}
use Rattle.refusals.specs.Refusal.{done, wrong_tabulation, wrong_shape, short_scratch, not_canonical, blank_key, key_present, key_absent}
use Rattle.refusals.specs.Refusal.{stash_full, wrong_tier, other_tier, short_trail, wrong_price, other_issue, not_rising, none_counts, table_full}

abbrev pub number_of : Refusal → ℕ
number_of WrongTabulation = wrong_tabulation
number_of WrongShape = wrong_shape
number_of ShortScratch = short_scratch
number_of NotCanonical = not_canonical
number_of BlankKey = blank_key
number_of KeyPresent = key_present
number_of KeyAbsent = key_absent
number_of StashFull = stash_full
number_of WrongTier = wrong_tier
number_of OtherTier = other_tier
number_of ShortTrail = short_trail
number_of WrongPrice = wrong_price
number_of OtherIssue = other_issue
number_of NotRising = not_rising
number_of NoneCounts = none_counts
number_of TableFull = table_full

abbrev pub number : {A : Type 0} → Result A Refusal → ℕ
number (Ok value) = done
number (Err refusal) = number_of refusal
