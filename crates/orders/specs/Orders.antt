-- Keys added one by one, in whatever order: "The image equals, word by word, that of adding the same cards with their
-- tiers to a list laid alike, under the same book, in any order that 01's calls accept" (document 02, "Seven"). First
-- the bridge: the keys that the register has at the end are those that feeding gives. Assumes nothing.
use Rattle.std.specs.Prelude.{ℕ, ◌≤◌, ◌≡◌, refl, true, false, cond, ◌⊎◌, eqb, ltb, length, replicate}
use Rattle.std.proofs.Common.{sym, ◌∙◌, ap, true≢false, inl, inr, arith, eq-eqb, ne_eqb}
use mathlib.Core.List.Memᴰ.{head as here}
use mathlib.Core.List.Memᴰ.{tail as there}
use mathlib.Core.List.{List, [], ◌∷◌, Memᴰ as In}
use Rattle.std.proofs.lemmas.List.{length-replicate}
use Rattle.basics.specs.Tests.{test}
use Rattle.basics.specs.Sets.{Asc, Sub}
use Rattle.ordered.specs.Keys.{with_key}
use Rattle.feeding.specs.Feed.{fed, feed_on, feed}
use Rattle.refusals.specs.Refusal.{done, stash_full, first_refusal}
use Rattle.hashing.specs.Hash.{tabulation_length, blank}
use Rattle.hashing.specs.Slots.{slot_0, slot_1}
use Rattle.layout.specs.Entries.{Entry, max_tier, keys_of, tier_of}
use Rattle.layout.specs.Entries.{tiered}
use Rattle.layout.specs.Layout.{Params, ValidSet, another_issue, family, scratch_length, fits, fits_by, image}
use Rattle.counters.specs.declared.Counters.{Counters}
use Rattle.outcome.specs.declared.Change.TheVariants.{Insert}
use Rattle.outcome.specs.Held.{Holds}
use Rattle.bulk.specs.Bulk.{input_set, bulk_outcome}
use Rattle.bulk.specs.Input.{SoundInput}
use Rattle.bulk.specs.Laws.{Layable}
use Rattle.history.specs.Calls.{own, Call, Step, step, run, words_left, Allowed, Sequence}
use Rattle.history.specs.Calls as Calls
use Rattle.history.specs.Model.{Request, requests, put_in, change_tests, reply, set_after, set_left}
use Rattle.orders.specs.Inserts.{Inserts, none, more, came_to, NoRepeat, empty, new, Order}

abbrev pub set_with : Params → List Entry → Entry → List ℕ → List Entry
set_with P K e scratch = (reply P K (Request.change (Insert e.tier) own (length scratch) e.key)).set
