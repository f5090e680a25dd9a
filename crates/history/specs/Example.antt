-- Demand 3 at work, so that a reader sees that its hypothesis can be met: a sequence of calls of every kind on document
-- 01's test board, with its answers and the words that it leaves written out, and two more that leave the same words:
-- one with another past, one that starts with a bulk load, or with a salvage. The answers are proved through the
-- theorem, from the rows of K5, with the tiers 3, 0 and 7, and K6 of layout/specs/Board.antt. Assumes nothing.
use Rattle.std.specs.Prelude.{ℕ, ◌≡◌, refl, true, List, [], ◌∷◌, ◌++◌, map, ℤ, pos, negsuc, length, replicate, drop, get_or}
use Rattle.std.proofs.Common.{sym, ◌∙◌, ap, arith}
use mathlib.Core.List.Memᴰ.{head as here}
use mathlib.Core.List.Memᴰ.{tail as there}
use Rattle.basics.specs.Sets.{without, below}
use Rattle.cuckoo.specs.Graph.{label, joined, component, is_on_cycle, cyclic, spare, settle, seated, root, sits, occupant}
use Rattle.cuckoo.specs.Placement.{Placement}
use Rattle.cuckoo.specs.Trail.{other, trail_from, trail}
use Rattle.ordered.specs.Keys.{with_key, above}
use Rattle.refusals.specs.Refusal.{done, stash_full}
use Rattle.hashing.specs.Hash.{slots_in_range, station_in_range, blank, hash}
use Rattle.hashing.specs.Answer.{hashes_refusal, hashes_values}
use Rattle.hashing.specs.Slots.{slot_0, slot_1}
use Rattle.layout.specs.Entries.{Entry, keys_of, tier_of}
use Rattle.layout.specs.Layout.{Params, another_issue, family, sizes_in_range, params_in_range, shaped, stash_of, fits, image, place_words, place_entries, tier_in}
use Rattle.layout.specs.Layout.{slot_spots}
use Rattle.layout.specs.Answers.{view_refusal, view_of, fresh_refusal, fresh_words}
use Rattle.layout.specs.Board.{board_tabulation, board, plain, Shown, Full, shows, full}
use Rattle.outcome.specs.declared.Change.TheVariants.{Insert, Remove}
use Rattle.counters.specs.declared.Counters.{Counters}
use Rattle.outcome.specs.Trail.{trail_in, trail_refusal, trail_outcome}
use Rattle.outcome.specs.declared.Sale.{Sale}
use Rattle.outcome.specs.Sale.{all_in_range, unpriced, sale_refusal, sale_of, sale_values}
use Rattle.outcome.specs.Held.{Holds}
use Rattle.bulk.specs.Bulk.{params_for, input_set, bulk_refusal, bulk_outcome}
use Rattle.bulk.specs.Input.{input_of}
use Rattle.survivors.specs.Salvage.{salvage_outcome}
use Rattle.history.specs.Calls.{own, wrong, Call, Answer, Step, step, run, words_after, words_left}
use Rattle.history.specs.Calls.{refused, unchanged, Allowed, none, more, laid, loaded, salvaged, Sequence}
use Rattle.history.specs.Model.{Request, requests, Reply, reply, model, set_after, set_left}
use Rattle.history.specs.NoTrace.{ComesToFull, step_after, NoTrace}
use Rattle.history.specs.Sales.{opening, closing}
use Rattle.history.specs.Others.{init, loading, reads, hashes, tracing}

-- the calls

-- "With r = 4 .. s = 1."
abbrev pub P : Params
P = board 4 1

-- "Sheets have any length and content, the meter any counts": 12r + 8s = 56 words, which hold what an earlier user left
abbrev pub scratch : List ℕ
scratch = replicate 56 9

abbrev pub counters : Counters
counters = record { done = 5; refused = 4294967295 }

abbrev pub insert : ℕ → ℕ → Call
insert key tier = Call.change (Insert tier) own scratch counters key

abbrev pub remove : ℕ → Call
remove key = Call.change Remove own scratch counters key

abbrev pub says : ℕ → List ℕ → Answer
says n values = record { number = n; values = values }

-- a call of another kind that only reads the words: how many keys they say that they hold, word 2
abbrev pub count_keys : Call
count_keys = Call.other (reads (λ ws. says 0 (get_or ws 2 0 ∷ [])))

-- K5 with these tiers as the input of a bulk load
abbrev pub input : List ℕ
input = 10 ∷ 3 ∷ 650 ∷ 0 ∷ 1290 ∷ 7 ∷ []

-- the words that init leaves, whatever they were before: K1
abbrev pub fresh : List ℕ
fresh = 4 ∷ 1 ∷ 0 ∷ 0 ∷ 0 ∷ 0 ∷ 0 ∷ 0 ∷ 0 ∷ 0 ∷ 0 ∷ 0 ∷ 0 ∷ 0 ∷ 0 ∷ 0 ∷ 0 ∷ 0 ∷ 0 ∷ 0 ∷ 0 ∷ 0 ∷ 0 ∷ 0 ∷ 0 ∷ 0 ∷ 0 ∷ 0 ∷ 0 ∷ 0 ∷ 0 ∷ []

-- the set with which it ends, and its words: K5
abbrev pub one : Entry
one = record { key = 10; tier = 3 }

abbrev pub two : Entry
two = record { key = 650; tier = 0 }

abbrev three : Entry
three = record { key = 1290; tier = 7 }

abbrev pub set_K5 : List Entry
set_K5 = one ∷ two ∷ three ∷ []

abbrev pub words : List ℕ
words =
    4 ∷ 1 ∷ 3 ∷ 1 ∷ 0 ∷ 0 ∷ 0 ∷ 0 ∷ 10 ∷ 650 ∷ 3 ∷ 0 ∷ 0 ∷ 0 ∷ 0 ∷ 0 ∷ 0 ∷ 650 ∷ 10 ∷ 0 ∷ 0 ∷ 0 ∷ 0 ∷ 0 ∷ 0 ∷ 0 ∷ 0 ∷ 0 ∷ 0 ∷ 1290 ∷ 7 ∷ []

-- A sequence with another past: other keys first, one of them with another tier until it is removed, and nothing refused.
-- It leaves the same words,
abbrev pub other_calls : List Call
other_calls = insert 1290 2 ∷ insert 650 0 ∷ remove 1290 ∷ insert 10 3 ∷ insert 1290 7 ∷ []

-- the words are those of K5. So a sequence may start with them, and with that set.
abbrev pub loaded_calls : List Call
loaded_calls = remove 1290 ∷ insert 1290 7 ∷ []

-- a salvage

-- The counts of K5's heading are damaged. A salvage over words that were all 7 brings the list back,
abbrev pub wet_words : List ℕ
wet_words = 4 ∷ 1 ∷ 99 ∷ 77 ∷ 0 ∷ drop 5 words

-- a sale

-- At the end of the first sequence a sale of 1290 is opened, at a base price of 15,000 and with a step of -500 for its tier, 7:
abbrev pub steps : List ℤ
steps = pos 0 ∷ pos 0 ∷ pos 0 ∷ negsuc 249 ∷ pos 0 ∷ pos 20 ∷ pos 0 ∷ negsuc 499 ∷ []

abbrev pub sale : Sale
sale = record { key = 1290; tier = 7; price = 14500 }
