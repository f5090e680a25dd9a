-- The calls of the example, each with its answer (specs/Example.antt has what they are made of).
use Rattle.std.specs.Prelude.{ℕ, ◌≡◌, refl, true, List, [], ◌∷◌, ◌++◌, map, ℤ, pos, negsuc, length, replicate, drop, get_or}
use Rattle.std.proofs.Common.{sym, ◌∙◌, ap, arith}
use mathlib.Core.List.Memᴰ.{head as here}
use mathlib.Core.List.Memᴰ.{tail as there}
use Rattle.basics.specs.Sets.{without, below}
use Rattle.cuckoo.specs.Graph.{label, joined, component, is_on_cycle, cyclic, spare, settle, seated, root, sits, occupant}
use Rattle.cuckoo.specs.Placement.{Placement}
use Rattle.cuckoo.specs.Trail.{other, trail_from, trail}
use Rattle.ordered.specs.Keys.{with_key, above}
use Rattle.refusals.specs.Refusal.{done, stash_full}
use Rattle.hashing.specs.Hash.{slots_in_range, station_in_range, blank, hash}
use Rattle.hashing.specs.Answer.{hashes_refusal, hashes_values}
use Rattle.hashing.specs.Slots.{slot_0, slot_1}
use Rattle.layout.specs.Entries.{Entry, keys_of, tier_of}
use Rattle.layout.specs.Layout.{Params, another_issue, family, sizes_in_range, params_in_range, shaped, stash_of, fits, image, place_words, place_entries, tier_in}
use Rattle.layout.specs.Layout.{slot_spots}
use Rattle.layout.specs.Answers.{view_refusal, view_of, fresh_refusal, fresh_words}
use Rattle.layout.specs.Board.{board_tabulation, board, plain, Shown, Full, shows, full}
use Rattle.outcome.specs.declared.Change.TheVariants.{Insert, Remove}
use Rattle.counters.specs.declared.Counters.{Counters}
use Rattle.outcome.specs.Trail.{trail_in, trail_refusal, trail_outcome}
use Rattle.outcome.specs.declared.Sale.{Sale}
use Rattle.outcome.specs.Sale.{all_in_range, unpriced, sale_refusal, sale_of, sale_values}
use Rattle.outcome.specs.Held.{Holds}
use Rattle.bulk.specs.Bulk.{params_for, input_set, bulk_refusal, bulk_outcome}
use Rattle.bulk.specs.Input.{input_of}
use Rattle.survivors.specs.Salvage.{salvage_outcome}
use Rattle.history.specs.Calls.{own, wrong, Call, Answer, Step, step, run, words_after, words_left}
use Rattle.history.specs.Calls.{refused, unchanged, Allowed, none, more, laid, loaded, salvaged, Sequence}
use Rattle.history.specs.Model.{Request, requests, Reply, reply, model, set_after, set_left}
use Rattle.history.specs.NoTrace.{ComesToFull, step_after, NoTrace}
use Rattle.history.specs.Sales.{opening, closing}
use Rattle.history.specs.Others.{init, loading, reads, hashes, tracing}
use Rattle.history.specs.Example.{P, scratch, counters, insert, remove, says, count_keys, input}

-- each call with its answer
abbrev pub script : List (Call × Answer)
script =
    -- K5, one key after the other, with the tiers 3, 0 and 7
    (insert 10 3, says 0 [])
    ∷ (insert 650 0, says 0 [])
    ∷ (insert 1290 7, says 0 [])
    -- "K6 K5 plus 193: refused 8", times ten
    ∷ (insert 1930 0, says 8 [])
    -- a call of another kind that is accepted and leaves the words
    ∷ (count_keys, says 0 (3 ∷ []))
    -- two more: the trail of 650, over three words that are lent for it, is 650, 10; with one word it is refused 11
    ∷ (Call.other (tracing board_tabulation scratch 650 (8 ∷ 8 ∷ 8 ∷ [])), says 0 (2 ∷ 650 ∷ 10 ∷ 0 ∷ []))
    ∷ (Call.other (tracing board_tabulation scratch 650 (8 ∷ [])), says 11 (8 ∷ []))
    -- a tabulation of a wrong length, a scratch of 55 words, a blank key (whatever its tier), a tier above 7 (whatever the
    -- key), another issue of a key of the set (though the stash is full), a key that is in the set with another tier, and
    -- with this one
    ∷ (Call.change (Insert 1) (wrong [] (λ e. omega arith)) scratch counters 170, says 1 [])
    ∷ (Call.change (Insert 1) own (replicate 55 9) counters 170, says 3 [])
    ∷ (insert 9 8, says 5 [])
    ∷ (insert 1290 8, says 9 [])
    ∷ (insert 1291 7, says 13 [])
    ∷ (insert 1290 6, says 10 [])
    ∷ (insert 1290 7, says 6 [])
    -- "any other call on it may stand there if it is refused": init with station 256
    ∷ (Call.other (init 4 1 256), says 2 [])
    -- and a bulk load under a book of a wrong length
    ∷ (Call.other (loading [] 4 1 0 input scratch), says 1 [])
    -- another one that is accepted: the hashes of 650, "0.1" and "1.0"
    ∷ (Call.other (hashes (family P) 650), says 0 (1 ∷ 0 ∷ []))
    -- tier 0, tier 7, and not listed; a removal wants the exact issue
    ∷ (Call.lookup own 650, says 0 (1 ∷ 0 ∷ []))
    ∷ (Call.lookup own 1290, says 0 (1 ∷ 7 ∷ []))
    ∷ (Call.lookup own 1930, says 0 (0 ∷ []))
    ∷ (remove 651, says 7 [])
    ∷ (Call.check own scratch, says 0 [])
    -- "drawer 129", times ten, "both words of each filled place"
    ∷ (Call.view, says 0 (1290 ∷ 7 ∷ []))
    ∷ []

abbrev pub calls : List Call
calls = map (λ (row : Call × Answer). row.0) script

abbrev pub answers : List Answer
answers = map (λ (row : Call × Answer). row.1) script
