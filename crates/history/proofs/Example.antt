-- The laws of what specs/Example.antt defines.
use Rattle.std.specs.Prelude.{ℕ, ◌≡◌, refl, true, List, [], ◌∷◌, ◌++◌, map, ℤ, pos, negsuc, length, replicate, drop, get_or}
use Rattle.std.proofs.Common.{sym, ◌∙◌, ap, arith}
use mathlib.Core.List.Memᴰ.{head as here}
use mathlib.Core.List.Memᴰ.{tail as there}
use Rattle.basics.specs.Sets.{without, below}
use Rattle.cuckoo.specs.Graph.{label, joined, component, is_on_cycle, cyclic, spare, settle, seated, root, sits, occupant}
use Rattle.cuckoo.specs.Placement.{Placement}
use Rattle.cuckoo.specs.Trail.{other, trail_from, trail}
use Rattle.ordered.specs.Keys.{with_key, above}
use Rattle.refusals.specs.Refusal.{done, stash_full}
use Rattle.hashing.specs.Hash.{slots_in_range, station_in_range, blank, hash}
use Rattle.hashing.specs.Answer.{hashes_refusal, hashes_values}
use Rattle.hashing.specs.Slots.{slot_0, slot_1}
use Rattle.layout.specs.Entries.{Entry, keys_of, tier_of}
use Rattle.layout.specs.Layout.{Params, another_issue, family, sizes_in_range, params_in_range, shaped, stash_of, fits, image, place_words, place_entries, tier_in}
use Rattle.layout.specs.Layout.{slot_spots}
use Rattle.layout.specs.Answers.{view_refusal, view_of, fresh_refusal, fresh_words}
use Rattle.layout.proofs.Fitting.{without_valid, without_fits}
use Rattle.layout.proofs.Look.{image_view}
use Rattle.layout.specs.Board.{board_tabulation, board, plain, Shown, Full, shows, full}
use Rattle.layout.proofs.Board.{board_length, board_rows}
use Rattle.outcome.specs.declared.Change.TheVariants.{Insert, Remove}
use Rattle.counters.specs.declared.Counters.{Counters}
use Rattle.outcome.specs.Trail.{trail_in, trail_refusal, trail_outcome}
use Rattle.outcome.specs.declared.Sale.{Sale}
use Rattle.outcome.specs.Sale.{all_in_range, unpriced, sale_refusal, sale_of, sale_values}
use Rattle.outcome.proofs.Board.{shown_trail}
use Rattle.outcome.specs.Held.{Holds}
use Rattle.bulk.specs.Bulk.{params_for, input_set, bulk_refusal, bulk_outcome}
use Rattle.bulk.specs.Input.{input_of}
use Rattle.bulk.proofs.Laws.{bulk_holds}
use Rattle.survivors.specs.Salvage.{salvage_outcome}
use Rattle.survivors.proofs.Laws.{alike_survivors, held_survivors}
use Rattle.survivors.proofs.LawsAfter.{salvage_by_spots, untampered_number, untampered_target}
use Rattle.history.specs.Calls.{own, wrong, Call, Answer, Step, step, run, words_after, words_left}
use Rattle.history.specs.Calls.{refused, unchanged, Allowed, none, more, laid, loaded, salvaged, Sequence}
use Rattle.history.specs.Model.{Request, requests, Reply, reply, model, set_after, set_left}
use Rattle.history.proofs.History.{history}
use Rattle.history.specs.NoTrace.{ComesToFull, step_after, NoTrace}
use Rattle.history.proofs.NoTrace.{part}
use Rattle.history.proofs.NoTraceAfter.{alike_self, no_trace}
use Rattle.history.specs.Sales.{opening, closing}
use Rattle.history.proofs.Sales.{sale_stays}
use Rattle.history.proofs.Corollaries.{same_answers}
use Rattle.history.specs.Others.{init, loading, reads, hashes, tracing}
use Rattle.history.proofs.Others.{trail_stands}
use Rattle.history.proofs.ExampleCalls.{script, calls, answers}
use Rattle.history.specs.Example.{P, scratch, counters, insert, remove, says, input, fresh, one, two, set_K5, words, other_calls, loaded_calls, wet_words, steps, sale}

-- Init with station 256 is refused on any words, so it may stand in a sequence.
init_refused : (ws : List ℕ) → fresh_refusal (length ws) 4 1 256 ≡ done → ⊥
unfolding fresh_refusal params_in_range sizes_in_range slots_in_range station_in_range
init_refused ws e = omega arith

init_more : {ws : List ℕ} {cs : List Call}
    → Allowed board_tabulation (step board_tabulation ws (Call.other (init 4 1 256))).words cs
    → Allowed board_tabulation ws (Call.other (init 4 1 256) ∷ cs)
init_more {ws} rest = more (refused (init_refused ws)) rest

-- So is a bulk load under a book of no words.
load_refused : (ws : List ℕ) → (bulk_outcome (params_for [] 4 1 0) input ws scratch).answer ≡ done → ⊥
unfolding bulk_outcome bulk_refusal
load_refused ws e = omega arith

load_more : {ws : List ℕ} {cs : List Call}
    → Allowed board_tabulation (step board_tabulation ws (Call.other (loading [] 4 1 0 input scratch))).words cs
    → Allowed board_tabulation ws (Call.other (loading [] 4 1 0 input scratch) ∷ cs)
load_more {ws} rest = more (refused (load_refused ws)) rest

-- The calls that leave the words may stand anywhere.
trail_more : {ws : List ℕ} (sheet : List ℕ) {cs : List Call}
    → Allowed board_tabulation (step board_tabulation ws (Call.other (tracing board_tabulation scratch 650 sheet))).words cs
    → Allowed board_tabulation ws (Call.other (tracing board_tabulation scratch 650 sheet) ∷ cs)
trail_more {ws} sheet rest = more (trail_stands board_tabulation ws scratch 650 sheet) rest

may_stand : Allowed board_tabulation fresh calls
may_stand =
    let rest = more (unchanged refl) (more tt (more tt (more tt (more tt (more tt (more tt none)))))) in
    let middle = more tt (more tt (more tt (more tt (more tt (more tt (more tt (init_more (load_more rest)))))))) in
    more tt (more tt (more tt (more tt (more (unchanged refl) (trail_more (8 ∷ 8 ∷ 8 ∷ []) (trail_more (8 ∷ []) middle))))))

-- It is a sequence: the list had 31 words, all 7, before it was laid.
pub sequence : Sequence P [] fresh calls
unfolding fresh_refusal fresh_words params_in_range sizes_in_range slots_in_range station_in_range
sequence = record { full_length = board_length; start = laid (replicate 31 7) refl refl refl; allowed = may_stand }

-- what the register answers

-- K5 fits and has these words,
K5 : Shown 4 1 set_K5 words
K5 = board_rows (shows 4 1 set_K5 words) (there (there (there (there (there (here refl))))))

-- so its parts fit, too;
fits_two : fits P (10 ∷ 650 ∷ []) ≡ true
unfolding without
fits_two = without_fits P K5.valid.keys 1290 K5.fit

fits_one : fits P (10 ∷ []) ≡ true
unfolding without
fits_one = without_fits P (without_valid 1290 K5.valid.keys) 650 fits_two

-- K5 with 1930 does not;
K6 : Full 4 1 (plain (10 ∷ 650 ∷ 1290 ∷ 1930 ∷ []))
K6 =
    board_rows (full 4 1 (plain (10 ∷ 650 ∷ 1290 ∷ 1930 ∷ [])))
    (there (there (there (there (there (there (there (here refl))))))))

-- and the words of K5 say its stash.
stash_K5 : place_words (tier_of set_K5) (stash_of P (keys_of set_K5)) ≡ 1290 ∷ 7 ∷ []
unfolding view_of view_refusal shaped params_in_range sizes_in_range slots_in_range station_in_range
stash_K5 = sym (image_view P set_K5 K5.fit refl) ∙ (rw K5.words_are)

-- The register with set L is fed qs, replies ms, and ends with set M;
record Replies (L : List Entry) (qs : List Request) (ms : List Reply) (M : List Entry) : Type 0 where
  replies : model P L qs ≡ ms
  set : set_after P L qs ≡ M

stop : (L : List Entry) → Replies L [] [] L
unfolding model set_after
stop L = record { replies = refl; set = refl }

next : {L M : List Entry} {q : Request} {qs : List Request} {m : Reply} {ms : List Reply}
    → reply P L q ≡ m → Replies m.set qs ms M → Replies L (q ∷ qs) (m ∷ ms) M
unfolding model set_after
next e g = record { replies = rw (e, g.replies); set = rw (e, g.set) }

abbrev to : ℕ → List ℕ → List Entry → Reply
to n values L = record { answer = says n values; set = L }

-- here the first three calls,
goes_first : {qs : List Request} {ms : List Reply} {M : List Entry} → Replies set_K5 qs ms M
    → Replies []
    (Request.change (Insert 3) own 56 10 ∷ Request.change (Insert 0) own 56 650 ∷ Request.change (Insert 7) own 56 1290 ∷ qs)
    (to 0 [] (one ∷ []) ∷ to 0 [] (one ∷ two ∷ []) ∷ to 0 [] set_K5 ∷ ms)
    M
unfolding reply with_key below above blank another_issue
goes_first g =
    next (rw (board_length, fits_one)) (next (rw (board_length, fits_two)) (next (rw (board_length, K5.fit)) g))

-- the fourth, after which the words are those of K5 still, so that they say 3 keys,
abbrev first_four : List Call
first_four = insert 10 3 ∷ insert 650 0 ∷ insert 1290 7 ∷ insert 1930 0 ∷ []

goes_fourth : {qs : List Request} {ms : List Reply} {M : List Entry} → Replies set_K5 qs ms M
    → Replies set_K5 (Request.change (Insert 0) own 56 1930 ∷ qs) (to 8 [] set_K5 ∷ ms) M
unfolding reply with_key below above blank another_issue
goes_fourth g = next (rw (board_length, K6.unfit)) g

four_words : words_left P fresh first_four ≡ words
unfolding requests
four_words =
    let set = (goes_first (goes_fourth (stop set_K5))).set in
    (history (part first_four (drop 4 calls) sequence)).final.is.is ∙ (ap (image P) set ∙ K5.words_are)

count_says : get_or (words_left P fresh first_four) 2 0 ≡ 3
count_says = rw four_words

-- in K5 the trail of 650 is 650, 10, so that three words do for it and one does not,
trail_says : (trail_in board_tabulation (words_left P fresh first_four) 650 ≡ 650 ∷ 10 ∷ [])
    × ((trail_refusal board_tabulation (words_left P fresh first_four) scratch 650 3 ≡ 0)
    × (trail_refusal board_tabulation (words_left P fresh first_four) scratch 650 1 ≡ 11))
unfolding params_in_range sizes_in_range slots_in_range station_in_range blank without label joined component is_on_cycle cyclic spare settle seated root sits occupant other trail_from trail
trail_says =
    let p = shown_trail refl K5 scratch (omega arith) 650 refl refl refl in
    rw four_words (p.0, (p.1 3, p.1 1))

hashes_say : (hashes_refusal (family P) 650 ≡ 0) × (hashes_values (family P) 650 ≡ 1 ∷ 0 ∷ [])
unfolding hashes_refusal hashes_values slots_in_range station_in_range hash blank board_tabulation
hashes_say = (refl, refl)

-- and all of them. Of the second init and of the bulk load the register is fed the refusal, of the calls that leave the
-- words what they answered.
goes : Replies []
    (requests board_tabulation fresh calls)
    (to 0 [] (one ∷ [])
    ∷ to 0 [] (one ∷ two ∷ [])
    ∷ map (λ (row : Call × Answer). record { answer = row.1; set = set_K5 }) (drop 2 script))
    set_K5
unfolding requests words_after step fresh_refusal params_in_range sizes_in_range slots_in_range station_in_range reply with_key below above blank another_issue trail_outcome bulk_outcome bulk_refusal
goes =
    goes_first
    (goes_fourth
    (next (rw count_says)
    (next (rw (trail_says.1.0, trail_says.0))
    (next (rw trail_says.1.1)
    (next refl
    (next (rw board_length)
    (next (rw board_length)
    (next (rw board_length)
    (next (rw board_length)
    (next (rw board_length)
    (next (rw board_length)
    (next refl
    (next refl
    (next (rw (hashes_say.0, hashes_say.1))
    (next (rw board_length)
    (next (rw board_length)
    (next (rw board_length)
    (next (rw board_length)
    (next (rw board_length)
    (next (rw stash_K5)
    (stop set_K5)))))))))))))))))))))

-- what the calls answer, through the theorem

-- The answers of the sequence are those of the script,
pub answers_are : map (λ (o : Step). o.answer) (run board_tabulation fresh calls) ≡ answers
answers_are = same_answers sequence ∙ ap (map (λ (m : Reply). m.answer)) goes.replies

-- the register ends with K5,
pub set_is : set_left P [] fresh calls ≡ set_K5
set_is = goes.set

-- and the words that the sequence leaves are those of K5.
pub words_are : words_left P fresh calls ≡ words
words_are = (history sequence).final.is.is ∙ (ap (image P) set_is ∙ K5.words_are)

-- demand 3 of it

pub leaves_no_trace : NoTrace P [] fresh calls
leaves_no_trace = no_trace sequence

-- The insert of 1930 came to the test of 8 and was refused by it, so no placement of K5 with 1930 exists.
abbrev first_three : List Call
first_three = insert 10 3 ∷ insert 650 0 ∷ insert 1290 7 ∷ []

first_set : set_left P [] fresh first_three ≡ set_K5
unfolding requests
first_set = (goes_first (stop set_K5)).set

comes : ComesToFull P set_K5 own 56 1930 0
unfolding blank another_issue
comes = record { right_length = rw board_length; long_enough = refl; not_blank = refl; small_tier = omega arith; no_other = refl; absent = refl }

refused_eight : (step_after P fresh first_three (insert 1930 0)).answer.number ≡ stash_full
unfolding run words_after
refused_eight = ap (λ (all : List Answer). (get_or all 3 (says 0 [])).number) answers_are

pub no_place : Placement (slot_0 (family P)) (slot_1 (family P)) 1 (10 ∷ 650 ∷ 1290 ∷ 1930 ∷ []) → ⊥
unfolding with_key below above
no_place =
    let exactly = leaves_no_trace.full first_three (drop 4 calls) own scratch counters 1930 0 refl (rw first_set comes) in
    rw first_set at (exactly.0 refused_eight)

pub other_sequence : Sequence P [] fresh other_calls
unfolding fresh_refusal fresh_words params_in_range sizes_in_range slots_in_range station_in_range
other_sequence = record {
  full_length = board_length;
  start = laid (replicate 31 0) refl refl refl;
  allowed = more tt (more tt (more tt (more tt (more tt none))));
}

pub other_set : set_left P [] fresh other_calls ≡ set_K5
unfolding requests reply with_key below above blank another_issue without
other_set =
    let last_two : fits P (650 ∷ 1290 ∷ []) ≡ true = without_fits P K5.valid.keys 10 K5.fit in
    let last_one : fits P (1290 ∷ []) ≡ true = without_fits P (without_valid 10 K5.valid.keys) 650 last_two in
    let early : Entry = record { key = 1290; tier = 2 } in
    let sets : List (List Entry) = (early ∷ []) ∷ (two ∷ early ∷ []) ∷ (two ∷ []) ∷ (one ∷ two ∷ []) ∷ set_K5 ∷ [] in
    let g : Replies [] (requests board_tabulation fresh other_calls) (map (to 0 []) sets) set_K5 =
    next (rw (board_length, last_one))
    (next (rw (board_length, last_two))
    (next (rw board_length) (next (rw (board_length, fits_two)) (next (rw (board_length, K5.fit)) (stop set_K5))))) in
    g.set

pub same_end : words_left P fresh calls ≡ words_left P fresh other_calls
same_end = (leaves_no_trace.same_words other_sequence).1 (set_is ∙ sym other_set)

-- and whatever is called then answers the same.
pub same_then : (ds : List Call)
    → run board_tabulation (words_left P fresh calls) ds ≡ run board_tabulation (words_left P fresh other_calls) ds
same_then ds = leaves_no_trace.same_later other_sequence (set_is ∙ sym other_set) (alike_self board_tabulation ds)

-- a bulk load

-- K5 is loaded in one call, over words that were all 7:
held_K5 : Holds P set_K5 words
unfolding params_in_range sizes_in_range slots_in_range station_in_range
held_K5 = record { range = refl; is = record { valid = K5.valid; fit = K5.fit; is = sym K5.words_are } }

pub load_says : ((bulk_outcome P input (replicate 31 7) scratch).answer ≡ done)
    × ((bulk_outcome P input (replicate 31 7) scratch).words ≡ words)
unfolding input_of
load_says = bulk_holds held_K5 board_length (replicate 31 7) scratch refl (omega arith)

pub loaded_sequence : Sequence P set_K5 words loaded_calls
unfolding input_set
loaded_sequence = record {
  full_length = board_length;
  start = loaded input (replicate 31 7) scratch load_says.0 refl (sym load_says.1);
  allowed = more tt (more tt none);
}

-- This one ends with the set, too, and leaves the words of the first, which started with no key.
pub loaded_set : set_left P set_K5 words loaded_calls ≡ set_K5
unfolding requests reply with_key below above blank another_issue
loaded_set =
    let g : Replies set_K5 (requests board_tabulation words loaded_calls)
    (to 0 [] (one ∷ two ∷ []) ∷ to 0 [] set_K5 ∷ []) set_K5 =
    next (rw board_length) (next (rw (board_length, K5.fit)) (stop set_K5)) in
    g.set

pub same_as_loaded : words_left P fresh calls ≡ words_left P words loaded_calls
same_as_loaded = (leaves_no_trace.same_words loaded_sequence).1 (set_is ∙ sym loaded_set)

pub salvage_says : let o = salvage_outcome board_tabulation wet_words (replicate 31 7) scratch in
    (o.number ≡ done) × (o.target ≡ words)
unfolding slot_spots place_entries
salvage_says =
    let s = salvage_by_spots board_tabulation wet_words words refl refl refl (replicate 31 7) scratch in (
      s.0 ∙ untampered_number held_K5 board_length (replicate 31 7) scratch refl (omega arith),
      s.2 ∙ untampered_target held_K5 board_length (replicate 31 7) scratch refl (omega arith),
    )

-- and the sequence that started with a bulk load may start with this salvage as well.
pub salvaged_sequence : Sequence P set_K5 words loaded_calls
unfolding slot_spots place_entries
salvaged_sequence = record {
  full_length = board_length;
  start = salvaged wet_words (replicate 31 7) scratch refl salvage_says.0
      (sym (alike_survivors board_tabulation wet_words words refl refl refl ∙ held_survivors held_K5))
      (sym salvage_says.1);
  allowed = more tt (more tt none);
}

pub sale_opened : (step_after P fresh calls (Call.other (opening board_tabulation 1290 15000 steps))).answer ≡ says 0 (1290 ∷ 7 ∷ 14500 ∷ [])
unfolding step sale_refusal sale_values sale_of unpriced all_in_range tier_in place_entries shaped params_in_range sizes_in_range slots_in_range station_in_range hash blank board_tabulation
sale_opened = rw words_are

-- 1290 is withdrawn; closing the sale gives 14,500.
pub sale_closed : (step_after P fresh (calls ++ (Call.other (opening board_tabulation 1290 15000 steps) ∷ remove 1290 ∷ [])) (Call.other (closing sale))).answer
    ≡ says 0 (14500 ∷ [])
sale_closed = (sale_stays sequence 1290 15000 steps sale sale_opened).closing_says (remove 1290 ∷ [])
