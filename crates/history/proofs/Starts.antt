-- How a sequence may start: the words of every start hold its set, the empty one after an accepted init, the input after
-- an accepted bulk load, the survivors after an accepted salvage (`start_holds`); and the image of every set that fits is a start (`holds_start`), so that
-- a sequence may start with any set. Assumes nothing.
use Rattle.std.specs.Prelude.{ℕ, ◌≡◌, List, length, replicate}
use Rattle.std.proofs.Common.{sym, arith}
use Rattle.std.proofs.lemmas.List.{length-replicate}
use Rattle.hashing.specs.Hash.{tabulation_length}
use Rattle.layout.specs.Entries.{Entry}
use Rattle.layout.specs.Layout.{Params, words_length, scratch_length}
use Rattle.layout.proofs.Fresh.{empty_valid, empty_fits, fresh_sizes, fresh_image}
use Rattle.outcome.specs.Held.{Holds}
use Rattle.bulk.specs.Input.{input_of}
use Rattle.bulk.proofs.Input.{input_of_set}
use Rattle.bulk.proofs.Laws.{bulk_accepted, bulk_holds}
use Rattle.survivors.proofs.LawsAfter.{salvage_accepted}
use Rattle.history.specs.Calls.{Start, laid, loaded, salvaged}

pub start_holds : {P : Params} {L : List Entry} {ws : List ℕ} → Start P L ws → Holds P L ws
start_holds {P} (laid before accepted e f) = rw (e, f) (record {
  range = (fresh_sizes P before accepted).0;
  is = record { valid = empty_valid; fit = empty_fits P; is = fresh_image P before accepted };
})
start_holds {P} (loaded input before scratch accepted e f) = rw (e, f) (bulk_accepted P input before scratch accepted)
start_holds {P} {L} {ws} (salvaged damaged before scratch same accepted e f) =
    rw (e, f) (rw same at (salvage_accepted P.tabulation damaged before scratch accepted))

-- The image of a set that fits is what a bulk load of it leaves, whatever stood there before.
pub holds_start : {P : Params} {L : List Entry} {ws : List ℕ} → Holds P L ws
    → length P.tabulation ≡ tabulation_length → Start P L ws
holds_start {P} {L} h full_length =
    let n = words_length P.slots P.places in
    let m = scratch_length P.slots P.places in
    let b = bulk_holds h full_length (replicate n 0) (replicate m 0) (length-replicate {A = ℕ} n 0)
    (omega (arith, length-replicate {A = ℕ} m 0)) in
    loaded (input_of L) (replicate n 0) (replicate m 0) b.0 (sym (input_of_set L)) (sym b.1)
