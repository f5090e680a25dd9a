-- Sequences of calls from zeros "with one book, station and length": the register answers as one that knows its set
-- alone, so that 4 never comes (`plain_insert`, `plain_lookup`); the list stays with that book and station
-- (`one_family`); two sequences leave the same words exactly if they end with the same set, and any later calls then
-- answer the same (`stolen_no_trace`). Assumes nothing.
use Rattle.std.specs.Prelude.{ℕ, ◌<◌, ◌≡◌, refl, Bool, true, false, not, cond, ◌↔◌, eqb, length, replicate}
use Rattle.std.proofs.Common.{sym, ◌∙◌, ap, inl, inr, arith, eq-eqb, ne_eqb}
use mathlib.Core.List.Memᴰ.{head as here}
use mathlib.Core.List.Memᴰ.{tail as there}
use mathlib.Core.List.{List, [], ◌∷◌, Memᴰ as In}
use Rattle.std.proofs.lemmas.Bool.{lt-leb}
use Rattle.basics.specs.Sets.{member}
use Rattle.basics.specs.Lists.{same}
use Rattle.refusals.specs.Refusal.{done, wrong_tabulation, wrong_shape, blank_key, key_present, table_full}
use Rattle.refusals.specs.Refusal.{first_refusal}
use Rattle.hashing.specs.Hash.{tabulation_length, max_station, station_in_range, blank, Family}
use Rattle.probing.specs.Rule.{table_keys}
use Rattle.stolen.specs.Answers.{stolen_image}
use Rattle.stolen.specs.Calls.{StolenCall, stolen_run, stolen_left, Register, named, register_lookup_tests}
use Rattle.stolen.specs.Calls.{register_insert_tests, hears, stolen_reply, register_left}
use Rattle.stolen.specs.Calls.{NamesOne, own, wrong_book, no_station, Ours}
use Rattle.stolen.specs.Sequences.{StolenKept, empty_register, Ranged}

-- A register under F's book and station, and a call that names them, or is refused for its own.
module _ (F : Family) (R : Register) (e : R.family ≡ F) (tabulation : List ℕ) (station key : ℕ)
    (one : NamesOne F tabulation station) where
  -- the tests of an insert in a register that knows nothing but its set
  abbrev pub plain_insert_tests : List (ℕ × Bool)
  plain_insert_tests =
      (wrong_tabulation, not (eqb (length tabulation) tabulation_length))
      ∷ (wrong_shape, not (station_in_range station))
      ∷ (blank_key, blank key)
      ∷ (key_present, member key R.keys)
      ∷ (table_full, eqb (length R.keys) R.family.slots)
      ∷ []

-- Two sequences on zeros, F's book and station in both.
pub record StolenNoTrace (F : Family) (cs ds : List StolenCall) : Type 0 where
  -- "so with one book, station and length these words, too, depend on the set alone", and the set on the words
  pub same_words : (stolen_left (replicate F.slots 0) cs ≡ stolen_left (replicate F.slots 0) ds)
      ↔ ((register_left (empty_register F) cs).keys ≡ (register_left (empty_register F) ds).keys)
  -- and any later calls, of every book and station, answer and leave the same
  pub later : (register_left (empty_register F) cs).keys ≡ (register_left (empty_register F) ds).keys
      → (es : List StolenCall)
      → stolen_run (stolen_left (replicate F.slots 0) cs) es
      ≡ stolen_run (stolen_left (replicate F.slots 0) ds) es
