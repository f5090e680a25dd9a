-- Sequences of calls from zeros: every call answers as the register does, and leaves the image of the register's set
-- (`stolen_history`), whatever books and stations the calls name. OneBook.antt says what follows where they name one.
use Rattle.std.specs.Prelude.{ℕ, ◌<◌, ◌≤◌, ◌≡◌, refl, Bool, true, false, not, cond, ◌&&◌, ◌↔◌, eqb, length, replicate}
use Rattle.std.proofs.Common.{sym, ◌∙◌, true≢false, arith, eq-eqb, ne_eqb, eqb-true, lt-ltb, le-ltb}
use Rattle.std.proofs.Math.Path.{ap}
use Rattle.std.proofs.Math.Logic.{inl, inr}
use mathlib.Core.List.Memᴰ.{head as here}
use mathlib.Core.List.Memᴰ.{tail as there}
use mathlib.Core.List.{List, [], ◌∷◌, map, Memᴰ as In}
use Rattle.std.proofs.lemmas.Bool.{lt-leb, not-false}
use Rattle.basics.specs.Tests.{test}
use Rattle.basics.specs.Sets.{member}
use Rattle.basics.specs.Lists.{same}
use Rattle.ordered.specs.Keys.{with_key}
use Rattle.refusals.specs.Refusal.{done, first_refusal, None, none, and}
use Rattle.hashing.specs.Hash.{tabulation_length, max_station, slots_in_range, station_in_range, blank}
use Rattle.hashing.specs.Hash.{Family, tables}
use Rattle.hashing.specs.Slots.{slot_0}
use Rattle.probing.specs.Rule.{table_keys, look}
use Rattle.stolen.specs.Answers.{stolen_image, stolen_family, stolen_canonical, says}
use Rattle.stolen.specs.Answers.{stolen_lookup_refusal, stolen_lookup_refusals, stolen_lookup_values}
use Rattle.stolen.specs.Answers.{stolen_insert_refusal, stolen_insert_refusals, stolen_insert_words}
use Rattle.stolen.specs.Canonical.{StolenImage}
use Rattle.stolen.specs.Calls.{StolenCall, StolenStep, stolen_step, stolen_run, stolen_left, Register}
use Rattle.stolen.specs.Calls.{StolenReply}
use Rattle.stolen.specs.Calls.{named, names_own, register_lookup_tests, register_insert_tests, hears}
use Rattle.stolen.specs.Calls.{stolen_reply}
use Rattle.stolen.specs.Calls.{stolen_model, register_left}

-- a reply of the register, its set as words
abbrev pub shown : Register → List ℕ
shown R = stolen_image R.family R.keys

abbrev pub stolen_pictured : StolenReply → StolenStep
stolen_pictured m = record { number = m.number; values = m.values; words = shown m.register }

-- The words are the image of the register's set, whose keys ascend, none of them blank, and are no more than the slots;
-- its book has its length, slots and station are in their ranges.
pub record StolenKept (R : Register) (ws : List ℕ) : Type 0 where
  pub full_length : length R.family.tabulation ≡ tabulation_length
  pub slots : slots_in_range R.family.slots ≡ true
  pub station : station_in_range R.family.station ≡ true
  pub image : StolenImage R.family R.keys ws

-- What holds of a sequence on words that a register keeps.
pub record StolenFollows (R : Register) (ws : List ℕ) (cs : List StolenCall) : Type 0 where
  -- Each call answers what the register answers, and the words after it are the image of the register's set.
  pub trace : stolen_run ws cs ≡ map stolen_pictured (stolen_model R cs)
  pub registers : (m : StolenReply) → In m (stolen_model R cs) → StolenKept m.register (shown m.register)
  -- The same after the whole sequence.
  pub final : StolenKept (register_left R cs) (stolen_left ws cs)

-- What a sequence may start with: zeros, and a register without keys. Its book has its length, its slots and its
-- station are in their ranges.
abbrev pub empty_register : Family → Register
empty_register F = record { family = F; keys = [] }

pub record Ranged (F : Family) : Type 0 where
  pub full_length : length F.tabulation ≡ tabulation_length
  pub slots : slots_in_range F.slots ≡ true
  pub station : station_in_range F.station ≡ true
