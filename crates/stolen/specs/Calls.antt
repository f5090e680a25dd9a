-- Sequences of calls on the words of one list of stolen keys, and the plain register beside them, which has a set of
-- keys and no words. This file and the record of Sequences.antt are what a reader must believe besides Answers.antt.
use Rattle.std.specs.Prelude.{ℕ, ◌<◌, ◌≡◌, Bool, not, cond, ◌&&◌, List, [], ◌∷◌, eqb, length}
use Rattle.basics.specs.Sets.{member}
use Rattle.basics.specs.Lists.{same}
use Rattle.ordered.specs.Keys.{with_key}
use Rattle.refusals.specs.Refusal.{done, wrong_tabulation, wrong_shape, not_canonical, blank_key, key_present}
use Rattle.refusals.specs.Refusal.{table_full}
use Rattle.refusals.specs.Refusal.{first_refusal}
use Rattle.hashing.specs.Hash.{tabulation_length, max_station, station_in_range, blank, Family, tables}
use Rattle.hashing.specs.Slots.{slot_0}
use Rattle.probing.specs.Rule.{look}
use Rattle.stolen.specs.Answers.{stolen_image, says, stolen_lookup_refusal, stolen_lookup_values}
use Rattle.stolen.specs.Answers.{stolen_insert_refusal, stolen_insert_words}

-- A call with its arguments, the words aside. Each may lend any book, of any length, and name any station.
pub data StolenCall : Type 0 where
  insert : (tabulation : List ℕ) (station key : ℕ) → StolenCall
  lookup : (tabulation : List ℕ) (station key : ℕ) → StolenCall

-- what a call answers, document 01's number and values (a lookup's 1 or 0), and the words after it
pub record StolenStep : Type 0 where
  pub number : ℕ
  pub values : List ℕ
  pub words : List ℕ

-- by the very definitions that the contracts cite
unfoldable pub stolen_step : List ℕ → StolenCall → StolenStep
stolen_step ws (insert tabulation station key) = record {
  number = stolen_insert_refusal tabulation ws station key;
  values = [];
  words = stolen_insert_words tabulation ws station key;
}
stolen_step ws (lookup tabulation station key) = record {
  number = stolen_lookup_refusal tabulation ws station key;
  values = stolen_lookup_values tabulation ws station key;
  words = ws;
}

-- each call gets the words that the last one left: every step, and the words in the end
unfoldable pub stolen_run : List ℕ → List StolenCall → List StolenStep
stolen_run ws [] = []
stolen_run ws (c ∷ cs) = let o = stolen_step ws c in o ∷ stolen_run o.words cs

unfoldable pub stolen_left : List ℕ → List StolenCall → List ℕ
stolen_left ws [] = ws
stolen_left ws (c ∷ cs) = stolen_left (stolen_step ws c).words cs

-- The register: a set of keys, and the book, number of slots and station under which the last of them was put in.
pub record Register : Type 0 where
  pub family : Family
  pub keys : List ℕ

-- what it answers, and itself afterwards
pub record StolenReply : Type 0 where
  pub number : ℕ
  pub values : List ℕ
  pub register : Register

module _ (R : Register) (tabulation : List ℕ) (station : ℕ) where
  -- book and station of a call, with the register's number of slots; and whether they are the register's own
  abbrev pub named : Family
  named = tables tabulation R.family.slots station

  abbrev pub names_own : Bool
  names_own = same R.family.tabulation tabulation && eqb R.family.station station

  -- the length of its words is never wrong: of 2 the station is left
  abbrev pub register_lookup_tests : ℕ → List (ℕ × Bool)
  register_lookup_tests key =
      (wrong_tabulation, not (eqb (length tabulation) tabulation_length))
      ∷ (wrong_shape, not (station_in_range station))
      ∷ (blank_key, blank key)
      ∷ []

  -- 4: under the call's book and station its set has another image than under its own. "16 (all pockets filled) after
  -- 6": it has as many keys as slots.
  abbrev pub register_insert_tests : ℕ → List (ℕ × Bool)
  register_insert_tests key =
      (wrong_tabulation, not (eqb (length tabulation) tabulation_length))
      ∷ (wrong_shape, not (station_in_range station))
      ∷ (not_canonical, not (same (stolen_image R.family R.keys) (stolen_image named R.keys)))
      ∷ (blank_key, blank key)
      ∷ (key_present, member key R.keys)
      ∷ (table_full, eqb (length R.keys) R.family.slots)
      ∷ []

  -- Whether a key is reported: "yes exactly for the set". Under another book or station: what a look-up "on any words"
  -- finds in the image of the set.
  abbrev pub hears : ℕ → Bool
  hears key =
      cond names_own (member key R.keys)
      (look (slot_0 named) R.family.slots (stolen_image R.family R.keys) key)

-- a refusal changes nothing; an accepted key is in the set, under the call's book and station
unfoldable pub stolen_reply : Register → StolenCall → StolenReply
stolen_reply R (insert tabulation station key) =
    let n = first_refusal (register_insert_tests R tabulation station key) in
    record {
      number = n;
      values = [];
      register = cond (eqb n done) (record { family = named R tabulation station; keys = with_key key R.keys }) R;
    }
stolen_reply R (lookup tabulation station key) =
    let n = first_refusal (register_lookup_tests R tabulation station key) in
    record { number = n; values = cond (eqb n done) (says (hears R tabulation station key)) []; register = R }

-- the reply to each call, and the register in the end
unfoldable pub stolen_model : Register → List StolenCall → List StolenReply
stolen_model R [] = []
stolen_model R (c ∷ cs) = let o = stolen_reply R c in o ∷ stolen_model o.register cs

unfoldable pub register_left : Register → List StolenCall → Register
register_left R [] = R
register_left R (c ∷ cs) = register_left (stolen_reply R c).register cs

-- "with one book, station and length": a call names those of F; or it lends a book of a wrong length, or names no
-- station, and is refused for that
pub data NamesOne (F : Family) (tabulation : List ℕ) (station : ℕ) : Type 0 where
  own : tabulation ≡ F.tabulation → station ≡ F.station → NamesOne F tabulation station
  wrong_book : (length tabulation ≡ tabulation_length → ⊥) → NamesOne F tabulation station
  no_station : max_station < station → NamesOne F tabulation station

abbrev pub Ours : Family → StolenCall → Type 0
Ours F (insert tabulation station key) = NamesOne F tabulation station
Ours F (lookup tabulation station key) = NamesOne F tabulation station
