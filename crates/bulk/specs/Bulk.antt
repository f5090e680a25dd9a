-- Bulk load (document 02, "Seven": head office sends the whole list): its whole outcome for every tabulation, input,
-- target and scratch. The contracts are equalities with these definitions, and a sequence of calls may start with an
-- accepted one. This file is what a reader must believe; Laws.antt says what it means.
use Rattle.std.specs.Prelude.{ℕ, ◌%◌, Bool, true, not, cond, ◌&&◌, ◌||◌, List, [], ◌∷◌, ◌++◌, eqb, ltb, length, replicate}
use Rattle.basics.specs.Sets.{any}
use Rattle.refusals.specs.Refusal.{done, wrong_tabulation, short_scratch, blank_key, stash_full, wrong_tier}
use Rattle.refusals.specs.Refusal.{other_issue, not_rising, first_refusal}
use Rattle.hashing.specs.Hash.{tabulation_length, blank}
use Rattle.layout.specs.Entries.{Entry, max_tier}
use Rattle.layout.specs.Layout.{Params, one_issue, scratch_length, fits, image}
use Rattle.layout.specs.Answers.{fresh_refusals}
use Rattle.outcome.specs.Outcome.{Outcome}

-- "r, s and station are given as when laying", and the tabulation is lent
abbrev pub params_for : List ℕ → ℕ → ℕ → ℕ → Params
params_for tabulation r s station = record { tabulation = tabulation; slots = r; places = s; station = station }

-- the input

-- "Lent words alternate card and tier": the keys, "a lone last word being a card",
unfoldable pub input_keys : List ℕ → List ℕ
input_keys [] = []
input_keys (c ∷ []) = c ∷ []
input_keys (c ∷ t ∷ ws) = c ∷ input_keys ws

-- the tiers,
unfoldable pub input_tiers : List ℕ → List ℕ
input_tiers [] = []
input_tiers (c ∷ []) = []
input_tiers (c ∷ t ∷ ws) = t ∷ input_tiers ws

-- and the keys with their tiers: the set that is laid
unfoldable pub input_set : List ℕ → List Entry
input_set [] = []
input_set (c ∷ []) = []
input_set (c ∷ t ∷ ws) = record { key = c; tier = t } ∷ input_set ws

-- "odd number of words"
abbrev pub odd_length : List ℕ → Bool
odd_length input = eqb (length input % 2) 1

-- "strictly rising"
unfoldable pub rising : List ℕ → Bool
rising [] = true
rising (c ∷ []) = true
rising (c ∷ d ∷ S) = ltb c d && rising (d ∷ S)

-- the refusals

-- "Checks are 1, 2 for the target's r, s, station and length, and 3", of a target of n words, which is tried as init
-- tries it, and scratch of m;
abbrev pub target_refusals : Params → ℕ → ℕ → List (ℕ × Bool)
target_refusals P n m =
    (wrong_tabulation, not (eqb (length P.tabulation) tabulation_length))
    ∷ (fresh_refusals n P.slots P.places P.station
    ++ ((short_scratch, ltb m (scratch_length P.slots P.places)) ∷ []))

-- "then 5, 9, 14 and 13 (between input cards), each over the whole input",
abbrev pub input_refusals : List ℕ → List (ℕ × Bool)
input_refusals input =
    (blank_key, any blank (input_keys input))
    ∷ (wrong_tier, any (ltb max_tier) (input_tiers input))
    ∷ (not_rising, odd_length input || not (rising (input_keys input)))
    ∷ (other_issue, not (one_issue (input_keys input)))
    ∷ []

-- "then 8."
abbrev pub room_refusals : Params → List ℕ → List (ℕ × Bool)
room_refusals P input = (stash_full, not (fits P (input_keys input))) ∷ []

unfoldable pub bulk_refusal : Params → List ℕ → ℕ → ℕ → ℕ
bulk_refusal P input n m =
    first_refusal (target_refusals P n m ++ (input_refusals input ++ room_refusals P input))

-- "All is refused or all is laid, and a refusal leaves the target unchanged." The scratch is zero over its full length
-- either way.
unfoldable pub bulk_outcome : Params → List ℕ → List ℕ → List ℕ → Outcome
bulk_outcome P input ws scratch =
    let n = bulk_refusal P input (length ws) (length scratch) in
    record {
      answer = n;
      words = cond (eqb n done) (image P (input_set input)) ws;
      scratch = replicate (length scratch) 0;
    }
