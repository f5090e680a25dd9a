-- The whole outcome of the trail call, for every tabulation, words, scratch, key and lent trail: number, values, words, scratch and trail (document 02, "Two").
-- The contract is an equality with `trail_outcome`; the trail itself is defined in cuckoo/specs/Trail.antt. TrailLaws.antt has the laws.
use Rattle.std.specs.Prelude.{ℕ, ◌-◌, Bool, not, cond, List, [], ◌∷◌, ◌++◌, eqb, ltb, length, replicate, Result, Ok, Err}
use Rattle.basics.specs.Sets.{member}
use Rattle.cuckoo.specs.Graph.{seated}
use Rattle.cuckoo.specs.Trail.{trail}
use Rattle.refusals.specs.Refusal.{done, blank_key, key_absent, short_trail, first_refusal}
use Rattle.refusals.specs.declared.Refusal.{Refusal}
use Rattle.hashing.specs.Hash.{blank}
use Rattle.hashing.specs.Slots.{slot_0, slot_1}
use Rattle.layout.specs.Entries.{keys_of}
use Rattle.layout.specs.Layout.{Params, family, params_of, keys_in, set_in}
use Rattle.layout.specs.Ready.{first_refusals}

-- "the call tells how many": the values of the answer: how many keys the trail has
abbrev pub values : Result ℕ Refusal → List ℕ
values (Ok n) = n ∷ []
values (Err refusal) = []

-- the trail of a key among the seated keys of S; "a drawer card's trail is empty"
abbrev pub trail_of : Params → List ℕ → ℕ → List ℕ
trail_of P S key =
    let a = slot_0 (family P) in
    let b = slot_1 (family P) in
    trail a b (seated a b S) key

-- the trail of a key in the words: among the keys that stand in them
abbrev pub trail_in : List ℕ → List ℕ → ℕ → List ℕ
trail_in tabulation ws key = trail_of (params_of tabulation ws) (keys_in ws) key

-- "Checks run as for withdraw": these after 4; "11 (trail sheet shorter than the trail) after 7", where n words are lent for the trail
abbrev pub trail_refusals : List ℕ → List ℕ → ℕ → ℕ → List (ℕ × Bool)
trail_refusals tabulation ws key n =
    (blank_key, blank key)
    ∷ (key_absent, not (member key (keys_of (set_in tabulation ws))))
    ∷ (short_trail, ltb n (length (trail_in tabulation ws key)))
    ∷ []

unfoldable pub trail_refusal : List ℕ → List ℕ → List ℕ → ℕ → ℕ → ℕ
trail_refusal tabulation ws scratch key n = first_refusal (first_refusals tabulation ws scratch ++ trail_refusals tabulation ws key n)

pub record TrailOutcome : Type 0 where
  pub number : ℕ
  pub values : List ℕ
  pub words : List ℕ
  pub scratch : List ℕ
  pub trail : List ℕ

-- "Its card numbers are written to a lent sheet, rest zeros, and the call tells how many"; "every refusal leaves the trail sheet unchanged", "and the borrowed
-- work sheet is zeroed". The words are only read.
unfoldable pub trail_outcome : List ℕ → List ℕ → List ℕ → ℕ → List ℕ → TrailOutcome
trail_outcome tabulation ws scratch key sheet =
    let n = trail_refusal tabulation ws scratch key (length sheet) in
    let L = trail_in tabulation ws key in
    record {
      number = n;
      values = cond (eqb n done) (length L ∷ []) [];
      words = ws;
      scratch = replicate (length scratch) 0;
      trail = cond (eqb n done) (L ++ replicate (length sheet - length L) 0) sheet;
    }
