-- Calls of another kind in a sequence: where one may stand it agrees with the model, and like ones answer and leave the
-- same. Then those that exist today: init, bulk load and a salvage that would write over the words, which may stand
-- where they are refused; the hashes and the trail of a key and a salvage of the words, which may stand anywhere, as any
-- call that only reads the words. Assumes nothing.
use Rattle.std.specs.Prelude.{ℕ, ◌≡◌, refl, List, [], ◌++◌, length}
use Rattle.std.proofs.Common.{ne_eqb}
use Rattle.refusals.specs.Refusal.{done}
use Rattle.hashing.specs.Hash.{Family}
use Rattle.hashing.specs.Answer.{hashes_refusal, hashes_values}
use Rattle.layout.specs.Entries.{Entry}
use Rattle.layout.specs.Layout.{Params}
use Rattle.layout.specs.Answers.{fresh_refusal, fresh_words}
use Rattle.outcome.specs.Held.{Holds}
use Rattle.outcome.specs.Trail.{trail_outcome}
use Rattle.outcome.specs.TrailLaws.{trail_words}
use Rattle.bulk.specs.Bulk.{params_for, bulk_outcome}
use Rattle.bulk.specs.Laws.{bulk_refused}
use Rattle.survivors.specs.Salvage.{salvage_outcome}
use Rattle.survivors.proofs.Laws.{salvage_refused, salvage_words}
use Rattle.history.specs.Calls.{Answer, Other, Call, step, OtherStands, refused, unchanged, Like}
use Rattle.history.specs.Model.{Request, reply}
use Rattle.history.specs.Agrees.{Agrees}

-- init, with any r, s and station

pub init_leaves : (ws : List ℕ) (r s station : ℕ) → (fresh_refusal (length ws) r s station ≡ done → ⊥) → fresh_words ws r s station ≡ ws
unfolding fresh_words
init_leaves ws r s station n = rw (ne_eqb (fresh_refusal (length ws) r s station) done n)

abbrev pub init : ℕ → ℕ → ℕ → Other
init r s station = record {
  answer = λ ws. record { number = fresh_refusal (length ws) r s station; values = [] };
  words = λ ws. fresh_words ws r s station;
  leaves = λ ws n. init_leaves ws r s station n;
}

-- bulk load, with any tabulation, r, s, station, input and scratch, over the words of the sequence: refused, it leaves
-- them ("a refusal leaves the target unchanged"), and may stand there; accepted, it starts another sequence (`Start`)

abbrev pub loading : (tabulation : List ℕ) (r s station : ℕ) (input scratch : List ℕ) → Other
loading tabulation r s station input scratch = record {
  answer = λ ws.
      record { number = (bulk_outcome (params_for tabulation r s station) input ws scratch).answer; values = [] };
  words = λ ws. (bulk_outcome (params_for tabulation r s station) input ws scratch).words;
  leaves = λ ws n. bulk_refused (params_for tabulation r s station) input ws scratch n;
}

-- a salvage of other words, over those of the sequence: "every refusal leaves the second area unchanged", and then it
-- may stand there; accepted, it starts another sequence (`Start`)

abbrev pub salvaging_over : (tabulation damaged scratch : List ℕ) → Other
salvaging_over tabulation damaged scratch = record {
  answer = λ ws.
      let o = salvage_outcome tabulation damaged ws scratch in
      record { number = o.number; values = o.values };
  words = λ ws. (salvage_outcome tabulation damaged ws scratch).target;
  leaves = λ ws n. salvage_refused tabulation damaged ws scratch n;
}

-- calls that only read the words

abbrev pub reads : (List ℕ → Answer) → Other
reads answer = record { answer = answer; words = λ ws. ws; leaves = λ ws n. refl }

-- The hashes of a key, for any tabulation, r and station: the call is not even lent the words.
abbrev pub hashes : Family → ℕ → Other
hashes F key = reads (λ ws. record { number = hashes_refusal F key; values = hashes_values F key })

-- The trail of a key, with any tabulation, scratch and lent trail. Its values are how many keys the trail has, none if it is refused, and the words that are
-- lent for it, as they are afterwards.
abbrev pub tracing : (tabulation scratch : List ℕ) (key : ℕ) (sheet : List ℕ) → Other
tracing tabulation scratch key sheet = record {
  answer = λ ws.
      let o = trail_outcome tabulation ws scratch key sheet in
      record { number = o.number; values = o.values ++ o.trail };
  words = λ ws. (trail_outcome tabulation ws scratch key sheet).words;
  leaves = λ ws n. trail_words tabulation ws scratch key sheet;
}

-- A salvage of the words of the sequence, with any tabulation, target and scratch. Its values are how many are lost, none
-- if it is refused, and the target, as it is afterwards.
abbrev pub salvaging : (tabulation target scratch : List ℕ) → Other
salvaging tabulation target scratch = record {
  answer = λ ws.
      let o = salvage_outcome tabulation ws target scratch in
      record { number = o.number; values = o.values ++ o.target };
  words = λ ws. (salvage_outcome tabulation ws target scratch).words;
  leaves = λ ws n. salvage_words tabulation ws target scratch;
}
