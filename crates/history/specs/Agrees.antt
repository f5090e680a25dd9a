-- What the theorem about whole sequences needs of one call, as a record, and what the kinds of calls share. Each kind
-- has a lemma that gives the record (in Changes, Reads or Others), and History.antt uses nothing else of it: so a later
-- kind of call is one more such file. The theorem itself does not name this record, only its proof. Assumes nothing.
use Rattle.std.specs.Prelude.{ℕ, ◌≡◌, true, false, not, List, length}
use Rattle.std.proofs.Common.{ap, eq-eqb, ne_eqb}
use Rattle.hashing.specs.Hash.{tabulation_length}
use Rattle.layout.specs.Layout.{Params}
use Rattle.outcome.specs.Held.{Holds}
use Rattle.history.specs.Calls.{own, wrong, Step}
use Rattle.history.specs.Model.{Reply, wrong_length}

-- What a call answers and leaves, o, agrees with what the model replies to it, m. A kind's lemma shows this on words
-- that hold the model's set; `holds` says the same of the words that the next call gets.
pub record Agrees (P : Params) (o : Step) (m : Reply) : Type 0 where
  -- the call answers what the model answers,
  pub answer : o.answer ≡ m.answer
  -- and leaves a dictionary that holds the model's set
  pub holds : Holds P m.set o.words
