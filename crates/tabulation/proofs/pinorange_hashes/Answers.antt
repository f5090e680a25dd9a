-- `tabulation::pinorange_hashes` meets its contract: it hands on what `hashes` answers.
use Rattle.hashing.proofs.Answer.{written_at, written_refused}
use Rattle.tabulation.proofs.pinorange_hashes.Goals as goal

pub returns-in-Ok-clause-first_hash : goal.returns-in-Ok-clause-first_hash
returns-in-Ok-clause-first_hash c = (written_at _ _ _ c.in-Ok.ensures.valued).0

pub returns-in-Ok-clause-second_hash : goal.returns-in-Ok-clause-second_hash
returns-in-Ok-clause-second_hash c = (written_at _ _ _ c.in-Ok.ensures.valued).1

pub returns-in-Err-clause-first_hash : goal.returns-in-Err-clause-first_hash
returns-in-Err-clause-first_hash c = written_refused _ _ _ c.in-Err.ensures.valued 0

pub returns-in-Err-clause-second_hash : goal.returns-in-Err-clause-second_hash
returns-in-Err-clause-second_hash c = written_refused _ _ _ c.in-Err.ensures.valued 1
