-- `candidates::is_own` meets its contract: in each table the key has one slot.
use Rattle.candidates.specs.Candidates.{own_second}
use Rattle.candidates.proofs.is_own.Goals as goal

pub returns-else-v-r : goal.returns-else-v-r
returns-else-v-r c = rw c.second_slot.ensures (own_second _ c.requires.has_slots _ _ c.if-v-r.false)
