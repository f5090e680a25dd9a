-- `counters::counted_by` meets its contract: an accepted call moves `done` on, a refusal moves `refused` on.
use borrow.Author.Tests.{eq-eqb, ne_eqb}
use Rattle.counters.specs.Counters.{counted}
use Rattle.counters.proofs.counted_by.Goals as goal

pub returns-then-answer-eq0 : goal.returns-then-answer-eq0
unfolding counted
returns-then-answer-eq0 c = simp (eq-eqb _ _ c.before.if-answer-eq0.true, c.one_more.ensures)

pub returns-else-answer-eq0 : goal.returns-else-answer-eq0
unfolding counted
returns-else-answer-eq0 c = simp (ne_eqb _ _ c.before.if-answer-eq0.false, c.one_more-else-answer-eq0.ensures)
