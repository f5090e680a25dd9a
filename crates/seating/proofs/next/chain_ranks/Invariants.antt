-- `seating::next::chain_ranks` meets its contract: the ranks above the present one have their next.
use Rattle.build.specs.Scratch.{parts}
use Rattle.build.specs.NextCode.{Linked}
use Rattle.seating.proofs.next.chain_ranks.Given as goal

abbrev pub invariant-loop-rank : goal.invariant-loop-rank
invariant-loop-rank l = Linked l.r l.n (parts l.r l.s l.n l.initial.scratch) l.rank (parts l.r l.s l.n l.scratch)
