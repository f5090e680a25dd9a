use Rattle.std.proofs.Common.{◌≡◌, ◌∙◌, ℕ, suc, ◌-◌, ◌≤◌, arith, rules}
use Rattle.build.specs.Scratch.{Parts}
use Rattle.build.proofs.Access.{enough_kept}
use Rattle.build.specs.FinishCode.{Finishable, rank_finished, ranks_finished}
use Rattle.build.proofs.FinishCode.{finished_none, finished_able, finished_more}
use Rattle.seating.proofs.finish.finish_ranks.Goals as goal

-- one rank more
again : {r n i rank k : ℕ} {Q : Parts} (P : Parts) → Finishable r n P → Q ≡ ranks_finished r i P → i ≤ n → rank ≡ suc i → k ≡ suc i
    → rank_finished r rank Q ≡ ranks_finished r k P
again {i = i} P K e l this next = rw (e, this, next) (finished_more P K i l)

pub loop-rank-init : goal.loop-rank-init
loop-rank-init c = (search rules, finished_none _ c.requires.1)

pub finish_rank-requires : goal.finish_rank-requires
finish_rank-requires c =
    let l = c.loop-rank in
    (enough_kept c.requires.0 l.auto.scratch, omega arith, rw l.invariant.1 (finished_able _ c.requires.1 (l.rank - 1) (omega arith)))

pub loop-rank-preserved : goal.loop-rank-preserved
loop-rank-preserved c =
    (omega arith, c.finish_rank.ensures ∙ again _ c.requires.1 c.loop-rank.invariant.1 (omega arith) (omega arith) (omega arith))

pub returns-2 : goal.returns-2
returns-2 c =
    c.finish_rank.ensures ∙ again _ c.requires.1 c.loop-rank.invariant.1 (omega arith) (omega arith) (omega arith)
