use Rattle.std.proofs.Common.{◌≡◌, ◌∙◌, ℕ, suc, ◌-◌, ◌<◌, length, arith, rules}
use Rattle.forest.specs.Graph.{edges_in}
use Rattle.build.proofs.Access.{enough_kept, edges_count}
use Rattle.build.specs.Scratch.{Parts}
use Rattle.build.specs.LinkCode.{Linkable, rank_linked, ranks_linked}
use Rattle.build.proofs.LinkCode.{after_none, after_linkable, after_more}
use Rattle.linking.proofs.link_each.Goals as goal

-- one rank more
again : {r i rank k : ℕ} {P Q : Parts} → Linkable r P → Q ≡ ranks_linked r i P → i < length (edges_in r P.graph) → rank ≡ suc i → k ≡ suc i
    → rank_linked r rank Q ≡ ranks_linked r k P
again {i = i} L e l is to = rw (e, is, to) (after_more L i l)

pub loop-rank-init : goal.loop-rank-init
loop-rank-init c = (search rules, search rules, after_none c.requires.1)

pub link_rank-requires : goal.link_rank-requires
link_rank-requires c =
    let l = c.loop-rank in (
      enough_kept c.requires.0 l.invariant.1,
      search rules,
      omega arith,
      rw l.invariant.2 (after_linkable c.requires.1 (l.rank - 1) (omega (arith, edges_count c.requires.0))),
    )

pub loop-rank-preserved : goal.loop-rank-preserved
loop-rank-preserved c =
    (omega arith, search rules, c.link_rank.ensures ∙ again c.requires.1 c.loop-rank.invariant.2 (omega (arith, edges_count c.requires.0)) (omega arith) (omega arith))

pub returns-2 : goal.returns-2
returns-2 c =
    c.link_rank.ensures ∙ again c.requires.1 c.loop-rank.invariant.2 (omega (arith, edges_count c.requires.0)) (omega arith) (omega arith)
