-- `linking::link_rank` meets its contract: what `ends_of` found of the rank is the record `Found`, whose laws say the rest.
use native.Mathlib.Omega.{arith}
use mathlib.Core.Path.{◌∙◌}
use Rattle.build.proofs.Access.{enough_kept, edges_count}
use Rattle.build.proofs.LinkCode.{one_marked, two_marked, ends_merge, end_fits, within_sets, marked_graph, turned_sets, between_sets}
use borrow.Author.Rules.{rules}
use Rattle.linking.proofs.link_rank.Goals as goal

pub returns-then-ends : goal.returns-then-ends
returns-then-ends c =
    c.put_word.ensures ∙ within_sets c.requires.3 c.ends_of-ends.ensures c.if-ends.true

pub smaller_end-end-requires : goal.smaller_end-end-requires
smaller_end-end-requires c =
    let Q = c.requires.3 in
    (search rules, one_marked Q c.ends_of-ends.ensures, two_marked Q c.ends_of-ends.ensures)

pub reroot_graph-requires : goal.reroot_graph-requires
reroot_graph-requires c =
    let K = c.ends_of-ends.ensures in
    let g = marked_graph c.requires.3 K c.put_word-2.ensures in (
      search rules,
      rw g c.requires.3.graph,
      end_fits K _ c.smaller_end-end.ensures c.requires.3.graph.edges,
      rw g (omega (arith, edges_count c.requires.0, c.requires.2)),
    )

pub unite_sets-requires : goal.unite_sets-requires
unite_sets-requires c =
    let K = c.ends_of-ends.ensures in
    let Q = c.requires.3 in
    (enough_kept c.requires.0 (c.reroot_graph.auto.scratch ∙ c.put_word-2.auto.scratch), rw (turned_sets Q K c.put_word-2.ensures _ c.reroot_graph.ensures) (ends_merge Q K c.if-ends.false))

pub returns : goal.returns
returns c =
    between_sets c.requires.3 c.ends_of-ends.ensures c.put_word-2.ensures _ c.reroot_graph.ensures c.if-ends.false
    c.smaller_end-end.ensures c.unite_sets.ensures
