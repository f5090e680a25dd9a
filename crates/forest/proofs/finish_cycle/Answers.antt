-- `forest::finish_cycle` meets its contract: the calls one after the other, over edges that stay.
use Rattle.forest.proofs.Graph.{kept_graph, kept_edges, bare_turned, cycle_done}
use borrow.Author.Rules.{rules}
use Rattle.forest.proofs.finish_cycle.Goals as goal

pub second_slot-second-requires : goal.second_slot-second-requires
second_slot-second-requires c =
    let K = bare_turned c.requires.0 c.args.rank c.requires.2 _ c.reroot.ensures in
    (kept_graph c.requires.0 K, search rules, rw (kept_edges c.requires.0 K) c.requires.2)

pub lowest_slot-low-requires : goal.lowest_slot-low-requires
lowest_slot-low-requires c =
    (kept_graph c.requires.0 (bare_turned c.requires.0 c.args.rank c.requires.2 _ c.reroot.ensures), search rules)

pub exchange-requires : goal.exchange-requires
exchange-requires c =
    let K = bare_turned c.requires.0 c.args.rank c.requires.2 _ c.reroot.ensures in
    (kept_graph c.requires.0 K, search rules, rw (kept_edges c.requires.0 K) c.requires.2, search rules)

pub returns : goal.returns
returns c =
    cycle_done c.requires.0 c.args.rank c.requires.2 c.first_slot-first.ensures.0 c.reroot.ensures
    c.second_slot-second.ensures.0 c.lowest_slot-low.ensures.0 c.exchange.ensures
