-- `forest::exchange` meets its contract: the two calls one after the other, over edges that stay.
use Rattle.forest.proofs.Graph.{kept_start, kept_graph, kept_rank, kept_edges, taken, taken_turned, exchange_done}
use borrow.Author.Rules.{rules}
use Rattle.forest.proofs.exchange.Goals as goal

pub second_slot-second-requires : goal.second_slot-second-requires
second_slot-second-requires c =
    let K = taken c.requires.0 c.args.rank c.requires.2 c.args.low c.requires.3 in
    (kept_graph c.requires.0 K, search rules, rw (kept_edges c.requires.0 K) c.requires.2)

pub reroot-requires : goal.reroot-requires
reroot-requires c =
    let K = taken c.requires.0 c.args.rank c.requires.2 c.args.low c.requires.3 in
    (kept_graph c.requires.0 K, search rules, rw (kept_edges c.requires.0 K) c.requires.2)

pub first_slot-first-requires : goal.first_slot-first-requires
first_slot-first-requires c =
    let K = taken_turned c.requires.0 c.args.rank c.requires.2 c.args.low c.requires.3 _ c.reroot.ensures in
    (kept_graph c.requires.0 K, rw (kept_edges c.requires.0 K) (kept_rank c.requires.0 (kept_start c.requires.0) c.args.low c.requires.3))

pub reroot-requires-2 : goal.reroot-requires-2
reroot-requires-2 c =
    let K = taken_turned c.requires.0 c.args.rank c.requires.2 c.args.low c.requires.3 _ c.reroot.ensures in (
      kept_graph c.requires.0 K,
      search rules,
      rw (kept_edges c.requires.0 K) (kept_rank c.requires.0 (kept_start c.requires.0) c.args.low c.requires.3),
    )

pub returns : goal.returns
returns c =
    exchange_done c.requires.0 c.args.rank c.requires.2 c.args.low c.requires.3 c.second_slot-second.ensures.0 c.reroot.ensures
    c.first_slot-first.ensures.0 c.reroot-2.ensures
