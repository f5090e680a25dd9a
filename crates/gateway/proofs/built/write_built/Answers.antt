-- `gateway::built::write_built` meets its contract: what is lent to `image` are the parts of scratch, and the heading says r, s and n.
use mathlib.Core.Path.{◌∙◌, ap}
use lib.ListN.{length}
use Rattle.gateway.specs.Columns.{RanksReadable, readable_stash}
use borrow.Author.Rules.{rules}
use Rattle.gateway.proofs.built.write_built.Goals as goal

pub graph_part-graph-requires : goal.graph_part-graph-requires
graph_part-graph-requires c =
    let readable : let h = c.args.header in RanksReadable h.slots h.places c.wide-n.result c.args.scratch.now = rw c.wide-n.ensures c.requires.1 in
    readable

pub next_part-next-requires : goal.next_part-next-requires
next_part-next-requires c =
    let readable : let h = c.args.header in RanksReadable h.slots h.places c.wide-n.result c.args.scratch.now = rw c.wide-n.ensures c.requires.1 in
    readable

pub stash_part-stash-requires : goal.stash_part-stash-requires
stash_part-stash-requires c =
    let readable : let h = c.args.header in RanksReadable h.slots h.places c.wide-n.result c.args.scratch.now = rw c.wide-n.ensures c.requires.1 in
    readable

pub write_image-requires : goal.write_image-requires
write_image-requires c =
    let readable : let h = c.args.header in RanksReadable h.slots h.places c.wide-n.result c.args.scratch.now = rw c.wide-n.ensures c.requires.1 in
    let p = c.requires in (
      (p.1.sizes, (p.0, ap length c.stash_part-stash.ensures ∙ readable_stash (readable))),
      rw (c.graph_part-graph.ensures, c.next_part-next.ensures, c.stash_part-stash.ensures, c.wide-n.ensures) p.1.ranked,
    )

pub returns : goal.returns
returns c =
    rw (c.graph_part-graph.ensures, c.next_part-next.ensures, c.stash_part-stash.ensures, c.wide-n.ensures) at c.write_image.ensures
