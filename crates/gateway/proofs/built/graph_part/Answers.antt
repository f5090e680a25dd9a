-- `gateway::built::graph_part` meets its contract: from where held begins to the last of the n edges.
use Prim.Native.Nat.{◌+◌, ◌*◌}
use native.Mathlib.Omega.{arith}
use Rattle.build.specs.Scratch.{parts, held_at}
use Rattle.basics.proofs.Parts.{part_lent}
use borrow.Author.Rules.{rules}
use Rattle.gateway.proofs.built.graph_part.Goals as goal

pub returns : goal.returns
unfolding parts
returns c =
    let d = c.args in
    part_lent d.scratch.now (held_at d.r d.s) (2 * d.r + d.n) c.graph_range.ensures.0 (omega (arith, c.graph_range.ensures))
