-- `gateway::built::next_part` meets its contract: as many words as there are keys, from where next begins.
use Prim.Native.Nat.{◌+◌, ◌*◌}
use native.Mathlib.Omega.{arith}
use Rattle.build.specs.Scratch.{parts, next_at}
use Rattle.basics.proofs.Parts.{part_lent}
use borrow.Author.Rules.{rules}
use Rattle.gateway.proofs.built.next_part.Goals as goal

pub returns : goal.returns
unfolding parts
returns c =
    let d = c.args in
    part_lent d.scratch.now (next_at d.r d.s) (2 * d.r + d.s + 1) c.next_start-start.ensures
    (omega (arith, c.next_start-start.ensures, c.held_start.ensures))
