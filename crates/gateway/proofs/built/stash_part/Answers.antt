-- `gateway::built::stash_part` meets its contract: s words from where the stash begins.
use native.Mathlib.Omega.{arith}
use Rattle.build.specs.Scratch.{parts, stashed_at}
use Rattle.basics.proofs.Parts.{part_lent}
use borrow.Author.Rules.{rules}
use Rattle.gateway.proofs.built.stash_part.Goals as goal

pub returns : goal.returns
unfolding parts
returns c =
    let d = c.args in
    part_lent d.scratch.now (stashed_at d.r d.s) d.s c.stashed_start-start.ensures (omega (arith, c.stashed_start-start.ensures, c.wide.ensures))
