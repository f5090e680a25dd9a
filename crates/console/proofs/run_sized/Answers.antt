-- `console::run_sized` has words enough for all sizes in their ranges.
use Rattle.std.proofs.Common.{sym, ◌∙◌, arith}
use Rattle.layout.proofs.Shape.{sized}
use Rattle.console.proofs.run_sized.Goals as goal

pub run_part-requires : goal.run_part-requires
run_part-requires g c = let z = sized _ _ (sym c.are_sizes.ensures ∙ c.if-not-are_sizes.false) in (z, omega (arith, z))
