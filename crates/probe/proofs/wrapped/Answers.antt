-- `probe::wrapped` meets its contract.
use mathlib.Core.Path.{sym}
use native.Mathlib.Omega.{arith}
use Rattle.probing.proofs.Walls.{wrap_low, wrap_high}
use Rattle.probe.proofs.wrapped.Goals as goal

pub returns-then-number-slots : goal.returns-then-number-slots
returns-then-number-slots c = record {
  at = sym (wrap_low _ _ c.if-number-slots.true);
  inside = c.if-number-slots.true;
}

pub returns-else-number-slots : goal.returns-else-number-slots
returns-else-number-slots c = record {
  at = sym (wrap_high _ _ c.if-number-slots.false);
  inside = omega arith;
}
