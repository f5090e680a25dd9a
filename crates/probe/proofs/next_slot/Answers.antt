-- `probe::next_slot` meets its contract.
use mathlib.Core.Path.{◌∙◌}
use Rattle.probe.specs.Turns.{wrap_after}
use Rattle.probe.proofs.next_slot.Goals as goal

pub returns : goal.returns
returns c = record {
  at = c.wrapped.ensures.at ∙ wrap_after _ _ c.requires;
  inside = c.wrapped.ensures.inside;
}
