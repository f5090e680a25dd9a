-- `stolen_table::start_of` meets its contract.
use mathlib.Core.Path.{◌∙◌}
use native.Mathlib.Omega.{arith}
use Rattle.hashing.specs.Hash.{tables}
use Rattle.hashing.proofs.Slots.{slot_0_lt}
use Rattle.stolen_table.proofs.start_of.Goals as goal

pub returns : goal.returns
returns c =
    let a = c.args in
    let e = c.wide.ensures ∙ c.hash_in.ensures in
    record {
      at = e;
      inside = omega (arith, e, slot_0_lt (tables a.tabulation.now a.slots a.station) c.requires.has_slots a.key);
    }
