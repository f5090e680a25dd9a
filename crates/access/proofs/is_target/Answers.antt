-- `access::is_target` meets its contract: its two tests are the definition's.
use Rattle.std.proofs.Common.{sym, ◌∙◌}
use Rattle.layout.proofs.Shape.{ranged}
use Rattle.access.proofs.is_target.Goals as goal

pub length_for-requires : goal.length_for-requires
length_for-requires c = (ranged _ _ _ (sym c.are_params.ensures ∙ c.if-are_params.true)).0
