-- `bulk_load::target_refusal` meets its contract: scratch is asked of sizes that are in their ranges.
use Rattle.std.proofs.Common.{sym, ◌∙◌}
use Rattle.layout.proofs.Shape.{ranged}
use Rattle.layout.proofs.Fresh.{target_sizes}
use Rattle.bulk_load.proofs.target_refusal.Goals as goal

pub scratch_for-requires : goal.scratch_for-requires
scratch_for-requires c =
    (ranged _ _ _ (target_sizes _ _ _ _ (sym c.is_target.ensures ∙ c.if-not-is_target.false)).0).0
