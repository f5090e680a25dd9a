-- `salvage::choose` meets its contract: after i turns those of the first i candidates that stand are at the front, with
-- their edges.
use lib.Dec.{eqb}
use Rattle.layout.specs.Layout.{family_of, spot_key}
use Rattle.scratch_set.specs.Edges.{edge_of}
use Rattle.survivors.specs.Salvage.{counting, standing}
use Rattle.salvage.specs.Chosen.{candidates, standing_tier, ChosenTo}
use Rattle.salvage.proofs.choose.Given as goal

abbrev pub invariant-loop-i : goal.invariant-loop-i
invariant-loop-i l =
    ChosenTo (λ c. eqb (spot_key (standing (counting l.tabulation l.words) c)) c)
    (edge_of (family_of l.tabulation l.words) (standing_tier l.tabulation l.words))
    (candidates l.tabulation l.words) l.initial.scratch l.scratch
    l.start l.i l.m
