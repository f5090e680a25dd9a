-- `salvage::salvage` meets its contract: what `salvage_words` tells and leaves, and cleared scratch.
use Rattle.salvage.specs.Salvaging.{told_cleared}
use Rattle.salvage.proofs.salvage.Goals as goal

pub returns : goal.returns
returns c =
    told_cleared _ _ _ _ c.salvage_words-answer.result c.salvage_words-answer.ensures
    (rw c.salvage_words-answer.auto.scratch at c.clear.ensures)
