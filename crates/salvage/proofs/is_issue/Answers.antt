-- `salvage::is_issue` meets its contract: sound, and of this first part.
use Rattle.std.proofs.Common.{sym, ◌∙◌}
use Rattle.salvage.specs.Issue.{issue_unsound, issue_sound}
use Rattle.salvage.proofs.is_issue.Goals as goal

pub returns-then-is_sound : goal.returns-then-is_sound
returns-then-is_sound c = rw c.first_part.ensures (issue_sound _ _ _ (sym c.is_sound.ensures ∙ c.if-is_sound.true))

pub returns-else-is_sound : goal.returns-else-is_sound
returns-else-is_sound c =
    c.if-is_sound.false ∙ issue_unsound _ _ _ (sym c.is_sound.ensures ∙ c.if-is_sound.false)
