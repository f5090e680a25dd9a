-- `bulk_input::refusal` meets its contract: the keys that are compared by first parts passed the tests before.
use Rattle.std.proofs.Common.{sym, ◌∙◌}
use Rattle.bulk.proofs.Input.{tested_valid}
use Rattle.bulk_input.proofs.refusal.Goals as goal

pub one_issue-requires : goal.one_issue-requires
one_issue-requires c =
    tested_valid _ (sym c.any_blank.ensures ∙ c.if-any_blank.false) (sym c.rises.ensures ∙ c.if-not-rises.false)
