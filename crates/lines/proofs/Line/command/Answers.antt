-- `lines::Line::command` meets its contract: a longer line than any known form is of another form.
use Rattle.std.proofs.Common.{sym, ◌∙◌}
use Rattle.grammar.proofs.CommandLaws.{command_long}
use Rattle.lines.proofs.Line.command.Goals as goal

pub returns-in_err-text : goal.returns-in_err-text
returns-in_err-text c = λ l h. c.from_residual.ensures ∙ sym (command_long l (rw c.in_err-text.was at (c.text.ensures l h)))
