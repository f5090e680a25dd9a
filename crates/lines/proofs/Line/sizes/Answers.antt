-- `lines::Line::sizes` meets its contract: a longer line than any known form is of another form.
use Rattle.std.proofs.Common.{sym, ◌∙◌}
use Rattle.grammar.proofs.SizesLaws.{sizes_long}
use Rattle.lines.proofs.Line.sizes.Goals as goal

pub returns-in_err-text : goal.returns-in_err-text
returns-in_err-text c = λ l h. c.from_residual.ensures ∙ sym (sizes_long l (rw c.in_err-text.was at (c.text.ensures l h)))
