-- `forms::sizes_of` meets its contract: the tests of the law `sizes_split`.
use Rattle.std.proofs.Common.{sym, ◌∙◌}
use Rattle.grammar.proofs.SizesLaws.{sizes_none, sizes_split}
use Rattle.forms.proofs.sizes_of.Goals as goal

pub returns-in_err-first : goal.returns-in_err-first
returns-in_err-first c = c.from_residual.ensures ∙ sym (sizes_none _ (rw c.in_err-first.was at c.split_once.ensures))

pub returns-in_err-r : goal.returns-in_err-r
returns-in_err-r c =
    let (h, f, b) = rw c.in_ok-first.was at c.split_once.ensures in
    c.from_residual-in_err-r.ensures ∙ sym (sizes_split _ h ∙ rw (← f, ← c.number_in.ensures, c.in_err-r.was))

pub returns-in_err-s : goal.returns-in_err-s
returns-in_err-s c =
    let (h, f, b) = rw c.in_ok-first.was at c.split_once.ensures in
    c.from_residual-in_err-s.ensures
    ∙ sym (sizes_split _ h ∙ rw (← f, ← b, ← c.number_in.ensures, ← c.pair_of.ensures, c.in_ok-r.was, c.in_err-s.was))

pub returns : goal.returns
returns c =
    let (h, f, b) = rw c.in_ok-first.was at c.split_once.ensures in
    sym (sizes_split _ h ∙ rw (← f, ← b, ← c.number_in.ensures, ← c.pair_of.ensures, c.in_ok-r.was, c.in_ok-s.was))
