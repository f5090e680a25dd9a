-- `fields::pair_of` meets its contract: the tests of the law `pair_split`.
use Rattle.std.proofs.Common.{sym, ◌∙◌}
use Rattle.grammar.proofs.CommandLaws.{pair_none, pair_split}
use Rattle.fields.proofs.pair_of.Goals as goal

pub returns-in_err-first : goal.returns-in_err-first
returns-in_err-first c = c.from_residual.ensures ∙ sym (pair_none _ (rw c.in_err-first.was at c.split_once.ensures))

pub returns-in_err-a : goal.returns-in_err-a
returns-in_err-a c =
    let (h, f, s) = rw c.in_ok-first.was at c.split_once.ensures in
    c.from_residual-in_err-a.ensures ∙ sym (pair_split _ h ∙ rw (← f, ← c.number_in.ensures, c.in_err-a.was))

pub returns-in_err-b : goal.returns-in_err-b
returns-in_err-b c =
    let (h, f, s) = rw c.in_ok-first.was at c.split_once.ensures in
    c.from_residual-in_err-b.ensures
    ∙ sym (pair_split _ h ∙ rw (← f, ← s, ← c.number_in.ensures, ← c.number_in-2.ensures, c.in_ok-a.was, c.in_err-b.was))

pub returns : goal.returns
returns c =
    let (h, f, s) = rw c.in_ok-first.was at c.split_once.ensures in
    sym (pair_split _ h ∙ rw (← f, ← s, ← c.number_in.ensures, ← c.number_in-2.ensures, c.in_ok-a.was, c.in_ok-b.was))
