-- `partition::link` meets its contract: the sizes of two sets together are at most n, so that their sum is no word too large.
use Rattle.std.proofs.Common.{sym, get_or-set_other, arith}
use Rattle.partition.specs.Words.{size_of, linked}
use Rattle.partition.proofs.link.Goals as goal

pub overflow_add-words : goal.overflow_add-words
unfolding size_of
overflow_add-words c =
    let a = c.args in
    let e = get_or-set_other a.words.now a.child a.parent a.parent 0 (λ q. c.requires.1.differ (sym q)) in
    record { fits = omega (arith, e, c.size-joining.ensures, c.requires.1.fit, c.requires.0) }

pub returns : goal.returns
unfolding linked
returns c =
    let a = c.args in
    rw (get_or-set_other a.words.now a.child a.parent a.parent 0 (λ q. c.requires.1.differ (sym q)), c.size-joining.ensures)
