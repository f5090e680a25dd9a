-- `linking::set_size` meets its contract: the sets are lent whole.
use Rattle.build.proofs.Access.{sets_part, part_lent}
use borrow.Author.Rules.{rules}
use Rattle.linking.proofs.set_size.Goals as goal

pub size-requires : goal.size-requires
size-requires c =
    (search rules, rw (part_lent (sets_part c.requires.0) c.sets_range.ensures.0 c.sets_range.ensures.1) c.requires.1)

pub returns : goal.returns
returns c =
    cc (c.size.ensures, part_lent (sets_part c.requires.0) c.sets_range.ensures.0 c.sets_range.ensures.1)
