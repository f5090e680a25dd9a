-- `linking::unite_sets` meets its contract: the sets are lent whole, and come back united.
use Rattle.partition.specs.Words.{united}
use Rattle.build.proofs.Access.{sets_part, part_lent, part_renewed}
use borrow.Author.Rules.{rules}
use Rattle.linking.proofs.unite_sets.Goals as goal

pub unite-requires : goal.unite-requires
unite-requires c =
    (search rules, rw (part_lent (sets_part c.requires.0) c.sets_range.ensures.0 c.sets_range.ensures.1) c.requires.1)

pub returns : goal.returns
returns c =
    part_renewed (sets_part c.requires.0) c.sets_range.ensures.0 c.sets_range.ensures.1
    (λ sets. united sets c.args.first c.args.second) c.unite.ensures c.unite.auto.words
