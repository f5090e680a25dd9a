-- `scratch_set::place_of` meets its contract: the n keys are lent to the search.
use mathlib.Core.Path.{refl}
use Rattle.scratch_set.specs.Members.{keys_lent}
use borrow.Author.Rules.{rules}
use Rattle.scratch_set.proofs.place_of.Goals as goal

pub lower_bound-requires : goal.lower_bound-requires
lower_bound-requires c = rw (keys_lent c.args.scratch.now c.args.n c.requires.0 refl) c.requires.1

pub returns : goal.returns
returns c = rw (keys_lent c.args.scratch.now c.args.n c.requires.0 refl) at c.lower_bound.ensures
