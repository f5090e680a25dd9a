-- `lookup::in_stash` meets its contract: the stash lies inside words of the right shape.
use mathlib.Core.Path.{◌∙◌, ap}
use Rattle.layout.specs.Layout.{stash_at}
use Rattle.layout.proofs.Shape.{same_header}
use borrow.Author.Rules.{rules}
use Rattle.lookup.specs.Found.{found_stash}
use Rattle.lookup.proofs.in_stash.Goals as goal

pub stash_start-start-requires : goal.stash_start-start-requires
stash_start-start-requires c = let h = same_header c.read_header-header.ensures in search rules

pub find_place-requires : goal.find_place-requires
find_place-requires c = let h = same_header c.read_header-header.ensures in search rules

pub returns : goal.returns
returns c =
    let h = same_header c.read_header-header.ensures in found_stash _ _ (c.stash_start-start.ensures ∙ ap stash_at h.slots) (c.wide-count.ensures ∙ h.places) c.find_place.ensures
