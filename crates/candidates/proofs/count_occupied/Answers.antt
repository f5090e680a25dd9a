-- `candidates::count_occupied` meets its contract: slots and places together.
use mathlib.Core.Path.{◌∙◌, ap}
use native.Mathlib.Omega.{arith}
use Rattle.layout.specs.Layout.{stash_at}
use Rattle.candidates.specs.Candidates.{all_occupied}
use Rattle.candidates.proofs.count_occupied.Goals as goal

pub returns : goal.returns
returns c =
    let p = c.requires in
    let x = rw (c.wide.ensures ∙ p.1.0) at c.occupied_from-slots.ensures.0 in
    let y = rw (
      c.stash_start.ensures ∙ ap stash_at p.1.0,
      c.wide-2.ensures
          ∙ p.1.1,
    ) at c.occupied_from-places.ensures.0 in
    (omega (arith, x, y, all_occupied c.args.words.now), omega arith)
