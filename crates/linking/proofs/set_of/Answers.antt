-- `linking::set_of` meets its contract: the sets are lent whole.
use native.Mathlib.Omega.{arith}
use Prim.Native.Nat.{ℕ}
use mathlib.Core.Path.{◌∙◌, ap}
use mathlib.Core.List.{List}
use Rattle.partition.specs.Words.{rep_of}
use Rattle.partition.proofs.Words.{rep_fits}
use Rattle.build.specs.Scratch.{parts}
use Rattle.build.proofs.Access.{sets_part, part_lent}
use Rattle.linking.proofs.set_of.Goals as goal

pub returns : goal.returns
returns c =
    let sets = sets_part c.requires.0 in
    let e = c.representative.ensures ∙ ap (λ (words : List ℕ). rep_of words c.args.slot) (part_lent sets c.sets_range.ensures.0 c.sets_range.ensures.1) in
    let X = (parts c.args.r c.args.s c.args.n c.args.scratch.now).sets in
    (e, omega (arith, e, rep_fits X c.args.slot (rw sets.size c.requires.1), sets.size))
