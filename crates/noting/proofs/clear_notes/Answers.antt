-- `noting::clear_notes` meets its contract: the sets are lent and filled, then the stash.
use native.Mathlib.Omega.{arith}
use Prim.Native.Nat.{◌-◌}
use lib.ListN.{length, replicate}
use borrow.Rule.Slice.PartMut.{put_mid}
use Rattle.build.specs.Access.{Enough}
use Rattle.build.proofs.Access.{enough_kept, stash_part, sets_part, part_renewed}
use Rattle.build.proofs.NotesCode.{cleared_done}
use Rattle.noting.proofs.clear_notes.Goals as goal

pub returns : goal.returns
returns c =
    let E = c.requires in
    let x = c.sets_range in
    let E₁ : Enough c.args.r c.args.s c.args.n (put_mid x.result.start (x.result.end - x.result.start) c.args.scratch.now c.fill.new.words) =
    enough_kept E (omega arith) in
    cleared_done E (part_renewed (sets_part E) x.ensures.0 x.ensures.1 (λ ys. replicate (length ys) 0) c.fill.ensures c.fill.auto.words)
    (part_renewed (stash_part E₁) c.stashed_start.ensures c.sets_start.ensures (λ ys. replicate (length ys) 0) c.fill-2.ensures c.fill-2.auto.words)
    (sets_part E).size (stash_part E₁).size
