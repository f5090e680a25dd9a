-- `linking::unlink` meets its contract: the held words are lent and filled, then the sets.
use native.Mathlib.Omega.{arith}
use Prim.Native.Nat.{◌-◌}
use lib.ListN.{length, replicate}
use borrow.Rule.Slice.PartMut.{put_mid}
use Rattle.partition.specs.Words.{singletons_of}
use Rattle.build.specs.Access.{Enough}
use Rattle.build.proofs.Access.{enough_kept, held_part, sets_part, part_renewed}
use Rattle.build.proofs.LinkCode.{unlinked_done}
use Rattle.linking.proofs.unlink.Goals as goal

pub returns : goal.returns
returns c =
    let E = c.requires in
    let x = c.held_start in
    let y = c.edges_start in
    let E₁ : Enough c.args.r c.args.s c.args.n (put_mid x.result (y.result - x.result) c.args.scratch.now c.fill.new.words) =
    enough_kept E (omega arith) in
    unlinked_done E (part_renewed (held_part E) x.ensures y.ensures (λ ys. replicate (length ys) 0) c.fill.ensures c.fill.auto.words)
    (part_renewed (sets_part E₁) c.sets_range.ensures.0 c.sets_range.ensures.1 (λ ys. singletons_of (length ys)) c.singletons.ensures c.singletons.auto.words)
    (held_part E).size (sets_part E₁).size
