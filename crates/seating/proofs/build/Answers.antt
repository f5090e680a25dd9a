-- `seating::build` meets its contract: the two halves, by the theorem about the whole.
use Rattle.build.proofs.Access.{enough_kept}
use Rattle.build.proofs.Whole.{enough, full_built, mid_finishable, made_built}
use Rattle.seating.proofs.build.Goals as goal

pub returns-in_err-stashed : goal.returns-in_err-stashed
returns-in_err-stashed c =
    rw c.from_residual.ensures (full_built _ c.requires c.prepare.ensures.prepared c.in_err-stashed.ensures.counted)

pub seat-requires : goal.seat-requires
seat-requires c = (
  enough_kept (enough c.requires) c.prepare.auto.scratch,
  mid_finishable _ c.requires c.prepare.ensures.prepared c.in_ok-stashed.ensures.counted,
)

pub returns : goal.returns
returns c = made_built _ c.requires c.prepare.ensures.prepared c.in_ok-stashed.ensures.counted c.seat.ensures
