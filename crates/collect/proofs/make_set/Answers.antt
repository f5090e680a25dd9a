-- `make_set` meets its contract: doubles are dropped from what `sort` leaves of the first n keys. Assumes nothing.
use mathlib.Core.Path.{sym, ◌∙◌}
use native.Mathlib.Omega.{arith}
use lib.ListN.{take}
use lib.Seq.{length-take-le, take-append-le}
use Rattle.ordered.proofs.Distinct.{distinct_length}
use Rattle.collect.proofs.make_set.Goals as goal

pub slice_bounds-drop_doubles-end-2 : goal.slice_bounds-drop_doubles-end-2
slice_bounds-drop_doubles-end-2 c =
    sym (length-take-le c.args.n c.sort.new.words (omega arith))

pub returns : goal.returns
returns c =
    let front = take c.args.n c.sort.new.words in
    let e = rw c.sort.ensures at c.drop_doubles.ensures in
    record {
      front = take-append-le c.drop_doubles.result c.drop_doubles.new.keys _ (omega (arith, distinct_length front)) ∙ e.front;
      counted = e.counted;
    }
