-- `fields::split_once` meets its contract: the first comma is where `place_of` says.
use Rattle.std.proofs.Common.{refl, add-one}
use Rattle.basics.proofs.Parts.{to_end}
use Rattle.grammar.specs.Parted.{comma}
use Rattle.grammar.proofs.Parted.{place_position}
use Rattle.fields.proofs.split_once.Goals as goal

pub returns-in_err-end : goal.returns-in_err-end
returns-in_err-end c = rw c.from_residual.ensures (rw c.in_err-end.was at (place_position comma c.args.text.now c.find.ensures))

pub returns : goal.returns
returns c =
    let (e, h) = rw c.in_ok-end.was at (place_position comma c.args.text.now c.find.ensures) in
    rw (to_end, add-one, ← e) (h, refl, refl)
