use Rattle.std.proofs.Common.{◌≤◌, ◌<◌, ◌∙◌, refl, sym, arith, length, drop_of_length-le}
use Rattle.std.proofs.Math.Bool.{or-false}
use Rattle.places.specs.Search.{among_turn}
use Rattle.places.proofs.among.Goals as goal

pub loop-i-init : goal.loop-i-init
loop-i-init c = refl

pub loop-i-preserved : goal.loop-i-preserved
loop-i-preserved c =
    let a = c.args in
    let h : c.loop-i.i < length a.front.now = omega arith in
    let k : c.loop-i.i < length a.back.now = omega (arith, c.requires) in
    c.loop-i.invariant ∙ among_turn a.front.now a.back.now a.word h k c.loop-i.found

pub returns : goal.returns
returns c =
    let a = c.args in
    let h : length a.front.now ≤ c.loop-i.i = omega arith in
    let k : length a.back.now ≤ c.loop-i.i = omega (arith, c.requires) in
    sym (c.loop-i.invariant ∙ simp (drop_of_length-le a.front.now h, drop_of_length-le a.back.now k, or-false c.loop-i.found))
