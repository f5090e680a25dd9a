use mathlib.Core.Path.{◌≡◌, sym, ◌∙◌}
use native.Mathlib.Numerals.{add-one}
use native.Mathlib.Omega.{arith}
use lib.ListN.{length-take, length-drop}
use lib.Seq.{length-take-le}
use Rattle.places.specs.Search.{not_among, all_places, no_place, place_here, place_later}
use Rattle.places.proofs.find_place.Goals as goal

pub slice_bounds-among-end : goal.slice_bounds-among-end
slice_bounds-among-end c = sym (length-take-le c.args.count c.args.places.now (omega (arith, c.requires.0)))

pub among-requires : goal.among-requires
among-requires c = simp (length-take, length-drop) (omega (arith, c.requires.0))

pub returns-then-not-among : goal.returns-then-not-among
returns-then-not-among c =
    not_among c.args.places.now c.args.count c.args.key (omega (arith, c.requires.0)) (sym c.among.ensures ∙ c.if-not-among.true)

pub loop-i-init : goal.loop-i-init
loop-i-init c = let a = c.args in all_places a.places.now a.count a.key

pub returns-then-key-places : goal.returns-then-key-places
returns-then-key-places c =
    let a = c.args in
    place_here a.places.now a.count a.key (omega arith) c.if-key-places.true ∙ sym c.loop-i.invariant

pub loop-i-preserved : goal.loop-i-preserved
loop-i-preserved c =
    let a = c.args in
    c.loop-i.invariant ∙ rw add-one (place_later a.places.now a.count a.key (omega arith) c.if-key-places.false)

pub returns : goal.returns
returns c =
    let a = c.args in
    let e : c.loop-i.i ≡ a.count = omega arith in
    no_place a.places.now a.count a.key ∙ sym (rw e at c.loop-i.invariant)
