use Rattle.std.proofs.Common.{◌≡◌, ◌+◌, ◌*◌, ◌∙◌, [], refl, add-zero, sym, arith}
use Rattle.layout.specs.Layout.{place_width}
use Rattle.image.specs.Rows.{places_put_next, places_put_none}
use Rattle.image.proofs.write_places.Goals as goal

pub loop-i-init : goal.loop-i-init
loop-i-init c = rw add-zero refl

pub write_place-requires : goal.write_place-requires
write_place-requires c =
    let i = c.loop-i.i in
    let p = c.requires in
    (omega (arith, p.fits), rw c.wide.ensures (p.known i (omega arith)))

pub loop-i-preserved : goal.loop-i-preserved
loop-i-preserved c =
    let a = c.args in
    let l = c.loop-i in
    let e = l.invariant ∙ places_put_next a.r a.keys.now a.graph.now [] l.words (a.start + place_width * l.i) a.stash.now l.i (omega arith) _ c.wide.ensures _ c.write_place.ensures in
    let next : a.start + place_width * (l.i + 1) ≡ a.start + place_width * l.i + place_width = omega arith in
    rw next e

pub returns : goal.returns
returns c =
    let a = c.args in
    let l = c.loop-i in
    sym (l.invariant ∙ places_put_none a.r a.keys.now a.graph.now [] l.words (a.start + place_width * l.i) a.stash.now l.i (omega arith))
