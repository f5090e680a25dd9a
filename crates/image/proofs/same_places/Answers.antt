use Rattle.std.proofs.Common.{◌≡◌, ◌+◌, ◌*◌, ◌∙◌, [], refl, add-zero, sym, arith}
use Rattle.layout.specs.Layout.{place_width}
use Rattle.image.specs.Rows.{places_alike_next, places_alike_none}
use Rattle.image.proofs.same_places.Goals as goal

pub loop-i-init : goal.loop-i-init
loop-i-init c = rw add-zero refl

pub same_place-requires : goal.same_place-requires
same_place-requires c =
    let i = c.loop-i.i in
    let p = c.requires in
    (omega (arith, p.fits), rw c.wide.ensures (p.known i (omega arith)))

pub returns-then-not-same_place : goal.returns-then-not-same_place
returns-then-not-same_place c =
    let a = c.args in
    let l = c.loop-i in
    let e = l.invariant ∙ places_alike_next a.r a.keys.now a.graph.now [] a.words.now (a.start + place_width * l.i) a.stash.now l.i (omega arith) _ c.wide.ensures _ c.same_place.ensures in
    sym (e ∙ rw c.if-not-same_place.true)

pub loop-i-preserved : goal.loop-i-preserved
loop-i-preserved c =
    let a = c.args in
    let l = c.loop-i in
    let e = l.invariant ∙ places_alike_next a.r a.keys.now a.graph.now [] a.words.now (a.start + place_width * l.i) a.stash.now l.i (omega arith) _ c.wide.ensures _ c.same_place.ensures in
    let next : a.start + place_width * (l.i + 1) ≡ a.start + place_width * l.i + place_width = omega arith in
    rw next (e ∙ rw c.if-not-same_place.false)

pub returns : goal.returns
returns c =
    let a = c.args in
    let l = c.loop-i in
    sym (l.invariant ∙ places_alike_none a.r a.keys.now a.graph.now [] a.words.now (a.start + place_width * l.i) a.stash.now l.i (omega arith))
