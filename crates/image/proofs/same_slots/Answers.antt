use Rattle.std.proofs.Common.{◌≡◌, ◌+◌, ◌*◌, ◌∙◌, refl, sym, arith}
use Rattle.layout.specs.Layout.{header_length, slot_width}
use Rattle.image.specs.Rows.{slots_alike_next, slots_alike_none}
use Rattle.image.proofs.same_slots.Goals as goal

pub loop-v-init : goal.loop-v-init
loop-v-init c = refl

pub same_slot-requires : goal.same_slot-requires
same_slot-requires c =
    let i = c.loop-v.v in
    let p = c.requires in
    (omega (arith, p.fits), rw c.wide.ensures (p.known i (omega arith)), rw c.wide.ensures (p.chained i (omega arith)))

pub returns-then-not-same_slot : goal.returns-then-not-same_slot
returns-then-not-same_slot c =
    let a = c.args in
    let l = c.loop-v in
    let e = l.invariant ∙ slots_alike_next a.r a.keys.now a.graph.now a.next.now a.words.now (header_length + slot_width * l.v) a.held.now l.v (omega arith) _ c.wide.ensures _ c.same_slot.ensures in
    sym (e ∙ rw c.if-not-same_slot.true)

pub loop-v-preserved : goal.loop-v-preserved
loop-v-preserved c =
    let a = c.args in
    let l = c.loop-v in
    let e = l.invariant ∙ slots_alike_next a.r a.keys.now a.graph.now a.next.now a.words.now (header_length + slot_width * l.v) a.held.now l.v (omega arith) _ c.wide.ensures _ c.same_slot.ensures in
    let next : header_length + slot_width * (l.v + 1) ≡ header_length + slot_width * l.v + slot_width = omega arith in
    rw next (e ∙ rw c.if-not-same_slot.false)

pub returns : goal.returns
returns c =
    let a = c.args in
    let l = c.loop-v in
    sym (l.invariant ∙ slots_alike_none a.r a.keys.now a.graph.now a.next.now a.words.now (header_length + slot_width * l.v) a.held.now l.v (omega arith))
