-- `trail::trace` meets its contract: a key that does not sit where it is looked for is stashed; of one that does the walk finds the trail.
use native.Mathlib.Omega.{arith}
use Prim.Native.Nat.{◌≤◌}
use mathlib.Core.Path.{◌≡◌, sym, ◌∙◌, ap}
use lib.ListN.{length}
use Rattle.walking.specs.Walk.{key_of}
use Rattle.walking.proofs.CutLaws.{closed_met, met_length, few}
use Rattle.trail.specs.Traced.{slot_readable, seated_lt, not_seated, cleared, trail_count, trail_found, told_empty, told_short, told_found}
use borrow.Author.Rules.{rules}
use Rattle.trail.proofs.trace.Goals as goal

pub key_in-requires : goal.key_in-requires
key_in-requires c =
    let p = c.requires in
    slot_readable p.readable (seated_lt p.readable p.image c.args.key c.seat_of-slot.ensures)

pub returns-then-key_in-key : goal.returns-then-key_in-key
returns-then-key_in-key c =
    let p = c.requires in
    told_empty (not_seated p.readable p.image c.args.key c.seat_of-slot.ensures (λ q. c.if-key_in-key.true (c.key_in.ensures ∙ q))) c.fill.ensures

pub walk-at-requires : goal.walk-at-requires
walk-at-requires c =
    let p = c.requires in
    ((p.readable, seated_lt p.readable p.image c.args.key c.seat_of-slot.ensures), cleared c.args.scratch.now c.clear.ensures c.clear.auto.scratch p.room)

pub cut-count-requires : goal.cut-count-requires
cut-count-requires c =
    closed_met c.requires.readable.hashing.slots_bound c.walk-at.ensures

pub returns-then-trail-count : goal.returns-then-trail-count
returns-then-trail-count c =
    let there : key_of c.args.words.now c.seat_of-slot.result ≡ c.args.key = sym c.key_in.ensures ∙ c.if-key_in-key.false in
    let p = c.requires in
    told_short
    (trail_count p.readable p.image c.args.key c.seat_of-slot.ensures (there) p.some_key c.walk-at.ensures c.cut-count.ensures)
    c.if-trail-count.true

pub overflow_cast-result : goal.overflow_cast-result
overflow_cast-result c =
    let r = c.requires.readable in
    let l : c.cut-count.result ≤ 2048 =
    omega (arith, c.cut-count.ensures.count, c.cut-count.ensures.first.inside, met_length c.walk-at.ensures, few c.walk-at.ensures, r.hashing.slots_bound) in
    search rules

pub returns : goal.returns
returns c =
    let there : key_of c.args.words.now c.seat_of-slot.result ≡ c.args.key = sym c.key_in.ensures ∙ c.if-key_in-key.false in
    let p = c.requires in
    told_found
    (trail_found p.readable p.image c.args.key c.seat_of-slot.ensures (there) p.some_key c.walk-at.ensures c.cut-count.ensures)
    (trail_count p.readable p.image c.args.key c.seat_of-slot.ensures (there) p.some_key c.walk-at.ensures c.cut-count.ensures)
    c.met-keys.ensures c.if-trail-count.false c.write_keys.ensures
