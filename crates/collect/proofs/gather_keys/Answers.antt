-- `gather_keys` meets its contract: the words of the slots leave room for those of the stash, and together they are the key words. Assumes nothing.
use mathlib.Core.Path.{◌∙◌, ap}
use Prim.Native.Nat.{◌*◌}
use native.Mathlib.Omega.{arith}
use lib.ListN.{length-set}
use Rattle.layout.specs.Layout.{header_length, slot_width, stash_at}
use Rattle.layout.proofs.Shape.{same_header}
use Rattle.collect.specs.Collect.{non_blank_few, gathered_front}
use borrow.Author.Rules.{rules}
use Rattle.collect.proofs.gather_keys.Goals as goal

pub gather-n-requires : goal.gather-n-requires
gather-n-requires c =
    let h = same_header c.read_header-header.ensures in
    (search rules, search rules, simp length-set (omega arith))

pub stash_start-requires : goal.stash_start-requires
stash_start-requires c = let h = same_header c.read_header-header.ensures in search rules

pub gather-end-requires : goal.gather-end-requires
gather-end-requires c =
    let h = same_header c.read_header-header.ensures in
    let l = non_blank_few c.args.words.now header_length slot_width (2 * c.wide-slots.result) in
    let e = simp length-set at c.gather-n.auto.scratch in
    (search rules, omega arith, omega arith)

pub shape_of-scratch : goal.shape_of-scratch
shape_of-scratch c =
    let e = simp length-set at c.gather-n.auto.scratch in
    search (rules, e)

pub returns : goal.returns
returns c =
    let h = same_header c.read_header-header.ensures in
    let f = rw (c.wide-slots.ensures ∙ h.slots) at c.gather-n.ensures in
    let e = c.wide-places.ensures ∙ h.places in
    let g = rw (c.stash_start.ensures ∙ ap stash_at h.slots, e, f.front) at c.gather-end.ensures in
    let all = gathered_front c.args.words.now c.requires.0 c.args.scratch.now _ c.gather-end.result (omega arith) g.front (omega (arith, f.counted, g.counted)) in record { front = all.0; counted = all.1 }
