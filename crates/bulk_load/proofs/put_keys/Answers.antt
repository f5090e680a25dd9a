use Rattle.std.proofs.Common.{◌≡◌, arith, sym, set, length-set}
use lib.Seq.{get_or-set_same, paste-zero}
use Rattle.basics.proofs.Parts.{pasted_more}
use Rattle.bulk.specs.Bulk.{input_keys}
use Rattle.bulk.proofs.Input.{input_count, input_key}
use Rattle.bulk_load.specs.Loading.{keys_brought}
use Rattle.bulk_load.proofs.put_keys.Goals as goal

pub loop-i-init : goal.loop-i-init
loop-i-init c = paste-zero (set c.args.scratch.now 0 0) 1 (input_keys c.args.input.now)

pub bounds-input-i : goal.bounds-input-i
bounds-input-i c = omega (arith, c.requires.0, input_count c.args.input.now)

pub loop-i-preserved : goal.loop-i-preserved
loop-i-preserved c =
    let a = c.args in
    let s = length-set a.scratch.now 0 0 in
    pasted_more (set a.scratch.now 0 0) 1 (input_keys a.input.now) c.loop-i.i c.loop-i.invariant (omega arith) (omega arith)
    (sym (input_key a.input.now c.loop-i.i))

pub returns : goal.returns
returns c =
    let a = c.args in
    let e : c.loop-i.i ≡ a.n = omega arith in
    let s = length-set a.scratch.now 0 0 in
    keys_brought (input_keys a.input.now) (set a.scratch.now 0 0) c.loop-i.scratch (rw e at c.loop-i.invariant)
    c.requires.0 (omega arith) (get_or-set_same a.scratch.now 0 0 0 (omega arith))
