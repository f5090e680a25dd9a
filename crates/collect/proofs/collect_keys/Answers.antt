-- `collect_keys` meets its contract: what is gathered has room in scratch, and the set of it is `keys_in`. Assumes nothing.
use Prim.Native.Nat.{◌<◌}
use native.Mathlib.Omega.{arith}
use lib.ListN.{length, length-take, length-drop}
use Rattle.layout.specs.Layout.{key_words, keys_in}
use Rattle.collect.specs.Collect.{non_blank, gathered_few, collected}
use Rattle.collect.proofs.collect_keys.Goals as goal

pub make_set-requires : goal.make_set-requires
make_set-requires c =
    let few : c.gather_keys-n.result < length c.gather_keys-n.new.scratch = omega (arith, gathered_few c.args.words.now c.requires.0) in
    let h = few in simp (length-take, length-drop) (omega arith)

pub returns : goal.returns
unfolding keys_in
returns c =
    let few : c.gather_keys-n.result < length c.gather_keys-n.new.scratch = omega (arith, gathered_few c.args.words.now c.requires.0) in
    let m = c.make_set in
    let all = collected (non_blank (key_words c.args.words.now)) c.gather_keys-n.new.scratch c.gather_keys-n.result
    (few) c.gather_keys-n.ensures.front
    m.new.keys m.result m.auto.keys m.ensures.counted m.ensures.front in record { front = all.0; counted = all.1 }
