-- `bulk_load::load_set` meets its contract: more keys than can be placed, or the set is brought to scratch and
-- committed.
use Prim.Native.Nat.{◌+◌, ◌*◌, ◌≤◌}
use mathlib.Core.Path.{◌≡◌, ◌∙◌, ap}
use native.Mathlib.Omega.{arith}
use lib.ListN.{length}
use Rattle.layout.specs.declared.Header.{Header}
use Rattle.layout.specs.Layout.{with_keys}
use Rattle.layout.specs.Answers.{fresh_header}
use Rattle.layout.specs.Shape.{Sized}
use Rattle.bulk_load.specs.Loading.{Fillable, load_sized, load_crowded, load_fillable, load_committable}
use Rattle.bulk_load.specs.Loading.{load_committed}
use Rattle.bulk_load.proofs.load_set.Goals as goal

pub overflow_mul-r : goal.overflow_mul-r
overflow_mul-r c =
    let sizes : Sized c.args.r c.args.s = (load_sized c.args.words.now c.args.scratch.now c.requires.0 c.requires.1).0 in
    omega (arith, sizes)

pub overflow_add-r : goal.overflow_add-r
overflow_add-r c =
    let sizes : Sized c.args.r c.args.s = (load_sized c.args.words.now c.args.scratch.now c.requires.0 c.requires.1).0 in
    omega (arith, sizes)

pub returns-then-wide-n : goal.returns-then-wide-n
returns-then-wide-n c =
    load_crowded c.args.words.now c.args.scratch.now c.requires.0 c.requires.1
    (omega (arith, c.if-wide-n.true, c.wide.ensures, c.count-n.ensures))

pub put_keys-requires : goal.put_keys-requires
put_keys-requires c =
    let few : let a = c.args in c.count-n.result ≤ 2 * a.r + a.s = omega (arith, c.if-wide-n.false, c.wide.ensures) in
    let fillable : let a = c.args in Fillable a.tabulation.now a.input.now a.scratch.now a.r a.s a.station c.count-n.result = let few : let a = c.args in c.count-n.result ≤ 2 * a.r + a.s = omega (arith, c.if-wide-n.false, c.wide.ensures) in
    load_fillable c.args.words.now c.args.scratch.now c.requires.0 c.requires.1
    c.count-n.ensures (few) in
    (c.count-n.ensures, omega (arith, (fillable).room, few))

pub put_edges-requires : goal.put_edges-requires
put_edges-requires c =
    let fillable : let a = c.args in Fillable a.tabulation.now a.input.now a.scratch.now a.r a.s a.station c.count-n.result = let few : let a = c.args in c.count-n.result ≤ 2 * a.r + a.s = omega (arith, c.if-wide-n.false, c.wide.ensures) in
    load_fillable c.args.words.now c.args.scratch.now c.requires.0 c.requires.1
    c.count-n.ensures (few) in
    let h = fillable in (
      record {
        hashing = h.hashing;
        places = h.places;
        sound = h.sound;
        count = h.count;
        few = h.few;
        room = omega (arith, h.room, c.put_keys.auto.scratch);
      },
      c.put_keys.ensures,
    )

pub overflow_cast-n : goal.overflow_cast-n
overflow_cast-n c =
    let few : let a = c.args in c.count-n.result ≤ 2 * a.r + a.s = omega (arith, c.if-wide-n.false, c.wide.ensures) in
    let sizes : Sized c.args.r c.args.s = (load_sized c.args.words.now c.args.scratch.now c.requires.0 c.requires.1).0 in
    omega (arith, few, sizes)

pub commit-requires : goal.commit-requires
commit-requires c =
    let heading_is : let a = c.args in c.with_keys-heading.result ≡ with_keys (fresh_header a.r a.s a.station) c.count-n.result = let n = c.count-n.result in
    c.with_keys-heading.ensures ∙ ap (λ (h : Header). with_keys h n) c.fresh_header.ensures in
    let same : length c.put_edges.new.scratch ≡ length c.args.scratch.now = c.put_edges.auto.scratch ∙ c.put_keys.auto.scratch in
    let few : let a = c.args in c.count-n.result ≤ 2 * a.r + a.s = omega (arith, c.if-wide-n.false, c.wide.ensures) in
    load_committable c.args.words.now c.args.scratch.now c.requires.0 c.requires.1
    c.count-n.ensures (few) (same) c.put_edges.ensures (heading_is)

pub returns : goal.returns
returns c =
    let heading_is : let a = c.args in c.with_keys-heading.result ≡ with_keys (fresh_header a.r a.s a.station) c.count-n.result = let n = c.count-n.result in
    c.with_keys-heading.ensures ∙ ap (λ (h : Header). with_keys h n) c.fresh_header.ensures in
    let same : length c.put_edges.new.scratch ≡ length c.args.scratch.now = c.put_edges.auto.scratch ∙ c.put_keys.auto.scratch in
    let few : let a = c.args in c.count-n.result ≤ 2 * a.r + a.s = omega (arith, c.if-wide-n.false, c.wide.ensures) in
    load_committed c.args.words.now c.args.scratch.now c.requires.0 c.requires.1
    c.count-n.ensures (few) (same) c.put_edges.ensures (heading_is) c.commit.ensures
