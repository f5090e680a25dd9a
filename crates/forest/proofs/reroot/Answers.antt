use native.Mathlib.Omega.{arith}
use Prim.Native.Nat.{ℕ, ◌*◌, ◌-◌, suc, ◌+◌}
use mathlib.Core.Path.{◌≡◌, ◌∙◌, sym, ap}
use lib.Seq.{take-set-lt}
use Rattle.forest.specs.Reroot.{reroot}
use Rattle.forest.proofs.RerootLaws.{reroot_none, reroot_stop, reroot_step}
use Rattle.forest.specs.Graph.{held_in, other_slot}
use Rattle.forest.proofs.Graph.{kept_graph, kept_set, kept_rank, kept_with, kept_edges, held_word}
use Rattle.forest.proofs.reroot.Goals as goal

pub returns-then-rank-eq0 : goal.returns-then-rank-eq0
returns-then-rank-eq0 c =
    let l = c.loop in
    let G = c.requires.0 in
    let K = l.invariant.0 in
    let r = c.args.r in
    let e : 2 * r + 1 - l.counter ≡ suc (2 * r + 1 - (l.counter + 1)) = omega arith in
    let z = sym (held_word (kept_graph G K) l.at l.invariant.1) ∙ c.if-rank-eq0.true in
    kept_with G (kept_set G K l.at l.moving l.invariant.1 l.invariant.2)
    (take-set-lt (2 * r) l.graph l.at l.moving l.invariant.1
    ∙ sym (l.invariant.3 ∙ rw e (reroot_stop (other_slot r c.args.graph.now) (2 * r + 1 - (l.counter + 1)) (held_in r l.graph) l.moving l.at z)))

pub other_slot-at-requires : goal.other_slot-at-requires
other_slot-at-requires c =
    let l = c.loop in
    let G = c.requires.0 in
    let K = kept_set G l.invariant.0 l.at l.moving l.invariant.1 l.invariant.2 in
    (kept_graph G K, omega (arith, c.if-rank-eq0.false), rw (kept_edges G K) (kept_rank G l.invariant.0 l.at l.invariant.1))

pub loop-preserved : goal.loop-preserved
loop-preserved c =
    let l = c.loop in
    let G = c.requires.0 in
    let r = c.args.r in
    let K = kept_set G l.invariant.0 l.at l.moving l.invariant.1 l.invariant.2 in
    let w = held_word (kept_graph G l.invariant.0) l.at l.invariant.1 in
    let e : 2 * r + 1 - l.counter ≡ suc (2 * r + 1 - (l.counter + 1)) = omega arith in
    let t = take-set-lt (2 * r) l.graph l.at l.moving l.invariant.1 in (
      K,
      c.other_slot-at.ensures.1,
      kept_rank G l.invariant.0 l.at l.invariant.1,
      l.invariant.3 ∙ rw (t, c.other_slot-at.ensures.0, kept_edges G K, w)
          (ap (λ (k : ℕ). reroot (other_slot r c.args.graph.now) k (held_in r l.graph) l.moving l.at) e
          ∙ reroot_step (other_slot r c.args.graph.now) (2 * r + 1 - (l.counter + 1)) (held_in r l.graph) l.moving l.at (λ q. c.if-rank-eq0.false (w ∙ q))),
    )

pub returns : goal.returns
returns c =
    let l = c.loop in
    let r = c.args.r in
    let z : 2 * r + 1 - l.counter ≡ 0 = omega arith in
    kept_with c.requires.0 l.invariant.0 (sym (l.invariant.3 ∙ rw z (reroot_none (other_slot r c.args.graph.now) (held_in r l.graph) l.moving l.at)))
