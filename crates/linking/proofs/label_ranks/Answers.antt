use Rattle.std.proofs.Common.{◌≡◌, refl, sym, ◌∙◌, ap, ℕ, suc, ◌+◌, ◌-◌, ◌*◌, ◌<◌, List, get_or, set, arith, rules}
use Rattle.partition.specs.Words.{rep_of}
use Rattle.edges.specs.Edge.{first_of}
use Rattle.forest.specs.Edges.{Edges, edge_at, end_0}
use Rattle.forest.proofs.Edges.{ends_fit}
use Rattle.forest.specs.Graph.{edges_in}
use Rattle.build.specs.Scratch.{Parts, parts, with_next}
use Rattle.build.proofs.Access.{enough_kept}
use Rattle.build.specs.LinkCode.{Marks, labelled_parts, labels_from}
use Rattle.build.proofs.LinkCode.{marks_more, labels_none, labels_more, labels_done}
use Rattle.linking.proofs.label_ranks.Goals as goal

-- the slot of a rank in table 0 is one
first_fits : {r : ℕ} {E : List ℕ} → Edges r E → (rank : ℕ) → first_of (edge_at r E rank) < 2 * r
unfolding end_0
first_fits G rank = (ends_fit G rank).0

-- one more label, at the word of its rank
again : {r n i k rank e v w x : ℕ} {P Q : Parts} (P₀ : Parts) → Q ≡ with_next P (set P.next rank (w + x))
    → w ≡ get_or P.next rank 0 → i < n → e ≡ edge_at r (edges_in r P.graph) rank → v ≡ first_of e → x ≡ rep_of P.sets v
    → (P.graph ≡ P₀.graph) × Marks r n i P.next × (labelled_parts r n P₀ ≡ labels_from r n i P) → rank ≡ suc i → k ≡ suc i
    → (Q.graph ≡ P₀.graph) × Marks r n k Q.next × (labelled_parts r n P₀ ≡ labels_from r n k Q)
unfolding end_0
again {r} {n} {i} {x = x} {P} P₀ is word l f g k h at to =
    rw (is, word, at, to) (h.0, marks_more _ h.1, h.2 ∙ labels_more r n P i x l (k ∙ ap (rep_of P.sets) (g ∙ ap first_of f) ∙ rw at))

pub loop-rank-init : goal.loop-rank-init
loop-rank-init c =
    (search rules, search rules, refl, c.requires.2, labels_none c.args.r c.args.n _)

pub set_of-label-requires : goal.set_of-label-requires
set_of-label-requires c =
    (enough_kept c.requires.0 c.loop-rank.invariant.1, rw (c.first-slot.ensures, c.edge.ensures, c.loop-rank.invariant.2) (first_fits c.requires.1 _))

pub loop-rank-preserved : goal.loop-rank-preserved
loop-rank-preserved c =
    let l = c.loop-rank in
    let a = c.args in
    let n = again {k = l.rank + 1 - 1} (parts a.r a.s a.n a.scratch.now) c.put_word.ensures c.word-mark.ensures (omega arith) c.edge.ensures
    c.first-slot.ensures c.set_of-label.ensures.0 (l.invariant.2, l.invariant.3, l.invariant.4) (omega arith) (omega arith) in
    (omega arith, search rules, n.0, n.1, n.2)

pub returns : goal.returns
returns c =
    let l = c.loop-rank in
    sym (l.invariant.4 ∙ labels_done c.args.r c.args.n _ (l.rank - 1) (omega arith))

pub returns-2 : goal.returns-2
returns-2 c =
    let l = c.loop-rank in
    let a = c.args in
    let n = again {k = l.rank} (parts a.r a.s a.n a.scratch.now) c.put_word.ensures c.word-mark.ensures (omega arith) c.edge.ensures
    c.first-slot.ensures c.set_of-label.ensures.0 (l.invariant.2, l.invariant.3, l.invariant.4) (omega arith) (omega arith) in
    sym (n.2 ∙ labels_done a.r a.n _ l.rank (omega arith))
