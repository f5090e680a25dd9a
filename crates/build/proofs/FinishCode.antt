-- The laws of what specs/FinishCode.antt defines.
use Prim.Native.Nat.{ℕ, zero, suc, ◌*◌, ◌%◌, ◌/◌, ◌<◌, ◌≤◌}
use Rattle.std.specs.Prelude.{◌≡◌, eqb, ltb, length}
use Rattle.std.proofs.Math.Path.{refl, sym}
use Rattle.std.proofs.Common.{◌∙◌, ap}
use mathlib.Core.List.{List, [], ◌∷◌, ◌++◌}
use Rattle.std.proofs.Math.Logic.{inl, inr}
use native.Mathlib.Omega.{arith}
use Rattle.std.proofs.Math.ListN.{get_or}
use borrow.Author.Tests.{eq-eqb, ne_eqb, lt-ltb, le-ltb}
use Rattle.basics.specs.Tests.{test}
use Rattle.basics.proofs.Tests.{le?}
use Rattle.cuckoo.specs.Renaming.{from, ranks}
use Rattle.cuckoo.proofs.Renaming.{ranks_more}
use Rattle.forest.specs.Edges.{end_0, end_1, other_end}
use Rattle.forest.specs.Finish.{finish_tree, finish_cycle, exchange}
use Rattle.forest.proofs.Finish.{length_finish_tree, length_finish_cycle}
use Rattle.forest.specs.Graph.{Graph, Fit, held_in, edges_in, with_held}
use Rattle.forest.proofs.Graph.{fit_set, fit_reroot, held_long, held_with, drop_with, edges_with, graph_with, with_own}
use Rattle.forest.specs.Graph.{finished_tree, finished_cycle}
use Rattle.build.specs.Notes.{pair_base}
use Rattle.build.specs.Finish.{finish_rank, finish_ranks}
use Rattle.build.specs.Scratch.{Parts, with_graph}
use Rattle.build.specs.FinishCode.{seated_rank, seated_ranks, rank_finished, ranks_finished, Finishable, E}

-- one rank, by what is found of it
module _ (r : ℕ) (P : Parts) (rank : ℕ) where
  abbrev label : ℕ
  label = get_or P.next rank 0

  module _ (G : Graph r P.graph) where
    unmoved : with_graph P (with_held r P.graph (held_in r P.graph)) ≡ P
    unmoved = ap (with_graph P) (with_own G)

    pub rank_aside : 2 * r ≤ label → P ≡ rank_finished r rank P
    unfolding finish_rank
    rank_aside l = rw (le-ltb label (2 * r) l) (sym unmoved)

    pub rank_other : label < 2 * r → (get_or P.sets label 0 % pair_base ≡ rank → ⊥) → P ≡ rank_finished r rank P
    unfolding finish_rank
    rank_other l n = rw (lt-ltb label (2 * r) l, ne_eqb (get_or P.sets label 0 % pair_base) rank n) (sym unmoved)

  module _ {Q : Parts} (l : label < 2 * r) (e : get_or P.sets label 0 % pair_base ≡ rank) where
    pub rank_tree : get_or P.sets label 0 < pair_base → Q ≡ with_graph P (finished_tree r P.graph rank) → Q ≡ rank_finished r rank P
    unfolding finish_rank
    rank_tree s q = rw (lt-ltb label (2 * r) l, eq-eqb (get_or P.sets label 0 % pair_base) rank e, lt-ltb (get_or P.sets label 0) pair_base s) q

    pub rank_cycle : pair_base ≤ get_or P.sets label 0 → Q ≡ with_graph P (finished_cycle r P.graph (get_or P.sets label 0 / pair_base)) → Q ≡ rank_finished r rank P
    unfolding finish_rank
    rank_cycle s q = rw (lt-ltb label (2 * r) l, eq-eqb (get_or P.sets label 0 % pair_base) rank e, le-ltb (get_or P.sets label 0) pair_base s) q

-- the held words keep their number, and stay ranks that have an edge
module _ (a b : ℕ → ℕ) (other : ℕ → ℕ → ℕ) (m n : ℕ) where
  fit_tree : (k z : ℕ) {h : List ℕ} → Fit n h → z < n → Fit n (finish_tree a b other k h z)
  unfolding finish_tree
  fit_tree k z {h} F l = fit_reroot other k h z (a z) F l

  fit_cycle : (k y : ℕ) {h : List ℕ} → Fit n h → y < n → Fit n (finish_cycle a b other k h y)
  unfolding finish_cycle exchange
  fit_cycle k y {h} F l =
      let o : 0 < n = omega arith in
      let f = fit_reroot other k h 0 (a y) F o in
      fit_reroot other k _ _ _ (fit_reroot other k _ y (b y) (fit_set _ 0 f o) l) (f.at _)

  module _ (next notes : List ℕ) (closing : (l : ℕ) → l < m → get_or notes l 0 / pair_base < n) where
    keeps : (c : ℕ) {h : List ℕ} → c < n → Fit n h
        → (length (finish_rank a b other m next notes c h) ≡ length h) × Fit n (finish_rank a b other m next notes c h)
    unfolding finish_rank
    keeps c {h} l F =
        let x = get_or notes (get_or next c 0) 0 in
        elim (le? m (get_or next c 0)) [
          | inl k ↦ rw (le-ltb (get_or next c 0) m k) (refl, F)
          | inr k ↦ rw (lt-ltb (get_or next c 0) m k) (elim (test (eqb (x % pair_base) c)) [
            | inr t ↦ rw t (refl, F)
            | inl t ↦ rw t (elim (test (ltb x pair_base)) [
              | inl s ↦ rw s (length_finish_tree a b other (suc m) h c, fit_tree (suc m) c F l)
              | inr s ↦ rw s (length_finish_cycle a b other (suc m) h (x / pair_base), fit_cycle (suc m) (x / pair_base) F (closing (get_or next c 0) k))
            ])
          ])
        ]

  finish_then : (next notes R : List ℕ) (c : ℕ) (h : List ℕ)
      → finish_ranks a b other m next notes (R ++ c ∷ []) h ≡ finish_rank a b other m next notes c (finish_ranks a b other m next notes R h)
  unfolding finish_ranks
  finish_then next notes [] c h = refl
  finish_then next notes (d ∷ R) c h = finish_then next notes R c (finish_rank a b other m next notes d h)

-- rank by rank
module _ {r n : ℕ} (P : Parts) (K : Finishable r n P) where
  abbrev held_by : ℕ → List ℕ
  held_by i = seated_ranks r (E P K) P.next P.sets (ranks i) (held_in r P.graph)

  held_more : (i : ℕ) → held_by (suc i) ≡ seated_rank r (E P K) P.next P.sets (suc i) (held_by i)
  held_more i =
      rw (ranks_more i) (finish_then (end_0 r (E P K)) (end_1 r (E P K)) (other_end r (E P K)) (2 * r) (length (E P K)) P.next P.sets (ranks i) (suc i) (held_in r P.graph))

  held_kept : (i : ℕ) → i ≤ n → (length (held_by i) ≡ 2 * r) × Fit (length (E P K)) (held_by i)
  unfolding from finish_ranks
  held_kept zero l = (held_long K.graph, K.graph.fit)
  held_kept (suc i) l =
      let h = held_kept i (omega arith) in
      let k = keeps (end_0 r (E P K)) (end_1 r (E P K)) (other_end r (E P K)) (2 * r) (length (E P K)) P.next P.sets (λ v f. omega (arith, K.closing v f, K.many)) (suc i)
      (omega (arith, K.many)) h.1 in
      rw (held_more i) (k.0 ∙ h.0, k.1)

  module _ (i : ℕ) (l : i ≤ n) where
    pub finished_graph : Graph r (ranks_finished r i P).graph
    finished_graph = graph_with K.graph (held_by i) (held_kept i l).0 (held_kept i l).1

    pub finished_edges : edges_in r (ranks_finished r i P).graph ≡ (E P K)
    finished_edges = edges_with r P.graph (held_by i) (held_kept i l).0

    pub finished_held : held_in r (ranks_finished r i P).graph ≡ held_by i
    finished_held = held_with r P.graph (held_by i) (held_kept i l).0

    pub finished_able : Finishable r n (ranks_finished r i P)
    finished_able = record { graph = finished_graph; many = rw finished_edges K.many; closing = K.closing }

    pub finished_more : rank_finished r (suc i) (ranks_finished r i P) ≡ ranks_finished r (suc i) P
    finished_more =
        rw (finished_edges, finished_held, drop_with r P.graph (held_by i) (held_kept i l).0, held_more i)

  pub finished_none : P ≡ ranks_finished r 0 P
  unfolding from finish_ranks
  finished_none = sym (ap (with_graph P) (with_own K.graph))
