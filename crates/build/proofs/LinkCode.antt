-- The laws of what specs/LinkCode.antt defines.
use Rattle.std.specs.Prelude.{ℕ, suc, ◌*◌, ◌+◌, ◌-◌, ◌<◌, ◌≤◌, ◌≡◌, cond, eqb, ltb, length, get_or, replicate, set}
use Rattle.std.proofs.Math.Path.{refl, sym}
use Rattle.std.proofs.Common.{◌∙◌, ap, length-append, get_or-set_other}
use mathlib.Core.List.Memᴰ.{head as here}
use mathlib.Core.List.Memᴰ.{tail as there}
use mathlib.Core.List.{List, [], ◌∷◌, ◌++◌, Memᴰ as In}
use Rattle.std.proofs.Math.Logic.{inl, inr}
use native.Mathlib.Omega.{arith}
use Rattle.std.proofs.Math.ListN.{length-replicate}
use borrow.Author.Tests.{eq-eqb, ne_eqb}
use Rattle.basics.proofs.Lists.{get_or_zeros}
use Rattle.basics.specs.Tests.{test}
use Rattle.cuckoo.specs.Renaming.{from, ranks}
use Rattle.cuckoo.proofs.Renaming.{ranks_more, from_in}
use Rattle.forest.specs.Edges.{Edges, end_0, end_1, other_end}
use Rattle.forest.proofs.Edges.{ends_fit, ends_turn}
use Rattle.forest.specs.Graph.{Graph, held_in, edges_in, with_held, rerooted}
use Rattle.forest.proofs.Graph.{fit_reroot, held_with, drop_with, edges_with, edges_length, graph_with, with_own}
use Rattle.partition.specs.Words.{Representative, Mergeable, rep_of, size_of, united, singletons_of}
use Rattle.partition.proofs.Partition.{rep_marked, mergeable}
use Rattle.build.proofs.EachSlot.{each_slot_none, each_slot_step}
use Rattle.build.specs.Link.{Linking, smaller_end, link_key, link_keys, unlinked}
use Rattle.build.proofs.Link.{sound_start, sound_key}
use Rattle.build.specs.Labels.{add_label, labelled}
use Rattle.build.specs.Built.{linking}
use Rattle.build.specs.Access.{Enough}
use Rattle.build.specs.Scratch.{Parts, parts, with_graph, with_sets, with_next}
use Rattle.build.specs.LinkCode.{linking_in, with_linking, linked_rank, linked_ranks, rank_linked, ranks_linked, unlinked_parts, linked_parts, labelled_parts, Good, Linkable, Found, E, E', L, Marks, labels_from}

module _ {r : ℕ} {E sets : List ℕ} {rank first second one two : ℕ} (K : Found r E sets rank first second one two) where
  first_set : one ≡ rep_of sets (end_0 r E rank)
  first_set = K.one_is ∙ ap (rep_of sets) K.first_is

  second_set : two ≡ rep_of sets (end_1 r E rank)
  second_set = K.two_is ∙ ap (rep_of sets) K.second_is

  module _ (end : ℕ) (end_is : end ≡ cond (ltb (size_of sets one) (size_of sets two)) first second) where
    found_end : end ≡ smaller_end (end_0 r E) (end_1 r E) sets rank
    unfolding smaller_end
    found_end = cc (first_set, second_set, end_is, K.first_is, K.second_is)

    pub end_fits : Edges r E → end < 2 * r
    end_fits G = elim (test (ltb (size_of sets one) (size_of sets two))) [
      | inl t ↦ rw (end_is, t, K.first_is) (ends_fit G rank).0
      | inr t ↦ rw (end_is, t, K.second_is) (ends_fit G rank).1
    ]

module _ {r : ℕ} {P : Parts} (Q : Linkable r P) {rank first second one two : ℕ}
    (K : Found r (edges_in r P.graph) P.sets rank first second one two) where
  pub one_marked : Representative P.sets one
  one_marked = rw (first_set K) (rep_marked Q.good.sound.linked.parts (end_0 r (E Q K) rank) (ends_fit Q.graph.edges rank).0)

  pub two_marked : Representative P.sets two
  two_marked = rw (second_set K) (rep_marked Q.good.sound.linked.parts (end_1 r (E Q K) rank) (ends_fit Q.graph.edges rank).1)

  pub ends_merge : (one ≡ two → ⊥) → Mergeable P.sets one two
  ends_merge n = mergeable Q.good.sound.linked.parts one_marked two_marked n

  -- The two ends in one set: the rank is marked. In two sets: it is marked by 0, the tree is re-rooted, and then the sets are united.
  pub within_sets : one ≡ two → with_next P (set P.next rank (2 * r)) ≡ rank_linked r rank P
  unfolding link_key
  within_sets e =
      rw (eq-eqb (rep_of P.sets (end_0 r (E Q K) rank)) (rep_of P.sets (end_1 r (E Q K) rank)) (sym (first_set K) ∙ e ∙ second_set K), with_own Q.graph)

  module _ {P₁ : Parts} (marked : P₁ ≡ with_next P (set P.next rank 0)) where
    pub marked_graph : P₁.graph ≡ P.graph
    marked_graph = ap (λ (Z : Parts). Z.graph) marked

    module _ {P₂ : Parts} (end : ℕ) (turned : P₂ ≡ with_graph P₁ (rerooted r P₁.graph rank end)) where
      pub turned_sets : P₂.sets ≡ P.sets
      turned_sets = ap (λ (Z : Parts). Z.sets) turned ∙ ap (λ (Z : Parts). Z.sets) marked

      pub between_sets : (one ≡ two → ⊥) → end ≡ cond (ltb (size_of P.sets one) (size_of P.sets two)) first second
          → {P₃ : Parts} → P₃ ≡ with_sets P₂ (united P₂.sets one two) → P₃ ≡ rank_linked r rank P
      unfolding link_key
      between_sets n e joined =
          joined ∙ (rw (
            ne_eqb (rep_of P.sets (end_0 r (E Q K) rank)) (rep_of P.sets (end_1 r (E Q K) rank)) (λ q. n (first_set K ∙ q ∙ sym (second_set K))),
            turned,
            marked,
            found_end K end e,
            first_set K,
            second_set K,
          ))

-- rank by rank
module _ {r : ℕ} {E : List ℕ} (G : Edges r E) where
  good_rank : {L : Linking} (rank : ℕ) → (rank ≡ 0 → ⊥) → rank < length E → Good r E L → Good r E (linked_rank r E rank L)
  unfolding link_key
  good_rank {L} rank nz l Q = record {
    sound = sound_key (ends_turn G) (2 * r) (ends_fit G) rank nz Q.sound;
    fit = elim (test (eqb (rep_of L.sets (end_0 r E rank)) (rep_of L.sets (end_1 r E rank)))) [
      | inl t ↦ rw t Q.fit
      | inr t ↦ rw t (fit_reroot (other_end r E) (suc (2 * r)) L.held rank _ Q.fit l)
    ];
  }

  good_ranks : (R : List ℕ) → ((c : ℕ) → In c R → (0 < c) × (c < length E)) → {L : Linking} → Good r E L → Good r E (linked_ranks r E R L)
  unfolding link_keys
  good_ranks [] h Q = Q
  good_ranks (c ∷ R) h Q =
      let k = h c (here refl) in good_ranks R (λ d i. h d (there i)) (good_rank c (λ q. omega arith) k.1 Q)

  ranks_then : (R : List ℕ) (rank : ℕ) (L : Linking) → linked_ranks r E (R ++ rank ∷ []) L ≡ linked_rank r E rank (linked_ranks r E R L)
  unfolding link_keys
  ranks_then [] rank L = refl
  ranks_then (c ∷ R) rank L = ranks_then R rank (linked_rank r E c L)

-- the parts with another linking, of the right size
module _ (r : ℕ) (P : Parts) (L : Linking) (size : length L.held ≡ 2 * r) where
  linking_with : linking_in r (with_linking r P L) ≡ L
  linking_with = rw (held_with r P.graph L.held size)

  pub edges_linking : edges_in r (with_linking r P L).graph ≡ edges_in r P.graph
  edges_linking = edges_with r P.graph L.held size

  with_again : (M : Linking) → with_linking r (with_linking r P L) M ≡ with_linking r P M
  with_again M = rw (drop_with r P.graph L.held size)

  linkable_with : Graph r P.graph → Good r (edges_in r P.graph) L → Linkable r (with_linking r P L)
  linkable_with G Q = record { graph = graph_with G L.held size Q.fit; good = rw (edges_linking, linking_with) Q }

module _ {r : ℕ} {P : Parts} (Q : Linkable r P) where
  module _ (i : ℕ) (few : i < length (E' Q)) where
    good_by : Good r (E' Q) (L Q i few)
    good_by = good_ranks Q.graph.edges (ranks i) (λ c k. let l = from_in 1 i k in (omega arith, omega arith)) Q.good

    size_by : length (L Q i few).held ≡ 2 * r
    size_by = good_by.sound.linked.size

    -- what has to hold before the next rank, and what it leads to
    pub after_linkable : Linkable r (ranks_linked r i P)
    after_linkable = linkable_with r P (L Q i few) size_by Q.graph good_by

    pub after_edges : edges_in r (ranks_linked r i P).graph ≡ (E' Q)
    after_edges = edges_linking r P (L Q i few) size_by

    pub after_more : rank_linked r (suc i) (ranks_linked r i P) ≡ ranks_linked r (suc i) P
    after_more =
        rw (after_edges, linking_with r P (L Q i few) size_by, ranks_more i, ranks_then Q.graph.edges (ranks i) (suc i) (linking_in r P))
        (with_again r P (L Q i few) size_by (linked_rank r (E' Q) (suc i) (L Q i few)))

  pub after_none : P ≡ ranks_linked r 0 P
  unfolding link_keys from
  after_none = rw (with_own Q.graph)

-- Before the first rank: the held words cleared, then each slot alone in its set. Then all ranks.
module _ {r : ℕ} (P : Parts) (edges : Edges r (edges_in r P.graph)) (long : 2 * r ≤ length P.graph) where
  start_size : length (unlinked (2 * r) P.next).held ≡ 2 * r
  unfolding unlinked
  start_size = length-replicate (2 * r) 0

  -- as good a graph as any, to start from
  bare : Graph r (unlinked_parts r P).graph
  unfolding unlinked
  bare = record {
    edges = rw (edges_linking r P (unlinked (2 * r) P.next) start_size) edges;
    long = simp (length-append, length-replicate) (omega arith);
    fit = record { at = λ v. rw (held_with r P.graph (replicate (2 * r) 0) start_size, get_or_zeros (2 * r) v) (omega (arith, edges_length r (unlinked_parts r P).graph)) };
  }

  pub start_linkable : Linkable r (unlinked_parts r P)
  start_linkable = record {
    graph = bare;
    good = record { sound = rw (linking_with r P (unlinked (2 * r) P.next) start_size) (sound_start P.next (omega (arith, edges.most))); fit = bare.fit };
  }

  pub start_all : (n : ℕ) → ranks_linked r n (unlinked_parts r P) ≡ linked_parts r n P
  unfolding linking
  start_all n =
      let U = unlinked (2 * r) P.next in
      rw (edges_linking r P U start_size, linking_with r P U start_size) (with_again r P U start_size (linked_ranks r (edges_in r P.graph) (ranks n) U))

  pub start_edges : edges_in r (unlinked_parts r P).graph ≡ edges_in r P.graph
  start_edges = edges_linking r P (unlinked (2 * r) P.next) start_size

-- the held words filled, then the sets, each part as long as it was
pub unlinked_done : {r s n : ℕ} {xs : List ℕ} {Q R : Parts} → Enough r s n xs → let P = parts r s n xs in Q ≡ with_graph P (with_held r P.graph (replicate (length (held_in r P.graph)) 0))
    → R ≡ with_sets Q (singletons_of (length Q.sets)) → length (held_in r P.graph) ≡ 2 * r → length Q.sets ≡ 2 * r → R ≡ unlinked_parts r P
unfolding unlinked
unlinked_done E e f h k = f ∙ (rw (k, e, h))

-- one more is labelled
pub marks_more : {r n i : ℕ} {next : List ℕ} (x : ℕ) → Marks r n i next → Marks r n (suc i) (set next (suc i) x)
marks_more {i = i} {next = next} x M = record { low = λ y l k. rw (get_or-set_other next (suc i) y x 0 (λ q. omega arith)) (M.low y (omega arith) k) }

-- step 2: the labels of the ranks after i are still to come
module _ (r n : ℕ) where
  module _ (P : Parts) where
    pub labels_none : labelled_parts r n P ≡ (labels_from r n) 0 P
    unfolding labelled
    labels_none = let e : n - 0 ≡ n = omega arith in rw e

    pub labels_done : (i : ℕ) → n ≤ i → (labels_from r n) i P ≡ P
    labels_done i l = let e : n - i ≡ 0 = omega arith in rw (e, each_slot_none (add_label (end_0 r (edges_in r P.graph)) P.sets) (suc i) P.next)

    pub labels_more : (i x : ℕ) → i < n → x ≡ rep_of P.sets (end_0 r (edges_in r P.graph) (suc i))
        → (labels_from r n) i P ≡ (labels_from r n) (suc i) (with_next P (set P.next (suc i) (get_or P.next (suc i) 0 + x)))
    labels_more i x l is =
        let e : n - i ≡ suc (n - suc i) = omega arith in
        rw (is, e, each_slot_step (add_label (end_0 r (edges_in r P.graph)) P.sets) (n - suc i) (suc i) P.next)
