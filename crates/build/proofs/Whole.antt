-- The laws of what specs/Whole.antt defines.
use Rattle.std.specs.Prelude.{ℕ, suc, ◌*◌, ◌-◌, ◌<◌, ◌≤◌, ◌≡◌, refl, List, [], ◌∷◌, ◌++◌, false, length, get_or, replicate, Option, Some, None}
use Rattle.std.proofs.Common.{sym, ◌∙◌, subst}
use Rattle.std.proofs.Math.Path.{ap}
use Rattle.std.proofs.Math.Bool.{true, cond}
use native.Mathlib.Omega.{arith}
use Rattle.basics.proofs.Tests.{zero_one}
use Rattle.cuckoo.specs.Graph.{stash, slot_key, slot_next}
use Rattle.cuckoo.specs.Renaming.{ranks}
use Rattle.forest.specs.Edges.{Edges, end_0, end_1, other_end}
use Rattle.forest.proofs.Edges.{ends_fit, ends_turn, ends_apart}
use Rattle.forest.specs.Graph.{Graph, held_in, edges_in}
use Rattle.forest.proofs.Graph.{held_with, edges_with, edges_length}
use Rattle.build.specs.EachSlot.{listed}
use Rattle.build.specs.Link.{Linking}
use Rattle.build.specs.Notes.{Noting, pair_base}
use Rattle.build.proofs.Built as BuiltLaws
use Rattle.build.specs.Built as Built
use Rattle.build.specs.Scratch.{Parts, parts, PartsSized}
use Rattle.build.specs.Access.{Enough}
use Rattle.build.proofs.Access.{parts_fit}
use Rattle.build.specs.LinkCode.{Marks, linked_parts, labelled_parts, unlinked_parts}
use Rattle.build.proofs.LinkCode.{start_linkable, start_all, start_edges, after_linkable}
use Rattle.build.specs.NotesCode.{cleared_parts, smallest_parts, Labelled, with_noting, ranks_noted, answer}
use Rattle.build.proofs.NotesCode.{ranks_told, overflow_told}
use Rattle.build.specs.FinishCode.{Finishable, ranks_finished}
use Rattle.build.proofs.FinishCode.{finished_edges, finished_held}
use Rattle.build.specs.NextCode.{chained_parts}
use Rattle.build.specs.Build.{edges_of, Buildable, full, made}
use Rattle.build.specs.Build as Promise
use Rattle.build.specs.Whole.{labelled_from, smallest_from, whole_noting, noted_from, seated_from}

-- pass after pass
module _ (r s n : ℕ) (P : Parts) where
  pub after_four : {P₁ P₂ P₃ P₄ : Parts} → P₄ ≡ smallest_parts r n P₃ → P₃ ≡ cleared_parts r s P₂ → P₂ ≡ labelled_parts r n P₁ → P₁ ≡ linked_parts r n P
      → P₄ ≡ smallest_from r s n P
  after_four e f g h = e ∙ (rw (f, g, h))

  pub noted_whole : {Q R : Parts} {k : Option ℕ} → Q ≡ smallest_from r s n P → R ≡ with_noting Q (ranks_noted r n 0 0 Q)
      → k ≡ answer (ranks_noted r n 0 0 Q) → (R ≡ noted_from r s n P) × (k ≡ answer (whole_noting r s n P))
  noted_whole e f g = (f ∙ (rw e), g ∙ (rw e))

module _ {r s n : ℕ} (P : Parts) (G : Edges r (edges_in r P.graph)) (Z : PartsSized r s n P) (small : n < pair_base) where
  abbrev E : List ℕ
  E = edges_in r P.graph

  abbrev a : ℕ → ℕ
  a = end_0 r E

  abbrev b : ℕ → ℕ
  b = end_1 r E

  abbrev o : ℕ → ℕ → ℕ
  o = other_end r E

  abbrev linking : Linking
  linking = Built.linking a b o (2 * r) n P.next

  graph_long : 2 * r ≤ length P.graph
  graph_long = omega (arith, Z.graph_size)

  edges_many : length E ≡ suc n
  edges_many = omega (arith, edges_length r P.graph, Z.graph_size)

  next_long : n < length P.next
  next_long = omega (arith, Z.next_size, Z.few)

  -- step 1 leaves a graph with the same edges
  linked_graph : Graph r (linked_parts r n P).graph
  linked_graph =
      let h : length (edges_in r (unlinked_parts r P).graph) ≡ suc n = ap length (start_edges P G graph_long) ∙ edges_many in
      subst (λ (Z : Parts). Graph r Z.graph) (start_all P G graph_long n) (after_linkable (start_linkable P G graph_long) n (omega arith)).graph

  held_size : length linking.held ≡ 2 * r
  held_size = BuiltLaws.linking_size (ends_turn G) (omega (arith, G.most)) (ends_fit G) (ends_apart G) n small P.next next_long

  linked_edges : edges_in r (linked_parts r n P).graph ≡ E
  linked_edges = edges_with r P.graph linking.held held_size

  -- so step 2 can be done, and step 4
  pub linked_able : Edges r (edges_in r (linked_parts r n P).graph)
  linked_able = linked_graph.edges

  pub linked_marks : Marks r n 0 (linked_parts r n P).next
  linked_marks = record {
    low = λ x l k. BuiltLaws.marks_low (ends_turn G) (omega (arith, G.most)) (ends_fit G) (ends_apart G) n small P.next next_long x l k;
  }

  labels_are : (labelled_from r s n P).next ≡ Built.labels a b o (2 * r) n P.next
  unfolding Built.labels
  labels_are = rw linked_edges

  pub smallest_labelled : Labelled r n (smallest_from r s n P).next
  smallest_labelled = record {
    low = λ x l k. rw labels_are
        (omega (arith, BuiltLaws.labels_low (ends_turn G) (omega (arith, G.most)) (ends_fit G) (ends_apart G) n small P.next next_long x l k));
  }

  abbrev N : Noting
  N = Built.noting a b o (2 * r) n P.next s

  noting_is : whole_noting r s n P ≡ N
  unfolding Built.noting Built.low
  noting_is = let z : n - 0 ≡ n = omega arith in rw (z, labels_are)

  -- what the theorem about lists says
  whole : Built.Right a b (ranks n) (2 * r) s (Built.built a b o (2 * r) n P.next s)
  whole = BuiltLaws.built_edges G n small P.next next_long s

  module _ (e : (whole_noting r s n P).overflow ≡ false) where
    room : N.overflow ≡ false
    room = ap (λ (M : Noting). M.overflow) (sym noting_is) ∙ e

    -- so step 5 can be done
    pub noted_finishable : Finishable r n (noted_from r s n P)
    noted_finishable = record {
      graph = linked_graph;
      many = omega (arith, ap length linked_edges, edges_many);
      closing = λ l f. rw noting_is (BuiltLaws.closing_few (ends_turn G) (omega (arith, G.most)) (ends_fit G) (ends_apart G) n small P.next next_long s room l f);
    }

    abbrev Q : Parts
    Q = noted_from r s n P

    pub seated_edges : edges_in r (seated_from r s n P).graph ≡ E
    seated_edges = finished_edges Q noted_finishable n (omega arith) ∙ linked_edges

    seated_held : held_in r (seated_from r s n P).graph ≡ Built.held a b o (2 * r) n P.next s
    unfolding Built.held
    seated_held = finished_held Q noted_finishable n (omega arith) ∙ (rw (noting_is, linked_edges, held_with r P.graph linking.held held_size))

    seated_next : (seated_from r s n P).next ≡ Built.chain a b o (2 * r) n P.next s
    unfolding Built.chain
    seated_next = rw noting_is

    made_is : Built.built a b o (2 * r) n P.next s ≡ Built.made (held_in r (seated_from r s n P).graph) (seated_from r s n P).next (seated_from r s n P).stash N.count
    unfolding Built.built
    made_is = rw (room, seated_held, seated_next, noting_is)

    -- and what stands then is the image of the ranks
    pub whole_standing : {k : ℕ} → (whole_noting r s n P).count ≡ k
        → (length (stash a b (ranks n)) ≤ s) × (k ≡ length (stash a b (ranks n)))
        × (held_in r (seated_from r s n P).graph ≡ listed (slot_key a b (ranks n)) (2 * r) 0)
        × ((v : ℕ) → v < 2 * r → get_or (seated_from r s n P).next (slot_key a b (ranks n) v) 0 ≡ slot_next a b (ranks n) v)
        × ((seated_from r s n P).stash ≡ stash a b (ranks n) ++ replicate (s - length (stash a b (ranks n))) 0)
    whole_standing {k} c = elim whole [
      | Built.full l q ↦ absurd (zero_one (ap (λ (B : Built.Built). cond (Built.is_made B) 1 0) (sym q ∙ made_is)))
      | Built.right nx l q h w ↦
          let m = sym made_is ∙ q in (
            l,
            sym c ∙ ap (λ (M : Noting). M.count) noting_is ∙ ap Built.count_of m,
            ap Built.held_of m,
            λ v f. rw (ap Built.next_of m) (w v f),
            ap Built.built_stash m,
          )
    ]

  -- Or there was no room for the stash.
  pub whole_full : (whole_noting r s n P).overflow ≡ true → s < length (stash a b (ranks n))
  unfolding Built.built
  whole_full e = elim whole [
    | Built.full l q ↦ l
    | Built.right nx l q h w ↦
        let f : N.overflow ≡ true = ap (λ (M : Noting). M.overflow) (sym noting_is) ∙ e in
        absurd (zero_one (ap (λ (B : Built.Built). cond (Built.is_made B) 1 0) (rw f at q)))
  ]

-- What `build` promises, by the parts after each of its two halves.
module _ {r s n : ℕ} {before : List ℕ} (B : Buildable r s n before) where
  pub enough : Enough r s n before
  enough = record { slots_bound = B.edges.most; places_bound = B.places_bound; long = B.room; few = B.few }

  pub ranks_small : n < pair_base
  ranks_small = omega (arith, B.few, B.edges.most, B.places_bound)

module _ {r s n : ℕ} {before : List ℕ} (mid : List ℕ) (B : Buildable r s n before)
    (prepared : parts r s n mid ≡ noted_from r s n (parts r s n before)) where
  abbrev P₀ : Parts
  P₀ = parts r s n before

  pub mid_finishable : {k : ℕ} → Some k ≡ answer (whole_noting r s n P₀) → Finishable r n (parts r s n mid)
  mid_finishable e = rw prepared (noted_finishable P₀ B.edges (parts_fit (enough B)) (ranks_small B) (ranks_told (whole_noting r s n P₀) e).0)

  pub full_built : None ≡ answer (whole_noting r s n P₀) → Promise.Built r s n before mid None
  full_built e = record {
    keys = ap (λ (Z : Parts). Z.keys) prepared;
    edges = noted_edges;
    built = full (rw noted_edges (whole_full P₀ B.edges (parts_fit (enough B)) (ranks_small B) (overflow_told (whole_noting r s n P₀) e))) refl;
  }
    where
      noted_edges : edges_of r s n mid ≡ edges_of r s n before
      noted_edges = rw prepared (linked_edges P₀ B.edges (parts_fit (enough B)) (ranks_small B))

  pub made_built : {k : ℕ} {after : List ℕ} → Some k ≡ answer (whole_noting r s n P₀)
      → parts r s n after ≡ chained_parts r n (ranks_finished r n (parts r s n mid)) → Promise.Built r s n before after (Some k)
  made_built {k} {after} e q =
      let t = ranks_told (whole_noting r s n P₀) e in
      let seated : parts r s n after ≡ seated_from r s n P₀ = q ∙ (rw prepared) in
      let E : edges_of r s n after ≡ edges_of r s n before = rw seated (seated_edges P₀ B.edges (parts_fit (enough B)) (ranks_small B) t.0) in
      let S = whole_standing P₀ B.edges (parts_fit (enough B)) (ranks_small B) t.0 t.1 in
      record {
        keys = ap (λ (Z : Parts). Z.keys) seated;
        edges = E;
        built = made (rw E S.0) refl (rw E (ap (λ (x : ℕ). x ∷ []) S.1)) (record {
          held = rw E (rw seated S.2);
          next = λ v f. rw E (rw seated (S.3 v f));
          stashed = rw E (rw seated S.4);
        });
      }
