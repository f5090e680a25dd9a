-- The laws of what specs/Access.antt defines.
use Rattle.std.specs.Prelude.{ℕ, suc, ◌+◌, ◌*◌, ◌-◌, ◌≤◌, ◌<◌, ◌≡◌, List, ◌++◌, length, get_or, set, drop}
use Rattle.std.proofs.Common.{◌∙◌, ap, append_assoc, arith, length-set, length-append, length-take, length-drop, take-append-drop}
use borrow.Rule.Slice.PartMut.{mid_of, put_mid}
use Rattle.basics.proofs.Parts.{place_word, place_part, place_put, place_set}
use Rattle.forest.specs.Edges.{edge_at}
use Rattle.forest.specs.Graph.{held_in, edges_in, with_held}
use Rattle.forest.proofs.Graph.{edges_length, edge_word}
use Rattle.build.specs.Scratch.{Parts, glue, parts, held_at, edges_at, stashed_at, sets_at, next_at, used, PartsSized}
use Rattle.build.specs.Scratch.{with_graph, with_stash, with_sets, with_next}
use Rattle.build.proofs.Scratch.{graph_place, stash_place, sets_place, next_place}
use Rattle.build.proofs.Scratch.{parts_sized, glue_parts, parts_glue}
use Rattle.build.specs.Access.{Enough, Part}

-- scratch keeps its length
pub enough_kept : {r s n : ℕ} {xs ys : List ℕ} → Enough r s n xs → length ys ≡ length xs → Enough r s n ys
enough_kept E e = record { slots_bound = E.slots_bound; places_bound = E.places_bound; long = omega (arith, E.long); few = E.few }

module _ {r s n : ℕ} {xs : List ℕ} (E : Enough r s n xs) where
  abbrev P : Parts
  P = parts r s n xs

  pub parts_fit : PartsSized r s n P
  parts_fit = parts_sized r s n xs E.few E.long

  parts_whole : glue P ≡ xs
  parts_whole = glue_parts r s n xs E.few E.long

  pub graph_part : Part r s n xs (held_at r s) (edges_at r s + n) (2 * r + n) P.graph (with_graph P)
  graph_part = record {
    place = graph_place parts_fit;
    whole = parts_whole;
    size = parts_fit.graph_size;
    ends = omega arith;
    sized = λ ys e. let Z = parts_fit in record { few = Z.few; keys_size = Z.keys_size; graph_size = e; gap_size = Z.gap_size; stash_size = Z.stash_size; sets_size = Z.sets_size; next_size = Z.next_size };
  }

  pub stash_part : Part r s n xs (stashed_at r s) (sets_at r s) s P.stash (with_stash P)
  stash_part = record {
    place = stash_place parts_fit;
    whole = parts_whole;
    size = parts_fit.stash_size;
    ends = omega arith;
    sized = λ ys e. let Z = parts_fit in record { few = Z.few; keys_size = Z.keys_size; graph_size = Z.graph_size; gap_size = Z.gap_size; stash_size = e; sets_size = Z.sets_size; next_size = Z.next_size };
  }

  pub sets_part : Part r s n xs (sets_at r s) (next_at r s) (2 * r) P.sets (with_sets P)
  sets_part = record {
    place = sets_place parts_fit;
    whole = parts_whole;
    size = parts_fit.sets_size;
    ends = omega arith;
    sized = λ ys e. let Z = parts_fit in record { few = Z.few; keys_size = Z.keys_size; graph_size = Z.graph_size; gap_size = Z.gap_size; stash_size = Z.stash_size; sets_size = e; next_size = Z.next_size };
  }

  pub next_part : Part r s n xs (next_at r s) (used r s) (2 * r + s + 1) P.next (with_next P)
  next_part = record {
    place = next_place parts_fit;
    whole = parts_whole;
    size = parts_fit.next_size;
    ends = omega arith;
    sized = λ ys e. let Z = parts_fit in record { few = Z.few; keys_size = Z.keys_size; graph_size = Z.graph_size; gap_size = Z.gap_size; stash_size = Z.stash_size; sets_size = Z.sets_size; next_size = e };
  }

  -- what the slots hold, which is the front of the graph
  graph_long : 2 * r ≤ length P.graph
  graph_long = omega (arith, parts_fit.graph_size)

  pub held_part : Part r s n xs (held_at r s) (edges_at r s) (2 * r) (held_in r P.graph) (λ ys. with_graph P (with_held r P.graph ys))
  held_part = record {
    place = record {
      front = P.keys;
      back = drop (2 * r) P.graph ++ (P.gap ++ (P.stash ++ (P.sets ++ (P.next ++ P.rest))));
      long = parts_fit.keys_size;
      is = λ ys. simp append_assoc;
    };
    whole = rw (take-append-drop (2 * r) P.graph) parts_whole;
    size = simp length-take (omega (arith, graph_long));
    ends = omega arith;
    sized = λ ys e. graph_part.sized (ys ++ drop (2 * r) P.graph) (simp (length-append, length-drop) (omega (arith, parts_fit.graph_size)));
  }

module _ {r s n at end k : ℕ} {xs X : List ℕ} {new : List ℕ → Parts} (Q : Part r s n xs at end k X new) where
  -- the word at i, which is the word v of the part: read, and written
  module _ {i v : ℕ} (is : i ≡ at + v) (low : v < k) where
    pub part_word : get_or xs i 0 ≡ get_or X v 0
    part_word = rw (is, ← Q.whole) (place_word Q.place X v (omega (arith, Q.size)))

    pub part_set : (x : ℕ) → parts r s n (set xs i x) ≡ new (set X v x)
    part_set x =
        rw (is, ← Q.whole, place_set Q.place X v x (omega (arith, Q.size))) (parts_glue (Q.sized (set X v x) (length-set X v x ∙ Q.size)))

  -- the part, lent from a to e
  module _ {a e : ℕ} (start : a ≡ at) (stop : e ≡ end) where
    count : e - a ≡ k
    count = omega (arith, Q.ends)

    pub part_lent : mid_of a (e - a) xs ≡ X
    part_lent = rw (count, start, ← Q.whole) (place_part Q.place X k Q.size)

    pub part_long : length (mid_of a (e - a) xs) ≡ k
    part_long = ap length part_lent ∙ Q.size

    -- the words that came back are a change f of those that were lent
    pub part_renewed : (f : List ℕ → List ℕ) {ys : List ℕ} → ys ≡ f (mid_of a (e - a) xs) → length ys ≡ length (mid_of a (e - a) xs)
        → parts r s n (put_mid a (e - a) xs ys) ≡ new (f X)
    part_renewed f {ys} is l =
        rw (count, start, ← Q.whole, place_put Q.place X k Q.size ys) (parts_glue (Q.sized ys (l ∙ part_long))) ∙ ap new (is ∙ ap f part_lent)

-- the graph, lent whole: from where the held words begin to n words behind where the edges begin
module _ {r s n : ℕ} {xs : List ℕ} (E : Enough r s n xs) {a e : ℕ} (start : a ≡ held_at r s) (edges : e ≡ edges_at r s) where
  stop : e + n ≡ edges_at r s + n
  stop = ap (λ (k : ℕ). k + n) edges

  pub graph_lent : mid_of a (e + n - a) xs ≡ (parts r s n xs).graph
  graph_lent = part_lent (graph_part E) start stop

  pub graph_renewed : (f : List ℕ → List ℕ) {ys : List ℕ} → ys ≡ f (mid_of a (e + n - a) xs) → length ys ≡ length (mid_of a (e + n - a) xs)
      → parts r s n (put_mid a (e + n - a) xs ys) ≡ with_graph (parts r s n xs) (f (parts r s n xs).graph)
  graph_renewed f = part_renewed (graph_part E) start stop f

-- the edge of a rank, read at i
module _ {r s n : ℕ} {xs : List ℕ} (E : Enough r s n xs) where
  pub edges_count : length (edges_in r (parts r s n xs).graph) ≡ suc n
  edges_count = omega (arith, edges_length r (parts r s n xs).graph, (parts_fit E).graph_size)

  pub edge_at_word : {i rank : ℕ} → i ≡ edges_at r s + rank - 1 → 0 < rank → rank ≤ n → get_or xs i 0 ≡ edge_at r (edges_in r (parts r s n xs).graph) rank
  edge_at_word {i} {rank} is some few =
      let at : i ≡ held_at r s + (2 * r + rank - 1) = omega arith in
      part_word (graph_part E) at (omega arith) ∙ edge_word r (parts r s n xs).graph rank some (omega (arith, edges_count))
