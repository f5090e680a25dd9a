-- The laws of what specs/Scratch.antt defines.
use Rattle.std.specs.Prelude.{ℕ, ◌+◌, ◌-◌, ◌*◌, ◌≤◌, ◌≡◌, refl, List, ◌++◌, length, take, drop}
use Rattle.std.proofs.Common.{append_assoc, arith, length-append, take-append-drop, drop_at, drop-drop}
use Rattle.std.proofs.Math.Seq.{take_at}
use Rattle.basics.specs.Parts.{PartAt}
use Rattle.basics.proofs.Parts.{part_length, place_part}
use Rattle.build.specs.Scratch.{Parts, glue, held_at, edges_at, stashed_at, sets_at, next_at, used, PartsSized, parts, with_graph, with_stash, with_sets, with_next}

-- the place of each of these
module _ {r s n : ℕ} {P : Parts} (Z : PartsSized r s n P) where
  pub graph_place : PartAt (held_at r s) (λ ys. glue (with_graph P ys))
  graph_place = record {
    front = P.keys;
    back = P.gap ++ (P.stash ++ (P.sets ++ (P.next ++ P.rest)));
    long = Z.keys_size;
    is = λ ys. refl;
  }

  pub stash_place : PartAt (stashed_at r s) (λ ys. glue (with_stash P ys))
  stash_place = record {
    front = P.keys ++ (P.graph ++ P.gap);
    back = P.sets ++ (P.next ++ P.rest);
    long = simp (length-append, Z.keys_size, Z.graph_size, Z.gap_size) (omega (arith, Z.few));
    is = λ ys. simp append_assoc;
  }

  pub sets_place : PartAt (sets_at r s) (λ ys. glue (with_sets P ys))
  sets_place = record {
    front = P.keys ++ (P.graph ++ (P.gap ++ P.stash));
    back = P.next ++ P.rest;
    long = simp (length-append, Z.keys_size, Z.graph_size, Z.gap_size, Z.stash_size) (omega (arith, Z.few));
    is = λ ys. simp append_assoc;
  }

  pub next_place : PartAt (next_at r s) (λ ys. glue (with_next P ys))
  next_place = record {
    front = P.keys ++ (P.graph ++ (P.gap ++ (P.stash ++ P.sets)));
    back = P.rest;
    long = simp (length-append, Z.keys_size, Z.graph_size, Z.gap_size, Z.stash_size, Z.sets_size) (omega (arith, Z.few));
    is = λ ys. simp append_assoc;
  }

-- words that are long enough are their parts
module _ (r s n : ℕ) (xs : List ℕ) (few : n ≤ 2 * r + s) (long : used r s ≤ length xs) where
  pub parts_sized : PartsSized r s n (parts r s n xs)
  unfolding parts
  parts_sized = record {
    few = few;
    keys_size = part_length 0 (2 * r + s + 1) xs (omega arith);
    graph_size = part_length (held_at r s) (2 * r + n) xs (omega arith);
    gap_size = part_length (edges_at r s + n) (2 * r + s - n) xs (omega arith);
    stash_size = part_length (stashed_at r s) s xs (omega arith);
    sets_size = part_length (sets_at r s) (2 * r) xs (omega arith);
    next_size = part_length (next_at r s) (2 * r + s + 1) xs (omega arith);
  }

  -- the next stretch of words, and what comes after it
  stretch : (k at end : ℕ) → at + k ≡ end → take k (drop at xs) ++ drop end xs ≡ drop at xs
  stretch k at end e = rw (← e, ← drop-drop k at xs) (take-append-drop k (drop at xs))

  pub glue_parts : glue (parts r s n xs) ≡ xs
  unfolding parts
  glue_parts =
      rw (
        stretch (2 * r + s + 1) (next_at r s) (used r s) (omega arith),
        stretch (2 * r) (sets_at r s) (next_at r s) (omega arith),
        stretch s (stashed_at r s) (sets_at r s) (omega arith),
        stretch (2 * r + s - n) (edges_at r s + n) (stashed_at r s) (omega arith),
        stretch (2 * r + n) (held_at r s) (edges_at r s + n) (omega arith),
      )
      (take-append-drop (2 * r + s + 1) xs)

-- and parts of these sizes are the parts of their words
module _ {r s n : ℕ} {P : Parts} (Z : PartsSized r s n P) where
  rest_place : drop (used r s) (glue P) ≡ P.rest
  rest_place =
      let front = P.keys ++ (P.graph ++ (P.gap ++ (P.stash ++ (P.sets ++ P.next)))) in
      let e : glue P ≡ front ++ P.rest = simp append_assoc in
      let long : length front ≡ used r s =
      simp (length-append, Z.keys_size, Z.graph_size, Z.gap_size, Z.stash_size, Z.sets_size, Z.next_size) (omega (arith, Z.few)) in
      rw e (drop_at front P.rest (used r s) long)

  gap_place : PartAt (edges_at r s + n) (λ ys. P.keys ++ (P.graph ++ (ys ++ (P.stash ++ (P.sets ++ (P.next ++ P.rest))))))
  gap_place = record {
    front = P.keys ++ P.graph;
    back = P.stash ++ (P.sets ++ (P.next ++ P.rest));
    long = simp (length-append, Z.keys_size, Z.graph_size) (omega arith);
    is = λ ys. simp append_assoc;
  }

  pub parts_glue : parts r s n (glue P) ≡ P
  unfolding parts
  parts_glue =
      rw (
        take_at P.keys _ (2 * r + s + 1) Z.keys_size,
        place_part (graph_place Z) P.graph (2 * r + n) Z.graph_size,
        place_part gap_place P.gap (2 * r + s - n) Z.gap_size,
        place_part (stash_place Z) P.stash s Z.stash_size,
        place_part (sets_place Z) P.sets (2 * r) Z.sets_size,
        place_part (next_place Z) P.next (2 * r + s + 1) Z.next_size,
        rest_place,
      )
