-- The one definition of how the build's parts lie in scratch: the keys by rank (2r + s + 1 words, the first of them 0, for no key); the graph of n ranks, that
-- is what each of the 2r slots holds and then the edges (n words, with a gap behind them where there could be more); the stash (s words); the sets (2r words);
-- next, by rank (2r + s + 1 words); then words that the build never touches. `sets` serves the partition first, then the notes; `next` has the labels first.
-- Each law is one about a part in the middle of words, at a place (`basics/proofs/Parts.antt`). Assumes nothing.
use Rattle.std.specs.Prelude.{ℕ, ◌+◌, ◌-◌, ◌*◌, ◌≤◌, ◌≡◌, List, ◌++◌, length, take, drop}

pub record Parts : Type 0 where
  pub keys : List ℕ
  pub graph : List ℕ
  pub gap : List ℕ
  pub stash : List ℕ
  pub sets : List ℕ
  pub next : List ℕ
  pub rest : List ℕ

abbrev pub glue : Parts → List ℕ
glue P = P.keys ++ (P.graph ++ (P.gap ++ (P.stash ++ (P.sets ++ (P.next ++ P.rest)))))

-- where each part but the keys begins, and how many words there are in all
abbrev pub held_at : ℕ → ℕ → ℕ
held_at r s = 2 * r + s + 1

abbrev pub edges_at : ℕ → ℕ → ℕ
edges_at r s = 4 * r + s + 1

abbrev pub stashed_at : ℕ → ℕ → ℕ
stashed_at r s = 6 * r + 2 * s + 1

abbrev pub sets_at : ℕ → ℕ → ℕ
sets_at r s = 6 * r + 3 * s + 1

abbrev pub next_at : ℕ → ℕ → ℕ
next_at r s = 8 * r + 3 * s + 1

abbrev pub used : ℕ → ℕ → ℕ
used r s = 10 * r + 4 * s + 2

pub record PartsSized (r s n : ℕ) (P : Parts) : Type 0 where
  pub few : n ≤ 2 * r + s
  pub keys_size : length P.keys ≡ 2 * r + s + 1
  pub graph_size : length P.graph ≡ 2 * r + n
  pub gap_size : length P.gap ≡ 2 * r + s - n
  pub stash_size : length P.stash ≡ s
  pub sets_size : length P.sets ≡ 2 * r
  pub next_size : length P.next ≡ 2 * r + s + 1

-- the parts of given words, with the edges of n ranks
unfoldable pub parts : ℕ → ℕ → ℕ → List ℕ → Parts
parts r s n xs =
    record {
      keys = take (2 * r + s + 1) xs;
      graph = take (2 * r + n) (drop (held_at r s) xs);
      gap = take (2 * r + s - n) (drop (edges_at r s + n) xs);
      stash = take s (drop (stashed_at r s) xs);
      sets = take (2 * r) (drop (sets_at r s) xs);
      next = take (2 * r + s + 1) (drop (next_at r s) xs);
      rest = drop (used r s) xs;
    }

-- the parts with another one of them
abbrev pub with_graph : Parts → List ℕ → Parts
with_graph P ys = record { keys = P.keys; graph = ys; gap = P.gap; stash = P.stash; sets = P.sets; next = P.next; rest = P.rest }

abbrev pub with_stash : Parts → List ℕ → Parts
with_stash P ys = record { keys = P.keys; graph = P.graph; gap = P.gap; stash = ys; sets = P.sets; next = P.next; rest = P.rest }

abbrev pub with_sets : Parts → List ℕ → Parts
with_sets P ys = record { keys = P.keys; graph = P.graph; gap = P.gap; stash = P.stash; sets = ys; next = P.next; rest = P.rest }

abbrev pub with_next : Parts → List ℕ → Parts
with_next P ys = record { keys = P.keys; graph = P.graph; gap = P.gap; stash = P.stash; sets = P.sets; next = ys; rest = P.rest }
