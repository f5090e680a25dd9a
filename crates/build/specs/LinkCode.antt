-- Steps 1 and 2 over the parts of scratch: what the functions of linking/src/lib.rt leave there, and why each call and each turn of their loops is one step of
-- the passes on lists (Link, Labels). Assumes nothing.
use Rattle.std.specs.Prelude.{ℕ, suc, ◌*◌, ◌-◌, ◌<◌, ◌≤◌, ◌≡◌, length, get_or}
use mathlib.Core.List.{List}
use Rattle.cuckoo.specs.Renaming.{ranks}
use Rattle.forest.specs.Edges.{end_0, end_1, other_end}
use Rattle.forest.specs.Graph.{Graph, Fit, held_in, edges_in, with_held}
use Rattle.partition.specs.Words.{rep_of}
use Rattle.build.specs.EachSlot.{each_slot}
use Rattle.build.specs.Link.{Linking, link_key, link_keys, unlinked, Sound}
use Rattle.build.specs.Labels.{add_label, labelled}
use Rattle.build.specs.Built.{linking}
use Rattle.build.specs.Scratch.{Parts, with_graph, with_sets, with_next}

module _ (r : ℕ) where
  -- the held words, the sets and the words of the ranks, as they stand in the parts; and the parts with others
  abbrev pub linking_in : Parts → Linking
  linking_in P = record { held = held_in r P.graph; sets = P.sets; next = P.next }

  abbrev pub with_linking : Parts → Linking → Parts
  with_linking P L = with_next (with_sets (with_graph P (with_held r P.graph L.held)) L.sets) L.next

  -- by the edges E: one rank, and several
  abbrev pub linked_rank : List ℕ → ℕ → Linking → Linking
  linked_rank E rank L = link_key (end_0 r E) (end_1 r E) (other_end r E) (2 * r) rank L

  abbrev pub linked_ranks : List ℕ → List ℕ → Linking → Linking
  linked_ranks E R L = link_keys (end_0 r E) (end_1 r E) (other_end r E) (2 * r) R L

  -- the parts after one rank; after the first i of them; and before the first, whatever stood in the held words and the sets
  abbrev pub rank_linked : ℕ → Parts → Parts
  rank_linked rank P = with_linking P (linked_rank (edges_in r P.graph) rank (linking_in P))

  abbrev pub ranks_linked : ℕ → Parts → Parts
  ranks_linked i P = with_linking P (linked_ranks (edges_in r P.graph) (ranks i) (linking_in P))

  abbrev pub unlinked_parts : Parts → Parts
  unlinked_parts P = with_linking P (unlinked (2 * r) P.next)

  abbrev pub linked_parts : ℕ → Parts → Parts
  linked_parts n P = let E = edges_in r P.graph in with_linking P (linking (end_0 r E) (end_1 r E) (other_end r E) (2 * r) n P.next)

  -- the parts with the labels of n ranks
  abbrev pub labelled_parts : ℕ → Parts → Parts
  labelled_parts n P = with_next P (labelled (end_0 r (edges_in r P.graph)) P.sets n P.next)

  -- What has to hold before a rank is linked: a graph with a sound forest.
  pub record Good (E : List ℕ) (L : Linking) : Type 0 where
    pub sound : Sound (end_0 r E) (end_1 r E) (2 * r) L
    pub fit : Fit (length E) L.held

  pub record Linkable (P : Parts) : Type 0 where
    pub graph : Graph r P.graph
    pub good : Good (edges_in r P.graph) (linking_in P)

-- what code has found of a rank: its two slots and their representatives
pub record Found (r : ℕ) (E sets : List ℕ) (rank first second one two : ℕ) : Type 0 where
  pub first_is : first ≡ end_0 r E rank
  pub second_is : second ≡ end_1 r E rank
  pub one_is : one ≡ rep_of sets first
  pub two_is : two ≡ rep_of sets second

module _ {r : ℕ} {P : Parts} (Q : Linkable r P) {rank first second one two : ℕ}
    (K : Found r (edges_in r P.graph) P.sets rank first second one two) where
  abbrev pub E : List ℕ
  E = edges_in r P.graph

module _ {r : ℕ} {P : Parts} (Q : Linkable r P) where
  abbrev pub E' : List ℕ
  E' = edges_in r P.graph

  module _ (i : ℕ) (few : i < length E') where
    abbrev pub L : Linking
    L = linked_ranks r E' (ranks i) (linking_in r P)

-- the words of the ranks after i are marks, 0 or 2r, or at least not larger
pub record Marks (r n i : ℕ) (next : List ℕ) : Type 0 where
  pub low : (x : ℕ) → i < x → x ≤ n → get_or next x 0 ≤ 2 * r

-- step 2: the labels of the ranks after i are still to come
module _ (r n : ℕ) where
  abbrev pub labels_from : ℕ → Parts → Parts
  labels_from i P = with_next P (each_slot (add_label (end_0 r (edges_in r P.graph)) P.sets) (n - i) (suc i) P.next)
