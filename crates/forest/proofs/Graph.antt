-- The laws of what specs/Graph.antt defines.
use Prim.Native.Nat.{ℕ, zero, suc, ◌+◌, ◌*◌, ◌-◌, ◌<◌}
use Rattle.std.specs.Prelude.{◌≡◌, refl, length, set, drop}
use Rattle.std.proofs.Math.Path.{sym, ap}
use Rattle.std.proofs.Common.{◌∙◌, inl, inr, length-append, length-take, length-drop, length-set, take-append-drop, get_or-take, get_or-drop, get_or-set_same, get_or-set_other, take_at, drop_at, drop-set-lt}
use mathlib.Core.List.{List, ◌∷◌}
use native.Mathlib.Omega.{arith}
use Rattle.std.proofs.Math.ListN.{get_or}
use Rattle.std.proofs.Math.Seq.{set_out, take-set-lt, length_front}
use Rattle.basics.proofs.Tests.{eq?, le?}
use Rattle.edges.specs.Edge.{no_edge, no_edge_first}
use Rattle.forest.specs.Edges.{edge_at, end_0, end_1, other_end}
use Rattle.forest.proofs.Edges.{edge_read}
use Rattle.forest.specs.Reroot.{reroot}
use Rattle.forest.proofs.RerootLaws.{reroot_none, reroot_stop, reroot_step, length_reroot}
use Rattle.forest.specs.Way.{lowest_slot}
use Rattle.forest.specs.Finish.{exchange, finish_cycle}
use Rattle.forest.specs.Graph.{held_in, edges_in, with_held, Fit, Graph, first_slot, second_slot, other_slot, rerooted, lowest, exchanged, finished_cycle, Kept, n}

-- The laws. First, words in bounds.
pub fit_set : {n : ℕ} {words : List ℕ} (v x : ℕ) → Fit n words → x < n → Fit n (set words v x)
fit_set {n} {words} v x F l = record {
  at = λ u. elim (eq? u v) [
    | inl q ↦ elim (le? (length words) v) [
      | inl k ↦ rw (set_out words v x k) (F.at u)
      | inr k ↦ rw (q, get_or-set_same words v x 0 k) l
    ]
    | inr ne ↦ rw (get_or-set_other words v u x 0 ne) (F.at u)
  ];
}

pub fit_reroot : (other : ℕ → ℕ → ℕ) (k : ℕ) {n : ℕ} (h : List ℕ) (carry v : ℕ) → Fit n h → carry < n → Fit n (reroot other k h carry v)
fit_reroot other zero h carry v F l = rw (reroot_none other h carry v) F
fit_reroot other (suc k) h carry v F l = elim (eq? (get_or h v 0) 0) [
  | inl e ↦ rw (reroot_stop other k h carry v e) (fit_set v carry F l)
  | inr n ↦ rw (reroot_step other k h carry v n) (fit_reroot other k (set h v carry) (get_or h v 0) (other v (get_or h v 0)) (fit_set v carry F l) (F.at v))
]

module _ (r : ℕ) (g : List ℕ) where
  pub edges_length : length (edges_in r g) ≡ suc (length g - 2 * r)
  unfolding edges_in
  edges_length = ap suc (length-drop (2 * r) g)

  -- the edge of a rank, read
  pub edge_word : (rank : ℕ) → 0 < rank → rank < length (edges_in r g) → get_or g (2 * r + rank - 1) 0 ≡ edge_at r (edges_in r g) rank
  unfolding edges_in
  edge_word zero l k = absurd (omega arith)
  edge_word (suc i) l k =
      let e : 2 * r + suc i - 1 ≡ 2 * r + i = omega arith in
      rw e (sym (get_or-drop (2 * r) g i 0) ∙ sym (edge_read r (edges_in r g) (suc i) k))

  -- rank 0 has the first slot
  pub first_none : first_slot r g 0 ≡ 0
  unfolding edges_in end_0 edge_at
  first_none = no_edge_first r

  -- other held words, as many: the edges stay
  module _ (h : List ℕ) (size : length h ≡ 2 * r) where
    pub held_with : held_in r (with_held r g h) ≡ h
    held_with = take_at h (drop (2 * r) g) (2 * r) size

    pub drop_with : drop (2 * r) (with_held r g h) ≡ drop (2 * r) g
    drop_with = drop_at h (drop (2 * r) g) (2 * r) size

    pub edges_with : edges_in r (with_held r g h) ≡ edges_in r g
    unfolding edges_in
    edges_with = ap (λ (E : List ℕ). no_edge r ∷ E) drop_with

-- and it is a graph if each of them is a rank or 0
module _ {r : ℕ} {g : List ℕ} (G : Graph r g) where
  pub held_long : length (held_in r g) ≡ 2 * r
  held_long = simp length-take (omega (arith, G.long))

  pub graph_with : (h : List ℕ) → length h ≡ 2 * r → Fit (length (edges_in r g)) h → Graph r (with_held r g h)
  graph_with h size F = record {
    edges = rw (edges_with r g h size) G.edges;
    long = omega (arith, length-append h (drop (2 * r) g));
    fit = rw (edges_with r g h size, held_with r g h size) F;
  }

  pub with_own : with_held r g (held_in r g) ≡ g
  with_own = take-append-drop (2 * r) g

  -- a held word, read and written
  pub held_word : (v : ℕ) → v < 2 * r → get_or g v 0 ≡ get_or (held_in r g) v 0
  held_word v l = sym (get_or-take (2 * r) g v 0 l)

module _ {r : ℕ} {before : List ℕ} (G : Graph r before) where
  pub kept_start : Kept r before before
  kept_start = record { size = refl; same = refl; fit = G.fit }

  module _ {after : List ℕ} (K : Kept r before after) where
    pub kept_edges : edges_in r after ≡ edges_in r before
    unfolding edges_in
    kept_edges = ap (λ (E : List ℕ). no_edge r ∷ E) K.same

    pub kept_graph : Graph r after
    kept_graph = record { edges = rw kept_edges G.edges; long = omega (arith, G.long, K.size); fit = rw kept_edges K.fit }

    pub kept_set : (v x : ℕ) → v < 2 * r → x < length (edges_in r before) → Kept r before (set after v x)
    kept_set v x l k = record {
      size = length-set after v x ∙ K.size;
      same = drop-set-lt (2 * r) after v x l ∙ K.same;
      fit = rw (take-set-lt (2 * r) after v x l) (fit_set v x K.fit k);
    }

    -- what a slot holds is a rank of the edges
    pub kept_rank : (v : ℕ) → v < 2 * r → get_or after v 0 < length (edges_in r before)
    kept_rank v l = rw (held_word kept_graph v l) (K.fit.at v)

    -- re-rooted from there: what it holds is told by the edges of before
    module _ (carry slot : ℕ) (rank : carry < length (edges_in r before)) where
      abbrev next : List ℕ
      next = reroot (other_slot r after) (suc (2 * r)) (held_in r after) carry slot

      next_size : length next ≡ 2 * r
      next_size = length_reroot (other_slot r after) (suc (2 * r)) (held_in r after) carry slot ∙ held_long kept_graph

      pub turned : {out : List ℕ} → out ≡ rerooted r after carry slot
          → Kept r before out × (held_in r out ≡ reroot (other_slot r before) (suc (2 * r)) (held_in r after) carry slot)
      turned e = (
        record {
          size = ap length e ∙ length_front after next (2 * r) (next_size ∙ sym (held_long kept_graph)) ∙ K.size;
          same = ap (drop (2 * r)) e ∙ drop_with r after next next_size ∙ K.same;
          fit = rw (e, held_with r after next next_size) (fit_reroot (other_slot r after) (suc (2 * r)) (held_in r after) carry slot K.fit rank);
        },
        ap (held_in r) e ∙ held_with r after next next_size
            ∙ ap (λ (E : List ℕ). reroot (other_end r E) (suc (2 * r)) (held_in r after) carry slot) kept_edges,
      )

    -- the exchange, and the smallest rank on a way, told by the edges of before
    pub exchanged_kept : (rank slot : ℕ) → exchanged r after rank slot
        ≡ with_held r before (exchange (first_slot r before) (second_slot r before) (other_slot r before) (suc (2 * r)) (held_in r after) rank slot)
    exchanged_kept rank slot = rw (kept_edges, K.same)

    pub lowest_kept : (slot : ℕ) → lowest r after slot ≡ lowest_slot (other_slot r before) (suc (2 * r)) (held_in r after) slot slot
    lowest_kept slot = rw kept_edges

    -- words with these held words
    pub kept_with : {h : List ℕ} → held_in r after ≡ h → after ≡ with_held r before h
    kept_with {h} e = sym (take-append-drop (2 * r) after) ∙ (rw (e, K.same))

-- The calls of `exchange` and of `finish_cycle`, one after the other.
module _ {r : ℕ} {g : List ℕ} (G : Graph r g) (rank : ℕ) (some : rank < length (edges_in r g)) where
  abbrev O : ℕ → ℕ → ℕ
  O = other_slot r g

  module _ (low : ℕ) (fits : low < 2 * r) where
    pub taken : Kept r g (set g low 0)
    taken = kept_set G (kept_start G) low 0 fits (omega (arith, some))

    pub taken_turned : {mid : List ℕ} (slot : ℕ) → mid ≡ rerooted r (set g low 0) rank slot → Kept r g mid
    taken_turned slot e = (turned G taken rank slot some e).0

    -- one after the other: `mid` are the words between them
    module _ {mid out : List ℕ} {first second : ℕ} (e : second ≡ second_slot r (set g low 0) rank) (in_e : mid ≡ rerooted r (set g low 0) rank second)
        (f : first ≡ first_slot r mid (get_or g low 0)) (in_f : out ≡ rerooted r mid (get_or g low 0) first) where
      pub exchange_done : out ≡ exchanged r g rank low
      unfolding exchange
      exchange_done =
          let z = get_or (held_in r g) low 0 in
          let h = turned G taken rank second some in_e in
          let k = turned G h.0 (get_or g low 0) first (kept_rank G (kept_start G) low fits) in_f in
          let is_second : second ≡ second_slot r g rank = e ∙ ap (λ (E : List ℕ). end_1 r E rank) (kept_edges G taken) in
          let is_smallest : get_or g low 0 ≡ z = held_word G low fits in
          let is_first : first ≡ first_slot r g z = f ∙ (rw (kept_edges G h.0, is_smallest)) in
          let is_mid : held_in r mid ≡ reroot O (n G rank some) (set (held_in r g) low 0) rank (second_slot r g rank) =
          h.1 ∙ (rw (is_second, take-set-lt (2 * r) g low 0 fits)) in
          kept_with G k.0 {h = reroot O (n G rank some) (reroot O (n G rank some) (set (held_in r g) low 0) rank (second_slot r g rank)) z (first_slot r g z)}
          (k.1 ∙ (rw (is_smallest, is_first, is_mid)))

  pub bare_turned : {mid : List ℕ} (slot : ℕ) → mid ≡ rerooted r g 0 slot → Kept r g mid
  bare_turned slot e = (turned G (kept_start G) 0 slot (omega (arith, some)) e).0

  module _ {mid out : List ℕ} {first second low : ℕ} (e : first ≡ first_slot r g rank) (in_e : mid ≡ rerooted r g 0 first)
      (f : second ≡ second_slot r mid rank) (is_low : low ≡ lowest r mid second) (in_f : out ≡ exchanged r mid rank low) where
    pub cycle_done : out ≡ finished_cycle r g rank
    unfolding finish_cycle
    cycle_done =
        let h = turned G (kept_start G) 0 first (omega (arith, some)) in_e in
        let is_second : second ≡ second_slot r g rank = f ∙ ap (λ (E : List ℕ). end_1 r E rank) (kept_edges G h.0) in
        in_f ∙ exchanged_kept G h.0 rank low ∙ (rw (is_low, lowest_kept G h.0 second, is_second, h.1, e))
