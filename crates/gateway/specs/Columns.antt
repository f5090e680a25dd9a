-- What the build leaves in scratch for `image`: the parts that an image is compared with and written from. Every rank
-- that stands there has its words; and where
-- they are the ranks of a set, the columns that `image` reads by rank are those of the set's image. Assumes nothing.
use Rattle.std.specs.Prelude.{ℕ, zero, suc, ◌+◌, ◌*◌, ◌-◌, ◌≤◌, ◌<◌, ◌≡◌, refl, Bool, length, get_or, drop, replicate}
use Rattle.std.proofs.Common.{sym, ◌∙◌, ap, arith, ne_eqb, length-take, get_or-take, get_or-drop}
use Rattle.std.proofs.Math.Logic.{inl, inr}
use mathlib.Core.List.Memᴰ
use mathlib.Core.List.{List, map, map-append, Memᴰ as In}
use Rattle.std.proofs.lemmas.List.{length-map}
use Rattle.basics.proofs.Tests.{eq?}
use Rattle.basics.proofs.Lists.{get_or_in, at_map, map_zeros}
use Rattle.cuckoo.specs.Graph.{seated, slot_key, slot_next}
use Rattle.cuckoo.proofs.Settling.{seated_sub, seated_asc}
use Rattle.cuckoo.proofs.Seating.{occupant_from}
use Rattle.cuckoo.proofs.Next.{next_in}
use Rattle.cuckoo.proofs.Filled.{stash_sub}
use Rattle.cuckoo.specs.Renaming.{ranks, ranked, Renames}
use Rattle.cuckoo.proofs.Renaming.{from_in, from_asc, ranked_renames, ranked_stash}
use Rattle.cuckoo.proofs.Renaming.{ranked_slot_key, ranked_slot_next}
use Rattle.hashing.specs.Slots.{slot_0, slot_1}
use Rattle.edges.specs.Edge.{tier_of_edge, low_tier}
use Rattle.forest.specs.Edges.{end_0, end_1}
use Rattle.forest.specs.Graph.{held_in, edges_in}
use Rattle.layout.specs.Entries.{Entry, tier_of, tiered}
use Rattle.layout.proofs.Entries.{keys_tiered, tier_tiered, tier_absent}
use Rattle.layout.specs.Layout.{Params, ValidKeys, family, stash_of}
use Rattle.layout.specs.Shape.{Sized}
use Rattle.layout.specs.Image.{place_keys}
use Rattle.layout.proofs.Standing.{slot_key_in, in_zeros, zero_outside}
use Rattle.layout.specs.declared.Header.{Header}
use Rattle.build.proofs.EachSlot.{listed_at}
use Rattle.build.specs.Scratch.{Parts, parts, used, PartsSized}
use Rattle.build.proofs.Scratch.{parts_sized}
use Rattle.build.specs.Build.{edges_of, stash_ranks, slot_rank, next_rank, Standing}
use Rattle.records.specs.Record.{tier_by}
use Rattle.image.specs.Ranks.{key_column, next_column, tier_column, ranks_alike, ranks_written, Ranked}
use Rattle.image.specs.Image.{ImageColumns}
use Rattle.scratch_set.specs.Edges.{edge_of, Lined, edge_tier, lined_at, lined_first, lined_second}

-- the columns that `image` reads: r slots to a table, the keys by rank are the first words of scratch, G are its parts
module _ (r : ℕ) (scratch : List ℕ) (G : Parts) where
  abbrev pub ranks_held : List ℕ
  ranks_held = held_in r G.graph

  -- the columns that the image of a set has
  abbrev pub SetColumns : Params → List Entry → Type 0
  SetColumns P L =
      ImageColumns P L (key_column scratch ranks_held) (next_column scratch G.next ranks_held)
      (tier_column r G.graph ranks_held)
      (key_column scratch G.stash) (tier_column r G.graph G.stash)

-- whether words are the image of the n ranks that stands in scratch, and the words with it
abbrev pub alike_in : (r s n : ℕ) (ws : List ℕ) (stashed : ℕ) (scratch : List ℕ) → Bool
alike_in r s n ws stashed scratch = let G = parts r s n scratch in ranks_alike ws n stashed scratch G.graph
    G.next G.stash

abbrev pub written_in : (ws : List ℕ) (h : Header) (scratch : List ℕ) → List ℕ
written_in ws h scratch = let G = parts h.slots h.places h.keys scratch in
    ranks_written ws h scratch G.graph G.next G.stash

-- The image of n ranks stands in scratch, in parts of their lengths: every rank that is read has its words.
pub record RanksReadable (r s n : ℕ) (scratch : List ℕ) : Type 0 where
  pub sizes : Sized r s
  pub few : n ≤ 2 * r + s
  pub room : used r s ≤ length scratch
  pub ranked : let G = parts r s n scratch in Ranked r n scratch G.graph G.next G.stash

-- The laws.
-- What a slot of an image of ranks holds and points to are ranks, or 0.
module _ (a b : ℕ → ℕ) (n v : ℕ) where
  rank_le : {k : ℕ} → In k (ranks n) → k ≤ n
  rank_le i = omega (arith, (from_in 1 n i).1)

  pub slot_rank_le : slot_key a b (ranks n) v ≤ n
  slot_rank_le =
      let k = slot_key a b (ranks n) v in
      elim (eq? k 0) [ inl q ↦ omega arith | inr m ↦ rank_le (slot_key_in a b (from_asc 1 n) v refl m) ]

  pub next_rank_le : slot_next a b (ranks n) v ≤ n
  unfolding slot_next slot_key
  next_rank_le = elim (eq? (slot_key a b (ranks n) v) 0) [
    | inl q ↦ rw q (omega arith)
    | inr m ↦ rw (ne_eqb (slot_key a b (ranks n) v) 0 m) (elim (occupant_from a b (seated a b (ranks n)) v) [
      | inl z ↦ absurd (m z)
      | inr h ↦ rank_le
          (seated_sub a b (ranks n) (from_asc 1 n) _ (next_in a b (seated_asc a b (ranks n) (from_asc 1 n)) h.0).0)
    ])
  ]

module _ {r s n : ℕ} {scratch : List ℕ} (sizes : Sized r s) (few : n ≤ 2 * r + s) (room : used r s ≤ length scratch)
    (W : Standing r s n scratch) where
  abbrev G : Parts
  G = parts r s n scratch

  abbrev E : List ℕ
  E = edges_of r s n scratch

  abbrev long : PartsSized r s n G
  long = parts_sized r s n scratch few room

  held_long : length (ranks_held r scratch G) ≡ 2 * r
  held_long = simp length-take (omega (arith, long.graph_size))

  held_is : (v : ℕ) → v < 2 * r → get_or (ranks_held r scratch G) v 0 ≡ slot_rank r n E v
  held_is v l = let o : 0 + v ≡ v = omega arith in ap (λ (xs : List ℕ). get_or xs v 0) W.held
      ∙ (rw o at (listed_at (slot_rank r n E) (2 * r) 0 v l))

  held_word : (v : ℕ) → v < 2 * r → get_or G.graph v 0 ≡ slot_rank r n E v
  held_word v l = sym (get_or-take (2 * r) G.graph v 0 l) ∙ held_is v l

  stash_le : (i : ℕ) → i < length G.stash → get_or G.stash i 0 ≤ n
  stash_le i l = in_stash (get_or_in G.stash i l)
    where
      in_stash : {k : ℕ} → In k G.stash → k ≤ n
      in_stash {k} m = elim (Memᴰ.append_cases (stash_ranks r n E) (rw W.stashed at m)) [
        | inl j ↦ rank_le (end_0 r E) (end_1 r E) n 0 (stash_sub (end_0 r E) (end_1 r E) (ranks n) k j)
        | inr j ↦ omega (arith, in_zeros (s - length (stash_ranks r n E)) j)
      ]

  pub standing_readable : RanksReadable r s n scratch
  standing_readable = record {
    sizes = sizes;
    few = few;
    room = room;
    ranked = record {
      some = sizes.has_slots;
      keys_long = omega arith;
      next_long = omega (arith, long.next_size);
      graph_long = long.graph_size;
      held = λ v l. rw (held_word v l) (slot_rank_le (end_0 r E) (end_1 r E) n v);
      nexts = λ v l. rw (held_word v l, W.next v l) (next_rank_le (end_0 r E) (end_1 r E) n v);
      stashed = stash_le;
    };
  }

pub readable_stash : {r s n : ℕ} {scratch : List ℕ} → RanksReadable r s n scratch
    → length (parts r s n scratch).stash ≡ s
readable_stash {r} {s} {n} {scratch} R = (parts_sized r s n scratch R.few R.room).stash_size

-- The ranks are those of a set that stands there.
module _ {P : Params} {t : ℕ → ℕ} {S scratch : List ℕ} (valid : ValidKeys S) (sizes : Sized P.slots P.places)
    (few : length S ≤ 2 * P.slots + P.places) (room : used P.slots P.places ≤ length scratch)
    (D : Lined P t S scratch) where
  abbrev A : Parts
  A = parts P.slots P.places (length S) scratch

  abbrev ends : List ℕ
  ends = edges_of P.slots P.places (length S) scratch

  renames : Renames (ranked S) (slot_0 (family P)) (slot_1 (family P)) (end_0 P.slots ends) (end_1 P.slots ends)
      (ranks (length S))
  renames = ranked_renames valid.asc (zero_outside valid) (lined_first D room sizes) (lined_second D room sizes)

  pub stash_keys : stash_of P S ≡ map (ranked S) (stash_ranks P.slots (length S) ends)
  stash_keys = ranked_stash S renames

  pub stash_count : length (stash_ranks P.slots (length S) ends) ≡ length (stash_of P S)
  stash_count = sym (ap length stash_keys ∙ length-map (stash_ranks P.slots (length S) ends) (ranked S))

  module _ (W : Standing P.slots P.places (length S) scratch) where
    abbrev r : ℕ
    r = P.slots

    abbrev n : ℕ
    n = length S

    abbrev rank : ℕ → ℕ
    rank = slot_rank r n ends

    -- the key of a rank, and its tier
    key_is : (k : ℕ) → k ≤ n → get_or scratch k 0 ≡ ranked S k
    key_is k l = sym (get_or-take (n + 1) scratch k 0 (omega arith)) ∙ ap (λ (xs : List ℕ). get_or xs k 0) D.keys

    none_at_zero : tier_of (tiered t S) 0 ≡ 0
    none_at_zero = tier_absent (tiered t S) (λ i. zero_outside valid (rw (keys_tiered t S) at i))

    edge_word : (i : ℕ) → i < n → get_or (drop (2 * r) A.graph) i 0 ≡ edge_of (family P) t (get_or S i 0)
    unfolding edges_in
    edge_word i l = lined_at D room i l

    tier_is : (k : ℕ) → k ≤ n → tier_by r A.graph k ≡ tier_of (tiered t S) (ranked S k)
    tier_is zero l =
        let e : 2 * r + 0 - 1 ≡ 2 * r - 1 = omega arith in
        let m : get_or A.graph (2 * r - 1) 0 ≤ n = (standing_readable sizes few room W).ranked.held (2 * r - 1)
        (omega (arith, sizes)) in
        rw (e, none_at_zero) (low_tier (omega (arith, sizes)))
    tier_is (suc i) l =
        let e : 2 * r + suc i - 1 ≡ 2 * r + i = omega arith in
        rw (e, ← get_or-drop (2 * r) A.graph i 0)
        (ap tier_of_edge (edge_word i l) ∙ edge_tier (family P) sizes.has_slots sizes.slots_bound t (get_or S i 0)
        ∙ sym (tier_tiered t S (get_or_in S i l)))

    -- what a slot holds is the key of its rank, and so with its next; what a place holds, too
    slot_is : (v : ℕ) → slot_key (slot_0 (family P)) (slot_1 (family P)) S v ≡ ranked S (rank v)
    slot_is v = ranked_slot_key S renames v

    stash_is : place_keys P S ≡ map (ranked S) A.stash
    stash_is =
        let k = P.places - length (stash_ranks r n ends) in
        rw (
          ← stash_count,
          stash_keys,
          W.stashed,
          map-append (ranked S) (stash_ranks r n ends)
              (replicate k 0),
          map_zeros (ranked S) refl k,
        )

    abbrev R : RanksReadable r P.places n scratch
    R = standing_readable sizes few room W

    abbrev size : PartsSized r P.places n A
    size = parts_sized r P.places n scratch few room

    -- a column that has at each rank what the image has
    by_rank : (g h : ℕ → ℕ) → ((k : ℕ) → k ≤ n → g k ≡ h (ranked S k)) → (v : ℕ) → v < r + r
        → get_or (map g (ranks_held r scratch A)) v 0 ≡ h (slot_key (slot_0 (family P)) (slot_1 (family P)) S v)
    by_rank g h e v l =
        let m : v < 2 * r = omega arith in
        at_map g (ranks_held r scratch A) v (omega (arith, held_long sizes few room W))
        ∙ ap g (held_is sizes few room W v m)
        ∙ e (rank v) (slot_rank_le (end_0 r ends) (end_1 r ends) n v) ∙ ap h (sym (slot_is v))

    by_place : (g h : ℕ → ℕ) → ((k : ℕ) → k ≤ n → g k ≡ h (ranked S k)) → (i : ℕ) → i < P.places
        → get_or (map g A.stash) i 0 ≡ h (get_or (place_keys P S) i 0)
    by_place g h e i l =
        let m : i < length A.stash = omega (arith, size.stash_size) in
        at_map g A.stash i m ∙ e (get_or A.stash i 0) (R.ranked.stashed i m)
        ∙ ap h (sym (ap (λ (xs : List ℕ). get_or xs i 0) stash_is ∙ at_map (ranked S) A.stash i m))

    next_is : (v : ℕ) → v < r + r → get_or (next_column scratch A.next (ranks_held r scratch A)) v 0 ≡ slot_next
        (slot_0 (family P)) (slot_1 (family P)) S v
    next_is v l =
        let m : v < 2 * r = omega arith in
        let g : ℕ → ℕ = λ k. get_or scratch (get_or A.next k 0) 0 in
        at_map g (ranks_held r scratch A) v (omega (arith, held_long sizes few room W))
        ∙ ap g (held_is sizes few room W v m)
        ∙ ap (λ (k : ℕ). get_or scratch k 0) (W.next v m) ∙ key_is (next_rank r n ends v)
        (next_rank_le (end_0 r ends) (end_1 r ends) n v)
        ∙ sym (ranked_slot_next S renames v)

    pub set_columns : SetColumns r scratch A P (tiered t S)
    set_columns = record {
      held_size = length-map (ranks_held r scratch A) _ ∙ held_long sizes few room W;
      next_size = length-map (ranks_held r scratch A) _ ∙ held_long sizes few room W;
      tiers_size = length-map (ranks_held r scratch A) _ ∙ held_long sizes few room W;
      stash_size = length-map A.stash _ ∙ size.stash_size;
      beside_size = length-map A.stash _ ∙ size.stash_size;
      held_is = λ v l. rw (keys_tiered t S) (by_rank (λ k. get_or scratch k 0) (λ c. c) key_is v l);
      next_is = λ v l. rw (keys_tiered t S) (next_is v l);
      tiers_is = λ v l. rw (keys_tiered t S) (by_rank (tier_by r A.graph) (tier_of (tiered t S)) tier_is v l);
      stash_is = λ i l. rw (keys_tiered t S) (by_place (λ k. get_or scratch k 0) (λ c. c) key_is i l);
      beside_is = λ i l. rw (keys_tiered t S) (by_place (tier_by r A.graph) (tier_of (tiered t S)) tier_is i l);
    }
