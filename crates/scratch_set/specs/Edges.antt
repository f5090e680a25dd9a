-- The edge of a key: its two slots and its tier in one word (`edges`). And a set in scratch: its keys, each at its
-- rank, and their edges, made one by one, whatever tells the tiers. The definitions come first; the laws say that such
-- a set can be built, and that its ranks have the slots of its keys. Assumes nothing.
use Rattle.std.specs.Prelude.{ℕ, zero, suc, ◌+◌, ◌*◌, ◌≤◌, ◌<◌, ◌≡◌, cond, List, ◌∷◌, map, ltb, length, get_or, take, drop, set, Option, Some, None}
use Rattle.std.proofs.Common.{zero-le, ◌∙◌, ap, inl, inr, add-one, arith, le-ltb, lt-ltb, take-add, drop-drop, drop_at, take-take, get_or-take}
use Rattle.std.proofs.Math.Path.{sym}
use Rattle.std.proofs.lemmas.List.{length-map}
use Rattle.std.proofs.Math.Seq.{paste, paste-zero}
use Rattle.basics.proofs.Tests.{le?}
use Rattle.basics.proofs.Lists.{at_map}
use Rattle.basics.proofs.Parts.{part_length}
use Rattle.basics.proofs.Parts.{pasted_more, pasted_length, pasted_front, pasted_all}
use Rattle.edges.specs.Edge.{second_base, packed, first_of, second_of, tier_of_edge, Packable, Edge, no_edge}
use Rattle.edges.specs.Edge.{packed_first, packed_second, packed_tier, packed_edge, no_edge_between}
use Rattle.hashing.specs.Hash.{Family, tables}
use Rattle.hashing.specs.Slots.{slot_0, slot_1}
use Rattle.hashing.proofs.Slots.{slot_0_lt, slot_1_le, slot_1_lt}
use Rattle.forest.specs.Edges.{Edges, edge_at, end_0, end_1}
use Rattle.forest.proofs.Edges.{edge_read}
use Rattle.forest.specs.Graph.{edges_in}
use Rattle.layout.specs.Entries.{max_tier, tier_of}
use Rattle.layout.specs.Layout.{Params, family, family_of, slots_of, station_of, slot_entry, stash_entries, tier_in}
use Rattle.layout.specs.Shape.{Sized}
use Rattle.layout.proofs.Shape.{by_own_family}
use Rattle.build.specs.Scratch.{parts, held_at, edges_at, used}
use Rattle.build.specs.Build.{edges_of, Built, Buildable}

-- No set has a tier above 7. In an edge 0 stands for it: the words have the large one, so that they are never the image with 0.
abbrev pub small_tier : ℕ → ℕ
small_tier tier = cond (ltb max_tier tier) 0 tier

-- the tier at which a key is found in words, as its edge has it
abbrev pub tier_found : List ℕ → List ℕ → ℕ → ℕ
tier_found tabulation ws key = small_tier (tier_in tabulation ws key)

-- the edge of a key with a tier, and with the tier that t gives
abbrev pub edge_with : Family → ℕ → ℕ → ℕ
edge_with F key tier = packed (slot_0 F key) (slot_1 F key) tier

unfoldable pub edge_of : Family → (ℕ → ℕ) → ℕ → ℕ
edge_of F t key = edge_with F key (t key)

-- The keys S stand in scratch from word 1 on, word 0 is 0, and their edges stand at their place.
pub record Lined (P : Params) (t : ℕ → ℕ) (S scratch : List ℕ) : Type 0 where
  pub keys : take (length S + 1) scratch ≡ 0 ∷ S
  pub edges : take (length S) (drop (edges_at P.slots P.places) scratch) ≡ map (edge_of (family P) t) S

-- The edges of the keys S are being made, from `to` on: the first i of them stand there, and the words before them are
-- as they were.
pub record EdgesTo (F : Family) (t : ℕ → ℕ) (S before after : List ℕ) (to i : ℕ) : Type 0 where
  pub some : i ≤ length S
  pub room : to + length S ≤ length before
  pub written : after ≡ paste before to (map (edge_of F t) S) i

-- The laws.

pub small_le : (tier : ℕ) → small_tier tier ≤ max_tier
small_le tier = elim (le? tier max_tier) [ inl l ↦ rw (le-ltb max_tier tier l) l | inr l ↦ rw (lt-ltb max_tier tier l) (omega arith) ]

pub small_same : (tier : ℕ) → tier ≤ max_tier → small_tier tier ≡ tier
small_same tier l = rw (le-ltb max_tier tier l)

-- the edge of a key is read back
module _ (F : Family) (some : 0 < F.slots) (most : F.slots ≤ 1024) (t : ℕ → ℕ) (key : ℕ) where
  first_low : slot_0 F key < second_base
  first_low = omega (arith, slot_0_lt F some key)

  second_low : slot_1 F key < second_base
  second_low = omega (arith, slot_1_lt F some key)

  pub edge_first : first_of (edge_of F t key) ≡ slot_0 F key
  unfolding edge_of
  edge_first = packed_first first_low second_low (t key)

  pub edge_second : second_of (edge_of F t key) ≡ slot_1 F key
  unfolding edge_of
  edge_second = packed_second first_low second_low (t key)

  pub edge_tier : tier_of_edge (edge_of F t key) ≡ t key
  unfolding edge_of
  edge_tier = packed_tier first_low second_low (t key)

  edge_good : Edge F.slots (edge_of F t key)
  unfolding edge_of
  edge_good =
      packed_edge most (slot_0_lt F some key) (slot_1_le F some key) (omega (arith, slot_1_lt F some key)) (t key)

-- The edge as code makes it: the slots are hashed with r, and the tier is found by them.
module _ (tabulation : List ℕ) (r station key : ℕ) (some : 0 < r) (most : r ≤ 1024) {first second : ℕ} (f : first ≡ slot_0 (tables tabulation r station) key)
    (g : second ≡ slot_1 (tables tabulation r station) key) where
  pub slots_in : (first < 2 * r) × (second < 2 * r)
  slots_in = let F = tables tabulation r station in (omega (arith, slot_0_lt F some key), omega (arith, slot_1_lt F some key))

  pub packable : {tier : ℕ} → tier ≤ max_tier → Packable first second tier
  packable l = record {
    first_bound = omega (arith, slots_in);
    second_bound = omega (arith, slots_in);
    tier_bound = omega arith;
  }

pub edge_made : (tabulation ws : List ℕ) (key : ℕ) {r station first second tier small x : ℕ} → r ≡ slots_of ws → station ≡ station_of ws
    → first ≡ slot_0 (tables tabulation r station) key → second ≡ slot_1 (tables tabulation r station) key
    → tier ≡ tier_of (slot_entry ws first ∷ slot_entry ws second ∷ stash_entries ws) key
    → small ≡ small_tier tier → x ≡ packed first second small → x ≡ edge_of (family_of tabulation ws) (tier_found tabulation ws) key
unfolding edge_of tier_in
edge_made tabulation ws key e d f g h k q =
    let a = by_own_family (λ F. slot_0 F key) tabulation ws e d f in
    let b = by_own_family (λ F. slot_1 F key) tabulation ws e d g in
    q ∙ (rw (k, h, a, b))

-- the edges in scratch, by rank
pub edges_cut : (r s n : ℕ) (scratch : List ℕ) → used r s ≤ length scratch
    → edges_of r s n scratch ≡ no_edge r ∷ take n (drop (edges_at r s) scratch)
unfolding edges_in parts
edges_cut r s n scratch room =
    let xs = drop (held_at r s) scratch in
    let e : held_at r s + 2 * r ≡ edges_at r s = omega arith in
    let long = part_length (held_at r s) (2 * r) scratch (omega arith) in
    rw (take-add (2 * r) n xs, drop_at (take (2 * r) xs) (take n (drop (2 * r) xs)) (2 * r) long, drop-drop (2 * r) (held_at r s) scratch, e)

module _ {P : Params} {t : ℕ → ℕ} {S scratch : List ℕ} (D : Lined P t S scratch) (room : used P.slots P.places ≤ length scratch) where
  abbrev E : List ℕ
  E = edges_of P.slots P.places (length S) scratch

  pub lined_edges : E ≡ no_edge P.slots ∷ map (edge_of (family P) t) S
  lined_edges =
      edges_cut P.slots P.places (length S) scratch room ∙ ap (λ (X : List ℕ). no_edge P.slots ∷ X) D.edges

  pub lined_length : length E ≡ suc (length S)
  lined_length = ap length lined_edges ∙ ap suc (length-map S (edge_of (family P) t))

  pub lined_at : (i : ℕ) → i < length S → get_or E (suc i) 0 ≡ edge_of (family P) t (get_or S i 0)
  lined_at i l = ap (λ (X : List ℕ). get_or X (suc i) 0) lined_edges ∙ at_map (edge_of (family P) t) S i l

  module _ (Z : Sized P.slots P.places) where
    lined_good : Edges P.slots E
    lined_good = record { some = Z.has_slots; most = Z.slots_bound; each = each }
      where
        each : (i : ℕ) → i < length E → Edge P.slots (get_or E i 0)
        each zero l = rw lined_edges (no_edge_between Z.slots_bound Z.has_slots)
        each (suc i) l =
            let m : i < length S = omega (arith, lined_length) in
            rw (lined_at i m) (edge_good (family P) Z.has_slots Z.slots_bound t (get_or S i 0))

    -- such a set can be built
    pub lined_buildable : length S ≤ 2 * P.slots + P.places → Buildable P.slots P.places (length S) scratch
    lined_buildable few = record { places_bound = Z.places_bound; room = room; few = few; edges = lined_good }

    -- and the slots of a rank are those of its key
    edge_is : (i : ℕ) → i < length S → edge_at P.slots E (suc i) ≡ edge_of (family P) t (get_or S i 0)
    edge_is i l = edge_read P.slots E (suc i) (omega (arith, lined_length)) ∙ lined_at i l

    pub lined_first : (i : ℕ) → i < length S → slot_0 (family P) (get_or S i 0) ≡ end_0 P.slots E (suc i)
    unfolding end_0
    lined_first i l = sym (ap first_of (edge_is i l) ∙ edge_first (family P) Z.has_slots Z.slots_bound t (get_or S i 0))

    pub lined_second : (i : ℕ) → i < length S → slot_1 (family P) (get_or S i 0) ≡ end_1 P.slots E (suc i)
    unfolding end_1
    lined_second i l = sym (ap second_of (edge_is i l) ∙ edge_second (family P) Z.has_slots Z.slots_bound t (get_or S i 0))

-- the build leaves it
pub lined_built : {P : Params} {t : ℕ → ℕ} {S before after : List ℕ} {count : Option ℕ} → Lined P t S before → length after ≡ length before
    → used P.slots P.places ≤ length before → length S ≤ 2 * P.slots + P.places
    → Built P.slots P.places (length S) before after count → Lined P t S after
unfolding parts
lined_built {P} {t} {S} {before} {after} D same room few B =
    let r = P.slots in
    let s = P.places in
    let l : length S + 1 ≤ 2 * r + s + 1 = omega arith in
    let cut : take (length S) (drop (edges_at r s) after) ≡ take (length S) (drop (edges_at r s) before) =
    ap (drop 1) (sym (edges_cut r s (length S) after (omega arith)) ∙ B.edges ∙ edges_cut r s (length S) before room) in
    record {
      keys = sym (take-take (length S + 1) (2 * r + s + 1) after l) ∙ ap (take (length S + 1)) B.keys
          ∙ take-take (length S + 1) (2 * r + s + 1) before l ∙ D.keys;
      edges = cut ∙ D.edges;
    }

-- Edges that a loop made: what it wrote is told by keys and tiers alone, wherever it has them from.
module _ {F : Family} {t : ℕ → ℕ} {S before : List ℕ} {to : ℕ} where
  pub edges_start : to + length S ≤ length before → EdgesTo F t S before before to 0
  edges_start room = record { some = zero-le; room = room; written = paste-zero before to (map (edge_of F t) S) }

  module _ {after : List ℕ} {i : ℕ} (T : EdgesTo F t S before after to i) where
    abbrev column : List ℕ
    column = map (edge_of F t) S

    count : length column ≡ length S
    count = length-map S (edge_of F t)

    pub edges_turn : {x : ℕ} → i < length S → x ≡ edge_of F t (get_or S i 0)
        → EdgesTo F t S before (set after (to + i) x) to (i + 1)
    edges_turn l e = record {
      some = omega arith;
      room = T.room;
      written =
          pasted_more before to column i T.written (omega (arith, count)) (omega (arith, T.room))
          (e ∙ sym (at_map (edge_of F t) S i l));
    }

    few : i ≤ length column
    few = omega (arith, count, T.some)

    fits : to + i ≤ length before
    fits = omega (arith, T.some, T.room)

    pub edges_length : length after ≡ length before
    edges_length = pasted_length before to column i T.written few fits

    -- the keys, where they stand before the edges, stay,
    module _ (front : take (length S + 1) before ≡ 0 ∷ S) (low : length S < to) where
      edges_front : take (length S + 1) after ≡ 0 ∷ S
      edges_front = pasted_front before to column i T.written few fits (length S + 1) (omega arith) ∙ front

      pub edges_key : i < length S → get_or after (i + 1) 0 ≡ get_or S i 0
      edges_key l =
          let k : i + 1 < length S + 1 = omega arith in
          sym (get_or-take (length S + 1) after (i + 1) 0 k)
          ∙ ap (λ (X : List ℕ). get_or X (i + 1) 0) edges_front ∙ (rw (add-one i))

    edges_all : i ≡ length S → take (length S) (drop to after) ≡ column
    edges_all e = rw e at (pasted_all before to column i T.written few fits (e ∙ sym count))

-- and a set stands where keys stood
pub edges_lined : {P : Params} {t : ℕ → ℕ} {S before after : List ℕ} {i : ℕ} → take (length S + 1) before ≡ 0 ∷ S
    → EdgesTo (family P) t S before after (edges_at P.slots P.places) i → i ≡ length S
    → length S ≤ 2 * P.slots + P.places → Lined P t S after
edges_lined front T e few = record { keys = edges_front T front (omega arith); edges = edges_all T e }
