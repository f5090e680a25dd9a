-- The keys that stand in the words, collected in scratch, and with their edges made there. Assumes nothing.
use Rattle.std.specs.Prelude.{ℕ, ◌+◌, ◌*◌, ◌≤◌, ◌<◌, ◌≡◌, List, ◌∷◌, length, get_or, set, take}
use Rattle.std.proofs.Common.{◌∙◌, ap, arith}
use Rattle.layout.specs.Layout.{params_of, family_of, slots_of, places_of, station_of, keys_in}
use Rattle.layout.specs.Shape.{Shaped, Sized}
use Rattle.layout.proofs.Shape.{shape}
use Rattle.build.specs.Scratch.{edges_at, used}
use Rattle.collect.specs.Collect.{keys_in_few}
use Rattle.layout.specs.Ready.{Ready}
use Rattle.scratch_set.specs.Edges.{tier_found, edge_of, Lined, EdgesTo, edges_start, edges_turn, edges_key, edges_lined}

-- The n keys that stand in the words have been collected: they stand in scratch from word 1 on. r, s and the station number are
-- those of the words.
pub record Collected (tabulation ws scratch : List ℕ) (r s station n : ℕ) : Type 0 where
  pub ready : Ready tabulation ws scratch
  pub slots : r ≡ slots_of ws
  pub places : s ≡ places_of ws
  pub stationed : station ≡ station_of ws
  pub count : n ≡ length (keys_in ws)
  pub front : take (n + 1) scratch ≡ 0 ∷ keys_in ws

-- they stand there with their edges, which have the tiers at which they are found in the words
abbrev pub Listed : List ℕ → List ℕ → List ℕ → Type 0
Listed tabulation ws scratch = Lined (params_of tabulation ws) (tier_found tabulation ws) (keys_in ws) scratch

-- their edges are being made
abbrev pub EdgesFound : List ℕ → List ℕ → (before after : List ℕ) → (start i : ℕ) → Type 0
EdgesFound tabulation ws before after start i =
    EdgesTo (family_of tabulation ws) (tier_found tabulation ws) (keys_in ws) before after start i

-- The laws. Keys that are collected: they and their edges have room,
module _ {tabulation ws scratch : List ℕ} {r s station n : ℕ} (C : Collected tabulation ws scratch r s station n) where
  abbrev pub formed : Shaped ws
  formed = shape ws C.ready.shape

  pub collected_few : length (keys_in ws) ≤ 2 * slots_of ws + places_of ws
  collected_few = keys_in_few ws formed

  pub collected_room : Sized r s × ((n ≤ 2 * r + s) × (used r s ≤ length scratch))
  collected_room = (
    rw (C.slots, C.places) formed.sizes,
    (omega (arith, C.count, C.slots, C.places, collected_few), omega (arith, C.slots, C.places, C.ready.room, formed.sizes)),
  )

  -- and these are made, one by one,
  module _ {start : ℕ} (e : start ≡ edges_at r s) where
    pub collected_start : EdgesFound tabulation ws scratch scratch start 0
    collected_start = edges_start (omega (arith, C.count, collected_room))

    module _ {after : List ℕ} {i : ℕ} (T : EdgesFound tabulation ws scratch after start i) where
      pub collected_turn : {x : ℕ} → i < n
          → x ≡ edge_of (family_of tabulation ws) (tier_found tabulation ws) (get_or after (i + 1) 0)
          → EdgesFound tabulation ws scratch (set after (start + i) x) start (i + 1)
      collected_turn l q =
          let l' : i < length (keys_in ws) = omega (arith, C.count) in
          let k = edges_key T (rw C.count at C.front) (omega (arith, C.count, collected_room)) l' in
          edges_turn T l' (q ∙ ap (edge_of (family_of tabulation ws) (tier_found tabulation ws)) k)

      -- until they are listed.
      pub collected_listed : i ≡ n → Listed tabulation ws after
      collected_listed k =
          edges_lined (rw C.count at C.front) (rw (e, C.slots, C.places) at T) (k ∙ C.count) collected_few
