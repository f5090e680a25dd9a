-- An image told by ranks, as the build leaves it: the keys by rank, what each slot holds, the edges (with the tier of each rank), the next of each
-- rank, and the stash. The columns of the image are these with the key, or the tier, put in for each rank. Assumes nothing.
use Rattle.std.specs.Prelude.{ℕ, ◌+◌, ◌*◌, ◌≤◌, ◌<◌, ◌≡◌, Bool, List, map, ◌++◌, length, get_or, drop}
use Rattle.std.proofs.Common.{arith, get_or-take, length-take-le}
use Rattle.layout.specs.Layout.{header_length, header_words, slot_width, place_width, slots_of, stash_at}
use Rattle.layout.specs.declared.Header.{Header}
use Rattle.records.specs.Record.{tier_by, RankKnown, Chained}
use Rattle.forest.specs.Graph.{held_in}
use Rattle.image.specs.Image.{slots_alike, places_alike, slots_put, places_put, alike, image_written}

abbrev pub key_column : List ℕ → List ℕ → List ℕ
key_column keys ranks = map (λ k. get_or keys k 0) ranks

abbrev pub next_column : List ℕ → List ℕ → List ℕ → List ℕ
next_column keys next ranks = map (λ k. get_or keys (get_or next k 0) 0) ranks

abbrev pub tier_column : ℕ → List ℕ → List ℕ → List ℕ
tier_column r graph ranks = map (tier_by r graph) ranks

-- every rank that is read has its words: r slots to a table, n ranks
pub record Ranked (r n : ℕ) (keys graph next stash : List ℕ) : Type 0 where
  pub some : 0 < r
  pub keys_long : n < length keys
  pub next_long : n < length next
  pub graph_long : length graph ≡ 2 * r + n
  pub held : (v : ℕ) → v < 2 * r → get_or graph v 0 ≤ n
  pub nexts : (v : ℕ) → v < 2 * r → get_or next (get_or graph v 0) 0 ≤ n
  pub stashed : (i : ℕ) → i < length stash → get_or stash i 0 ≤ n

-- the slots of some ranks, from `start` on, and the stash places: compared and written
abbrev pub ranked_slots_alike : (ws : List ℕ) (start r : ℕ) (keys graph next ranks : List ℕ) → Bool
ranked_slots_alike ws start r keys graph next ranks =
    slots_alike ws start (key_column keys ranks) (next_column keys next ranks) (tier_column r graph ranks)

abbrev pub ranked_slots_put : (ws : List ℕ) (start r : ℕ) (keys graph next ranks : List ℕ) → List ℕ
ranked_slots_put ws start r keys graph next ranks =
    slots_put ws start (key_column keys ranks) (next_column keys next ranks) (tier_column r graph ranks)

abbrev pub ranked_places_alike : (ws : List ℕ) (start r : ℕ) (keys graph ranks : List ℕ) → Bool
ranked_places_alike ws start r keys graph ranks = places_alike ws start (key_column keys ranks) (tier_column r graph ranks)

abbrev pub ranked_places_put : (ws : List ℕ) (start r : ℕ) (keys graph ranks : List ℕ) → List ℕ
ranked_places_put ws start r keys graph ranks = places_put ws start (key_column keys ranks) (tier_column r graph ranks)

-- words that have the image told by ranks, and the writing of it
abbrev pub ranks_alike : (ws : List ℕ) (count stashed : ℕ) (keys graph next stash : List ℕ) → Bool
ranks_alike ws count stashed keys graph next stash =
    let r = slots_of ws in
    let held = held_in r graph in
    alike ws count stashed (key_column keys held) (next_column keys next held) (tier_column r graph held) (key_column keys stash) (tier_column r graph stash)

abbrev pub ranks_written : (ws : List ℕ) (h : Header) (keys graph next stash : List ℕ) → List ℕ
ranks_written ws h keys graph next stash =
    let r = h.slots in
    let held = held_in r graph in
    image_written ws h (key_column keys held) (next_column keys next held) (tier_column r graph held) (key_column keys stash) (tier_column r graph stash)

-- ranks of slots, and of stash places, that have what their words are compared with or made of, and room in the words
pub record SlotRanks (ws : List ℕ) (r : ℕ) (keys graph next ranks : List ℕ) : Type 0 where
  pub fits : header_length + slot_width * length ranks ≤ length ws
  pub known : (i : ℕ) → i < length ranks → RankKnown r keys graph (get_or ranks i 0)
  pub chained : (i : ℕ) → i < length ranks → Chained keys next (get_or ranks i 0)

pub record PlaceRanks (ws : List ℕ) (start r : ℕ) (keys graph ranks : List ℕ) : Type 0 where
  pub fits : start + place_width * length ranks ≤ length ws
  pub known : (i : ℕ) → i < length ranks → RankKnown r keys graph (get_or ranks i 0)

-- The laws: what is told by ranks has them. q is r, as the code has it.
module _ {r n : ℕ} {keys graph next stash : List ℕ} (R : Ranked r n keys graph next stash) (q : ℕ) (e : q ≡ r) where
  known_to : (rank : ℕ) → rank ≤ n → RankKnown q keys graph rank
  known_to rank l = record { some = omega (arith, R.some); key = omega (arith, R.keys_long); edge = omega (arith, R.graph_long) }

  pub held_length : length (held_in q graph) ≡ 2 * q
  held_length = length-take-le (2 * q) graph (omega (arith, R.graph_long))

  pub slot_ranks : (ws : List ℕ) → header_length + slot_width * (2 * r) ≤ length ws → SlotRanks ws q keys graph next (held_in q graph)
  slot_ranks ws l = record {
    fits = rw held_length (rw e l);
    known = λ i m. let b : i < 2 * q = omega (arith, held_length) in
        rw (get_or-take (2 * q) graph i 0 b) (known_to (get_or graph i 0) (R.held i (omega arith)));
    chained = λ i m. let b : i < 2 * q = omega (arith, held_length) in rw (get_or-take (2 * q) graph i 0 b) (record {
      next_long = omega (arith, R.held i (omega arith), R.next_long);
      next_key = omega (arith, R.nexts i (omega arith), R.keys_long);
    });
  }

  pub place_ranks : (ws : List ℕ) (start : ℕ) → start + place_width * length stash ≤ length ws → PlaceRanks ws start q keys graph stash
  place_ranks ws start l = record { fits = l; known = λ i m. known_to (get_or stash i 0) (R.stashed i m) }

-- heading, slots and stash, one after the other, are the writing of the image
module _ (ws : List ℕ) (h : Header) (keys graph next stash : List ℕ) {q start : ℕ} {headed slots all : List ℕ} where
  pub written_by_parts : q ≡ h.slots → start ≡ stash_at h.slots → headed ≡ header_words h ++ drop header_length ws
      → slots ≡ ranked_slots_put headed header_length q keys graph next (held_in q graph) → all ≡ ranked_places_put slots start q keys graph stash
      → all ≡ ranks_written ws h keys graph next stash
  written_by_parts size at first second third = rw (third, second, first, size, at)
