-- Columns side by side, row by row: the words of one slot, or of one stash place, compared and written together. What is left of the columns of some ranks is
-- the columns of the ranks that are left. Assumes nothing.
use Rattle.std.specs.Prelude.{ℕ, ◌+◌, ◌≤◌, ◌<◌, ◌≡◌, refl, Bool, true, false, ◌&&◌, List, ◌∷◌, length, get_or, drop}
use Rattle.std.proofs.Common.{◌∙◌, ap, add-one, arith, drop_of_length-le, drop-cons}
use Rattle.std.proofs.Math.Dec.{eqb}
use Rattle.std.proofs.Math.ListN.{set}
use Rattle.basics.specs.Lists.{same}
use Rattle.layout.specs.Layout.{slot_width, place_width}
use Rattle.records.specs.Columns.{picked, column_put, put_set}
use Rattle.image.specs.Image.{slots_alike, places_alike, slots_put, places_put}
use Rattle.records.specs.Record.{slot_alike, slot_put, place_alike, place_put, tier_by}
use Rattle.image.specs.Ranks.{key_column, next_column, tier_column, ranked_slots_alike, ranked_slots_put, ranked_places_alike, ranked_places_put}

-- The laws of the loops: one row and the rows after it.
interchange : (a A b B : Bool) → ((a && A) && (b && B)) ≡ ((a && b) && (A && B))
interchange false A b B = refl
interchange true A true B = refl
interchange true true false B = refl
interchange true false false B = refl

-- a word of the next row, counted from that row or from this one
after : (at step k : ℕ) → at + step + k ≡ at + k + step
after at step k = omega arith

module _ (ws : List ℕ) (at x y : ℕ) (xs ys : List ℕ) where
  slots_alike_row : (z : ℕ) (zs : List ℕ) → slots_alike ws at (x ∷ xs) (y ∷ ys) (z ∷ zs) ≡ (slot_alike ws at x y z && slots_alike ws (at + slot_width) xs ys zs)
  unfolding same picked
  slots_alike_row z zs =
      let first = eqb (get_or ws at 0) x && same (picked ws (at + slot_width) slot_width (length xs)) xs in
      rw (after at slot_width 1, after at slot_width 2)
      (ap (λ (b : Bool). first && b) (interchange (eqb (get_or ws (at + 1) 0) y) _ _ _) ∙ interchange (eqb (get_or ws at 0) x) _ _ _)

  places_alike_row : places_alike ws at (x ∷ xs) (y ∷ ys) ≡ (place_alike ws at x y && places_alike ws (at + place_width) xs ys)
  unfolding same picked
  places_alike_row = rw (after at place_width 1) (interchange (eqb (get_or ws at 0) x) _ _ _)

  slots_put_row : (z : ℕ) (zs : List ℕ) → slots_put ws at (x ∷ xs) (y ∷ ys) (z ∷ zs) ≡ slots_put (slot_put ws at x y z) (at + slot_width) xs ys zs
  unfolding column_put
  slots_put_row z zs =
      let a = set ws at x in
      let b = set a (at + 1) y in
      rw (
        after at slot_width 1,
        after at slot_width 2,
        ← put_set a (at + slot_width) slot_width xs (at + 1) y (omega arith),
        ← put_set (column_put b (at + slot_width) slot_width xs) (at + 1 + slot_width) slot_width ys (at + 2) z (omega arith),
        ← put_set b (at + slot_width) slot_width xs (at + 2) z (omega arith),
      )

  places_put_row : places_put ws at (x ∷ xs) (y ∷ ys) ≡ places_put (place_put ws at x y) (at + place_width) xs ys
  unfolding column_put
  places_put_row = rw (after at place_width 1, ← put_set (set ws at x) (at + place_width) place_width xs (at + 1) y (omega arith))

-- The first of the ranks that are left, as it was read, and those after it; b is what comparing its words gave, vs what writing them gave.
module _ (r : ℕ) (keys graph next ws : List ℕ) (at : ℕ) (ranks : List ℕ) (i : ℕ) (l : i < length ranks) (k : ℕ) (read : k ≡ get_or ranks i 0) where
  abbrev rest : List ℕ
  rest = drop (i + 1) ranks

  abbrev key : ℕ
  key = get_or keys k 0

  abbrev next_key : ℕ
  next_key = get_or keys (get_or next k 0) 0

  abbrev tier : ℕ
  tier = tier_by r graph k

  left : drop i ranks ≡ k ∷ rest
  left = rw (read, add-one) (drop-cons ranks i 0 l)

  pub slots_alike_next : (b : Bool) → b ≡ slot_alike ws at key next_key tier
      → ranked_slots_alike ws at r keys graph next (drop i ranks) ≡ (b && ranked_slots_alike ws (at + slot_width) r keys graph next rest)
  slots_alike_next b e = rw (e, left) (slots_alike_row ws at key next_key (key_column keys rest) (next_column keys next rest) tier (tier_column r graph rest))

  pub slots_put_next : (vs : List ℕ) → vs ≡ slot_put ws at key next_key tier
      → ranked_slots_put ws at r keys graph next (drop i ranks) ≡ ranked_slots_put vs (at + slot_width) r keys graph next rest
  slots_put_next vs e = rw (e, left) (slots_put_row ws at key next_key (key_column keys rest) (next_column keys next rest) tier (tier_column r graph rest))

  pub places_alike_next : (b : Bool) → b ≡ place_alike ws at key tier
      → ranked_places_alike ws at r keys graph (drop i ranks) ≡ (b && ranked_places_alike ws (at + place_width) r keys graph rest)
  places_alike_next b e = rw (e, left) (places_alike_row ws at key tier (key_column keys rest) (tier_column r graph rest))

  pub places_put_next : (vs : List ℕ) → vs ≡ place_put ws at key tier
      → ranked_places_put ws at r keys graph (drop i ranks) ≡ ranked_places_put vs (at + place_width) r keys graph rest
  places_put_next vs e = rw (e, left) (places_put_row ws at key tier (key_column keys rest) (tier_column r graph rest))

-- no rank is left
module _ (r : ℕ) (keys graph next ws : List ℕ) (at : ℕ) (ranks : List ℕ) (i : ℕ) (l : length ranks ≤ i) where
  pub slots_alike_none : ranked_slots_alike ws at r keys graph next (drop i ranks) ≡ true
  unfolding same picked
  slots_alike_none = rw (drop_of_length-le ranks l)

  pub places_alike_none : ranked_places_alike ws at r keys graph (drop i ranks) ≡ true
  unfolding same picked
  places_alike_none = rw (drop_of_length-le ranks l)

  pub slots_put_none : ranked_slots_put ws at r keys graph next (drop i ranks) ≡ ws
  unfolding column_put
  slots_put_none = rw (drop_of_length-le ranks l)

  pub places_put_none : ranked_places_put ws at r keys graph (drop i ranks) ≡ ws
  unfolding column_put
  places_put_none = rw (drop_of_length-le ranks l)
