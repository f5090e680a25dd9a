-- The keys that count, gathered slot by slot and then place by place, are those of the spots that count; and how many
-- spots are occupied, by the words at which a key can stand. Assumes nothing.
use Prim.Native.Nat.{ℕ, suc, ◌+◌, ◌*◌, ◌-◌, ◌≤◌, ◌<◌}
use Rattle.std.specs.Prelude.{◌≡◌, refl, Bool, true, false, not, cond, eqb, length, get_or, set, drop}
use Rattle.std.proofs.Math.Path.{sym, ap}
use Rattle.std.proofs.Common.{◌∙◌, inl, inr, ne_eqb, length-append, mul-suc, drop-drop, get_or-drop, take-suc-set}
use mathlib.Core.List.{List, [], ◌∷◌, ◌++◌, map, map-append, append-nil}
use Rattle.std.proofs.Math.Numerals.{add-one}
use native.Mathlib.Omega.{arith}
use borrow.Rule.Slice.PartMut.{mid_of}
use mir.Val.{bool_byte}
use Rattle.std.proofs.Math.ListN.{take}
use Rattle.std.proofs.lemmas.List.{length-map}
use Rattle.basics.specs.Tests.{test}
use Rattle.basics.specs.Sets.{keep}
use Rattle.basics.proofs.Sets.{length_keep}
use Rattle.basics.proofs.Lists.{keep_append}
use Rattle.cuckoo.specs.Placement.{slot}
use Rattle.hashing.specs.Hash.{Family, tables}
use Rattle.hashing.specs.Slots.{slot_0, slot_1}
use Rattle.hashing.proofs.Slots.{slot_0_lt, slot_1_le}
use Rattle.layout.specs.Entries.{Entry, keys_of}
use Rattle.layout.specs.Layout.{slots_of, places_of, station_of, header_length, slot_width, place_width, stash_at}
use Rattle.layout.specs.Layout.{place_entries, stash_entries, Spot, slot_spots, place_spots, spots, spot_key}
use Rattle.layout.proofs.Standing.{key_words_parts, stash_lent}
use Rattle.records.specs.Columns.{picked}
use Rattle.collect.specs.Collect.{gathered_word, picked_next, picked_slots, picked_places}
use Rattle.survivors.specs.Salvage.{own_place, counts, counting, occupied}
use Rattle.survivors.specs.Spots.{slot_spot}
use Rattle.survivors.proofs.Spots.{slot_spots_length}
use Rattle.survivors.specs.Looked.{sound}

abbrev pub entry_of : ℕ → ℕ → Entry
entry_of key tier = record { key = key; tier = tier }

-- the keys that count in n slots from v on,
unfoldable pub slots_counting : Family → List ℕ → ℕ → ℕ → List ℕ
slots_counting F ws v n = map spot_key (keep (counts F) (slot_spots ws v n))

-- and in places with these entries
unfoldable pub places_counting : List Entry → List ℕ
places_counting L = keys_of (keep sound L)

-- those that are not 0
abbrev pub non_zero : List ℕ → List ℕ
non_zero xs = keep (λ w. not (eqb w 0)) xs

-- The laws. A slot of table 0 is a key's own if it is its first, one of table 1 if it is its second.
module _ (F : Family) (some : 0 < F.slots) (v key : ℕ) where
  pub own_first : v < F.slots → eqb v (slot_0 F key) ≡ own_place F (slot v) key
  own_first l =
      let n = ne_eqb v (slot_1 F key) (λ q. omega (arith, slot_1_le F some key)) in
      elim (test (eqb v (slot_0 F key))) [ inl t ↦ rw t | inr t ↦ rw (t, n) ]

  pub own_second : F.slots ≤ v → eqb v (slot_1 F key) ≡ own_place F (slot v) key
  own_second l = rw (ne_eqb v (slot_0 F key) (λ q. omega (arith, slot_0_lt F some key)))

-- A test as the number by which the end of what is gathered moves.
pub as_number : (a : Bool) {b : Bool} → a ≡ b → bool_byte a ≡ cond b 1 0
as_number true e = rw (← e) refl
as_number false e = rw (← e) refl

pub at_most_one : (b : Bool) {n : ℕ} → n ≡ cond b 1 0 → n ≤ 1
at_most_one true e = omega (arith, e)
at_most_one false e = omega (arith, e)

map_cond : (t : Bool) (x : Spot) (X : List Spot)
    → map spot_key (cond t (x ∷ X) X) ≡ cond t (spot_key x ∷ map spot_key X) (map spot_key X)
map_cond true x X = refl
map_cond false x X = refl

keys_cond : (t : Bool) (e : Entry) (L : List Entry)
    → keys_of (cond t (e ∷ L) L) ≡ cond t (e.key ∷ keys_of L) (keys_of L)
keys_cond true e L = refl
keys_cond false e L = refl

-- the loop over slots: what is gathered, and what is still to be gathered of m slots from v on
unfoldable pub slots_sifted : Family → List ℕ → List ℕ → (end v m : ℕ) → List ℕ
slots_sifted F ws scratch end v m = take end scratch ++ slots_counting F ws v (m - v)

module _ (F : Family) (ws scratch : List ℕ) (end v m : ℕ) where
  pub slots_take : v < m → end < length scratch → {key : ℕ} → key ≡ spot_key (slot_spot ws v)
      → counts F (slot_spot ws v) ≡ true
      → slots_sifted F ws scratch end v m ≡ slots_sifted F ws (set scratch end key) (end + 1) (v + 1) m
  unfolding slots_sifted slots_counting slot_spots
  slots_take l room k t =
      let q : m - v ≡ suc (m - suc v) = omega arith in
      let more = map spot_key (keep (counts F) (slot_spots ws (suc v) (m - suc v))) in
      rw (q, k, t, add-one v) (gathered_word true scratch end (spot_key (slot_spot ws v)) more room)

  pub slots_skip : v < m → counts F (slot_spot ws v) ≡ false
      → slots_sifted F ws scratch end v m ≡ slots_sifted F ws scratch end (v + 1) m
  unfolding slots_sifted slots_counting slot_spots
  slots_skip l f = let q : m - v ≡ suc (m - suc v) = omega arith in rw (q, f, add-one v)

  pub slots_sift : v < m → end < length scratch → {key n : ℕ} → key ≡ spot_key (slot_spot ws v)
      → n ≡ cond (counts F (slot_spot ws v)) 1 0
      → slots_sifted F ws scratch end v m ≡ slots_sifted F ws (set scratch end key) (end + n) (v + 1) m
  unfolding slots_sifted slots_counting slot_spots
  slots_sift l room k e =
      let q : m - v ≡ suc (m - suc v) = omega arith in
      let more = keep (counts F) (slot_spots ws (suc v) (m - suc v)) in
      rw (q, k, e, add-one v)
      (ap (λ (xs : List ℕ). take end scratch ++ xs) (map_cond (counts F (slot_spot ws v)) (slot_spot ws v) more)
      ∙ gathered_word (counts F (slot_spot ws v)) scratch end (spot_key (slot_spot ws v)) (map spot_key more) room)

  pub slots_end : v ≡ m → slots_sifted F ws scratch end v m ≡ take end scratch
  unfolding slots_sifted slots_counting slot_spots
  slots_end e = let q : m - v ≡ 0 = omega arith in rw q (append-nil (take end scratch))

-- places as they are read one by one: those from i on
abbrev pub places_left : List ℕ → (count i : ℕ) → List Entry
places_left ps count i = place_entries (count - i) (drop (place_width * i) ps)

pub places_next : (ps : List ℕ) (count i : ℕ) → i < count
    → places_left ps count i
    ≡ entry_of (get_or ps (place_width * i) 0) (get_or ps (place_width * i + 1) 0) ∷ places_left ps count (i + 1)
unfolding place_entries
places_next ps count i l =
    let e : count - i ≡ suc (count - (i + 1)) = omega arith in
    let f : place_width * (i + 1) ≡ place_width * i + place_width = omega arith in
    let g : place_width * i + 0 ≡ place_width * i = omega arith in
    rw (
      e,
      f,
      ← drop-drop place_width (place_width * i) ps,
      get_or-drop (place_width * i) ps 0 0,
      get_or-drop (place_width * i) ps 1 0,
      g,
    )

pub places_start : (ps : List ℕ) (count : ℕ) → places_left ps count 0 ≡ place_entries count ps
places_start ps count = let e : count - 0 ≡ count = omega arith in rw e

pub places_done : (ps : List ℕ) (count i : ℕ) → i ≡ count → places_left ps count i ≡ []
unfolding place_entries
places_done ps count i q = let e : count - i ≡ 0 = omega arith in rw e

-- the loop over places
unfoldable pub places_sifted : List ℕ → List ℕ → (end count i : ℕ) → List ℕ
places_sifted ps scratch end count i = take end scratch ++ places_counting (places_left ps count i)

module _ (ps scratch : List ℕ) (end count i : ℕ) where
  pub places_take : i < count → end < length scratch
      → sound (entry_of (get_or ps (place_width * i) 0) (get_or ps (place_width * i + 1) 0)) ≡ true
      → places_sifted ps scratch end count i
      ≡ places_sifted ps (set scratch end (get_or ps (place_width * i) 0)) (end + 1) count (i + 1)
  unfolding places_sifted places_counting
  places_take l room t =
      let more = places_counting (places_left ps count (i + 1)) in
      rw (places_next ps count i l, t) (gathered_word true scratch end (get_or ps (place_width * i) 0) more room)

  pub places_skip : i < count → sound (entry_of (get_or ps (place_width * i) 0) (get_or ps (place_width * i + 1) 0)) ≡ false
      → places_sifted ps scratch end count i ≡ places_sifted ps scratch end count (i + 1)
  unfolding places_sifted places_counting
  places_skip l f = rw (places_next ps count i l, f)

  pub places_sift : i < count → end < length scratch
      → {n : ℕ} → n ≡ cond (sound (entry_of (get_or ps (place_width * i) 0) (get_or ps (place_width * i + 1) 0))) 1 0
      → places_sifted ps scratch end count i
      ≡ places_sifted ps (set scratch end (get_or ps (place_width * i) 0)) (end + n) count (i + 1)
  unfolding places_sifted places_counting
  places_sift l room e =
      let x = entry_of (get_or ps (place_width * i) 0) (get_or ps (place_width * i + 1) 0) in
      let more = keep sound (places_left ps count (i + 1)) in
      rw (places_next ps count i l, e) (ap (λ (xs : List ℕ). take end scratch ++ xs) (keys_cond (sound x) x more)
      ∙ gathered_word (sound x) scratch end x.key (keys_of more) room)

  pub places_end : i ≡ count → places_sifted ps scratch end count i ≡ take end scratch
  unfolding places_sifted places_counting
  places_end q = rw (places_done ps count i q) (append-nil (take end scratch))

-- both together are the keys of the spots that count
places_spots : (F : Family) (i : ℕ) (L : List Entry) → map spot_key (keep (counts F) (place_spots i L))
    ≡ places_counting L
unfolding places_counting
places_spots F i [] = refl
places_spots F i (e ∷ L) = elim (test (sound e)) [
  | inl t ↦ rw (t, places_spots F (suc i) L)
  | inr t ↦ rw (t, places_spots F (suc i) L)
]

module _ (tabulation ws : List ℕ) where
  pub all_counting : slots_counting (tables tabulation (slots_of ws) (station_of ws)) ws 0 (slots_of ws + slots_of ws)
      ++ places_counting (stash_entries ws) ≡ map spot_key (counting tabulation ws)
  unfolding slots_counting counting
  all_counting =
      let F = tables tabulation (slots_of ws) (station_of ws) in
      let A = slot_spots ws 0 (slots_of ws + slots_of ws) in
      let B = place_spots 0 (stash_entries ws) in
      sym (ap (map spot_key) (keep_append (counts F) A B) ∙ map-append spot_key (keep (counts F) A) (keep (counts F) B)
      ∙ ap (λ (xs : List ℕ). map spot_key (keep (counts F) A) ++ xs) (places_spots F 0 (stash_entries ws)))

-- no more are gathered than there are spots
pub slots_few : (F : Family) (ws : List ℕ) (n : ℕ) → length (slots_counting F ws 0 n) ≤ n
unfolding slots_counting
slots_few F ws n =
    omega (
      arith,
      length-map (keep (counts F) (slot_spots ws 0 n)) spot_key,
      length_keep (counts F)
          (slot_spots ws 0 n),
      slot_spots_length ws 0 n,
    )

-- Gathered behind a word 0, in two goes: first from the slots, then from the places as they are lent.
pub gathered_counting : (tabulation ws scratch mid zs : List ℕ) {r station start count n end : ℕ}
    → r ≡ slots_of ws → station ≡ station_of ws → start ≡ stash_at r → count ≡ places_of ws → 0 < length scratch
    → (take n mid ≡ take 1 (set scratch 0 0) ++ slots_counting (tables tabulation r station) ws 0 (r + r))
    × (n ≡ 1 + length (slots_counting (tables tabulation r station) ws 0 (r + r)))
    → (take end zs ≡ take n mid ++ places_counting
    (place_entries count (mid_of start (start + place_width * count - start) ws)))
    × (end ≡ n + length (places_counting (place_entries count (mid_of start (start + place_width * count - start) ws))))
    → (take (end - 1 + 1) zs ≡ 0 ∷ map spot_key (counting tabulation ws)) × (end - 1 ≡ length (counting tabulation ws))
gathered_counting tabulation ws scratch mid zs {r} {station} {start} {count} {n} {end} er ed es ec l f g =
    let A = slots_counting (tables tabulation (slots_of ws) (station_of ws)) ws 0 (slots_of ws + slots_of ws) in
    let B = places_counting (stash_entries ws) in
    let f' = rw (er, ed) at f in
    let g' = rw (stash_lent ws {start = start} {count = count} (es ∙ ap stash_at er) ec, f'.0) at g in
    let h : end - 1 + 1 ≡ end = omega (arith, f'.1, g'.1) in (
      rw h (g'.0 ∙ rw (take-suc-set scratch 0 0 l) (ap (λ (xs : List ℕ). 0 ∷ xs) (all_counting tabulation ws))),
      omega (
        arith,
        f'.1,
        g'.1,
        length-append A B,
        ap length (all_counting tabulation ws),
        length-map (counting tabulation ws) spot_key,
      ),
    )

-- The numbers that stand in words, counted one by one: of `count` words those from the i-th on, the i-th and those
-- after it, and none.
abbrev pub occupied_left : List ℕ → (from step count i : ℕ) → ℕ
occupied_left ws from step count i = length (non_zero (picked ws (from + step * i) step (count - i)))

pub occupied_start : (ws : List ℕ) (from step count : ℕ)
    → occupied_left ws from step count 0 ≡ length (non_zero (picked ws from step count))
occupied_start ws from step count =
    let e : count - 0 ≡ count = omega arith in let f : from + step * 0 ≡ from = omega arith in rw (e, f)

module _ (ws : List ℕ) (from step count i : ℕ) where
  pub occupied_next : i < count → occupied_left ws from step count i
      ≡ cond (eqb (get_or ws (from + step * i) 0) 0) 0 1 + occupied_left ws from step count (i + 1)
  unfolding picked
  occupied_next l =
      let e : count - i ≡ suc (count - (i + 1)) = omega arith in
      let f : from + step * (i + 1) ≡ from + step * i + step = omega (arith, mul-suc step i) in
      rw (e, f) (elim (test (eqb (get_or ws (from + step * i) 0) 0)) [ inl t ↦ rw t (omega arith) | inr t ↦ rw t (omega arith) ])

  pub occupied_none : i ≡ count → occupied_left ws from step count i ≡ 0
  unfolding picked
  occupied_none q = let e : count - i ≡ 0 = omega arith in rw e

-- The same with a running total, as a number is read.
module _ (ws : List ℕ) (step at left : ℕ) (l : 0 < left) where
  pub occupied_step : (total : ℕ) {n : ℕ} → n ≡ cond (eqb (get_or ws at 0) 0) 0 1
      → total + length (non_zero (picked ws at step left))
      ≡ total + n + length (non_zero (picked ws (at + step) step (left - 1)))
  occupied_step total e =
      rw (picked_next ws step at left l, e) (elim (test (eqb (get_or ws at 0) 0)) [
        | inl t ↦ rw t (omega arith)
        | inr t ↦ rw t (omega arith)
      ])

pub occupied_end : (ws : List ℕ) (step at left total : ℕ) → left ≡ 0
    → total + length (non_zero (picked ws at step left)) ≡ total
unfolding picked
occupied_end ws step at left total e = rw e (omega arith)

occupied_keys : (X : List Spot) → length (keep occupied X) ≡ length (non_zero (map spot_key X))
occupied_keys [] = refl
occupied_keys (x ∷ X) = elim (test (eqb (spot_key x) 0)) [
  | inl t ↦ rw (t, occupied_keys X)
  | inr t ↦ rw (t, occupied_keys X)
]

-- those of slots and places together are the spots that are occupied
pub all_occupied : (ws : List ℕ)
    → length (non_zero (picked ws header_length slot_width (2 * slots_of ws)))
    + length (non_zero (picked ws (stash_at (slots_of ws)) place_width (places_of ws)))
    ≡ length (keep occupied (spots ws))
all_occupied ws =
    let e : 2 * slots_of ws ≡ slots_of ws + slots_of ws = omega arith in
    let A = map spot_key (slot_spots ws 0 (slots_of ws + slots_of ws)) in
    let B = keys_of (stash_entries ws) in
    rw (e, picked_slots ws 0 (slots_of ws + slots_of ws), picked_places ws (stash_at (slots_of ws)) (places_of ws))
    (sym (length-append (non_zero A) (non_zero B))
    ∙ ap length (sym (keep_append (λ w. not (eqb w 0)) A B))
    ∙ ap (λ (xs : List ℕ). length (non_zero xs)) (sym (key_words_parts ws)) ∙ sym (occupied_keys (spots ws)))
