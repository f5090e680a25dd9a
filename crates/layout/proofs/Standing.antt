-- The laws of what specs/Standing.antt defines.
use Rattle.std.specs.Prelude.{ℕ, zero, suc, ◌+◌, ◌*◌, ◌-◌, ◌≤◌, ◌<◌, ◌≡◌, refl, true, false, ◌↔◌, length, get_or, take, drop, replicate}
use Rattle.std.proofs.Common.{sym, ◌∙◌, arith, get_or-drop}
use Rattle.std.proofs.Math.Path.{ap}
use Rattle.std.proofs.Math.Bool.{not}
use Rattle.std.proofs.Math.Logic.{inl, inr}
use mathlib.Core.List.Memᴰ
use mathlib.Core.List.Memᴰ.{head as here}
use mathlib.Core.List.Memᴰ.{tail as there}
use mathlib.Core.List.{List, [], ◌∷◌, ◌++◌, map, map-append, Memᴰ as In}
use borrow.Author.Tests.{ne_eqb, not-true}
use borrow.Rule.Slice.PartMut.{mid_of}
use Rattle.basics.proofs.Tests.{eq?}
use Rattle.basics.specs.Sets.{keep, Asc}
use Rattle.basics.proofs.Sets.{asc_ext, keep_in, keep_test, in_keep}
use Rattle.basics.proofs.Lists.{get_or_in}
use Rattle.cuckoo.specs.Graph.{seated, stash, occupant, next, slot_key, slot_next}
use Rattle.cuckoo.proofs.Settling.{seated_sub, seated_asc, seated_stops}
use Rattle.cuckoo.proofs.Next.{next_in}
use Rattle.cuckoo.proofs.Seating.{look, occupant_from}
use Rattle.cuckoo.proofs.Filled.{seated_or_stash, stash_sub}
use Rattle.ordered.proofs.Sorting.{in_at}
use Rattle.ordered.proofs.Distinct.{distinct_sorted_asc, distinct_sorted_in, in_distinct_sorted}
use Rattle.hashing.specs.Hash.{blank}
use Rattle.hashing.proofs.Issues.{not_blank_iff}
use Rattle.hashing.specs.Slots.{slot_0, slot_1}
use Rattle.hashing.proofs.Slots.{slot_0_lt, slot_1_lt}
use Rattle.layout.specs.Entries.{Entry, keys_of, tier_of, tiered, no_entry}
use Rattle.layout.proofs.Entries.{keys_tiered, tiered_agree, tier_absent, tier_all, tiered_self, tiered_in, keys_none, none_in, keys_append}
use Rattle.layout.specs.Layout.{Params, family, family_of, ValidKeys, place_width, key_at, stash_at, place_at, slots_of, places_of, place_words, image_by}
use Rattle.layout.specs.Layout.{stash_of, fits, stash_words, image, place_entries, stash_entries, slot_spots, place_spots, spot_key, key_words, keys_in, slot_entry, looked_at, tier_in, set_in}
use Rattle.layout.proofs.Image.{fits_le, image_slots, image_places, image_key, image_next, image_tier, image_stash}
use Rattle.layout.specs.Standing.{KeyWord, Seen, S, at_slot, in_stash, table_0, table_1, stashed}

-- blank keys: all that is needed here of `blank`

pub not_blank : (c : ℕ) → blank c ≡ false → c ≡ 0 → ⊥
not_blank c e q = omega (arith, (not_blank_iff c).0 e)

pub zero_outside : {S : List ℕ} → ValidKeys S → In 0 S → ⊥
zero_outside h i = not_blank 0 (h.none_blank 0 i) refl

-- the key words of n slots from v on are those of the slots v to v + n - 1,
slot_key_at : (ws : List ℕ) (v n : ℕ) {c : ℕ} → In c (map spot_key (slot_spots ws v n))
    → (w : ℕ) × (w < v + n) × (get_or ws (key_at w) 0 ≡ c)
unfolding slot_spots
slot_key_at ws v zero i = elim i [ ]
slot_key_at ws v (suc n) (here q) = (v, omega arith, sym q)
slot_key_at ws v (suc n) (there i) = let r = slot_key_at ws (suc v) n i in (r.0, omega (arith, r.1), r.2)

at_slot_key : (ws : List ℕ) (v n w : ℕ) → v ≤ w → w < v + n → {c : ℕ} → get_or ws (key_at w) 0 ≡ c
    → In c (map spot_key (slot_spots ws v n))
unfolding slot_spots
at_slot_key ws v zero w l m e = absurd (omega arith)
at_slot_key ws v (suc n) w l m e = elim (eq? w v) [
  | inl q ↦ here (sym e ∙ ap (λ (x : ℕ). get_or ws (key_at x) 0) q)
  | inr o ↦ there (at_slot_key ws (suc v) n w (omega arith) (omega arith) e)
]

-- and the key words of places those of their entries
place_spots_keys : (i : ℕ) (L : List Entry) → map spot_key (place_spots i L) ≡ keys_of L
place_spots_keys i [] = refl
place_spots_keys i (e ∷ L) = ap (λ (R : List ℕ). e.key ∷ R) (place_spots_keys (suc i) L)

pub key_words_parts : (ws : List ℕ)
    → key_words ws ≡ map spot_key (slot_spots ws 0 (slots_of ws + slots_of ws)) ++ keys_of (stash_entries ws)
key_words_parts ws =
    map-append spot_key (slot_spots ws 0 (slots_of ws + slots_of ws)) (place_spots 0 (stash_entries ws))
    ∙ (rw (place_spots_keys 0 (stash_entries ws)))

place_entries_length : (n : ℕ) (ws : List ℕ) → length (keys_of (place_entries n ws)) ≡ n
unfolding place_entries
place_entries_length zero ws = refl
place_entries_length (suc n) ws = ap suc (place_entries_length n (drop place_width ws))

place_entries_at : (n : ℕ) (ws : List ℕ) (i : ℕ) → i < n → get_or (keys_of (place_entries n ws)) i 0 ≡ get_or ws (place_width * i) 0
unfolding place_entries
place_entries_at zero ws i l = absurd (omega arith)
place_entries_at (suc n) ws zero l = refl
place_entries_at (suc n) ws (suc i) l =
    let e : place_width * suc i ≡ place_width + place_width * i = omega arith in
    rw e (place_entries_at n (drop place_width ws) i (omega arith) ∙ get_or-drop place_width ws (place_width * i) 0)

module _ (ws : List ℕ) where
  places_at : (i : ℕ) → i < places_of ws → get_or (keys_of (stash_entries ws)) i 0 ≡ get_or ws (place_at (slots_of ws) i) 0
  places_at i l =
      place_entries_at (places_of ws) (drop (stash_at (slots_of ws)) ws) i l ∙ get_or-drop (stash_at (slots_of ws)) ws (place_width * i) 0

  pub places_count : length (keys_of (stash_entries ws)) ≡ places_of ws
  places_count = place_entries_length (places_of ws) (drop (stash_at (slots_of ws)) ws)

  pub stash_key_in : {c : ℕ} → In c (keys_of (stash_entries ws)) → KeyWord ws c
  stash_key_in i =
      let w = in_at i in
      let l : w.0 < places_of ws = omega (arith, w.1, places_count) in
      in_stash w.0 l (sym (places_at w.0 l) ∙ w.2)

  pub in_key_words : {c : ℕ} → In c (key_words ws) → KeyWord ws c
  in_key_words {c} h =
      let n = slots_of ws + slots_of ws in
      elim (Memᴰ.append_cases (map spot_key (slot_spots ws 0 n)) (rw (key_words_parts ws) at h)) [
        | inl i ↦ let w = slot_key_at ws 0 n i in at_slot w.0 (omega (arith, w.1)) w.2
        | inr i ↦ stash_key_in i
      ]

  pub key_word_in : {c : ℕ} → KeyWord ws c → In c (key_words ws)
  key_word_in (at_slot v l e) =
      rw (key_words_parts ws) (Memᴰ.append_left (keys_of (stash_entries ws))
      (at_slot_key ws 0 (slots_of ws + slots_of ws) v (omega arith) (omega arith) e))
  key_word_in (in_stash j l e) =
      let i = get_or_in (keys_of (stash_entries ws)) j (omega (arith, places_count)) in
      rw (key_words_parts ws) (Memᴰ.append_right (map spot_key (slot_spots ws 0 (slots_of ws + slots_of ws))) (rw (places_at j l, e) at i))

-- the places of the stash, as they are lent
places_take : (n : ℕ) (us : List ℕ) → place_entries n (take (place_width * n) us) ≡ place_entries n us
unfolding place_entries
places_take zero us = refl
places_take (suc n) [] = let e : place_width * suc n ≡ suc (suc (place_width * n)) = omega arith in rw e
places_take (suc n) (x ∷ []) = let e : place_width * suc n ≡ suc (suc (place_width * n)) = omega arith in rw e
places_take (suc n) (x ∷ y ∷ us) =
    let e : place_width * suc n ≡ suc (suc (place_width * n)) = omega arith in rw (e, places_take n us)

pub stash_lent : (ws : List ℕ) {start count : ℕ} → start ≡ stash_at (slots_of ws) → count ≡ places_of ws
    → place_entries count (mid_of start (start + place_width * count - start) ws) ≡ stash_entries ws
stash_lent ws {start} {count} a n =
    let l : start + place_width * count - start ≡ place_width * count = omega arith in
    rw (l, places_take count (drop start ws), a, n)

-- the set of the keys that stand in given words

module _ (ws : List ℕ) where
  pub keys_in_asc : Asc (keys_in ws)
  unfolding keys_in
  keys_in_asc = distinct_sorted_asc (keep (λ w. not (blank w)) (key_words ws))

  pub keys_in_key : {c : ℕ} → In c (keys_in ws) → In c (key_words ws) × (blank c ≡ false)
  unfolding keys_in
  keys_in_key {c} i =
      let k = distinct_sorted_in (keep (λ w. not (blank w)) (key_words ws)) c i in (
        keep_in (λ w. not (blank w)) (key_words ws) k,
        not-true (blank c) (keep_test (λ w. not (blank w)) (key_words ws) k),
      )

  pub key_keys_in : {c : ℕ} → In c (key_words ws) → blank c ≡ false → In c (keys_in ws)
  unfolding keys_in
  key_keys_in {c} i b =
      in_distinct_sorted (keep (λ w. not (blank w)) (key_words ws)) c (in_keep (λ w. not (blank w)) (key_words ws) (ap not b) i)

  -- whatever the words, it is a set of keys
  pub keys_in_valid : ValidKeys (keys_in ws)
  keys_in_valid = record { asc = keys_in_asc; none_blank = λ c i. (keys_in_key i).1 }

  -- the keys that are the key word of a slot or of a place of the stash, but for blank ones
  pub keys_in_words : (c : ℕ) → In c (keys_in ws) ↔ (KeyWord ws c × (blank c ≡ false))
  keys_in_words c = (
    λ i. let k = keys_in_key i in (in_key_words ws k.0, k.1),
    λ k. key_keys_in (key_word_in ws k.0) k.1,
  )

-- a set in its slots and its stash

module _ (a b : ℕ → ℕ) {S : List ℕ} (asc : Asc S) where
  pub seen : {c : ℕ} → In c S → (Seen a b asc) c
  unfolding slot_key
  seen {c} i =
      elim (seated_or_stash a b S i) [
        | inl k ↦ elim (look a b (seated a b S) (seated_stops a b S asc) c k) [ inl e ↦ table_0 e | inr e ↦ table_1 e ]
        | inr k ↦ stashed k
      ]

  -- a slot holds nothing else
  pub slot_key_in : {c : ℕ} (v : ℕ) → slot_key a b S v ≡ c → (c ≡ 0 → ⊥) → In c S
  unfolding slot_key
  slot_key_in {c} v e n =
      elim (occupant_from a b (seated a b S) v) [
        | inl z ↦ absurd (n (sym e ∙ z))
        | inr h ↦ seated_sub a b S asc c (rw e at h.0)
      ]

  -- nor points to anything else
  pub slot_next_in : {c : ℕ} (v : ℕ) → slot_next a b S v ≡ c → (c ≡ 0 → ⊥) → In c S
  unfolding slot_key slot_next
  slot_next_in {c} v e n =
      elim (occupant_from a b (seated a b S) v) [
        | inl z ↦ absurd (n (sym e ∙ (rw z)))
        | inr h ↦ elim (eq? (occupant a b (seated a b S) v) 0) [
          | inl z ↦ absurd (n (sym e ∙ (rw z)))
          | inr s ↦
              let q : next a b (seated a b S) (occupant a b (seated a b S) v) ≡ c = rw (ne_eqb (occupant a b (seated a b S) v) 0 s) at e in
              seated_sub a b S asc c (rw q at (next_in a b (seated_asc a b S asc) h.0).0)
        ]
      ]

-- what is looked at are key words
pub looked_key_word : (tabulation ws : List ℕ) → 0 < slots_of ws → (key : ℕ) {c : ℕ} → In c (keys_of (looked_at tabulation ws key)) → KeyWord ws c
looked_key_word tabulation ws some key i =
    let F = family_of tabulation ws in
    elim i [
      | here q ↦ at_slot (slot_0 F key) (omega (arith, slot_0_lt F some key)) (sym q)
      | there j ↦ elim j [ here q ↦ at_slot (slot_1 F key) (slot_1_lt F some key) (sym q) | there k ↦ stash_key_in ws k ]
    ]

-- the image of a set

-- the places of keys and of nothing are read back
places_none : (k : ℕ) → place_entries k (replicate (place_width * k) 0) ≡ replicate k no_entry
unfolding place_entries
places_none zero = refl
places_none (suc k) = let e : place_width * suc k ≡ suc (suc (place_width * k)) = omega arith in rw (e, places_none k)

places_read : (t : ℕ → ℕ) (R : List ℕ) (k : ℕ)
    → place_entries (length R + k) (place_words t R ++ replicate (place_width * k) 0) ≡ tiered t R ++ replicate k no_entry
unfolding place_entries
places_read t [] k = let z : 0 + k ≡ k = omega arith in ap (λ (m : ℕ). place_entries m (replicate (place_width * k) 0)) z ∙ places_none k
places_read t (c ∷ R) k = let e : length (c ∷ R) + k ≡ suc (length R + k) = omega arith in rw (e, places_read t R k)

pub in_zeros : (n : ℕ) {c : ℕ} → In c (replicate n 0) → c ≡ 0
in_zeros (suc n) (here q) = q
in_zeros (suc n) (there h) = in_zeros n h
in_zeros zero {c = c} x' = elim x' [ ]

module _ (P : Params) (L : List Entry) (e : fits P (keys_of L) ≡ true) where
  abbrev empty_places : ℕ
  empty_places = P.places - length (stash_of P (S P L e))

  -- its stash as entries: the stashed keys with their tiers, then empty places
  pub image_entries : stash_entries (image P L) ≡ tiered (tier_of L) (stash_of P (S P L e)) ++ replicate empty_places no_entry
  image_entries =
      let n : P.places ≡ length (stash_of P (S P L e)) + empty_places = omega (arith, fits_le P (S P L e) e) in
      rw (image_slots P L, image_places P L, image_stash P L)
      (ap (λ (m : ℕ). place_entries m (stash_words P L)) n ∙ places_read (tier_of L) (stash_of P (S P L e)) empty_places)

  pub image_stash_keys : keys_of (stash_entries (image P L)) ≡ stash_of P (S P L e) ++ replicate empty_places 0
  image_stash_keys =
      ap keys_of image_entries
      ∙ keys_append (tiered (tier_of L) (stash_of P (S P L e))) (replicate empty_places no_entry)
      ∙ (rw (keys_tiered (tier_of L) (stash_of P (S P L e)), keys_none empty_places))

  module _ (valid : ValidKeys (S P L e)) where
    -- every slot and every place has the tier of its key
    pub slot_tier : (v : ℕ) → v < P.slots + P.slots → (slot_entry (image P L) v).tier ≡ tier_of L (slot_entry (image P L) v).key
    slot_tier v l = image_tier P L v l ∙ ap (tier_of L) (sym (image_key P L v l))

    pub place_tier : (x : Entry) → In x (stash_entries (image P L)) → x.tier ≡ tier_of L x.key
    place_tier x i = elim (Memᴰ.append_cases (tiered (tier_of L) (stash_of P (S P L e))) (rw image_entries at i)) [
      | inl k ↦ tiered_in (tier_of L) (stash_of P (S P L e)) k
      | inr k ↦ rw (none_in empty_places k) (sym (tier_absent L (zero_outside valid)))
    ]

    -- only keys of the set stand in the image,
    pub image_key_in : {c : ℕ} → KeyWord (image P L) c → (c ≡ 0 → ⊥) → In c (S P L e)
    image_key_in (at_slot v l q) n =
        let m : v < P.slots + P.slots = rw (image_slots P L) at l in
        slot_key_in (slot_0 (family P)) (slot_1 (family P)) valid.asc v (sym (image_key P L v m) ∙ q) n
    image_key_in {c} (in_stash i l q) n =
        let k = get_or_in (keys_of (stash_entries (image P L))) i (omega (arith, places_count (image P L))) in
        let m : In c (stash_of P (S P L e) ++ replicate empty_places 0) = rw image_stash_keys at (rw (places_at (image P L) i l, q) at k) in
        elim (Memᴰ.append_cases (stash_of P (S P L e)) m) [
          | inl j ↦ stash_sub (slot_0 (family P)) (slot_1 (family P)) (S P L e) c j
          | inr j ↦ absurd (n (in_zeros empty_places j))
        ]

    -- and as next numbers,
    pub image_next_in : {c : ℕ} (v : ℕ) → v < P.slots + P.slots → get_or (image P L) (suc (key_at v)) 0 ≡ c → (c ≡ 0 → ⊥) → In c (S P L e)
    image_next_in v l q n = slot_next_in (slot_0 (family P)) (slot_1 (family P)) valid.asc v (sym (image_next P L v l) ∙ q) n

    -- and each of them does, where a lookup looks for it
    pub image_in_looked : 0 < P.slots → {c : ℕ} → In c (S P L e) → In c (keys_of (looked_at P.tabulation (image P L) c))
    unfolding image image_by
    image_in_looked some {c} i = elim (seen (slot_0 (family P)) (slot_1 (family P)) valid.asc i) [
      | table_0 q ↦ here (sym (image_key P L (slot_0 (family P) c) (omega (arith, slot_0_lt (family P) some c)) ∙ q))
      | table_1 q ↦ there (here (sym (image_key P L (slot_1 (family P) c) (slot_1_lt (family P) some c) ∙ q)))
      | stashed k ↦
          let m : In c (keys_of (stash_entries (image P L))) = rw image_stash_keys (Memᴰ.append_left (replicate empty_places 0) k) in
          there (there m)
    ]

    -- the tiers at which they are found,
    pub tier_in_image : 0 < P.slots → {c : ℕ} → In c (S P L e) → tier_in P.tabulation (image P L) c ≡ tier_of L c
    unfolding tier_in image image_by
    tier_in_image some {c} i =
        tier_all (looked_at P.tabulation (image P L) c) (image_in_looked some i) (λ x k q. looked_tier x k ∙ ap (tier_of L) q)
      where
        looked_tier : (x : Entry) → In x (looked_at P.tabulation (image P L) c) → x.tier ≡ tier_of L x.key
        looked_tier x (here q) = rw q (slot_tier (slot_0 (family P) c) (omega (arith, slot_0_lt (family P) some c)))
        looked_tier x (there (here q)) = rw q (slot_tier (slot_1 (family P) c) (slot_1_lt (family P) some c))
        looked_tier x (there (there k)) = place_tier x k
