-- The laws of what specs/Image.antt defines.
use Prim.Native.Nat.{ℕ, zero, suc, ◌+◌, ◌*◌, ◌-◌, ◌/◌, ◌%◌, ◌<◌, ◌≤◌}
use Rattle.std.specs.Prelude.{◌≡◌, true, List, [], ◌∷◌, ◌++◌, length, get_or, set, drop, replicate}
use Rattle.std.proofs.Math.Path.{refl}
use Rattle.std.proofs.Common.{sym, ◌∙◌, ap, inl, inr, get_or-drop, drop-drop, drop_at, ext_get_or}
use native.Mathlib.Omega.{arith}
use borrow.Author.Tests.{leb-true, le-leb}
use Rattle.std.proofs.Math.ListN.{length-append, get_or-append}
use Rattle.std.proofs.lemmas.List.{length-replicate}
use Rattle.cuckoo.specs.Graph.{stash, slot_key, slot_next}
use Rattle.basics.proofs.Tests.{eq?, le?}
use Rattle.hashing.specs.Slots.{slot_0, slot_1}
use Rattle.layout.specs.Entries.{Entry, keys_of, tier_of}
use Rattle.layout.specs.Layout.{Params, family, header_words, header_length, slot_width, place_width, key_at, tier_at, stash_at, place_at, words_length, slots_of, places_of, fits_by, place_words, image_by, slot_words_by}
use Rattle.layout.specs.Layout.{stash_count, station_of, params_of, params_in_range, shaped, stash_of, fits, slot_words, stash_words, image}
use Rattle.layout.specs.declared.Header.{Header}
use Rattle.layout.proofs.Shape.{ranged, shape_true}
use Rattle.layout.specs.Image.{place_keys, S, Laid}

-- the heading as the code writes it, word by word
pub headed : (ws : List ℕ) (h : Header) → header_length ≤ length ws
    → set (set (set (set (set ws 0 h.slots) 1 h.places) 2 h.keys) 3 h.stashed) 4 h.station ≡ header_words h ++ drop header_length ws
headed [] h l = absurd (omega arith)
headed (a ∷ []) h l = absurd (omega arith)
headed (a ∷ b ∷ []) h l = absurd (omega arith)
headed (a ∷ b ∷ c ∷ []) h l = absurd (omega arith)
headed (a ∷ b ∷ c ∷ d ∷ []) h l = absurd (omega arith)
headed (a ∷ b ∷ c ∷ d ∷ e ∷ ws) h l = refl

-- the kinds of positions

-- "the length becomes 4 + 6r + 2s", and it "grows by one"
pub exact_length : (r s : ℕ) → words_length r s ≡ 5 + 6 * r + 2 * s
exact_length r s = omega arith

-- Position i of words with r and s: in the header, at a slot's key, next or tier, or at the key or the tier of a place.
data Position (r s i : ℕ) : Type 0 where
  in_header : i < header_length → Position r s i
  at_key : (v : ℕ) → v < r + r → i ≡ key_at v → Position r s i
  at_next : (v : ℕ) → v < r + r → i ≡ suc (key_at v) → Position r s i
  at_tier : (v : ℕ) → v < r + r → i ≡ tier_at v → Position r s i
  at_place : (j : ℕ) → j < s → i ≡ place_at r j → Position r s i
  at_place_tier : (j : ℕ) → j < s → i ≡ suc (place_at r j) → Position r s i

position : (r s i : ℕ) → i < words_length r s → Position r s i
position r s i h =
    elim (le? header_length i) [
      | inr l ↦ in_header l
      | inl l ↦ elim (le? (stash_at r) i) [
        | inl m ↦ elim (eq? ((i - stash_at r) % place_width) 0) [
          | inl e ↦ at_place ((i - stash_at r) / place_width) (omega arith) (omega arith)
          | inr n ↦ at_place_tier ((i - stash_at r) / place_width) (omega arith) (omega arith)
        ]
        | inr m ↦ elim (eq? ((i - header_length) % slot_width) 0) [
          | inl e ↦ at_key ((i - header_length) / slot_width) (omega arith) (omega arith)
          | inr n ↦ elim (eq? ((i - header_length) % slot_width) 1) [
            | inl e ↦ at_next ((i - header_length) / slot_width) (omega arith) (omega arith)
            | inr k ↦ at_tier ((i - header_length) / slot_width) (omega arith) (omega arith)
          ]
        ]
      ]
    ]

module _ (P : Params) (S : List ℕ) where
  pub fits_le : fits P S ≡ true → length (stash_of P S) ≤ P.places
  unfolding fits fits_by
  fits_le e = leb-true (length (stash_of P S)) P.places e

  pub le_fits : length (stash_of P S) ≤ P.places → fits P S ≡ true
  unfolding fits fits_by
  le_fits l = le-leb (length (stash_of P S)) P.places l

-- the words of places: key and tier of each key
module _ (t : ℕ → ℕ) where
  pub place_words_length : (R : List ℕ) → length (place_words t R) ≡ place_width * length R
  place_words_length [] = refl
  place_words_length (c ∷ R) = omega (arith, place_words_length R)

  pub place_words_at : (R : List ℕ) (i : ℕ) → i < length R
      → (get_or (place_words t R) (place_width * i) 0 ≡ get_or R i 0) × (get_or (place_words t R) (suc (place_width * i)) 0 ≡ t (get_or R i 0))
  place_words_at [] i l = absurd (omega arith)
  place_words_at (c ∷ R) zero l = (refl, refl)
  place_words_at (c ∷ R) (suc i) l =
      let e : place_width * suc i ≡ suc (suc (place_width * i)) = omega arith in rw e (place_words_at R i (omega arith))

  places_of_zeros : t 0 ≡ 0 → (R : List ℕ) (k : ℕ) → place_words t R ++ replicate (place_width * k) 0 ≡ place_words t (R ++ replicate k 0)
  places_of_zeros z [] zero = refl
  places_of_zeros z [] (suc k) =
      let e : place_width * suc k ≡ suc (suc (place_width * k)) = omega arith in rw (e, z, ← places_of_zeros z [] k)
  places_of_zeros z (c ∷ R) k = ap (λ (xs : List ℕ). c ∷ t c ∷ xs) (places_of_zeros z R k)

pub place_keys_length : (P : Params) (S : List ℕ) → fits P S ≡ true → length (place_keys P S) ≡ P.places
place_keys_length P S e = let l = fits_le P S e in simp (length-append, length-replicate) (omega arith)

module _ (P : Params) (L : List Entry) where
  -- the words of the slots
  slot_words_length : (v n : ℕ) → length (slot_words P L v n) ≡ slot_width * n
  unfolding slot_words_by
  slot_words_length v zero = omega arith
  slot_words_length v (suc n) = omega (arith, slot_words_length (suc v) n)

  slot_words_at : (v n i : ℕ) → i < n
      → (get_or (slot_words P L v n) (slot_width * i) 0 ≡ slot_key (slot_0 (family P)) (slot_1 (family P)) (S P L) (v + i))
      × (get_or (slot_words P L v n) (suc (slot_width * i)) 0 ≡ slot_next (slot_0 (family P)) (slot_1 (family P)) (S P L) (v + i))
      × (get_or (slot_words P L v n) (suc (suc (slot_width * i))) 0 ≡ tier_of L (slot_key (slot_0 (family P)) (slot_1 (family P)) (S P L) (v + i)))
  unfolding slot_words_by
  slot_words_at v zero i l = absurd (omega arith)
  slot_words_at v (suc n) zero l = let e : v + 0 ≡ v = omega arith in (rw e, rw e, rw e)
  slot_words_at v (suc n) (suc i) l =
      let e : slot_width * suc i ≡ suc (suc (suc (slot_width * i))) = omega arith in
      let f : v + suc i ≡ suc v + i = omega arith in
      rw (e, f) (slot_words_at (suc v) n i (omega arith))

  pub stash_words_length : fits P (S P L) ≡ true → length (stash_words P L) ≡ place_width * P.places
  stash_words_length e =
      let l = fits_le P (S P L) e in
      let n = place_words_length (tier_of L) (stash_of P (S P L)) in
      simp (length-append, length-replicate) (omega arith)

  -- where 0 has no tier they are the places of the stash's keys, and of zeros
  pub stash_words_are : tier_of L 0 ≡ 0 → stash_words P L ≡ place_words (tier_of L) (place_keys P (S P L))
  stash_words_are z = places_of_zeros (tier_of L) z (stash_of P (S P L)) (P.places - length (stash_of P (S P L)))

  -- the header of the image
  pub image_slots : slots_of (image P L) ≡ P.slots
  unfolding image image_by
  image_slots = refl

  pub image_places : places_of (image P L) ≡ P.places
  unfolding image image_by
  image_places = refl

  pub image_keys : get_or (image P L) 2 0 ≡ length (S P L)
  unfolding image image_by
  image_keys = refl

  pub image_stashed : stash_count (image P L) ≡ length (stash (slot_0 (family P)) (slot_1 (family P)) (S P L))
  unfolding image image_by
  image_stashed = refl

  pub image_station : station_of (image P L) ≡ P.station
  unfolding image image_by
  image_station = refl

  -- its slots
  image_after_header : drop header_length (image P L) ≡ slot_words P L 0 (P.slots + P.slots) ++ stash_words P L
  unfolding image image_by
  image_after_header = refl

  in_slots : (i : ℕ) → i < slot_width * (P.slots + P.slots)
      → get_or (image P L) (header_length + i) 0 ≡ get_or (slot_words P L 0 (P.slots + P.slots)) i 0
  in_slots i l =
      sym (get_or-drop header_length (image P L) i 0)
      ∙ ap (λ (ws : List ℕ). get_or ws i 0) image_after_header
      ∙ get_or-append (slot_words P L 0 (P.slots + P.slots)) (stash_words P L) 0 i (omega (arith, slot_words_length 0 (P.slots + P.slots)))

  pub image_key : (v : ℕ) → v < P.slots + P.slots
      → get_or (image P L) (key_at v) 0 ≡ slot_key (slot_0 (family P)) (slot_1 (family P)) (S P L) v
  image_key v l =
      let e : 0 + v ≡ v = omega arith in
      in_slots (slot_width * v) (omega arith) ∙ (rw e at (slot_words_at 0 (P.slots + P.slots) v l).0)

  pub image_next : (v : ℕ) → v < P.slots + P.slots
      → get_or (image P L) (suc (key_at v)) 0 ≡ slot_next (slot_0 (family P)) (slot_1 (family P)) (S P L) v
  image_next v l =
      let e : 0 + v ≡ v = omega arith in
      let f : suc (key_at v) ≡ header_length + suc (slot_width * v) = omega arith in
      rw f (in_slots (suc (slot_width * v)) (omega arith) ∙ (rw e at (slot_words_at 0 (P.slots + P.slots) v l).1))

  pub image_tier : (v : ℕ) → v < P.slots + P.slots
      → get_or (image P L) (tier_at v) 0 ≡ tier_of L (slot_key (slot_0 (family P)) (slot_1 (family P)) (S P L) v)
  image_tier v l =
      let e : 0 + v ≡ v = omega arith in
      let f : tier_at v ≡ header_length + suc (suc (slot_width * v)) = omega arith in
      rw f (in_slots (suc (suc (slot_width * v))) (omega arith) ∙ (rw e at (slot_words_at 0 (P.slots + P.slots) v l).2))

  -- and its stash
  pub image_stash : drop (stash_at P.slots) (image P L) ≡ stash_words P L
  image_stash =
      let n = P.slots + P.slots in
      sym (drop-drop (slot_width * n) header_length (image P L))
      ∙ ap (drop (slot_width * n)) image_after_header
      ∙ drop_at (slot_words P L 0 n) (stash_words P L) (slot_width * n) (slot_words_length 0 n)

  module _ (e : fits P (S P L) ≡ true) (z : tier_of L 0 ≡ 0) where
    in_places : (i : ℕ) → get_or (image P L) (stash_at P.slots + i) 0 ≡ get_or (place_words (tier_of L) (place_keys P (S P L))) i 0
    in_places i = sym (get_or-drop (stash_at P.slots) (image P L) i 0) ∙ ap (λ (ws : List ℕ). get_or ws i 0) (image_stash ∙ stash_words_are z)

    pub image_place : (i : ℕ) → i < P.places
        → (get_or (image P L) (place_at P.slots i) 0 ≡ get_or (place_keys P (S P L)) i 0)
        × (get_or (image P L) (suc (place_at P.slots i)) 0 ≡ tier_of L (get_or (place_keys P (S P L)) i 0))
    image_place i l =
        let w = place_words_at (tier_of L) (place_keys P (S P L)) i (omega (arith, place_keys_length P (S P L) e)) in
        let f : suc (place_at P.slots i) ≡ stash_at P.slots + suc (place_width * i) = omega arith in
        (in_places (place_width * i) ∙ w.0, rw f (in_places (suc (place_width * i)) ∙ w.1))

  pub image_length : fits P (S P L) ≡ true → length (image P L) ≡ words_length P.slots P.places
  unfolding image image_by
  image_length e =
      omega (
        arith,
        length-append (slot_words P L 0 (P.slots + P.slots)) (stash_words P L),
        slot_words_length 0 (P.slots + P.slots),
        stash_words_length e,
      )

  -- which is what its header says
  pub image_size : fits P (S P L) ≡ true → length (image P L) ≡ words_length (slots_of (image P L)) (places_of (image P L))
  image_size e = rw (image_slots, image_places) (image_length e)

  -- An image has the shape of a dictionary,
  pub image_shaped : params_in_range P.slots P.places P.station ≡ true → fits P (S P L) ≡ true → shaped (image P L) ≡ true
  image_shaped range e =
      let t = ranged P.slots P.places P.station range in
      shape_true (image P L)
      (record { sizes = rw (image_slots, image_places) t.0; station = rw image_station t.1; size = image_size e })

  -- and it is read with the parameters it was made with.
  pub image_params : params_of P.tabulation (image P L) ≡ P
  unfolding image image_by
  image_params = refl

-- Images of two stations differ: of one set, tabulation, r and s, and of any others.
pub stations_differ : (P P' : Params) (L L' : List Entry) → (P.station ≡ P'.station → ⊥) → image P L ≡ image P' L' → ⊥
stations_differ P P' L L' n e = n (sym (image_station P L) ∙ ap station_of e ∙ image_station P' L')

module _ {P : Params} {L : List Entry} (e : fits P (keys_of L) ≡ true) (z : tier_of L 0 ≡ 0) where
  pub image_laid : Laid P L (image P L)
  image_laid =
      record {
        size = image_length P L e;
        slots = image_slots P L;
        places = image_places P L;
        keys = image_keys P L;
        stashed = image_stashed P L;
        station = image_station P L;
        key = image_key P L;
        next = image_next P L;
        tier = image_tier P L;
        place = λ i l. (image_place P L e z i l).0;
        place_tier = λ i l. (image_place P L e z i l).1;
      }

  -- the image is the only such words
  pub laid_image : {ws : List ℕ} → Laid P L ws → ws ≡ image P L
  laid_image {ws} W =
      ext_get_or 0 ws (image P L) (W.size ∙ sym (image_length P L e)) (λ i l. go i (position P.slots P.places i (omega (arith, W.size))))
    where
      head : (i : ℕ) → i < header_length → get_or ws i 0 ≡ get_or (image P L) i 0
      head zero l = W.slots ∙ sym (image_slots P L)
      head (suc zero) l = W.places ∙ sym (image_places P L)
      head (suc (suc zero)) l = W.keys ∙ sym (image_keys P L)
      head (suc (suc (suc zero))) l = W.stashed ∙ sym (image_stashed P L)
      head (suc (suc (suc (suc zero)))) l = W.station ∙ sym (image_station P L)
      head (suc (suc (suc (suc (suc i))))) l = absurd (omega arith)

      go : (i : ℕ) → Position P.slots P.places i → get_or ws i 0 ≡ get_or (image P L) i 0
      go i (in_header l) = head i l
      go i (at_key v l q) = rw q (W.key v l ∙ sym (image_key P L v l))
      go i (at_next v l q) = rw q (W.next v l ∙ sym (image_next P L v l))
      go i (at_tier v l q) = rw q (W.tier v l ∙ sym (image_tier P L v l))
      go i (at_place j l q) = rw q (W.place j l ∙ sym (image_place P L e z j l).0)
      go i (at_place_tier j l q) = rw q (W.place_tier j l ∙ sym (image_place P L e z j l).1)
