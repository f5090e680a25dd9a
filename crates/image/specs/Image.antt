-- An image in its columns: keys, next numbers and tiers of the slots, keys and tiers of the stash places. Words that have them, and the heading, at every position
-- are fixed; comparing decides whether they have, and writing puts them there. Assumes nothing.
use Rattle.std.specs.Prelude.{ℕ, suc, ◌+◌, ◌*◌, ◌<◌, ◌≡◌, Bool, true, ◌&&◌, List, ◌++◌, eqb, length, get_or, drop}
use Rattle.std.proofs.Common.{sym, ◌∙◌, ap, arith, eqb-true, eq-eqb, length-drop, ext_get_or}
use Rattle.basics.proofs.Tests.{and_true}
use Rattle.basics.proofs.Tests.{bool_ext}
use Rattle.basics.specs.Lists.{same}
use Rattle.basics.proofs.Lists.{same_true, true_same}
use Rattle.cuckoo.specs.Graph.{slot_key, slot_next}
use Rattle.hashing.specs.Slots.{slot_0, slot_1}
use Rattle.layout.specs.Entries.{Entry, keys_of, tier_of}
use Rattle.layout.specs.Layout.{Params, family, header_words, header_length, slot_width, place_width, key_at, tier_at, stash_at, place_at, words_length, slots_of, places_of}
use Rattle.layout.specs.Layout.{key_count, stash_count, station_of, stash_of, fits, image}
use Rattle.layout.specs.Shape.{Shaped}
use Rattle.layout.specs.Image.{Laid, place_keys}
use Rattle.layout.proofs.Image.{image_laid, laid_image}
use Rattle.layout.specs.declared.Header.{Header}
use Rattle.records.specs.Columns.{picked, column_put, picked_length, picked_at, put_length, put_at, put_off}

-- comparing, column by column: slots that begin at `start`, and stash places that do
abbrev pub slots_alike : (ws : List ℕ) (start : ℕ) (held next tiers : List ℕ) → Bool
slots_alike ws start held next tiers =
    same (picked ws start slot_width (length held)) held
    && (same (picked ws (start + 1) slot_width (length next)) next
    && same (picked ws (start + 2) slot_width (length tiers)) tiers)

abbrev pub places_alike : (ws : List ℕ) (start : ℕ) (stash tiers : List ℕ) → Bool
places_alike ws start stash tiers =
    same (picked ws start place_width (length stash)) stash && same (picked ws (start + 1) place_width (length tiers)) tiers

abbrev pub alike : (ws : List ℕ) (keys stashed : ℕ) (held next tiers stash stash_tiers : List ℕ) → Bool
alike ws keys stashed held next tiers stash stash_tiers =
    eqb (key_count ws) keys
    && (eqb (stash_count ws) stashed
    && (slots_alike ws header_length held next tiers && places_alike ws (stash_at (slots_of ws)) stash stash_tiers))

-- writing, column by column
abbrev pub slots_put : (ws : List ℕ) (start : ℕ) (held next tiers : List ℕ) → List ℕ
slots_put ws start held next tiers =
    column_put (column_put (column_put ws start slot_width held) (start + 1) slot_width next) (start + 2) slot_width tiers

abbrev pub places_put : (ws : List ℕ) (start : ℕ) (stash tiers : List ℕ) → List ℕ
places_put ws start stash tiers = column_put (column_put ws start place_width stash) (start + 1) place_width tiers

-- the heading first
abbrev pub image_written : (ws : List ℕ) (h : Header) (held next tiers stash stash_tiers : List ℕ) → List ℕ
image_written ws h held next tiers stash stash_tiers =
    places_put (slots_put (header_words h ++ drop header_length ws) header_length held next tiers) (stash_at h.slots) stash stash_tiers

-- The columns of the image of a set.
pub record ImageColumns (P : Params) (L : List Entry) (held next tiers stash beside : List ℕ) : Type 0 where
  pub held_size : length held ≡ 2 * P.slots
  pub next_size : length next ≡ 2 * P.slots
  pub tiers_size : length tiers ≡ 2 * P.slots
  pub stash_size : length stash ≡ P.places
  pub beside_size : length beside ≡ P.places
  pub held_is : (v : ℕ) → v < P.slots + P.slots → get_or held v 0 ≡ slot_key (slot_0 (family P)) (slot_1 (family P)) (keys_of L) v
  pub next_is : (v : ℕ) → v < P.slots + P.slots → get_or next v 0 ≡ slot_next (slot_0 (family P)) (slot_1 (family P)) (keys_of L) v
  pub tiers_is : (v : ℕ) → v < P.slots + P.slots → get_or tiers v 0 ≡ tier_of L (slot_key (slot_0 (family P)) (slot_1 (family P)) (keys_of L) v)
  pub stash_is : (i : ℕ) → i < P.places → get_or stash i 0 ≡ get_or (place_keys P (keys_of L)) i 0
  pub beside_is : (i : ℕ) → i < P.places → get_or beside i 0 ≡ tier_of L (get_or (place_keys P (keys_of L)) i 0)

-- a column is the same where each of its words is
column_same : (ws : List ℕ) (from step : ℕ) (xs : List ℕ) → ((i : ℕ) → i < length xs → get_or ws (from + step * i) 0 ≡ get_or xs i 0)
    → same (picked ws from step (length xs)) xs ≡ true
column_same ws from step xs h =
    true_same _ _ (ext_get_or 0 _ xs (picked_length ws from step (length xs))
    (λ i l. let m : i < length xs = omega (arith, picked_length ws from step (length xs)) in picked_at ws from step (length xs) i m ∙ h i m))

same_column : (ws : List ℕ) (from step : ℕ) (xs : List ℕ) → same (picked ws from step (length xs)) xs ≡ true
    → (i : ℕ) → i < length xs → get_or ws (from + step * i) 0 ≡ get_or xs i 0
same_column ws from step xs e i l = sym (picked_at ws from step (length xs) i l) ∙ ap (λ (ys : List ℕ). get_or ys i 0) (same_true _ xs e)

module _ {P : Params} {L : List Entry} {held next tiers stash beside : List ℕ} (C : ImageColumns P L held next tiers stash beside)
    (e : fits P (keys_of L) ≡ true) (z : tier_of L 0 ≡ 0) where
  abbrev S : List ℕ
  S = keys_of L

  -- Words with the sizes of P are alike exactly if they are the image.
  module _ {ws : List ℕ} (formed : Shaped ws) (r : slots_of ws ≡ P.slots) (s : places_of ws ≡ P.places) (t : station_of ws ≡ P.station) where
    abbrev compared : Bool
    compared = alike ws (length S) (length (stash_of P S)) held next tiers stash beside

    alike_laid : compared ≡ true → Laid P L ws
    alike_laid h =
        let a = and_true (eqb (key_count ws) (length S)) _ h in
        let b = and_true (eqb (stash_count ws) (length (stash_of P S))) _ a.1 in
        let c = and_true (slots_alike ws header_length held next tiers) (places_alike ws (stash_at (slots_of ws)) stash beside) b.1 in
        let d = and_true (same (picked ws header_length slot_width (length held)) held) _ c.0 in
        let f = and_true (same (picked ws (header_length + 1) slot_width (length next)) next) _ d.1 in
        let g = and_true (same (picked ws (stash_at (slots_of ws)) place_width (length stash)) stash) _ c.1 in
        record {
          size = formed.size ∙ (rw (r, s));
          slots = r;
          places = s;
          keys = eqb-true _ _ a.0;
          stashed = eqb-true _ _ b.0;
          station = t;
          key = λ v l. same_column ws header_length slot_width held d.0 v (omega (arith, C.held_size)) ∙ C.held_is v l;
          next = λ v l.
              let k : suc (key_at v) ≡ header_length + 1 + slot_width * v = omega arith in
              rw k (same_column ws (header_length + 1) slot_width next f.0 v (omega (arith, C.next_size)) ∙ C.next_is v l);
          tier = λ v l.
              let k : tier_at v ≡ header_length + 2 + slot_width * v = omega arith in
              rw k (same_column ws (header_length + 2) slot_width tiers f.1 v (omega (arith, C.tiers_size)) ∙ C.tiers_is v l);
          place = λ i l. rw (← r) (same_column ws (stash_at (slots_of ws)) place_width stash g.0 i (omega (arith, C.stash_size))) ∙ C.stash_is i l;
          place_tier = λ i l.
              let k : suc (place_at (slots_of ws) i) ≡ stash_at (slots_of ws) + 1 + place_width * i = omega arith in
              rw (← r, k) (same_column ws (stash_at (slots_of ws) + 1) place_width beside g.1 i (omega (arith, C.beside_size))) ∙ C.beside_is i l;
        }

    laid_alike : Laid P L ws → compared ≡ true
    laid_alike W =
        rw (
          eq-eqb (key_count ws) (length S) W.keys,
          eq-eqb (stash_count ws) (length (stash_of P S)) W.stashed,
          column_same ws header_length slot_width held (λ v l. W.key v (omega (arith, C.held_size)) ∙ sym (C.held_is v (omega (arith, C.held_size)))),
          column_same ws (header_length + 1) slot_width next (λ v l.
              let k : header_length + 1 + slot_width * v ≡ suc (key_at v) = omega arith in
              rw k (W.next v (omega (arith, C.next_size)) ∙ sym (C.next_is v (omega (arith, C.next_size))))),
          column_same ws (header_length + 2) slot_width tiers (λ v l.
              let k : header_length + 2 + slot_width * v ≡ tier_at v = omega arith in
              rw k (W.tier v (omega (arith, C.tiers_size)) ∙ sym (C.tiers_is v (omega (arith, C.tiers_size))))),
          column_same ws (stash_at (slots_of ws)) place_width stash (λ i l.
              rw r (W.place i (omega (arith, C.stash_size)) ∙ sym (C.stash_is i (omega (arith, C.stash_size))))),
          column_same ws (stash_at (slots_of ws) + 1) place_width beside (λ i l.
              let k : stash_at P.slots + 1 + place_width * i ≡ suc (place_at P.slots i) = omega arith in
              rw (r, k) (W.place_tier i (omega (arith, C.beside_size)) ∙ sym (C.beside_is i (omega (arith, C.beside_size))))),
        )

    pub alike_image : compared ≡ same ws (image P L)
    alike_image =
        bool_ext compared (same ws (image P L))
        (λ h. true_same ws (image P L) (laid_image e z (alike_laid h)))
        (λ h. laid_alike (rw (same_true ws (image P L) h) (image_laid e z)))

  -- And what is written over words of the right length is the image.
  module _ (ws : List ℕ) (some : 0 < P.slots) (size : length ws ≡ words_length P.slots P.places) where
    abbrev header : Header
    header = record { slots = P.slots; places = P.places; keys = length S; stashed = length (stash_of P S); station = P.station }

    abbrev st : ℕ
    st = stash_at P.slots

    abbrev w0 : List ℕ
    w0 = header_words header ++ drop header_length ws

    abbrev w1 : List ℕ
    w1 = column_put w0 header_length slot_width held

    abbrev w2 : List ℕ
    w2 = column_put w1 (header_length + 1) slot_width next

    abbrev w3 : List ℕ
    w3 = column_put w2 (header_length + 2) slot_width tiers

    abbrev w4 : List ℕ
    w4 = column_put w3 st place_width stash

    abbrev w5 : List ℕ
    w5 = column_put w4 (st + 1) place_width beside

    w0_length : length w0 ≡ length ws
    w0_length = omega (arith, length-drop header_length ws)

    w3_length : length w3 ≡ length ws
    w3_length = put_length w2 _ _ tiers ∙ put_length w1 _ _ next ∙ put_length w0 _ _ held ∙ w0_length

    w4_length : length w4 ≡ length ws
    w4_length = put_length w3 _ _ stash ∙ w3_length

    -- the stash is written behind the slots
    before_stash : (k : ℕ) → k < st → get_or w5 k 0 ≡ get_or w3 k 0
    before_stash k l = put_off w4 (st + 1) place_width beside k (λ i m q. omega arith) ∙ put_off w3 st place_width stash k (λ i m q. omega arith)

    heading : (k : ℕ) → k < header_length → get_or w5 k 0 ≡ get_or w0 k 0
    heading k l =
        before_stash k (omega arith)
        ∙ put_off w2 (header_length + 2) slot_width tiers k (λ i m q. omega arith)
        ∙ put_off w1 (header_length + 1) slot_width next k (λ i m q. omega arith)
        ∙ put_off w0 header_length slot_width held k (λ i m q. omega arith)

    written_laid : Laid P L w5
    written_laid = record {
      size = put_length w4 _ _ beside ∙ w4_length ∙ size;
      slots = heading 0 (omega arith);
      places = heading 1 (omega arith);
      keys = heading 2 (omega arith);
      stashed = heading 3 (omega arith);
      station = heading 4 (omega arith);
      key = λ v l.
          before_stash (key_at v) (omega arith)
          ∙ put_off w2 (header_length + 2) slot_width tiers (key_at v) (λ i m q. omega arith)
          ∙ put_off w1 (header_length + 1) slot_width next (key_at v) (λ i m q. omega arith)
          ∙ put_at w0 header_length slot_width held v (omega arith) (omega (arith, C.held_size)) (omega (arith, w0_length))
          ∙ C.held_is v l;
      next = λ v l.
          let k : suc (key_at v) ≡ header_length + 1 + slot_width * v = omega arith in
          rw k (before_stash (header_length + 1 + slot_width * v) (omega arith)
          ∙ put_off w2 (header_length + 2) slot_width tiers (header_length + 1 + slot_width * v) (λ i m q. omega arith)
          ∙ put_at w1 (header_length + 1) slot_width next v (omega arith) (omega (arith, C.next_size)) (omega (arith, put_length w0 header_length slot_width held, w0_length))
          ∙ C.next_is v l);
      tier = λ v l.
          let k : tier_at v ≡ header_length + 2 + slot_width * v = omega arith in
          rw k (before_stash (header_length + 2 + slot_width * v) (omega arith)
          ∙ put_at w2 (header_length + 2) slot_width tiers v (omega arith) (omega (arith, C.tiers_size))
          (omega (arith, put_length w1 (header_length + 1) slot_width next, put_length w0 header_length slot_width held, w0_length))
          ∙ C.tiers_is v l);
      place = λ i l.
          put_off w4 (st + 1) place_width beside (place_at P.slots i) (λ j m q. omega arith)
          ∙ put_at w3 st place_width stash i (omega arith) (omega (arith, C.stash_size)) (omega (arith, w3_length))
          ∙ C.stash_is i l;
      place_tier = λ i l.
          let k : suc (place_at P.slots i) ≡ st + 1 + place_width * i = omega arith in
          rw k (put_at w4 (st + 1) place_width beside i (omega arith) (omega (arith, C.beside_size)) (omega (arith, w4_length)) ∙ C.beside_is i l);
    }

    pub written_image : image_written ws header held next tiers stash beside ≡ image P L
    written_image = laid_image e z written_laid
