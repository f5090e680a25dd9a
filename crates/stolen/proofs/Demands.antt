-- The request's sentences as theorems about what the calls answer and leave: an accepted insert was made on the image
-- of a set, and leaves that of the set with the key; a lookup on an image says yes exactly for its set, and on any
-- words only for a key that stands there; 16 comes exactly where no slot is left. Assumes nothing.
use Rattle.std.specs.Prelude.{ℕ, ◌<◌, ◌≡◌, Bool, true, not, cond, ◌&&◌, ◌↔◌, eqb, ltb, length, get_or, replicate}
use Rattle.std.proofs.Math.Path.{refl}
use Rattle.std.proofs.Common.{sym, ◌∙◌, ap, true≢false, inl, inr, arith, eq-eqb, eqb-true, ltb-true, lt-ltb, le-ltb}
use Rattle.std.proofs.Math.Bool.{false}
use mathlib.Core.List.{List, [], ◌∷◌, Memᴰ as In}
use Rattle.std.proofs.lemmas.Bool.{not-false}
use Rattle.basics.proofs.Tests.{eq?, and_true}
use Rattle.basics.specs.Tests.{test}
use Rattle.basics.specs.Sets.{member, none}
use Rattle.basics.proofs.Sets.{in_member}
use Rattle.ordered.specs.Keys.{with_key}
use Rattle.ordered.proofs.Place.{asc_with, with_cases, length_with}
use Rattle.refusals.specs.Refusal.{done, table_full, None, none, and}
use Rattle.refusals.proofs.Refusals.{front_none, last_turned}
use Rattle.hashing.specs.Hash.{tabulation_length, slots_in_range, station_in_range, blank, Family}
use Rattle.hashing.proofs.Hash.{in_range_pos}
use Rattle.hashing.specs.Slots.{slot_0}
use Rattle.probing.specs.Rule.{table_image, placed, look, table_keys}
use Rattle.probing.proofs.Canonical.{look_stands}
use Rattle.stolen.specs.Answers.{stolen_family, says, stolen_init_refusal, stolen_init_words}
use Rattle.stolen.specs.Answers.{stolen_lookup_refusal, stolen_lookup_refusals, stolen_lookup_values}
use Rattle.stolen.proofs.Answers.{lookup_refused, lookup_accepted}
use Rattle.stolen.specs.Answers.{stolen_insert_refusal, stolen_insert_refusals, stolen_insert_words}
use Rattle.stolen.proofs.Answers.{insert_accepted}
use Rattle.stolen.specs.Answers.{stolen_canonical}
use Rattle.stolen.specs.Canonical.{StolenImage}
use Rattle.stolen.proofs.Canonical.{not_blank, image_length, image_keys, image_of_canonical}
use Rattle.stolen.proofs.Canonical.{canonical_true, look_listed, room_left}

-- zeros are the image of the empty set, under every book and station
pub zeros_image : (F : Family) → StolenImage F [] (replicate F.slots 0)
unfolding table_image placed
zeros_image F = record { ascending = none; keys = λ c i. elim i [ ]; fits = omega arith; is = refl }

-- so an accepted init leaves it, whatever the words were; and a refused one leaves them
pub init_image : (tabulation ws : List ℕ) (station : ℕ) → stolen_init_refusal ws ≡ done
    → StolenImage (stolen_family tabulation ws station) [] (stolen_init_words ws)
unfolding stolen_init_words
init_image tabulation ws station e =
    rw (eq-eqb (stolen_init_refusal ws) done e) (zeros_image (stolen_family tabulation ws station))

module _ (tabulation ws : List ℕ) (station key : ℕ) where
  -- what is known where a call is not refused
  pub lookup_passes : stolen_lookup_refusal tabulation ws station key ≡ done
      → None (stolen_lookup_refusals tabulation ws station key)
  unfolding stolen_lookup_refusal
  lookup_passes e = front_none (stolen_lookup_refusals tabulation ws station key) [] e refl

  pub insert_passes : stolen_insert_refusal tabulation ws station key ≡ done
      → None (stolen_insert_refusals tabulation ws station key)
  unfolding stolen_insert_refusal
  insert_passes e = front_none (stolen_insert_refusals tabulation ws station key) [] e refl

  slots_there : not (slots_in_range (length ws) && station_in_range station) ≡ false → 0 < length ws
  slots_there e =
      in_range_pos (length ws) (and_true (slots_in_range (length ws)) (station_in_range station) (not-false _ e)).0

  -- "on a canonical list it is yes exactly for the set"
  pub stolen_lookup_image : {S : List ℕ} → StolenImage (stolen_family tabulation ws station) S ws
      → stolen_lookup_refusal tabulation ws station key ≡ done
      → stolen_lookup_values tabulation ws station key ≡ says (member key S)
  stolen_lookup_image {S} v e = go (lookup_passes e)
    where
      go : None (stolen_lookup_refusals tabulation ws station key)
          → stolen_lookup_values tabulation ws station key ≡ says (member key S)
      go (and a (and b (and c none))) =
          lookup_accepted tabulation ws station key e
          ∙ ap says (look_listed (stolen_family tabulation ws station) (slots_there b) ws v key c)

  -- On any words, under any book and station, a yes is given for a key alone that stands in the words.
  pub yes_stands : stolen_lookup_values tabulation ws station key ≡ 1 ∷ [] → In key (table_keys ws)
  yes_stands e =
      elim (eq? (stolen_lookup_refusal tabulation ws station key) done) [
        | inl d ↦ go (lookup_passes d) (sym (lookup_accepted tabulation ws station key d) ∙ e)
        | inr n ↦ absurd (nothing (sym (lookup_refused tabulation ws station key n) ∙ e))
      ]
    where
      nothing : ◌≡◌ {A = List ℕ} [] (1 ∷ []) → ⊥
      nothing q = omega (arith, ap length q)

      told : (t : Bool) → says t ≡ 1 ∷ [] → t ≡ true
      told true q = refl
      told false q = absurd (omega (arith, ap (λ (l : List ℕ). get_or l 0 0) q))

      go : None (stolen_lookup_refusals tabulation ws station key)
          → says (look (slot_0 (stolen_family tabulation ws station)) (length ws) ws key) ≡ 1 ∷ []
          → In key (table_keys ws)
      go (and a (and b (and c none))) q =
          look_stands (slot_0 (stolen_family tabulation ws station)) (length ws) ws key (omega arith)
          (omega (arith, not_blank key c)) (told _ q)

  -- An accepted insert was made on the image of the keys that stand in the words,
  pub accepted_image : stolen_insert_refusal tabulation ws station key ≡ done
      → StolenImage (stolen_family tabulation ws station) (table_keys ws) ws
  accepted_image e = go (insert_passes e)
    where
      go : None (stolen_insert_refusals tabulation ws station key)
          → StolenImage (stolen_family tabulation ws station) (table_keys ws) ws
      go (and a (and b (and c (and d (and m (and f none)))))) =
          canonical_true (stolen_family tabulation ws station) (slots_there b) ws refl (not-false _ c)

  -- and "leaves the image of the old set with the card".
  pub stolen_insert_image : stolen_insert_refusal tabulation ws station key ≡ done
      → StolenImage (stolen_family tabulation ws station) (with_key key (table_keys ws))
      (stolen_insert_words tabulation ws station key)
  stolen_insert_image e = go (insert_passes e)
    where
      F : Family
      F = stolen_family tabulation ws station

      go : None (stolen_insert_refusals tabulation ws station key)
          → StolenImage F (with_key key (table_keys ws)) (stolen_insert_words tabulation ws station key)
      go (and a (and b (and c (and d (and m (and f none)))))) =
          let S = table_keys ws in
          let v = accepted_image e in
          let out : In key S → ⊥ = λ i. true≢false (sym (in_member i) ∙ m) in
          let room = ltb-true (length S) (length ws) (sym (room_left F (slots_there b) ws v) ∙ not-false _ f) in
          record {
            ascending = asc_with key v.ascending;
            keys = λ c i. elim (with_cases key S i) [ inl q ↦ rw q d | inr j ↦ v.keys c j ];
            fits = rw (length_with key S v.ascending out) room;
            is = insert_accepted tabulation ws station key e;
          }

  -- A key that is not listed is put in as long as a slot is empty, and refused with 16 exactly when none is left.
  pub insert_room : {S : List ℕ} → StolenImage (stolen_family tabulation ws station) S ws
      → length tabulation ≡ tabulation_length → slots_in_range (length ws) ≡ true → station_in_range station ≡ true
      → blank key ≡ false → member key S ≡ false
      → stolen_insert_refusal tabulation ws station key ≡ cond (ltb (length S) (length ws)) done table_full
  unfolding stolen_insert_refusal
  insert_room {S} v t s u b n =
      let F = stolen_family tabulation ws station in
      let some = in_range_pos (length ws) s in
      let keys : table_keys ws ≡ S = image_keys F some ws v in
      let absent : member key (table_keys ws) ≡ false = rw keys n in
      let canonical = (image_of_canonical F some ws v).1 in
      rw (eq-eqb (length tabulation) tabulation_length t, s, u, canonical, b, absent, room_left F some ws v)
      (last_turned table_full (ltb (length S) (length ws)))
