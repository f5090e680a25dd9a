-- The laws of what specs/Canonical.antt defines.
use Rattle.std.specs.Prelude.{ℕ, ◌<◌, ◌≤◌, ◌≡◌, refl, true, false, not, ◌↔◌, ltb, length, get_or}
use Rattle.std.proofs.Common.{sym, ◌∙◌, true≢false, inl, inr, arith}
use mathlib.Core.List.{List, Memᴰ as In}
use Rattle.std.proofs.lemmas.Bool.{not-true}
use Rattle.basics.specs.Tests.{test}
use Rattle.basics.proofs.Tests.{and_true, bool_ext}
use Rattle.basics.specs.Sets.{member, any, Asc}
use Rattle.basics.proofs.Sets.{any_false, false_any, in_member}
use Rattle.basics.specs.Lists.{same}
use Rattle.basics.proofs.Lists.{same_true, true_same}
use Rattle.ordered.specs.Keys.{with_key}
use Rattle.ordered.proofs.Place.{asc_with}
use Rattle.hashing.specs.Hash.{blank, Family}
use Rattle.hashing.proofs.Issues.{not_blank_iff}
use Rattle.hashing.specs.Slots.{slot_0}
use Rattle.hashing.proofs.Slots.{slot_0_lt}
use Rattle.probing.specs.Rule.{look, table_keys}
use Rattle.probing.specs.Moves.{add, all_settled}
use Rattle.probing.specs.Unique.{Ordered}
use Rattle.probing.specs.Adding.{Arranged}
use Rattle.probing.specs.Walls.{Barrier}
use Rattle.probing.specs.Image.{KeySet}
use Rattle.probing.proofs.Image.{image_arranged, arranged_image, look_arranged, room, add_arranged, empty_room}
use Rattle.probing.proofs.Canonical.{canonical_image, image_canonical, table_keys_asc, table_keys_length}
use Rattle.probing.proofs.Canonical.{table_keys_contained, arranged_keys}
use Rattle.stolen.specs.Answers.{stolen_image, stolen_canonical}
use Rattle.stolen.specs.Canonical.{StolenImage}

-- a key that is not blank is 10 or more
pub not_blank : (c : ℕ) → blank c ≡ false → 10 ≤ c
not_blank c e = omega (arith, (not_blank_iff c).0 e)

ten_not_blank : (c : ℕ) → 10 ≤ c → blank c ≡ false
ten_not_blank c l = (not_blank_iff c).1 (omega arith)

key_set : {F : Family} {S ws : List ℕ} → StolenImage F S ws → KeySet 10 S
key_set v = record { asc = v.ascending; least = λ c i. not_blank c (v.keys c i) }

module _ (F : Family) (some : 0 < F.slots) (ws : List ℕ) where
  starts : (c : ℕ) → slot_0 F c < F.slots
  starts c = slot_0_lt F some c

  -- an image is an arrangement, in which stands its set
  image_arranged_by : {S : List ℕ} → StolenImage F S ws → Arranged (slot_0 F) F.slots S ws
  image_arranged_by {S} v =
      let k : KeySet 1 S = record { asc = v.ascending; least = λ c i. omega (arith, not_blank c (v.keys c i)) } in
      rw v.is (image_arranged starts k v.fits)

  pub image_length : {S : List ℕ} → StolenImage F S ws → length ws ≡ F.slots
  image_length v = (image_arranged_by v).long

  pub image_keys : {S : List ℕ} → StolenImage F S ws → table_keys ws ≡ S
  image_keys v = arranged_keys v.ascending (image_arranged_by v)

  -- "on a canonical list it is yes exactly for the set"
  pub look_listed : {S : List ℕ} → StolenImage F S ws → (key : ℕ) → blank key ≡ false
      → look (slot_0 F) F.slots ws key ≡ member key S
  look_listed v key b = look_arranged starts (image_arranged_by v) (omega (arith, not_blank key b))

  -- "all pockets filled": as many keys as slots
  pub room_left : {S : List ℕ} → StolenImage F S ws → member 0 ws ≡ ltb (length S) F.slots
  room_left v = empty_room starts v.ascending (image_arranged_by v)

  -- The key is put in by displacement: "the image of the old set with the card".
  pub inserted : {S : List ℕ} → StolenImage F S ws → (key : ℕ) → blank key ≡ false → member key S ≡ false
      → length S < F.slots
      → add (slot_0 F) F.slots ws key ≡ stolen_image F (with_key key S)
  inserted {S} v key b n l =
      let w = image_arranged_by v in
      let e = room w l in
      let out : In key S → ⊥ = λ i. true≢false (sym (in_member i) ∙ n) in
      arranged_image starts (asc_with key v.ascending) (add_arranged starts e.0 w (omega (arith, not_blank key b)) out e.1.0 e.1.1)

  true_canonical : StolenImage F (table_keys ws) ws → stolen_canonical F ws ≡ true
  unfolding stolen_canonical
  true_canonical v =
      rw (false_any blank (table_keys ws) v.keys, true_same ws (stolen_image F (table_keys ws)) v.is)

  pub image_of_canonical : {S : List ℕ} → StolenImage F S ws → (S ≡ table_keys ws) × (stolen_canonical F ws ≡ true)
  image_of_canonical {S} v =
      let e = sym (image_keys v) in
      let w : StolenImage F (table_keys ws) ws = rw e at v in
      (e, true_canonical w)

  module _ (long : length ws ≡ F.slots) where
    pub canonical_true : stolen_canonical F ws ≡ true → StolenImage F (table_keys ws) ws
    unfolding stolen_canonical
    canonical_true e =
        let r = and_true (not (any blank (table_keys ws))) (same ws (stolen_image F (table_keys ws))) e in
        record {
          ascending = table_keys_asc ws;
          keys = any_false blank (table_keys ws) (not-true _ r.0);
          fits = omega (arith, table_keys_length ws);
          is = same_true ws (stolen_image F (table_keys ws)) r.1;
        }

    -- The words pass exactly if they are the image of a set; so 4 is that they are the image of none.
    pub stolen_canonical_iff : (stolen_canonical F ws ≡ true) ↔ ((S : List ℕ) × StolenImage F S ws)
    stolen_canonical_iff = (λ e. (table_keys ws, canonical_true e), λ v. (image_of_canonical v.1).1)

    pub stolen_not_canonical_iff : (stolen_canonical F ws ≡ false) ↔ ((S : List ℕ) → StolenImage F S ws → ⊥)
    stolen_not_canonical_iff = (
      λ e S v. true≢false (sym (image_of_canonical v).1 ∙ e),
      λ n. elim (test (stolen_canonical F ws)) [ inl e ↦ absurd (n (table_keys ws) (canonical_true e)) | inr e ↦ e ],
    )

    -- So they are exactly if no key that stands is blank, and on each one's way to its slot stand smaller keys alone.
    pub stolen_ordered_iff : (stolen_canonical F ws ≡ true)
        ↔ (((p : ℕ) → 0 < get_or ws p 0 → blank (get_or ws p 0) ≡ false) × Ordered (slot_0 F) F.slots ws)
    stolen_ordered_iff =
        let k = table_keys_contained ws in (
          λ e.
              let v = canonical_true e in
              (λ p l. v.keys (get_or ws p 0) (k.only (get_or ws p 0) p l refl), (image_arranged_by v).ordered),
          λ o.
              let w : Arranged (slot_0 F) F.slots (table_keys ws) ws = record { long = long; ordered = o.1; contains = k } in
              true_canonical (record {
                ascending = table_keys_asc ws;
                keys = λ c i. let p = k.all c i in rw p.1 at (o.0 p.0 (rw p.1 (k.keys c i)));
                fits = omega (arith, table_keys_length ws);
                is = arranged_image starts (table_keys_asc ws) w;
              }),
        )

    -- It is decided in one round over the slots, behind a slot that no key passes.
    pub canonical_settled : (b : ℕ) → b < F.slots → Barrier F.slots ws b
        → stolen_canonical F ws ≡ all_settled F.slots ws b (slot_0 F) 10 F.slots 0
    canonical_settled b inside wall =
        bool_ext (stolen_canonical F ws) (all_settled F.slots ws b (slot_0 F) 10 F.slots 0)
        (λ e.
        let v = canonical_true e in
        image_canonical (slot_0 F) F.slots 10 ws b inside wall starts (omega arith) (key_set v) v.fits v.is)
        (λ e.
        let r = canonical_image (slot_0 F) F.slots 10 ws b inside wall starts long e in
        true_canonical (record {
          ascending = r.0.asc;
          keys = λ c i. ten_not_blank c (r.0.least c i);
          fits = r.1.0;
          is = r.1.1;
        }))
