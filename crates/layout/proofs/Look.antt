-- Lookup and the stash view on the image of a set: a lookup finds exactly the keys of the set, with their tiers, and the view is the set's stash. Neither
-- is ever refused there but for a blank key. Assumes nothing.
use Rattle.std.specs.Prelude.{ℕ, zero, suc, ◌+◌, ◌*◌, ◌<◌, ◌≡◌, Bool, true, false, ◌↔◌, get_or, drop}
use Rattle.std.proofs.Common.{sym, ◌∙◌, arith, take_at, get_or-drop, drop-drop}
use Rattle.std.proofs.Math.Path.{ap}
use Rattle.std.proofs.Math.Bool.{cond}
use Rattle.std.proofs.Math.Logic.{inl, inr}
use mathlib.Core.List.{List, [], ◌∷◌, Memᴰ as In}
use borrow.Author.Tests.{eq-eqb, ne_eqb, le-ltb}
use Rattle.std.proofs.Math.ListN.{length, take}
use Rattle.basics.specs.Tests.{test}
use Rattle.basics.proofs.Tests.{bool_ext, zero_one}
use Rattle.basics.specs.Sets.{Asc, member}
use Rattle.basics.proofs.Sets.{member_in, in_member, no_member}
use Rattle.refusals.specs.Refusal.{done, blank_key}
use Rattle.hashing.specs.Hash.{Family, tabulation_length, blank}
use Rattle.hashing.specs.Slots.{slot_0, slot_1}
use Rattle.layout.specs.Entries.{Entry, keys_of, tier_of, tiered}
use Rattle.layout.proofs.Entries.{key_in, tiered_self, tiered_in, in_tiered}
use Rattle.layout.specs.Layout.{Params, ValidSet, slots_of, places_of, key_at, tier_at, place_at, place_entries, params_in_range, family_of, stash_of, fits, image, place_width, place_words, stash_at, stash_count, looked_at, tier_in}
use Rattle.layout.specs.Answers.{lookup_refusal, lookup_values, looked_up, view_refusal, view_of}
use Rattle.layout.proofs.Shape.{ranged}
use Rattle.layout.proofs.Image.{fits_le, image_slots, image_places, image_stashed, image_stash, image_shaped, place_words_length}
use Rattle.layout.proofs.Standing.{not_blank, looked_key_word, image_key_in, image_in_looked, tier_in_image}

-- of n places that begin at word `at`, the first that holds the key counts
first_place : (n : ℕ) (ws : List ℕ) (at key i : ℕ) → i < n → get_or ws (at + place_width * i) 0 ≡ key
    → ((j : ℕ) → j < i → get_or ws (at + place_width * j) 0 ≡ key → ⊥)
    → looked_up (place_entries n (drop at ws)) key ≡ 1 ∷ get_or ws (at + place_width * i + 1) 0 ∷ []
unfolding place_entries
first_place zero ws at key i l q none = absurd (omega arith)
first_place (suc n) ws at key zero l q none =
    let e : at + place_width * 0 ≡ at + 0 = omega arith in
    let f : at + place_width * 0 + 1 ≡ at + 1 = omega arith in
    rw (f, get_or-drop at ws 0 0, get_or-drop at ws 1 0, eq-eqb key (get_or ws (at + 0) 0) (sym (rw e at q)))
first_place (suc n) ws at key (suc i) l q none =
    let e : (k : ℕ) → at + place_width * suc k ≡ at + place_width + place_width * k = λ k. omega arith in
    let z : at + place_width * 0 ≡ at + 0 = omega arith in
    let other : get_or ws (at + 0) 0 ≡ key → ⊥ = rw z at (none 0 (omega arith)) in
    rw (get_or-drop at ws 0 0, get_or-drop at ws 1 0, ne_eqb key (get_or ws (at + 0) 0) (λ y. other (sym y)), drop-drop place_width at ws, e i)
    (first_place n ws (at + place_width) key i (omega arith) (rw (e i) at q) (λ j m. rw (e j) at (none (suc j) (omega arith))))

-- What is looked up among the entries of a set: the tier of exactly its keys, and of the others that they are not listed.
pub looked_entry : (L : List Entry) → Asc (keys_of L) → (c t : ℕ) → (looked_up L c ≡ 1 ∷ t ∷ []) ↔ In (record { key = c; tier = t }) L
looked_entry L asc c t = (
  λ v. elim (test (member c (keys_of L))) [
    | inl m ↦
        let q : tier_of L c ≡ t = cc (rw m at v) in
        rw (q, tiered_self L asc) at (in_tiered (tier_of L) (keys_of L) (member_in c (keys_of L) m))
    | inr m ↦ absurd (zero_one (cc (rw m at v)))
  ],
  λ i.
      let k : In (record { key = c; tier = t }) (tiered (tier_of L) (keys_of L)) = rw (tiered_self L asc) i in
      let q : t ≡ tier_of L c = tiered_in (tier_of L) (keys_of L) k in
      rw (in_member (key_in L i), q),
)

pub looked_none : (L : List Entry) (c : ℕ) → (looked_up L c ≡ 0 ∷ []) ↔ (In c (keys_of L) → ⊥)
looked_none L c = (λ v i. zero_one (cc (rw (in_member i) at v)), λ n. rw (no_member c (keys_of L) n))

-- "should a tampered list show the card more than once, the first in word order counts": on any words, canonical or not, the tier word of its slot in table 0,
module _ (tabulation ws : List ℕ) (key : ℕ) where
  abbrev F : Family
  F = family_of tabulation ws

  pub first_in_table_0 : get_or ws (key_at (slot_0 F key)) 0 ≡ key
      → looked_up (looked_at tabulation ws key) key ≡ 1 ∷ get_or ws (tier_at (slot_0 F key)) 0 ∷ []
  first_in_table_0 q = rw (eq-eqb key (get_or ws (key_at (slot_0 F key)) 0) (sym q))

  module _ (n : get_or ws (key_at (slot_0 F key)) 0 ≡ key → ⊥) where
    -- where the key does not stand there, that of its slot in table 1,
    pub first_in_table_1 : get_or ws (key_at (slot_1 F key)) 0 ≡ key
        → looked_up (looked_at tabulation ws key) key ≡ 1 ∷ get_or ws (tier_at (slot_1 F key)) 0 ∷ []
    first_in_table_1 q =
        rw (ne_eqb key (get_or ws (key_at (slot_0 F key)) 0) (λ z. n (sym z)), eq-eqb key (get_or ws (key_at (slot_1 F key)) 0) (sym q))

    -- and else that of the first place of the stash in which it stands.
    pub first_in_stash : (get_or ws (key_at (slot_1 F key)) 0 ≡ key → ⊥) → (i : ℕ) → i < places_of ws
        → get_or ws (place_at (slots_of ws) i) 0 ≡ key → ((j : ℕ) → j < i → get_or ws (place_at (slots_of ws) j) 0 ≡ key → ⊥)
        → looked_up (looked_at tabulation ws key) key ≡ 1 ∷ get_or ws (place_at (slots_of ws) i + 1) 0 ∷ []
    first_in_stash m i l q none =
        rw (ne_eqb key (get_or ws (key_at (slot_0 F key)) 0) (λ z. n (sym z)), ne_eqb key (get_or ws (key_at (slot_1 F key)) 0) (λ z. m (sym z)))
        (first_place (places_of ws) ws (stash_at (slots_of ws)) key i l q none)

module _ (P : Params) (L : List Entry) (e : fits P (keys_of L) ≡ true) where
  -- On the image of a set exactly the keys of the set are found, with their tiers.
  pub image_found : ValidSet L → 0 < P.slots → (key : ℕ) → blank key ≡ false
      → looked_up (looked_at P.tabulation (image P L) key) key ≡ looked_up L key
  unfolding tier_in
  image_found valid some key b =
      let ws = image P L in
      let t = P.tabulation in
      let same_keys : member key (keys_of (looked_at t ws key)) ≡ member key (keys_of L) =
      bool_ext (member key (keys_of (looked_at t ws key))) (member key (keys_of L))
      (λ q. in_member (image_key_in P L e valid.keys (looked_key_word t ws (rw (image_slots P L) some) key (member_in key _ q)) (not_blank key b)))
      (λ q. in_member (image_in_looked P L e valid.keys some (member_in key (keys_of L) q))) in
      elim (test (member key (keys_of L))) [
        | inl m ↦ rw (same_keys, m, tier_in_image P L e valid.keys some (member_in key (keys_of L) m))
        | inr m ↦ rw (same_keys, m)
      ]

  -- What a call of lookup answers on the image of a set: 5 for a blank key, and else 0, with 1 and the tier of a key of the set, and with 0 of another.
  module _ (full_length : length P.tabulation ≡ tabulation_length) (range : params_in_range P.slots P.places P.station ≡ true) (key : ℕ) where
    image_lookup_refusal : lookup_refusal P.tabulation (image P L) key ≡ cond (blank key) blank_key done
    unfolding lookup_refusal
    image_lookup_refusal = rw (eq-eqb (length P.tabulation) tabulation_length full_length, image_shaped P L range e)

    pub image_lookup_values : ValidSet L → lookup_values P.tabulation (image P L) key ≡ cond (blank key) [] (looked_up L key)
    unfolding lookup_values
    image_lookup_values valid = elim (test (blank key)) [
      | inl b ↦ rw (image_lookup_refusal, b)
      | inr b ↦ rw (image_lookup_refusal, b, image_found valid (ranged P.slots P.places P.station range).0.has_slots key b)
    ]

  -- The stash view is never refused on the image of a set, and is the set's stash, each key with its tier.
  module _ (range : params_in_range P.slots P.places P.station ≡ true) where
    abbrev S : List ℕ
    S = keys_of L

    pub image_view_refusal : view_refusal (image P L) ≡ done
    unfolding view_refusal
    image_view_refusal =
        rw (
          image_shaped P L range e,
          image_places P L,
          image_stashed P L,
          le-ltb P.places (length (stash_of P S)) (fits_le P S e),
        )

    pub image_view : view_of (image P L) ≡ place_words (tier_of L) (stash_of P S)
    unfolding view_of
    image_view =
        let ws = image P L in
        let e : view_of ws ≡ take (place_width * stash_count ws) (drop (stash_at (slots_of ws)) ws) =
        ap (λ (t : Bool). cond t (take (place_width * stash_count ws) (drop (stash_at (slots_of ws)) ws)) []) (eq-eqb (view_refusal ws) done image_view_refusal) in
        e
        ∙ (rw (image_slots P L, image_stashed P L, image_stash P L)
        (take_at (place_words (tier_of L) (stash_of P S)) _ (place_width * length (stash_of P S)) (place_words_length (tier_of L) (stash_of P S))))
