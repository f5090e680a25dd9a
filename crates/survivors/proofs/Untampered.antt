-- What stands in the image of a set survives: "An untampered list gives itself and 0" rests on this. And one law for
-- damaged words, too: an entry of a set survives where all that counts with its first part is of that set
-- (`member_survives`). Assumes nothing.
use Rattle.std.specs.Prelude.{ℕ, zero, suc, ◌+◌, ◌<◌, ◌≡◌, ◌&&◌, ◌||◌, ◌⊎◌, eqb, get_or}
use Rattle.std.proofs.Math.Path.{refl, sym, ap}
use Rattle.std.proofs.Common.{◌∙◌, arith, eq-eqb, le-leb}
use Rattle.std.proofs.Math.Bool.{true, not, or-true}
use Rattle.std.proofs.Math.Logic.{inl, inr}
use mathlib.Core.List.Memᴰ.{head as here}
use mathlib.Core.List.Memᴰ.{tail as there}
use mathlib.Core.List.{List, [], ◌∷◌, Memᴰ as In}
use Rattle.std.proofs.Math.ListN.{length}
use Rattle.basics.proofs.Tests.{eq?, and_false}
use Rattle.basics.specs.Sets.{keep, Asc}
use Rattle.basics.proofs.Sets.{keep_in, keep_test, in_keep, asc_ext}
use Rattle.basics.proofs.Lists.{keep_none}
use Rattle.cuckoo.specs.Graph.{seated, slot_key}
use Rattle.cuckoo.specs.Placement.{slot}
use Rattle.cuckoo.specs.Seating.{from_a, from_b}
use Rattle.cuckoo.proofs.Seating.{occupant_from}
use Rattle.hashing.specs.Hash.{Family, first_part}
use Rattle.hashing.specs.Slots.{slot_0, slot_1}
use Rattle.hashing.proofs.Slots.{slot_0_lt, slot_1_lt}
use Rattle.layout.specs.Entries.{Entry, keys_of, tier_of}
use Rattle.layout.proofs.Entries.{in_key, key_in, in_tiered, tiered_in}
use Rattle.layout.proofs.Entries.{tiered_agree, tiered_self}
use Rattle.layout.specs.Entries.{no_entry}
use Rattle.layout.specs.Layout.{Params, ValidSet, family, family_of, fits, image, image_by}
use Rattle.layout.specs.Layout.{slot_entry, stash_entries, Spot, spots, spot_key, looked_at}
use Rattle.layout.proofs.Image.{image_slots, image_key}
use Rattle.layout.specs.Standing.{at_slot}
use Rattle.layout.proofs.Standing.{stash_key_in, not_blank, image_key_in, slot_tier, place_tier}
use Rattle.layout.proofs.Standing.{image_in_looked}
use Rattle.survivors.specs.Salvage.{own_place, counts, counting, occupied, standing, survivors, lost_in}
use Rattle.survivors.specs.Spots.{slot_spot, place_spot, SpotOf}
use Rattle.survivors.proofs.Spots.{spot_of, slot_in_spots, place_in_spots}
use Rattle.survivors.proofs.Spots.{stash_length}
use Rattle.survivors.specs.Spots as Spots
use Rattle.survivors.proofs.Surviving.{counts_sound, standing_in, in_stands, survivor_entry, found_spot}
use Rattle.survivors.proofs.Surviving.{found_counts, entry_survives, survivors_valid}

-- Entries of a set: one of each key, with the tier that the set gives it.
module _ {L : List Entry} (asc : Asc (keys_of L)) where
  pub entry_tier : {e : Entry} → In e L → e.tier ≡ tier_of L e.key
  entry_tier {e} i = tiered_in (tier_of L) (keys_of L) (rw (tiered_self L asc) i)

  pub entry_in : (c : ℕ) → In c (keys_of L) → In (record { key = c; tier = tier_of L c }) L
  entry_in c i = rw (tiered_self L asc) at (in_tiered (tier_of L) (keys_of L) i)

  pub one_entry : {e f : Entry} → In e L → In f L → e.key ≡ f.key → e ≡ f
  one_entry {e} {f} i j q =
      ap (λ (k : ℕ). record { key = k; tier = e.tier }) q
      ∙ ap (λ (t : ℕ). record { key = f.key; tier = t }) (entry_tier i ∙ ap (tier_of L) q ∙ sym (entry_tier j))

-- two sets with the same entries are equal
pub set_ext : (L M : List Entry) → Asc (keys_of L) → Asc (keys_of M) → ((e : Entry) → In e L → In e M)
    → ((e : Entry) → In e M → In e L) → L ≡ M
set_ext L M a b f g =
    let k : keys_of L ≡ keys_of M =
    asc_ext (keys_of L) (keys_of M) a b
    (λ c i. let r = in_key L i in rw r.2 at (key_in M (f r.0 r.1)))
    (λ c i. let r = in_key M i in rw r.2 at (key_in L (g r.0 r.1))) in
    sym (tiered_self L a)
    ∙ tiered_agree (keys_of L) (λ c i. entry_tier b (f (record { key = c; tier = tier_of L c }) (entry_in a c i)))
    ∙ (rw k (tiered_self M b))

-- In any words: an entry of a set survives, if it counts somewhere, and all that counts with its first part is of the
-- set.
module _ (tabulation ws : List ℕ) {L : List Entry} (valid : ValidSet L) where
  pub member_survives : (x : Spot) → In x (spots ws) → counts (family_of tabulation ws) x ≡ true → In x.entry L
      → ((y : Spot) → In y (spots ws) → counts (family_of tabulation ws) y ≡ true
      → first_part (spot_key y) ≡ first_part (spot_key x) → In y.entry L)
      → In x.entry (survivors tabulation ws)
  unfolding counting
  member_survives x i t j all =
      let F = family_of tabulation ws in
      let X = counting tabulation ws in
      let c = spot_key x in
      let y = standing X c in
      let r = standing_in X c {x = x} (in_keep (counts F) (spots ws) t i) refl in
      let s = kept y r.0 in
      let k = all y s.0 s.1 r.1 in
      let q : spot_key y ≡ c = valid.issues (spot_key y) c (key_in L k) (key_in L j) r.1 in
      let e : y.entry ≡ x.entry = one_entry valid.keys.asc k j q in
      rw e at (entry_survives tabulation ws c (in_stands X c q r.0))
    where
      kept : (y : Spot) → In y (keep (counts (family_of tabulation ws)) (spots ws))
          → In y (spots ws) × (counts (family_of tabulation ws) y ≡ true)
      kept y i = (
        keep_in (counts (family_of tabulation ws)) (spots ws) i,
        keep_test (counts (family_of tabulation ws))
            (spots ws) i,
      )

entry_at : (L : List Entry) {e : Entry} → In e L → (i : ℕ) × (i < length L) × (get_or L i no_entry ≡ e)
entry_at (f ∷ L) (here q) = (0, omega arith, sym q)
entry_at (f ∷ L) (there i) = let r = entry_at L i in (suc r.0, omega (arith, r.1), r.2)
entry_at [] {e = e} x' = elim x' [ ]

at_entry : (L : List Entry) (i : ℕ) → i < length L → In (get_or L i no_entry) L
at_entry [] i l = absurd (omega arith)
at_entry (e ∷ L) zero l = here refl
at_entry (e ∷ L) (suc i) l = there (at_entry L i (omega arith))

either : (v a b : ℕ) → (v ≡ a) ⊎ (v ≡ b) → (eqb v a || eqb v b) ≡ true
either v a b (inl q) = rw (eq-eqb v a q)
either v a b (inr q) = rw (eq-eqb v b q) (or-true (eqb v a))

-- The image of a set.
module _ (P : Params) (L : List Entry) (fit : fits P (keys_of L) ≡ true) (valid : ValidSet L)
    (some : 0 < P.slots) where
  abbrev ws : List ℕ
  ws = image P L

  abbrev S : List ℕ
  S = keys_of L

  abbrev F : Family
  F = family P

  -- a key that stands there with the tier of the set, in a place of its own, is an entry of the set, and counts
  standing_entry : (x : Spot) → In (spot_key x) S → x.entry.tier ≡ tier_of L (spot_key x)
      → own_place F x.at (spot_key x) ≡ true → (counts F x ≡ true) × In x.entry L
  standing_entry x i t o =
      let e : x.entry ≡ record { key = spot_key x; tier = tier_of L (spot_key x) } =
      ap (λ (t : ℕ). record { key = spot_key x; tier = t }) t in
      let j : In x.entry L = rw e (entry_in valid.keys.asc (spot_key x) i) in
      (rw (valid.keys.none_blank (spot_key x) i, le-leb _ _ (valid.tiers x.entry j), o), j)

  own_slot : (v : ℕ) → v < P.slots + P.slots → ((slot_entry ws v).key ≡ 0)
      ⊎ (own_place F (slot v) (slot_entry ws v).key ≡ true)
  unfolding slot_key
  own_slot v l =
      let e = image_key P L v l in
      elim (occupant_from (slot_0 F) (slot_1 F) (seated (slot_0 F) (slot_1 F) S) v) [
        | inl z ↦ inl (e ∙ z)
        | inr h ↦ inr (rw e (elim h.1.1 [
          | from_a q k ↦ either v _ _ (inl q)
          | from_b q k ↦ either v _ _ (inr q)
        ]))
      ]

  -- Every number other than 0 counts, and is an entry of the set,
  pub image_spot : (x : Spot) → In x (spots ws) → (spot_key x ≡ 0) ⊎ ((counts F x ≡ true) × In x.entry L)
  image_spot x i = go (spot_of ws i)
    where
      go : SpotOf ws x → (spot_key x ≡ 0) ⊎ ((counts F x ≡ true) × In x.entry L)
      go (Spots.at_slot v l q) =
          let m : v < P.slots + P.slots = rw (image_slots P L) at l in
          rw q (elim (eq? (slot_entry ws v).key 0) [
            | inl z ↦ inl z
            | inr n ↦ elim (own_slot v m) [
              | inl z ↦ inl z
              | inr o ↦ inr (standing_entry (slot_spot ws v)
                  (image_key_in P L fit valid.keys (at_slot v l refl) n)
                  (slot_tier P L fit valid.keys v m) o)
            ]
          ])
      go (Spots.at_place j l q) =
          let k = at_entry (stash_entries ws) j (omega (arith, stash_length ws)) in
          rw q (elim (eq? (get_or (stash_entries ws) j no_entry).key 0) [
            | inl z ↦ inl z
            | inr n ↦ inr (standing_entry (place_spot ws j)
                (image_key_in P L fit valid.keys (stash_key_in ws (key_in (stash_entries ws) k)) n)
                (place_tier P L fit valid.keys (get_or (stash_entries ws) j no_entry) k) refl)
          ])

  -- and every entry of the set stands in a spot.
  key_spot : (c : ℕ) → In c S → (x : Spot) × In x (spots ws) × (spot_key x ≡ c)
  unfolding image image_by
  key_spot c i =
      let r = in_key (looked_at P.tabulation ws c) (image_in_looked P L fit valid.keys some i) in
      elim r.1 [
        | here q ↦ (
          slot_spot ws (slot_0 F c),
          slot_in_spots ws (slot_0 F c) (omega (arith, slot_0_lt F some c)),
          sym (ap (λ (e : Entry). e.key) q) ∙ r.2,
        )
        | there (here q) ↦ (
          slot_spot ws (slot_1 F c),
          slot_in_spots ws (slot_1 F c) (slot_1_lt F some c),
          sym (ap (λ (e : Entry). e.key) q) ∙ r.2,
        )
        | there (there k) ↦
            let w = entry_at (stash_entries ws) k in (
              place_spot ws w.0,
              place_in_spots ws w.0
                  (omega (arith, w.1, stash_length ws)),
              ap (λ (e : Entry). e.key) w.2 ∙ r.2,
            )
      ]

  pub entry_spot : {e : Entry} → In e L → (x : Spot) × In x (spots ws) × (x.entry ≡ e) × (counts F x ≡ true)
  entry_spot {e} i =
      let r = key_spot e.key (key_in L i) in
      elim (image_spot r.0 r.1) [
        | inl z ↦ absurd (not_blank e.key (valid.keys.none_blank e.key (key_in L i)) (sym r.2 ∙ z))
        | inr h ↦ (r.0, r.1, one_entry valid.keys.asc h.1 i r.2, h.0)
      ]

  -- "An untampered list gives itself": its set survives,
  pub image_survivors : survivors P.tabulation ws ≡ L
  unfolding image image_by
  image_survivors =
      let t = P.tabulation in
      set_ext (survivors t ws) L (survivors_valid t ws).keys.asc valid.keys.asc
      (λ e i.
      let r = survivor_entry t ws i in
      rw r.1 at (counted_entry (standing (counting t ws) e.key) (found_spot t ws r.0)
      (found_counts t ws r.0)))
      (λ e i.
      let r = entry_spot i in
      rw r.2 at (member_survives t ws valid r.0 r.1 r.3 (rw r.2 i) (λ y j u q. counted_entry y j u)))
    where
      counted_entry : (y : Spot) → In y (spots (image P L)) → counts (family P) y ≡ true → In y.entry L
      counted_entry y j u = elim (image_spot y j) [
        | inl z ↦ absurd (not_blank (spot_key y) (counts_sound (family P) y u).not_blank z)
        | inr h ↦ h.1
      ]

  -- "and 0": none is lost.
  pub image_lost : lost_in P.tabulation ws ≡ 0
  unfolding lost_in image image_by
  image_lost =
      ap length (keep_none (λ x. occupied x && not (counts F x)) (spots ws) (λ x i. elim (image_spot x i) [
        | inl z ↦ rw (eq-eqb _ _ z)
        | inr h ↦ and_false (occupied x) (not (counts F x)) (ap not h.0)
      ]))
