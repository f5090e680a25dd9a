-- The laws of what specs/Spots.antt defines.
use Prim.Native.Nat.{ℕ, zero, suc, ◌+◌, ◌*◌, ◌≤◌, ◌<◌}
use Rattle.std.specs.Prelude.{◌≡◌, refl, length, get_or}
use Rattle.std.proofs.Common.{sym, ◌∙◌, ap, length-append}
use Rattle.std.proofs.Math.Logic.{inl, inr}
use mathlib.Core.List.Memᴰ.{head as here}
use mathlib.Core.List.Memᴰ.{tail as there}
use mathlib.Core.List.{List, [], ◌∷◌, Memᴰ as In}
use mathlib.Core.List.Memᴰ
use native.Mathlib.Omega.{arith}
use Rattle.basics.proofs.Tests.{eq?, zero_one}
use Rattle.basics.proofs.Sets.{length_keep}
use Rattle.cuckoo.specs.Placement.{Place, slot, place}
use Rattle.layout.specs.Entries.{Entry, no_entry}
use Rattle.layout.proofs.Entries.{length_keys}
use Rattle.layout.specs.Layout.{family_of, slots_of, places_of, slot_entry, stash_entries, Spot, slot_spots}
use Rattle.layout.specs.Layout.{place_spots, spots}
use Rattle.layout.proofs.Standing.{places_count}
use Rattle.survivors.specs.Salvage.{counts, counting}
use Rattle.survivors.specs.Spots.{slot_spot, place_spot, SpotOf, at_slot, at_place}

-- The laws. Spots of n slots from v on are those of the slots v to v + n - 1,
module _ (ws : List ℕ) where
  pub in_slot_spots : (v n : ℕ) {x : Spot} → In x (slot_spots ws v n)
      → (u : ℕ) × (v ≤ u) × (u < v + n) × (x ≡ slot_spot ws u)
  unfolding slot_spots
  in_slot_spots v zero i = elim i [ ]
  in_slot_spots v (suc n) i = elim i [
    | here q ↦ (v, omega arith, omega arith, q)
    | there j ↦ let r = in_slot_spots (suc v) n j in (r.0, omega (arith, r.1), omega (arith, r.2), r.3)
  ]

  slot_spots_in : (v n u : ℕ) → v ≤ u → u < v + n → In (slot_spot ws u) (slot_spots ws v n)
  unfolding slot_spots
  slot_spots_in v zero u l m = absurd (omega arith)
  slot_spots_in v (suc n) u l m = elim (eq? u v) [
    | inl q ↦ here (ap (slot_spot ws) q)
    | inr d ↦ there (slot_spots_in (suc v) n u (omega arith) (omega arith))
  ]

-- and those of the places with entries L, from i on, have these entries.
pub in_place_spots : (i : ℕ) (L : List Entry) {x : Spot} → In x (place_spots i L)
    → (j : ℕ) × (j < length L) × (x ≡ record { at = place (i + j); entry = get_or L j no_entry })
in_place_spots i (e ∷ L) (here q) = let z : i + 0 ≡ i = omega arith in (0, omega arith, rw z q)
in_place_spots i (e ∷ L) (there k) =
    let r = in_place_spots (suc i) L k in
    let z : i + suc r.0 ≡ suc i + r.0 = omega arith in
    (suc r.0, omega (arith, r.1), rw z r.2)
in_place_spots i [] x3 = elim x3 [ ]

place_spots_in : (i : ℕ) (L : List Entry) (j : ℕ) → j < length L
    → In (record { at = place (i + j); entry = get_or L j no_entry }) (place_spots i L)
place_spots_in i [] j l = absurd (omega arith)
place_spots_in i (e ∷ L) zero l = let z : i + 0 ≡ i = omega arith in rw z (here refl)
place_spots_in i (e ∷ L) (suc j) l =
    let z : i + suc j ≡ suc i + j = omega arith in rw z (there (place_spots_in (suc i) L j (omega arith)))

pub slot_spots_length : (ws : List ℕ) (v n : ℕ) → length (slot_spots ws v n) ≡ n
unfolding slot_spots
slot_spots_length ws v zero = refl
slot_spots_length ws v (suc n) = ap suc (slot_spots_length ws (suc v) n)

place_spots_length : (i : ℕ) (L : List Entry) → length (place_spots i L) ≡ length L
place_spots_length i [] = refl
place_spots_length i (e ∷ L) = ap suc (place_spots_length (suc i) L)

module _ (ws : List ℕ) where
  abbrev table_spots : List Spot
  table_spots = slot_spots ws 0 (slots_of ws + slots_of ws)

  pub stash_length : length (stash_entries ws) ≡ places_of ws
  stash_length = sym (length_keys (stash_entries ws)) ∙ places_count ws

  pub spot_of : {x : Spot} → In x (spots ws) → SpotOf ws x
  spot_of i = elim (Memᴰ.append_cases table_spots i) [
    | inl j ↦ let r = in_slot_spots ws 0 (slots_of ws + slots_of ws) j in at_slot r.0 (omega (arith, r.2)) r.3
    | inr j ↦
        let r = in_place_spots 0 (stash_entries ws) j in
        let z : 0 + r.0 ≡ r.0 = omega arith in
        at_place r.0 (omega (arith, r.1, stash_length)) (rw z at r.2)
  ]

  pub slot_in_spots : (v : ℕ) → v < slots_of ws + slots_of ws → In (slot_spot ws v) (spots ws)
  slot_in_spots v l =
      Memᴰ.append_left (place_spots 0 (stash_entries ws))
      (slot_spots_in ws 0 (slots_of ws + slots_of ws) v (omega arith) (omega arith))

  pub place_in_spots : (i : ℕ) → i < places_of ws → In (place_spot ws i) (spots ws)
  place_in_spots i l =
      let z : 0 + i ≡ i = omega arith in
      Memᴰ.append_right table_spots
      (rw z at (place_spots_in 0 (stash_entries ws) i (omega (arith, stash_length))))

  -- two spots at one place are one
  pub one_spot : {x y : Spot} → In x (spots ws) → In y (spots ws) → x.at ≡ y.at → x ≡ y
  one_spot {x} {y} i j e = go (spot_of i) (spot_of j)
    where
      where_at : Spot → Place
      where_at z = z.at

      slot_is : {u v : ℕ} → slot u ≡ slot v → u ≡ v
      slot_is q = cc

      place_is : {u v : ℕ} → place u ≡ place v → u ≡ v
      place_is q = cc

      not_both : {u v : ℕ} → slot u ≡ place v → ⊥
      not_both q = zero_one (cc)

      go : SpotOf ws x → SpotOf ws y → x ≡ y
      go (at_slot v l p) (at_slot w m q) =
          p ∙ ap (slot_spot ws) (slot_is (sym (ap where_at p) ∙ e ∙ ap where_at q)) ∙ sym q
      go (at_slot v l p) (at_place w m q) = absurd (not_both (sym (ap where_at p) ∙ e ∙ ap where_at q))
      go (at_place v l p) (at_slot w m q) = absurd (not_both (sym (ap where_at q) ∙ sym e ∙ ap where_at p))
      go (at_place v l p) (at_place w m q) =
          p ∙ ap (place_spot ws) (place_is (sym (ap where_at p) ∙ e ∙ ap where_at q)) ∙ sym q

  -- there are 2r + s of them
  pub spots_length : length (spots ws) ≡ slots_of ws + slots_of ws + places_of ws
  spots_length =
      length-append table_spots (place_spots 0 (stash_entries ws))
      ∙ (rw (slot_spots_length ws 0 (slots_of ws + slots_of ws), place_spots_length 0 (stash_entries ws), stash_length))

-- so no more count
pub counting_few : (tabulation ws : List ℕ) → length (counting tabulation ws) ≤ 2 * slots_of ws + places_of ws
unfolding counting
counting_few tabulation ws =
    omega (arith, length_keep (counts (family_of tabulation ws)) (spots ws), spots_length ws)
