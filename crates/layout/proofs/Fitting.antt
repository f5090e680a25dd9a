-- Which sets fit: exactly those that can be placed at all, whatever the rule, with s places aside. So a refusal for a full stash is no fault of
-- the canonical rule; a part of a set that fits, fits; and a set that fits has at most 2r + s keys. Assumes nothing.
use Rattle.std.specs.Prelude.{ℕ, ◌+◌, ◌≤◌, ◌<◌, ◌≡◌, refl, true, false, cond, ◌↔◌, eqb, length}
use Rattle.std.proofs.Common.{sym, ◌∙◌, true≢false, inl, inr, arith, eq-eqb, ne_eqb}
use mathlib.Core.List.Memᴰ.{head as here}
use mathlib.Core.List.Memᴰ.{tail as there}
use mathlib.Core.List.{List, [], ◌∷◌, Memᴰ as In}
use Rattle.basics.specs.Tests.{test}
use Rattle.basics.specs.Sets.{without, Sub, Asc, some}
use Rattle.basics.proofs.Sets.{out_in, asc_out}
use Rattle.refusals.specs.Refusal.{done, stash_full}
use Rattle.cuckoo.specs.Seating.{from_a}
use Rattle.cuckoo.specs.Cycles.{Cycle, keys}
use Rattle.cuckoo.proofs.Cycles.{cycle_of_two}
use Rattle.cuckoo.specs.Placement.{Place, slot, MaySit, table_0, table_1, Placement}
use Rattle.cuckoo.proofs.Placement.{fits_placed, placed_fits, fits_bound, subset_fits}
use Rattle.hashing.specs.Hash.{Family, first_part}
use Rattle.hashing.proofs.Issues.{issues_slots}
use Rattle.hashing.specs.Slots.{slot_0, slot_1}
use Rattle.hashing.proofs.Slots.{slot_0_lt, slot_1_lt, slots_apart}
use Rattle.layout.specs.Layout.{Params, family, ValidKeys, fits}
use Rattle.layout.proofs.Image.{fits_le, le_fits}
use Rattle.layout.proofs.Standing.{zero_outside}

pub without_valid : (c : ℕ) {S : List ℕ} → ValidKeys S → ValidKeys (without c S)
without_valid c {S} valid = record { asc = asc_out c valid.asc; none_blank = λ d i. valid.none_blank d (out_in c S i) }

module _ (P : Params) {S : List ℕ} (valid : ValidKeys S) where
  -- A set fits exactly if its keys can be put, each into one of its two slots or into one of s places, no two together.
  pub fits_placement : (fits P S ≡ true) ↔ Placement (slot_0 (family P)) (slot_1 (family P)) P.places S
  fits_placement = (
    λ e. fits_placed (slot_0 (family P)) (slot_1 (family P)) valid.asc (fits_le P S e),
    λ h. le_fits P S (placed_fits (slot_0 (family P)) (slot_1 (family P)) valid.asc (zero_outside valid) h),
  )

  -- "Full drawer": no placement of the set exists.
  pub full_placement : (fits P S ≡ false) ↔ (Placement (slot_0 (family P)) (slot_1 (family P)) P.places S → ⊥)
  full_placement = (
    λ e h. true≢false (sym (fits_placement.1 h) ∙ e),
    λ n. elim (test (fits P S)) [ inl e ↦ absurd (n (fits_placement.0 e)) | inr e ↦ e ],
  )

  -- So an answer that is 0 where the set fits, and 8 where not, is 8 exactly if no placement exists.
  pub full_answer : {n : ℕ} → n ≡ cond (fits P S) done stash_full
      → (n ≡ stash_full) ↔ (Placement (slot_0 (family P)) (slot_1 (family P)) P.places S → ⊥)
  full_answer e = (
    λ q. full_placement.0 (elim (test (fits P S)) [
      | inl f ↦ absurd (let z = rw f at (sym e ∙ q) in omega arith)
      | inr f ↦ f
    ]),
    λ h. let f = full_placement.1 h in e ∙ (rw f),
  )

  -- A part of a set that fits, fits,
  pub part_fits : {R : List ℕ} → Asc R → Sub R S → fits P S ≡ true → fits P R ≡ true
  part_fits {R} asc sub e =
      le_fits P R (omega (arith, fits_le P S e, subset_fits (slot_0 (family P)) (slot_1 (family P)) asc valid.asc (zero_outside valid) sub))

  -- also the set without a key.
  pub without_fits : (c : ℕ) → fits P S ≡ true → fits P (without c S) ≡ true
  without_fits c e = part_fits (asc_out c valid.asc) (λ d i. out_in c S i) e

-- A set that fits has no more keys than there are slots and places.
pub fits_length : (P : Params) {S : List ℕ} → Asc S → 0 < P.slots → fits P S ≡ true → length S ≤ P.slots + P.slots + P.places
fits_length P {S} asc has_slots e =
    fits_bound (slot_0 (family P)) (slot_1 (family P)) asc (P.slots + P.slots)
    (λ c i. omega (arith, slot_0_lt (family P) has_slots c)) (λ c i. slot_1_lt (family P) has_slots c) (fits_le P S e)

-- and one with more keys does not fit
pub crowded_unfit : (P : Params) {S : List ℕ} → Asc S → 0 < P.slots → P.slots + P.slots + P.places < length S
    → fits P S ≡ false
crowded_unfit P {S} asc has_slots l = elim (test (fits P S)) [
  | inl f ↦ absurd (omega (arith, fits_length P asc has_slots f))
  | inr f ↦ f
]

-- "Two cards with the same two places form a loop of two": so would two issues of one first part.
pub issues_cycle : (P : Params) {S : List ℕ} (c d : ℕ) → In c S → In d S → first_part c ≡ first_part d → (c ≡ d → ⊥)
    → (γ : Cycle (slot_0 (family P)) (slot_1 (family P)) S) × (keys (slot_0 (family P)) (slot_1 (family P)) γ ≡ c ∷ d ∷ [])
issues_cycle P c d i j q n =
    let same = issues_slots (family P) c d q in
    cycle_of_two n i j (from_a refl refl) (from_a same.0 same.1)

-- Two keys always fit, one in table 0 and the other in table 1: two issues of one first part, too, which have the same two slots.
pub pair_fits : (P : Params) (c d : ℕ) → 0 < P.slots → ValidKeys (c ∷ d ∷ []) → fits P (c ∷ d ∷ []) ≡ true
pair_fits P c d has_slots valid = (fits_placement P valid).1 (record { at = at; allowed = allowed; apart = apart })
  where
    F : Family
    F = family P

    at : ℕ → Place
    at x = cond (eqb x c) (slot (slot_0 F c)) (slot (slot_1 F d))

    slot_is : {u v : ℕ} → slot u ≡ slot v → u ≡ v
    slot_is e = cc

    c_d : eqb d c ≡ false
    c_d = ne_eqb d c (λ q. elim valid.asc [ some h k ↦ omega (arith, h d (here refl)) ])

    at_c : at c ≡ slot (slot_0 F c)
    at_c = rw (eq-eqb c c refl)

    at_d : at d ≡ slot (slot_1 F d)
    at_d = rw c_d

    allowed : (x : ℕ) → In x (c ∷ d ∷ []) → MaySit (slot_0 F) (slot_1 F) P.places x (at x)
    allowed x (here q) = rw q (table_0 at_c)
    allowed x (there (here q)) = rw q (table_1 at_d)
    allowed x (there (there x9)) = elim x9 [ ]

    apart : (x y : ℕ) → In x (c ∷ d ∷ []) → In y (c ∷ d ∷ []) → at x ≡ at y → x ≡ y
    apart x y (here p) (here q) e = p ∙ sym q
    apart x y (here p) (there (here q)) e = absurd (slots_apart F has_slots c d (slot_is (sym at_c ∙ (rw (p, q) at e) ∙ at_d)))
    apart x y (there (here p)) (here q) e = absurd (slots_apart F has_slots c d (slot_is (sym at_c ∙ (rw (p, q) at (sym e)) ∙ at_d)))
    apart x y (there (here p)) (there (here q)) e = p ∙ sym q
    apart x y (here p) (there (there x20)) e = elim x20 [ ]
    apart x y (there (here p)) (there (there x25)) e = elim x25 [ ]
    apart x y (there (there x20)) _ e = elim x20 [ ]
