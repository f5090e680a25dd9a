-- Fresh words: the image of the empty set, which fits with every r, s and station; and what the test of sizes and length decides, for the code. Assumes nothing.
use Prim.Native.Nat.{ℕ, zero, suc, ◌+◌, ◌*◌, ◌-◌}
use Rattle.std.proofs.Math.Path.{◌≡◌, refl}
use Rattle.std.proofs.Common.{sym, eqb-true}
use Rattle.std.specs.Prelude.{true, false, ◌&&◌, length, drop, replicate}
use Rattle.std.proofs.Math.Logic.{inl, inr}
use mathlib.Core.List.{List, [], ◌++◌}
use native.Mathlib.Omega.{arith}
use Rattle.std.proofs.Math.Dec.{eqb}
use Rattle.std.proofs.lemmas.List.{replicate-append-replicate}
use Rattle.cuckoo.specs.Graph.{settle, seated, stash, occupant, slot_key, slot_next}
use Rattle.basics.specs.Tests.{test}
use Rattle.basics.proofs.Tests.{and_true}
use Rattle.basics.specs.Sets.{none}
use Rattle.basics.proofs.Lists.{drop_zeros}
use Rattle.refusals.specs.Refusal.{done}
use Rattle.layout.specs.Layout.{Params, ValidSet, slot_width, place_width, header_words, header_length, words_length, params_in_range, fits, slot_words, image, fits_by, image_by, slot_words_by}
use Rattle.layout.specs.Answers.{fresh_refusal, fresh_header, fresh_words}
use Rattle.layout.proofs.Image.{le_fits}

pub empty_valid : ValidSet []
empty_valid = record { keys = record { asc = none; none_blank = λ c i. elim i [ ] }; issues = λ c d i j q. elim i [ ]; tiers = λ e i. elim i [ ] }

module _ (P : Params) where
  pub empty_fits : fits P [] ≡ true
  unfolding fits fits_by stash
  empty_fits = le_fits P [] (omega arith)

  -- no slot holds a key
  empty_slots : (v n : ℕ) → slot_words P [] v n ≡ replicate (slot_width * n) 0
  unfolding slot_words_by slot_key slot_next occupant seated settle
  empty_slots v zero = refl
  empty_slots v (suc n) = let e : slot_width * suc n ≡ suc (suc (suc (slot_width * n))) = omega arith in rw (e, empty_slots (suc v) n)

  -- r, s, no keys, the station number and zeros
  pub empty_image : image P []
      ≡ header_words (fresh_header P.slots P.places P.station) ++ replicate (words_length P.slots P.places - header_length) 0
  unfolding image image_by stash
  empty_image =
      let r = P.slots in
      let s = P.places in
      let e : words_length r s - header_length ≡ slot_width * (r + r) + place_width * (s - 0) = omega arith in
      rw (e, empty_slots 0 (r + r), replicate-append-replicate)

-- the test of a target: r, s and the station are in their ranges, and the words have the length that r and s ask for
pub target_sizes : (len r s station : ℕ) → (params_in_range r s station && eqb len (words_length r s)) ≡ true
    → (params_in_range r s station ≡ true) × (len ≡ words_length r s)
target_sizes len r s station e =
    let p = and_true (params_in_range r s station) (eqb len (words_length r s)) e in
    (p.0, eqb-true len (words_length r s) p.1)

-- an accepted call lays the image of the empty set
module _ (P : Params) (ws : List ℕ) (accepted : fresh_refusal (length ws) P.slots P.places P.station ≡ done) where
  pub fresh_sizes : (params_in_range P.slots P.places P.station ≡ true) × (length ws ≡ words_length P.slots P.places)
  unfolding fresh_refusal
  fresh_sizes = elim (test (params_in_range P.slots P.places P.station && eqb (length ws) (words_length P.slots P.places))) [
    | inl e ↦ target_sizes (length ws) P.slots P.places P.station e
    | inr e ↦ absurd (let z : ◌≡◌ {A = ℕ} 2 0 = rw e at accepted in omega arith)
  ]

  pub fresh_image : fresh_words ws P.slots P.places P.station ≡ image P []
  unfolding fresh_words
  fresh_image = rw (accepted, fresh_sizes.1) (sym (empty_image P))

-- the same by the test that decides, for the code of `fresh`
module _ (ws : List ℕ) (r s station : ℕ) where
  pub fresh_refused : (params_in_range r s station && eqb (length ws) (words_length r s)) ≡ false
      → (2 ≡ fresh_refusal (length ws) r s station) × (ws ≡ fresh_words ws r s station)
  unfolding fresh_refusal fresh_words
  fresh_refused e = (rw e, rw e)

  pub fresh_accepted : (params_in_range r s station && eqb (length ws) (words_length r s)) ≡ true
      → (0 ≡ fresh_refusal (length ws) r s station)
      × (header_words (fresh_header r s station) ++ drop header_length (replicate (length ws) 0) ≡ fresh_words ws r s station)
  unfolding fresh_refusal fresh_words
  fresh_accepted e = (rw e, rw (e, drop_zeros header_length (length ws)))
