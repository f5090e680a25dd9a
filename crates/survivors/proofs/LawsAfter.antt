-- More laws, which rest on those of Laws.antt.
use Rattle.std.specs.Prelude.{ℕ, ◌≤◌, ◌<◌, ◌≡◌, true, false, cond, ◌&&◌, ◌⊎◌, ◌↔◌, replicate}
use Rattle.std.proofs.Math.Path.{refl, ap}
use Rattle.std.proofs.Common.{sym, ◌∙◌, inl, inr, arith}
use Rattle.std.proofs.Math.Bool.{not}
use mathlib.Core.List.Memᴰ.{head as here}
use mathlib.Core.List.Memᴰ.{tail as there}
use mathlib.Core.List.{List, [], ◌∷◌, Memᴰ as In}
use borrow.Author.Tests.{eqb-true, eq-eqb, ne_eqb, ltb-false, lt-ltb, le-ltb, eqb-false, not-false, not-true}
use Rattle.std.proofs.Math.ListN.{length}
use Rattle.basics.specs.Tests.{test}
use Rattle.basics.proofs.Tests.{and_true}
use Rattle.basics.specs.Sets.{any, keep}
use Rattle.basics.proofs.Sets.{any_true, true_any, any_false, false_any}
use Rattle.basics.proofs.Lists.{keep_none}
use Rattle.refusals.specs.Refusal.{done, wrong_tabulation, wrong_shape, short_scratch, none_counts, first_refusal}
use Rattle.refusals.specs.Refusal.{None, none, and}
use Rattle.refusals.proofs.Refusals.{first_refusal_in, front_applies, front_passes, front_none}
use Rattle.hashing.specs.Hash.{Family, tabulation_length}
use Rattle.layout.specs.Entries.{Entry, tiered}
use Rattle.layout.specs.Layout.{Params, family, params_of, family_of, slots_of, places_of, station_of, words_length}
use Rattle.layout.specs.Layout.{scratch_length, shaped, image, Spot, spots, spot_key}
use Rattle.layout.proofs.Shape.{shape, ranged_true}
use Rattle.layout.specs.Answers.{lookup_values}
use Rattle.outcome.specs.Demands.{Harmless}
use Rattle.outcome.specs.Held.{Holds}
use Rattle.outcome.proofs.Held.{held_some, held_params, held_shaped, held_entry}
use Rattle.survivors.specs.Salvage.{counts, counting, standing, standing_keys, survivors, occupied, lost_in}
use Rattle.survivors.specs.Salvage.{area_refusals, nothing_counts, salvage_refusals, salvage_refusal}
use Rattle.survivors.specs.Salvage.{SalvageOutcome, salvage_outcome}
use Rattle.survivors.proofs.Surviving.{survivors_valid, survivors_fit}
use Rattle.survivors.proofs.Untampered.{image_spot, image_survivors, image_lost}
use Rattle.survivors.specs.Laws.{salvage_answers, Salvable}
use Rattle.survivors.proofs.Laws.{none_salvable, salvable_none, o, salvage_number, salvage_number_in, salvage_done, salvage_told, salvage_refused, salvage_scratch, slots, places, alike_survivors, alike_lost, alike_refusal, given, none_occupied, held_survivors, t, held_salvable, some_counts, us}

-- the parts of the outcome

module _ (tabulation ws target scratch : List ℕ) where
  -- and of the second demand 1 holds.
  pub salvage_harmless :
      Harmless salvage_answers target scratch (record { answer = (o tabulation ws target scratch).number; words = (o tabulation ws target scratch).target; scratch = (o tabulation ws target scratch).scratch })
  salvage_harmless =
      record { numbered = (salvage_number_in tabulation ws target scratch); unchanged = (salvage_refused tabulation ws target scratch); cleared = (salvage_scratch tabulation ws target scratch) }

-- Nor have the words themselves but by their spots, r, s and station: the number of keys, that of stashed ones and the
-- next numbers may be anything.
module _ (tabulation ws vs : List ℕ) (long : length ws ≡ length vs)
    (params : params_of tabulation ws ≡ params_of tabulation vs) (same : spots ws ≡ spots vs) where
  module _ (target scratch : List ℕ) where
    pub salvage_by_spots :
        let o = salvage_outcome tabulation ws target scratch in
        let p = salvage_outcome tabulation vs target scratch in
        (o.number ≡ p.number) × (o.values ≡ p.values) × (o.target ≡ p.target)
    unfolding salvage_outcome
    salvage_by_spots =
        let e = (alike_refusal tabulation ws vs long params same) (length target) (length scratch) in
        (e, rw (e, (alike_lost tabulation ws vs long params same)), rw (e, params, (alike_survivors tabulation ws vs long params same)))

-- the rows

module _ (tabulation ws : List ℕ) (n m : ℕ) where
  pub salvage_passed : Salvable tabulation ws n m → (given tabulation ws n m) ≡ cond (nothing_counts tabulation ws) none_counts done
  unfolding salvage_refusal
  salvage_passed h =
      front_passes (area_refusals tabulation ws n m) ((none_counts, nothing_counts tabulation ws) ∷ [])
      (salvable_none tabulation ws n m h)

  -- 15: "some pocket or drawer place holds a card number other than zero, yet no card counts"
  pub salvage_none : Salvable tabulation ws n m
      → ((given tabulation ws n m) ≡ none_counts)
      ↔ (((x : Spot) × (In x (spots ws) × (spot_key x ≡ 0 → ⊥)))
      × ((x : Spot) → In x (spots ws) → counts (family_of tabulation ws) x ≡ false))
  salvage_none h = (
    λ e. elim (test (nothing_counts tabulation ws)) [
      | inl t ↦
          let p = and_true (any occupied (spots ws)) (not (any (counts (family_of tabulation ws)) (spots ws))) t in
          let r = any_true occupied (spots ws) p.0 in (
            (r.0, (r.1, eqb-false _ _ (not-true _ r.2))),
            any_false (counts (family_of tabulation ws)) (spots ws) (not-true _ p.1),
          )
      | inr t ↦ absurd (let z = sym (rw t at (salvage_passed h)) ∙ e in omega arith)
    ],
    λ p.
        let f : any occupied (spots ws) ≡ true = true_any occupied p.0.1.0 (ap not (ne_eqb _ _ p.0.1.1)) in
        let c : any (counts (family_of tabulation ws)) (spots ws) ≡ false =
        false_any (counts (family_of tabulation ws)) (spots ws) p.1 in
        salvage_passed h ∙ (rw (f, c)),
  )

  -- An answer of 0: none of the refusals applies.
  pub accepted_salvable : (given tabulation ws n m) ≡ done → Salvable tabulation ws n m
  unfolding salvage_refusal
  accepted_salvable e =
      none_salvable tabulation ws n m (front_none (area_refusals tabulation ws n m)
      ((none_counts, nothing_counts tabulation ws) ∷ []) e refl)

-- Accepted, the target holds the survivors, with the same r, s and station: demand 2 of this call.
module _ (tabulation ws target scratch : List ℕ) (e : (salvage_outcome tabulation ws target scratch).number ≡ done) where
  why : Salvable tabulation ws (length target) (length scratch)
  why =
      accepted_salvable tabulation ws (length target) (length scratch)
      (sym (salvage_number tabulation ws target scratch) ∙ e)

  pub salvage_accepted :
      Holds (params_of tabulation ws) (survivors tabulation ws) (salvage_outcome tabulation ws target scratch).target
  salvage_accepted =
      let s = shape ws why.shape in
      record {
        range = ranged_true (slots_of ws) (places_of ws) (station_of ws) s.sizes s.station;
        is = record {
          valid = survivors_valid tabulation ws;
          fit = survivors_fit tabulation ws;
          is = salvage_done tabulation ws target scratch e;
        };
      }

  -- A lookup then finds exactly the survivors, each with its tier.
  pub salvage_lookup : (c t : ℕ)
      → (lookup_values tabulation (salvage_outcome tabulation ws target scratch).target c ≡ 1 ∷ t ∷ [])
      ↔ In (record { key = c; tier = t }) (survivors tabulation ws)
  salvage_lookup = held_entry salvage_accepted why.full_length

-- Words in which no number stands are accepted: the survivors are the empty set, and nothing is lost.
module _ (tabulation ws : List ℕ) (empty : (x : Spot) → In x (spots ws) → spot_key x ≡ 0) where
  pub empty_accepted : (n m : ℕ) → Salvable tabulation ws n m → salvage_refusal tabulation ws n m ≡ done
  empty_accepted n m h = salvage_passed tabulation ws n m h ∙ (rw (false_any occupied (spots ws) (none_occupied tabulation ws empty)))

-- "An untampered list gives itself and 0."
module _ {P : Params} {L : List Entry} {ws : List ℕ} (h : Holds P L ws)
    (full_length : length P.tabulation ≡ tabulation_length) (target scratch : List ℕ)
    (size : length target ≡ length ws) (room : scratch_length P.slots P.places ≤ length scratch) where
  pub untampered_number : (salvage_outcome (t h full_length target scratch size room) ws target scratch).number ≡ done
  untampered_number =
      salvage_number (t h full_length target scratch size room) ws target scratch
      ∙ salvage_passed (t h full_length target scratch size room) ws (length target) (length scratch) (held_salvable h full_length target scratch size room) ∙ (rw (some_counts h full_length target scratch size room))

  pub untampered_target : (salvage_outcome (t h full_length target scratch size room) ws target scratch).target ≡ ws
  untampered_target =
      salvage_done (t h full_length target scratch size room) ws target scratch untampered_number ∙ (rw (held_params h, held_survivors h) (sym h.is.is))

  pub untampered_values : (salvage_outcome (t h full_length target scratch size room) ws target scratch).values ≡ 0 ∷ []
  untampered_values =
      salvage_told (t h full_length target scratch size room) ws target scratch untampered_number
      ∙ ap (λ (n : ℕ). n ∷ []) (ap (lost_in (t h full_length target scratch size room)) h.is.is
      ∙ image_lost P L h.is.fit h.is.valid (held_some h))

-- A list that was salvaged gives itself and 0, whatever it is written to.
module _ (tabulation ws target scratch : List ℕ) (e : (salvage_outcome tabulation ws target scratch).number ≡ done)
    (target' scratch' : List ℕ) (size : length target' ≡ length ws)
    (room : scratch_length (slots_of ws) (places_of ws) ≤ length scratch') where
  again_size : length target' ≡ length (us tabulation ws target scratch e target' scratch' size room)
  again_size =
      let w = why tabulation ws target scratch e in
      let a = (shape ws w.shape).size in
      let H = salvage_accepted tabulation ws target scratch e in
      let b = (shape (us tabulation ws target scratch e target' scratch' size room) (held_shaped H)).size in
      let q : words_length (slots_of (us tabulation ws target scratch e target' scratch' size room)) (places_of (us tabulation ws target scratch e target' scratch' size room)) ≡ words_length (slots_of ws) (places_of ws) =
      ap (λ (P : Params). words_length P.slots P.places) (held_params H) in
      size ∙ a ∙ sym q ∙ sym b

  pub salvaged_again :
      let o = salvage_outcome tabulation (us tabulation ws target scratch e target' scratch' size room) target' scratch' in
      (o.number ≡ done) × (o.target ≡ (us tabulation ws target scratch e target' scratch' size room)) × (o.values ≡ 0 ∷ [])
  salvaged_again =
      let H = salvage_accepted tabulation ws target scratch e in
      let f = (why tabulation ws target scratch e).full_length in (
        untampered_number H f target' scratch' again_size room,
        untampered_target H f target' scratch' again_size room,
        untampered_values H f target' scratch' again_size room,
      )
