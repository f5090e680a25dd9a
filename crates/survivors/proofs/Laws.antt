-- The laws of what specs/Laws.antt defines.
use Rattle.std.specs.Prelude.{ℕ, ◌≤◌, ◌<◌, ◌≡◌, true, false, cond, ◌&&◌, ◌⊎◌, ◌↔◌, replicate}
use Rattle.std.proofs.Math.Path.{refl, ap}
use Rattle.std.proofs.Common.{sym, ◌∙◌, inl, inr, arith}
use Rattle.std.proofs.Math.Bool.{not}
use mathlib.Core.List.Memᴰ.{head as here}
use mathlib.Core.List.Memᴰ.{tail as there}
use mathlib.Core.List.{List, [], ◌∷◌, Memᴰ as In}
use borrow.Author.Tests.{eqb-true, eq-eqb, ne_eqb, ltb-false, lt-ltb, le-ltb, eqb-false, not-false, not-true}
use Rattle.std.proofs.Math.ListN.{length}
use Rattle.basics.specs.Tests.{test}
use Rattle.basics.proofs.Tests.{and_true}
use Rattle.basics.specs.Sets.{any, keep}
use Rattle.basics.proofs.Sets.{any_true, true_any, any_false, false_any}
use Rattle.basics.proofs.Lists.{keep_none}
use Rattle.refusals.specs.Refusal.{done, wrong_tabulation, wrong_shape, short_scratch, none_counts, first_refusal}
use Rattle.refusals.specs.Refusal.{None, none, and}
use Rattle.refusals.proofs.Refusals.{first_refusal_in, front_applies, front_passes, front_none}
use Rattle.hashing.specs.Hash.{Family, tabulation_length}
use Rattle.layout.specs.Entries.{Entry, tiered}
use Rattle.layout.specs.Layout.{Params, family, params_of, family_of, slots_of, places_of, station_of, words_length}
use Rattle.layout.specs.Layout.{scratch_length, shaped, image, Spot, spots, spot_key}
use Rattle.layout.proofs.Shape.{shape, ranged_true}
use Rattle.layout.specs.Answers.{lookup_values}
use Rattle.outcome.specs.Demands.{Harmless}
use Rattle.outcome.specs.Held.{Holds}
use Rattle.outcome.proofs.Held.{held_some, held_params, held_shaped, held_entry}
use Rattle.survivors.specs.Salvage.{counts, counting, standing, standing_keys, survivors, occupied, lost_in}
use Rattle.survivors.specs.Salvage.{area_refusals, nothing_counts, salvage_refusals, salvage_refusal}
use Rattle.survivors.specs.Salvage.{SalvageOutcome, salvage_outcome}
use Rattle.survivors.proofs.Surviving.{survivors_valid, survivors_fit}
use Rattle.survivors.proofs.Untampered.{image_spot, image_survivors, image_lost}
use Rattle.survivors.specs.Laws.{salvage_answers, Salvable}

-- The laws.

module _ (tabulation ws : List ℕ) (n m : ℕ) where
  pub none_salvable : None (area_refusals tabulation ws n m) → Salvable tabulation ws n m
  none_salvable (and a (and b (and c (and d none)))) = record {
    full_length = eqb-true _ _ (not-false _ a);
    shape = not-false _ b;
    size = eqb-true _ _ (not-false _ c);
    room = ltb-false _ _ d;
  }

  pub salvable_none : Salvable tabulation ws n m → None (area_refusals tabulation ws n m)
  salvable_none h =
      and (ap not (eq-eqb _ _ h.full_length)) (and (ap not h.shape)
      (and (ap not (eq-eqb _ _ h.size)) (and (le-ltb _ _ h.room) none)))

-- the parts of the outcome

module _ (tabulation ws target scratch : List ℕ) where
  abbrev pub o : SalvageOutcome
  o = salvage_outcome tabulation ws target scratch

  abbrev refusal : ℕ
  refusal = salvage_refusal tabulation ws (length target) (length scratch)

  pub salvage_number : o.number ≡ refusal
  unfolding salvage_outcome
  salvage_number = refl

  pub salvage_number_in : In o.number salvage_answers
  unfolding salvage_outcome salvage_refusal
  salvage_number_in = elim (first_refusal_in (salvage_refusals tabulation ws (length target) (length scratch))) [
    | here q ↦ here q
    | there (here q) ↦ there (here q)
    | there (there (here q)) ↦ there (there (here q))
    | there (there (there (here q))) ↦ there (there (here q))
    | there (there (there (there i))) ↦ there (there (there i))
  ]

  -- accepted: their canonical list, and how many are lost,
  pub salvage_done : o.number ≡ done → o.target ≡ image (params_of tabulation ws) (survivors tabulation ws)
  unfolding salvage_outcome
  salvage_done e = rw (eq-eqb refusal done e)

  pub salvage_told : o.number ≡ done → o.values ≡ lost_in tabulation ws ∷ []
  unfolding salvage_outcome
  salvage_told e = rw (eq-eqb refusal done e)

  -- "every refusal leaves the second area unchanged", and tells nothing.
  pub salvage_refused : (o.number ≡ done → ⊥) → o.target ≡ target
  unfolding salvage_outcome
  salvage_refused n = rw (ne_eqb refusal done n)

  pub salvage_untold : (o.number ≡ done → ⊥) → o.values ≡ []
  unfolding salvage_outcome
  salvage_untold n = rw (ne_eqb refusal done n)

  pub salvage_scratch : o.scratch ≡ replicate (length scratch) 0
  unfolding salvage_outcome
  salvage_scratch = refl

  -- The first area is never changed,
  pub salvage_words : o.words ≡ ws
  unfolding salvage_outcome
  salvage_words = refl

  -- What target and scratch held has no say, only their lengths.
  module _ (us sheet : List ℕ) (same : length target ≡ length us) (room : length scratch ≡ length sheet) where
    pub salvage_any_number : (salvage_outcome tabulation ws us sheet).number ≡ o.number
    unfolding salvage_outcome
    salvage_any_number = rw (same, room)

    pub salvage_any_values : (salvage_outcome tabulation ws us sheet).values ≡ o.values
    unfolding salvage_outcome
    salvage_any_values = rw (same, room)

    pub salvage_any_target : o.number ≡ done → (salvage_outcome tabulation ws us sheet).target ≡ o.target
    unfolding salvage_outcome
    salvage_any_target e = rw (← same, ← room, e)

pub salvage_any_scratch : (tabulation ws target scratch sheet : List ℕ) → length scratch ≡ length sheet
    → salvage_outcome tabulation ws target scratch ≡ salvage_outcome tabulation ws target sheet
unfolding salvage_outcome
salvage_any_scratch tabulation ws target scratch sheet e = rw e

-- Nor have the words themselves but by their spots, r, s and station: the number of keys, that of stashed ones and the
-- next numbers may be anything.
module _ (tabulation ws vs : List ℕ) (long : length ws ≡ length vs)
    (params : params_of tabulation ws ≡ params_of tabulation vs) (same : spots ws ≡ spots vs) where
  pub slots : slots_of ws ≡ slots_of vs
  slots = ap (λ (P : Params). P.slots) params

  pub places : places_of ws ≡ places_of vs
  places = ap (λ (P : Params). P.places) params

  family_same : family_of tabulation ws ≡ family_of tabulation vs
  family_same = ap family params

  -- what is made of the family and the spots
  by_both : {A : Type 0} (f : Family → List Spot → A)
      → f (family_of tabulation ws) (spots ws) ≡ f (family_of tabulation vs) (spots vs)
  by_both f = ap (λ (G : Family). f G (spots ws)) family_same ∙ ap (f (family_of tabulation vs)) same

  pub alike_survivors : survivors tabulation ws ≡ survivors tabulation vs
  unfolding survivors counting
  alike_survivors = by_both (λ G Y.
      let X = keep (counts G) Y in tiered (λ c. (standing X c).entry.tier) (standing_keys X))

  pub alike_lost : lost_in tabulation ws ≡ lost_in tabulation vs
  unfolding lost_in
  alike_lost = by_both (λ G Y. length (keep (λ x. occupied x && not (counts G x)) Y))

  alike_shaped : shaped ws ≡ shaped vs
  unfolding shaped
  alike_shaped =
      let d : station_of ws ≡ station_of vs = ap (λ (P : Params). P.station) params in
      rw (long, slots, places, d)

  pub alike_refusal : (n m : ℕ) → salvage_refusal tabulation ws n m ≡ salvage_refusal tabulation vs n m
  unfolding salvage_refusal
  alike_refusal n m =
      let e : nothing_counts tabulation ws ≡ nothing_counts tabulation vs =
      by_both (λ G Y. any occupied Y && not (any (counts G) Y)) in
      rw (e, alike_shaped, long, slots, places)

-- the rows

module _ (tabulation ws : List ℕ) (n m : ℕ) where
  abbrev pub given : ℕ
  given = salvage_refusal tabulation ws n m

  pub salvage_tabulation : (length tabulation ≡ tabulation_length → ⊥) → given ≡ wrong_tabulation
  unfolding salvage_refusal
  salvage_tabulation e = rw (ne_eqb _ _ e)

  module _ (full_length : length tabulation ≡ tabulation_length) where
    pub salvage_shape : shaped ws ≡ false → given ≡ wrong_shape
    unfolding salvage_refusal
    salvage_shape e = rw (eq-eqb _ _ full_length, e)

    module _ (formed : shaped ws ≡ true) where
      pub salvage_target : (n ≡ length ws → ⊥) → given ≡ wrong_shape
      unfolding salvage_refusal
      salvage_target e = rw (eq-eqb _ _ full_length, formed, ne_eqb _ _ e)

      pub salvage_short : n ≡ length ws → m < scratch_length (slots_of ws) (places_of ws) → given ≡ short_scratch
      unfolding salvage_refusal
      salvage_short e l = rw (eq-eqb _ _ full_length, formed, eq-eqb _ _ e, lt-ltb _ _ l)

  -- 1, 2 and 3, where one of them applies; then only 15 is left
  pub salvage_area : (first_refusal (area_refusals tabulation ws n m) ≡ done → ⊥)
      → given ≡ first_refusal (area_refusals tabulation ws n m)
  unfolding salvage_refusal
  salvage_area t =
      front_applies (area_refusals tabulation ws n m) ((none_counts, nothing_counts tabulation ws) ∷ []) t

-- Words in which no number stands are accepted: the survivors are the empty set, and nothing is lost.
module _ (tabulation ws : List ℕ) (empty : (x : Spot) → In x (spots ws) → spot_key x ≡ 0) where
  pub none_occupied : (x : Spot) → In x (spots ws) → occupied x ≡ false
  none_occupied x i = ap not (eq-eqb _ _ (empty x i))

  pub empty_lost : lost_in tabulation ws ≡ 0
  unfolding lost_in
  empty_lost =
      ap length (keep_none (λ x. occupied x && not (counts (family_of tabulation ws) x)) (spots ws)
      (λ x i. rw (none_occupied x i)))

-- In words that hold a set every number other than 0 counts, and is of the set.
pub held_spot : {P : Params} {L : List Entry} {ws : List ℕ} → Holds P L ws → (x : Spot) → In x (spots ws)
    → (spot_key x ≡ 0) ⊎ ((counts (family_of P.tabulation ws) x ≡ true) × In x.entry L)
held_spot {P} {L} {ws} h x i =
    let q : counts (family_of P.tabulation ws) x ≡ counts (family P) x =
    ap (λ (Q : Params). counts (family Q) x) (held_params h) in
    elim (image_spot P L h.is.fit h.is.valid (held_some h) x (rw h.is.is at i)) [
      | inl z ↦ inl z
      | inr c ↦ inr (q ∙ c.0, c.1)
    ]

-- and its set survives
pub held_survivors : {P : Params} {L : List Entry} {ws : List ℕ} → Holds P L ws → survivors P.tabulation ws ≡ L
held_survivors {P} {L} h =
    ap (survivors P.tabulation) h.is.is ∙ image_survivors P L h.is.fit h.is.valid (held_some h)

-- "An untampered list gives itself and 0."
module _ {P : Params} {L : List Entry} {ws : List ℕ} (h : Holds P L ws)
    (full_length : length P.tabulation ≡ tabulation_length) (target scratch : List ℕ)
    (size : length target ≡ length ws) (room : scratch_length P.slots P.places ≤ length scratch) where
  abbrev pub t : List ℕ
  t = P.tabulation

  pub held_salvable : Salvable t ws (length target) (length scratch)
  held_salvable =
      let q : scratch_length (slots_of ws) (places_of ws) ≡ scratch_length P.slots P.places =
      ap (λ (Q : Params). scratch_length Q.slots Q.places) (held_params h) in
      record { full_length = full_length; shape = held_shaped h; size = size; room = rw q room }

  pub some_counts : nothing_counts t ws ≡ false
  some_counts = elim (test (any occupied (spots ws))) [
    | inr f ↦ rw f
    | inl f ↦
        let r = any_true occupied (spots ws) f in
        elim (held_spot h r.0 r.1) [
          | inl z ↦ absurd (eqb-false _ _ (not-true _ r.2) z)
          | inr c ↦ rw (f, true_any (counts (family_of t ws)) r.1 c.0)
        ]
  ]

-- A list that was salvaged gives itself and 0, whatever it is written to.
module _ (tabulation ws target scratch : List ℕ) (e : (salvage_outcome tabulation ws target scratch).number ≡ done)
    (target' scratch' : List ℕ) (size : length target' ≡ length ws)
    (room : scratch_length (slots_of ws) (places_of ws) ≤ length scratch') where
  abbrev pub us : List ℕ
  us = (salvage_outcome tabulation ws target scratch).target
