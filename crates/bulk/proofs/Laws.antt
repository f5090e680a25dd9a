-- The laws of what specs/Laws.antt defines.
use Rattle.std.specs.Prelude.{ℕ, ◌+◌, ◌*◌, ◌≤◌, ◌<◌, ◌≡◌, Bool, true, false, not, cond, ◌&&◌, ◌||◌, ◌↔◌, eqb, ltb, length, replicate}
use Rattle.std.proofs.Math.Path.{refl}
use Rattle.std.proofs.Common.{sym, ◌∙◌, ap, inl, inr, arith}
use mathlib.Core.List.{List, [], ◌∷◌, ◌++◌, Memᴰ as In}
use borrow.Author.Tests.{eqb-true, eq-eqb, ne_eqb, ltb-false, le-ltb, not-false}
use Rattle.basics.specs.Tests.{test}
use Rattle.basics.specs.Sets.{any}
use Rattle.refusals.specs.Refusal.{done, blank_key, stash_full, wrong_tier}
use Rattle.refusals.specs.Refusal.{other_issue, not_rising, first_refusal, None, none, and}
use Rattle.refusals.proofs.Refusals.{first_refusal_in}
use Rattle.refusals.proofs.Refusals.{front_applies, front_passes, front_none, last_turned}
use Rattle.cuckoo.specs.Placement.{Placement}
use Rattle.cuckoo.specs.Rising.{rising_stash}
use Rattle.cuckoo.proofs.Rising.{rising_stashes}
use Rattle.hashing.specs.Hash.{tabulation_length, blank}
use Rattle.hashing.specs.Slots.{slot_0, slot_1}
use Rattle.layout.specs.Entries.{Entry, max_tier, tier_of}
use Rattle.layout.specs.Layout.{Params, one_issue, family, params_in_range, words_length, scratch_length}
use Rattle.layout.specs.Layout.{fits, image, place_words}
use Rattle.layout.proofs.Shape.{ranged}
use Rattle.layout.proofs.Fresh.{target_sizes}
use Rattle.layout.proofs.Fitting.{full_answer, crowded_unfit}
use Rattle.layout.specs.Answers.{lookup_values, view_of}
use Rattle.layout.proofs.Look.{image_view}
use Rattle.outcome.specs.Demands.{Harmless}
use Rattle.outcome.specs.Held.{Holds}
use Rattle.outcome.proofs.Held.{held_entry}
use Rattle.bulk.specs.Bulk.{input_keys, input_tiers, input_set, odd_length, rising, target_refusals}
use Rattle.bulk.specs.Bulk.{input_refusals, room_refusals, bulk_refusal, bulk_outcome}
use Rattle.bulk.specs.Input.{SoundInput, input_of}
use Rattle.bulk.proofs.Input.{none_sound, sound_none, sound_set, even_keys, input_of_keys}
use Rattle.bulk.proofs.Input.{input_of_set, input_of_sound}
use Rattle.bulk.specs.Laws.{bulk_answers, Layable, bulk_refused}

-- The laws.

pub none_layable : (P : Params) (n m : ℕ) → None (target_refusals P n m) → Layable P n m
none_layable P n m (and a (and b (and c none))) =
    let p = target_sizes n P.slots P.places P.station (not-false _ b) in
    record { full_length = eqb-true _ _ (not-false _ a); range = p.0; size = p.1; room = ltb-false _ _ c }

pub layable_none : (P : Params) (n m : ℕ) → Layable P n m → None (target_refusals P n m)
layable_none P n m h =
    let sized = eqb n (words_length P.slots P.places) in
    let t : (params_in_range P.slots P.places P.station && sized) ≡ true =
    rw h.range (eq-eqb _ _ h.size) in
    and (ap not (eq-eqb _ _ h.full_length)) (and (ap not t) (and (le-ltb _ _ h.room) none))

-- words and scratch

module _ (P : Params) (input ws scratch : List ℕ) where
  pub bulk_answer : (bulk_outcome P input ws scratch).answer ≡ bulk_refusal P input (length ws) (length scratch)
  unfolding bulk_outcome
  bulk_answer = refl

  pub bulk_answer_in : In (bulk_outcome P input ws scratch).answer bulk_answers
  unfolding bulk_outcome bulk_refusal
  bulk_answer_in = first_refusal_in
      (target_refusals P (length ws) (length scratch) ++ (input_refusals input ++ room_refusals P input))

  -- "All is refused or all is laid": accepted, every word is that of the set's image,
  pub bulk_done : (bulk_outcome P input ws scratch).answer ≡ done
      → (bulk_outcome P input ws scratch).words ≡ image P (input_set input)
  unfolding bulk_outcome
  bulk_done e = rw (eq-eqb (bulk_refusal P input (length ws) (length scratch)) done e)

  pub bulk_scratch : (bulk_outcome P input ws scratch).scratch ≡ replicate (length scratch) 0
  unfolding bulk_outcome
  bulk_scratch = refl

  -- Demand 1.
  pub bulk_harmless : Harmless bulk_answers ws scratch (bulk_outcome P input ws scratch)
  bulk_harmless = record { numbered = bulk_answer_in; unchanged = (bulk_refused P input ws scratch); cleared = bulk_scratch }

  -- What the target and the scratch held has no say, only their lengths: not in the answer, and, accepted, in no word.
  module _ (us sheet : List ℕ) (same : length ws ≡ length us) (room : length scratch ≡ length sheet) where
    pub bulk_any_answer : (bulk_outcome P input us sheet).answer ≡ (bulk_outcome P input ws scratch).answer
    unfolding bulk_outcome
    bulk_any_answer = rw (same, room)

    pub bulk_any_words : (bulk_outcome P input ws scratch).answer ≡ done
        → (bulk_outcome P input us sheet).words ≡ (bulk_outcome P input ws scratch).words
    unfolding bulk_outcome
    bulk_any_words e = rw (← same, ← room, e)

pub bulk_any_scratch : (P : Params) (input ws scratch sheet : List ℕ) → length scratch ≡ length sheet
    → bulk_outcome P input ws scratch ≡ bulk_outcome P input ws sheet
unfolding bulk_outcome
bulk_any_scratch P input ws scratch sheet e = rw e

-- of eight refusals of which none applies, the first three, the next four, and the last
none_parts : {p q r s t u v w : ℕ × Bool} → None (p ∷ q ∷ r ∷ s ∷ t ∷ u ∷ v ∷ w ∷ [])
    → None (p ∷ q ∷ r ∷ []) × (None (s ∷ t ∷ u ∷ v ∷ []) × (w.1 ≡ false))
none_parts (and a (and b (and c (and d (and f (and g (and h (and i none)))))))) =
    (and a (and b (and c none)), (and d (and f (and g (and h none))), i))

-- The rows, "each over the whole input": where the target passes, a blank key anywhere is 5, and so on.
module _ (P : Params) (input : List ℕ) (n m : ℕ) where
  -- 1, 2 and 3: the tests of the target, before any of the input
  pub bulk_target : (first_refusal (target_refusals P n m) ≡ done → ⊥)
      → bulk_refusal P input n m ≡ first_refusal (target_refusals P n m)
  unfolding bulk_refusal
  bulk_target t = front_applies (target_refusals P n m) (input_refusals input ++ room_refusals P input) t

  module _ (target : Layable P n m) where
    abbrev behind : ℕ
    behind = first_refusal (input_refusals input ++ room_refusals P input)

    passed : bulk_refusal P input n m ≡ behind
    unfolding bulk_refusal
    passed =
        front_passes (target_refusals P n m) (input_refusals input ++ room_refusals P input)
        (layable_none P n m target)

    -- 5, 9, 14 and 13, where one of them applies
    pub bulk_input : (first_refusal (input_refusals input) ≡ done → ⊥)
        → bulk_refusal P input n m ≡ first_refusal (input_refusals input)
    bulk_input t = passed ∙ front_applies (input_refusals input) (room_refusals P input) t

    pub bulk_blank : any blank (input_keys input) ≡ true → bulk_refusal P input n m ≡ blank_key
    bulk_blank b = passed ∙ (rw b)

    module _ (b : any blank (input_keys input) ≡ false) where
      pub bulk_tier : any (ltb max_tier) (input_tiers input) ≡ true → bulk_refusal P input n m ≡ wrong_tier
      bulk_tier t = passed ∙ (rw (b, t))

      module _ (t : any (ltb max_tier) (input_tiers input) ≡ false) where
        pub bulk_rising : (odd_length input || not (rising (input_keys input))) ≡ true
            → bulk_refusal P input n m ≡ not_rising
        bulk_rising o = passed ∙ (rw (b, t, o))

        pub bulk_issue : (odd_length input || not (rising (input_keys input))) ≡ false
            → one_issue (input_keys input) ≡ false → bulk_refusal P input n m ≡ other_issue
        bulk_issue o i = passed ∙ (rw (b, t, o, i))

    -- then only 8 is left,
    module _ (sound : SoundInput input) where
      pub bulk_fits : bulk_refusal P input n m ≡ cond (fits P (input_keys input)) done stash_full
      bulk_fits =
          passed ∙ front_passes (input_refusals input) (room_refusals P input) (sound_none input sound)
          ∙ last_turned stash_full (fits P (input_keys input))

      -- which is given exactly when no placement of the set exists,
      pub bulk_full : (bulk_refusal P input n m ≡ stash_full)
          ↔ (Placement (slot_0 (family P)) (slot_1 (family P)) P.places (input_keys input) → ⊥)
      bulk_full = full_answer P sound.valid bulk_fits

      -- and so for more keys than there are slots and places, however many there are.
      pub bulk_crowded : 2 * P.slots + P.places < length (input_keys input) → bulk_refusal P input n m ≡ stash_full
      bulk_crowded l =
          let some = (ranged P.slots P.places P.station target.range).0.has_slots in
          bulk_fits ∙ (rw (crowded_unfit P sound.valid.asc some (omega arith)))

  -- An answer of 0: none of the refusals applies.
  pub bulk_passed : bulk_refusal P input n m ≡ done
      → Layable P n m × (SoundInput input × (fits P (input_keys input) ≡ true))
  unfolding bulk_refusal
  bulk_passed e =
      let parts = none_parts (front_none (target_refusals P n m ++ (input_refusals input ++ room_refusals P input)) [] e refl) in
      (none_layable P n m parts.0, (none_sound input parts.1.0, not-false _ parts.1.1))

-- Accepted, the target holds the set that the input is: demand 2 of this call.
module _ (P : Params) (input ws scratch : List ℕ) (e : (bulk_outcome P input ws scratch).answer ≡ done) where
  abbrev us : List ℕ
  us = (bulk_outcome P input ws scratch).words

  why : Layable P (length ws) (length scratch) × (SoundInput input × (fits P (input_keys input) ≡ true))
  why = bulk_passed P input (length ws) (length scratch) (sym (bulk_answer P input ws scratch) ∙ e)

  pub bulk_accepted : Holds P (input_set input) us
  bulk_accepted =
      let k = even_keys input why.1.0.even in
      record {
        range = why.0.range;
        is = record {
          valid = sound_set input why.1.0;
          fit = rw k why.1.1;
          is = bulk_done P input ws scratch e;
        };
      }

  -- A lookup then finds exactly the keys of the input, each with its tier.
  pub bulk_lookup : (c t : ℕ) → (lookup_values P.tabulation us c ≡ 1 ∷ t ∷ [])
      ↔ In (record { key = c; tier = t }) (input_set input)
  bulk_lookup = held_entry bulk_accepted why.0.full_length

  -- "the others go to the drawer": the stash view shows the keys that the request's own rule sends there, ascending,
  -- each with its tier.
  pub bulk_view : view_of us ≡ place_words (tier_of (input_set input))
      (rising_stash (slot_0 (family P)) (slot_1 (family P)) (input_keys input))
  bulk_view =
      let H = bulk_accepted in
      ap view_of H.is.is ∙ image_view P (input_set input) H.is.fit H.range
      ∙ (rw (
        even_keys input why.1.0.even,
        rising_stashes (slot_0 (family P)) (slot_1 (family P)) why.1.0.valid.asc,
      ))

-- The image of every set that fits is what a bulk load of it leaves, over whatever target.
pub bulk_holds : {P : Params} {L : List Entry} {ws : List ℕ} → Holds P L ws → length P.tabulation ≡ tabulation_length
    → (target scratch : List ℕ) → length target ≡ words_length P.slots P.places
    → scratch_length P.slots P.places ≤ length scratch
    → ((bulk_outcome P (input_of L) target scratch).answer ≡ done)
    × ((bulk_outcome P (input_of L) target scratch).words ≡ ws)
bulk_holds {P} {L} {ws} h full_length target scratch size room =
    let Y : Layable P (length target) (length scratch) =
    record { full_length = full_length; range = h.range; size = size; room = room } in
    let f : fits P (input_keys (input_of L)) ≡ true = rw (input_of_keys L) h.is.fit in
    let a : (bulk_outcome P (input_of L) target scratch).answer ≡ done =
    bulk_answer P (input_of L) target scratch
    ∙ bulk_fits P (input_of L) (length target) (length scratch) Y (input_of_sound L h.is.valid) ∙ (rw f) in
    (a, bulk_done P (input_of L) target scratch a ∙ ap (image P) (input_of_set L) ∙ sym h.is.is)
