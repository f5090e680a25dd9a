-- The laws of what specs/TrailLaws.antt defines.
use Rattle.std.specs.Prelude.{ℕ, suc, ◌+◌, ◌-◌, ◌≤◌, ◌<◌, ◌≡◌, true, false, cond, ◌↔◌, length, get_or, replicate}
use Rattle.std.proofs.Math.Path.{refl}
use Rattle.std.proofs.Common.{sym, ◌∙◌, ap, inl, inr}
use Rattle.std.proofs.Math.Bool.{not}
use mathlib.Core.List.Memᴰ.{head as here}
use mathlib.Core.List.Memᴰ.{tail as there}
use mathlib.Core.List.{List, [], ◌∷◌, ◌++◌, Memᴰ as In}
use native.Mathlib.Omega.{arith}
use borrow.Author.Tests.{eq-eqb, ne_eqb, le-ltb}
use Rattle.std.proofs.Math.Dec.{ltb}
use Rattle.basics.specs.Sets.{member, first, last, Sub}
use Rattle.basics.proofs.Sets.{in?}
use Rattle.basics.specs.Lists.{Picked}
use Rattle.cuckoo.specs.Graph.{component, is_on_cycle, seated, stash, occupant}
use Rattle.cuckoo.proofs.Settling.{seated_asc, seated_stops}
use Rattle.cuckoo.specs.Walks.{Distinct}
use Rattle.cuckoo.specs.Trail.{other}
use Rattle.cuckoo.proofs.Trail.{trail_none, stash_trail, trail_first, trail_ends, trail_next, trail_once, trail_component, trail_slots}
use Rattle.refusals.specs.Refusal.{done, wrong_tabulation, wrong_shape, short_scratch, not_canonical, blank_key, key_absent, short_trail, first_refusal}
use Rattle.refusals.proofs.Refusals.{first_refusal_in, front_applies, front_passes, front_none}
use Rattle.hashing.specs.Hash.{tabulation_length, blank}
use Rattle.hashing.specs.Slots.{slot_0, slot_1}
use Rattle.hashing.proofs.Slots.{slot_0_lt, slot_1_lt}
use Rattle.layout.specs.Entries.{Entry, keys_of}
use Rattle.layout.specs.Layout.{Params, ValidKeys, family, slots_of, places_of, scratch_length, shaped, keys_in}
use Rattle.layout.specs.Canonical.{canonical}
use Rattle.layout.proofs.Canonical.{image_of_keys}
use Rattle.outcome.specs.declared.Change.TheVariants.{Remove}
use Rattle.layout.specs.Ready.{first_refusals, Ready, Tampered}
use Rattle.layout.proofs.Ready.{late_first, head_tabulation, head_shape, head_scratch, head_ready, head_tampered}
use Rattle.outcome.specs.Outcome.{change_refusal, change_outcome}
use Rattle.outcome.specs.Laws.{later_refusals}
use Rattle.outcome.specs.Held.{Holds}
use Rattle.outcome.proofs.Held.{held_some, held_params, held_set_in, held_head}
use Rattle.outcome.specs.Demands.{Harmless}
use Rattle.outcome.specs.Trail.{trail_of, trail_in, trail_refusals, trail_refusal, TrailOutcome, trail_outcome}
use Rattle.outcome.specs.TrailLaws.{trail_answers, L, o, trail_words, a, b, T, Leads}

module _ (tabulation ws scratch : List ℕ) (key : ℕ) where
  module _ (sheet : List ℕ) where
    pub trail_answer_in : In (o tabulation ws scratch key sheet).number trail_answers
    unfolding trail_outcome trail_refusal
    trail_answer_in = first_refusal_in (first_refusals tabulation ws scratch ++ trail_refusals tabulation ws key (length sheet))

    -- "every refusal leaves the trail sheet unchanged";
    pub trail_refused : ((o tabulation ws scratch key sheet).number ≡ done → ⊥) → ((o tabulation ws scratch key sheet).values ≡ []) × ((o tabulation ws scratch key sheet).trail ≡ sheet)
    unfolding trail_outcome
    trail_refused n = let t = ne_eqb (trail_refusal tabulation ws scratch key (length sheet)) done n in (rw t, rw t)

    -- accepted, "Its card numbers are written to a lent sheet, rest zeros, and the call tells how many".
    pub trail_done : (o tabulation ws scratch key sheet).number ≡ done → ((o tabulation ws scratch key sheet).values ≡ length (L tabulation ws scratch key) ∷ []) × ((o tabulation ws scratch key sheet).trail ≡ (L tabulation ws scratch key) ++ replicate (length sheet - length (L tabulation ws scratch key)) 0)
    unfolding trail_outcome
    trail_done e = let t = eq-eqb (trail_refusal tabulation ws scratch key (length sheet)) done e in (rw t, rw t)

    pub trail_scratch : (o tabulation ws scratch key sheet).scratch ≡ replicate (length scratch) 0
    unfolding trail_outcome
    trail_scratch = refl

    -- Demand 1 of the trail call.
    pub trail_harmless : Harmless trail_answers ws scratch (record { answer = (o tabulation ws scratch key sheet).number; words = (o tabulation ws scratch key sheet).words; scratch = (o tabulation ws scratch key sheet).scratch })
    trail_harmless = record { numbered = trail_answer_in; unchanged = λ n. (trail_words tabulation ws scratch key sheet); cleared = trail_scratch }

    -- Rows 1 to 4, in their order,
    pub trail_tabulation : (length tabulation ≡ tabulation_length → ⊥) → (o tabulation ws scratch key sheet).number ≡ wrong_tabulation
    unfolding trail_outcome trail_refusal
    trail_tabulation = head_tabulation tabulation ws scratch (trail_refusals tabulation ws key (length sheet))

    pub trail_shape : length tabulation ≡ tabulation_length → shaped ws ≡ false → (o tabulation ws scratch key sheet).number ≡ wrong_shape
    unfolding trail_outcome trail_refusal
    trail_shape = head_shape tabulation ws scratch (trail_refusals tabulation ws key (length sheet))

    pub trail_short : length tabulation ≡ tabulation_length → shaped ws ≡ true → length scratch < scratch_length (slots_of ws) (places_of ws)
        → (o tabulation ws scratch key sheet).number ≡ short_scratch
    unfolding trail_outcome trail_refusal
    trail_short = head_scratch tabulation ws scratch (trail_refusals tabulation ws key (length sheet))

    pub trail_ready : Ready tabulation ws scratch
        → (o tabulation ws scratch key sheet).number ≡ first_refusal ((not_canonical, not (canonical tabulation ws)) ∷ trail_refusals tabulation ws key (length sheet))
    unfolding trail_outcome trail_refusal
    trail_ready = head_ready tabulation ws scratch (trail_refusals tabulation ws key (length sheet))

    -- and those that look at the set.
    pub trail_set : Ready tabulation ws scratch → canonical tabulation ws ≡ true → (o tabulation ws scratch key sheet).number ≡ first_refusal (trail_refusals tabulation ws key (length sheet))
    trail_set h c = trail_ready h ∙ (rw c)

    pub trail_tampered : Ready tabulation ws scratch → ((o tabulation ws scratch key sheet).number ≡ not_canonical) ↔ Tampered tabulation ws
    unfolding trail_outcome trail_refusal
    trail_tampered =
        head_tampered tabulation ws scratch (trail_refusals tabulation ws key (length sheet))
        (late_first (trail_refusals tabulation ws key (length sheet)) (λ n i. elim i [
          | here q ↦ omega arith
          | there j ↦ elim j [ here q ↦ omega arith | there k ↦ elim k [ here q ↦ omega arith | there l ↦ elim l [ ] ] ]
        ]))

    -- "Checks run as for withdraw": what a removal of this key would be refused with, the trail is refused with;
    pub trail_as_remove : ((change_outcome Remove tabulation ws scratch key).answer ≡ done → ⊥)
        → (o tabulation ws scratch key sheet).number ≡ (change_outcome Remove tabulation ws scratch key).answer
    unfolding trail_outcome trail_refusal change_outcome change_refusal
    trail_as_remove n =
        front_applies (first_refusals tabulation ws scratch ++ later_refusals Remove tabulation ws key) ((short_trail, ltb (length sheet) (length (L tabulation ws scratch key))) ∷ []) n

    -- and where a removal is accepted, the trail is refused with 11 exactly if it is longer than what is lent for it.
    pub trail_as_removed : (change_outcome Remove tabulation ws scratch key).answer ≡ done
        → (o tabulation ws scratch key sheet).number ≡ cond (ltb (length sheet) (length (L tabulation ws scratch key))) short_trail done
    unfolding trail_outcome trail_refusal change_outcome change_refusal
    trail_as_removed e =
        front_passes (first_refusals tabulation ws scratch ++ later_refusals Remove tabulation ws key) ((short_trail, ltb (length sheet) (length (L tabulation ws scratch key))) ∷ [])
        (front_none (first_refusals tabulation ws scratch ++ later_refusals Remove tabulation ws key) [] e refl)

-- "Its old content has no effect": only the length of the scratch matters, to the whole outcome.
pub trail_any_scratch : (tabulation ws scratch scratch' : List ℕ) (key : ℕ) (sheet : List ℕ) → length scratch ≡ length scratch'
    → trail_outcome tabulation ws scratch key sheet ≡ trail_outcome tabulation ws scratch' key sheet
unfolding trail_outcome trail_refusal
trail_any_scratch tabulation ws scratch scratch' key sheet e = rw e

-- Of the trail, too, only the length matters: to number and values, and accepted to the words of the trail, too.
module _ (tabulation ws : List ℕ) (key : ℕ) (scratch scratch' sheet sheet' : List ℕ) (e : length scratch ≡ length scratch') (f : length sheet ≡ length sheet') where
  pub trail_any_number : (trail_outcome tabulation ws scratch key sheet).number ≡ (trail_outcome tabulation ws scratch' key sheet').number
  unfolding trail_outcome trail_refusal
  trail_any_number = rw (e, f)

  pub trail_any_values : (trail_outcome tabulation ws scratch key sheet).values ≡ (trail_outcome tabulation ws scratch' key sheet').values
  unfolding trail_outcome trail_refusal
  trail_any_values = rw (e, f)

  pub trail_any_sheet : (trail_outcome tabulation ws scratch key sheet).number ≡ done
      → (trail_outcome tabulation ws scratch key sheet).trail ≡ (trail_outcome tabulation ws scratch' key sheet').trail
  trail_any_sheet d =
      (trail_done tabulation ws scratch key sheet d).1
      ∙ ap (λ (n : ℕ). trail_in tabulation ws key ++ replicate (n - length (trail_in tabulation ws key)) 0) f
      ∙ sym (trail_done tabulation ws scratch' key sheet' (sym trail_any_number ∙ d)).1

-- The trail in a set of keys, as document 02 tells it.
module _ (P : Params) (S : List ℕ) where
  module _ (valid : ValidKeys S) where
    pub trail_leads : {key : ℕ} → In key (T P S) → (Leads P S) key (trail_of P S key)
    trail_leads i =
        let stop = seated_stops (a P S) (b P S) S valid.asc in
        record {
          starts = trail_first (a P S) (b P S) stop i;
          next = λ k l. trail_next (a P S) (b P S) stop k i l;
          ends = trail_ends (a P S) (b P S) stop (seated_asc (a P S) (b P S) S valid.asc) i;
          once = trail_once (a P S) (b P S) stop i;
          near = trail_component (a P S) (b P S) stop i;
        }

    -- "a drawer card's trail is empty"
    pub stashed_trail : {key : ℕ} → In key (stash (a P S) (b P S) S) → trail_of P S key ≡ []
    stashed_trail i = stash_trail (a P S) (b P S) S i

    -- No trail has more keys than there are slots.
    pub trail_few : 0 < P.slots → (key : ℕ) → length (trail_of P S key) ≤ P.slots + P.slots
    trail_few some key = elim (in? key (T P S)) [
      | inl i ↦ trail_slots (a P S) (b P S) (seated_stops (a P S) (b P S) S valid.asc) (P.slots + P.slots) (seated_asc (a P S) (b P S) S valid.asc)
          (λ d k. omega (arith, slot_0_lt (family P) some d)) (λ d k. slot_1_lt (family P) some d) i
      | inr n ↦ rw (trail_none (a P S) (b P S) (T P S) key n) (omega arith)
    ]

-- The call on a dictionary that holds a set.
module _ {P : Params} {L : List Entry} {ws : List ℕ} (h : Holds P L ws) (key : ℕ) where
  -- It is the set's trail that is asked for,
  pub held_asked : trail_in P.tabulation ws key ≡ trail_of P (keys_of L) key
  held_asked =
      ap (λ (Q : Params). trail_of Q (keys_in ws) key) (held_params h)
      ∙ ap (λ (S : List ℕ). trail_of P S key) (image_of_keys h.is (held_some h))

  -- which is as document 02 tells it;
  pub held_leads : In key (seated (slot_0 (family P)) (slot_1 (family P)) (keys_of L)) → Leads P (keys_of L) key (trail_in P.tabulation ws key)
  held_leads i = rw held_asked (trail_leads P (keys_of L) h.is.valid.keys i)

  -- 2 and 4 never apply, and the rest with L as "the set".
  pub held_trail : length P.tabulation ≡ tabulation_length → (scratch : List ℕ) (n : ℕ)
      → trail_refusal P.tabulation ws scratch key n
      ≡ first_refusal
      ((short_scratch, ltb (length scratch) (scratch_length P.slots P.places)) ∷ (blank_key, blank key)
      ∷ (key_absent, not (member key (keys_of L))) ∷ (short_trail, ltb n (length (trail_of P (keys_of L) key))) ∷ [])
  unfolding trail_refusal
  held_trail full_length scratch n =
      held_head h full_length scratch (trail_refusals P.tabulation ws key n) ∙ (rw (held_set_in h, held_asked))

  -- With 2r words lent for it, it is never refused with 11.
  pub never_short : length P.tabulation ≡ tabulation_length → (scratch sheet : List ℕ) → P.slots + P.slots ≤ length sheet
      → (trail_outcome P.tabulation ws scratch key sheet).number ≡ short_trail → ⊥
  unfolding trail_outcome
  never_short full_length scratch sheet l e =
      let few = trail_few P (keys_of L) h.is.valid.keys (held_some h) key in
      let t = le-ltb (length sheet) (length (trail_of P (keys_of L) key)) (omega arith) in
      let n = rw t at (sym (held_trail full_length scratch (length sheet)) ∙ e) in
      elim (first_refusal_in
      ((short_scratch, ltb (length scratch) (scratch_length P.slots P.places)) ∷ (blank_key, blank key)
      ∷ (key_absent, not (member key (keys_of L))) ∷ [])) [
        | here q ↦ omega arith
        | there i ↦ elim i [ here q ↦ omega arith | there j ↦ elim j [ here q ↦ omega arith | there k ↦ elim k [ here q ↦ omega arith | there m ↦ elim m [ ] ] ] ]
      ]
