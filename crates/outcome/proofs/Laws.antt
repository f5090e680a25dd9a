-- The laws of what specs/Laws.antt defines.
use Rattle.std.specs.Prelude.{ℕ, ◌≤◌, ◌<◌, ◌≡◌, Bool, true, false, not, ◌⊎◌, ◌↔◌, length, replicate}
use Rattle.std.proofs.Math.Path.{refl, ap}
use Rattle.std.proofs.Common.{◌∙◌, inl, arith, eq-eqb, ne_eqb, ltb-false}
use Rattle.std.proofs.Math.Bool.{cond}
use mathlib.Core.List.Memᴰ.{head as here}
use mathlib.Core.List.Memᴰ.{tail as there}
use mathlib.Core.List.{List, [], ◌∷◌, ◌++◌, Memᴰ as In}
use Rattle.std.proofs.lemmas.Bool.{not-false}
use Rattle.basics.specs.Tests.{test}
use Rattle.basics.specs.Sets.{member}
use Rattle.refusals.specs.Refusal.{done, wrong_tabulation, wrong_shape, short_scratch, not_canonical, blank_key, first_refusal, none, and}
use Rattle.refusals.proofs.Refusals.{first_refusal_in, none_applies}
use Rattle.hashing.specs.Hash.{tabulation_length, blank}
use Rattle.layout.specs.Entries.{Entry}
use Rattle.layout.specs.Layout.{Params, params_of, slots_of, places_of, scratch_length, shaped, image, set_in}
use Rattle.layout.specs.Canonical.{canonical, ImageOf}
use Rattle.layout.proofs.Canonical.{canonical_iff}
use Rattle.outcome.specs.declared.Change.{Change}
use Rattle.outcome.specs.declared.Change.TheVariants.{Insert, Remove}
use Rattle.layout.specs.Ready.{first_refusals, Ready, Late, Tampered}
use Rattle.layout.proofs.Ready.{late_first, canonical_none, head_tabulation, head_shape, head_scratch, head_ready, head_passed, head_tampered}
use Rattle.outcome.specs.Outcome.{Outcome, changed, set_refusals, change_refusal, change_outcome, check_outcome}
use Rattle.outcome.specs.Laws.{change_answers, check_answers, later_refusals}

pub change_answer_in : (kind : Change) (tabulation ws scratch : List ℕ) (key : ℕ)
    → In (change_outcome kind tabulation ws scratch key).answer (change_answers kind)
unfolding change_outcome change_refusal
change_answer_in (Insert tier) tabulation ws scratch key =
    first_refusal_in (first_refusals tabulation ws scratch ++ later_refusals (Insert tier) tabulation ws key)
change_answer_in Remove tabulation ws scratch key =
    first_refusal_in (first_refusals tabulation ws scratch ++ later_refusals Remove tabulation ws key)

pub check_answer_in : (tabulation ws scratch : List ℕ) → In (check_outcome tabulation ws scratch).answer check_answers
unfolding check_outcome
check_answer_in tabulation ws scratch = first_refusal_in (first_refusals tabulation ws scratch)

-- words and scratch

-- An outcome is its answer, its words and its scratch.
pub outcome_of : {o : Outcome} {n : ℕ} {us sheet : List ℕ} → n ≡ o.answer → us ≡ o.words → sheet ≡ o.scratch
    → record { answer = n; words = us; scratch = sheet } ≡ o
outcome_of e f g = rw (e, f, g) refl

module _ (tabulation ws scratch : List ℕ) where
  module _ (kind : Change) (key : ℕ) where
    pub change_answer : (change_outcome kind tabulation ws scratch key).answer ≡ change_refusal kind tabulation ws scratch key
    unfolding change_outcome
    change_answer = refl

    -- Accepted, the words are the image of the new set;
    pub change_done : (change_outcome kind tabulation ws scratch key).answer ≡ done
        → (change_outcome kind tabulation ws scratch key).words ≡ image (params_of tabulation ws) (changed kind key (set_in tabulation ws))
    unfolding change_outcome
    change_done e =
        ap (λ (t : Bool). cond t (image (params_of tabulation ws) (changed kind key (set_in tabulation ws))) ws)
        (eq-eqb (change_refusal kind tabulation ws scratch key) done e)

    -- "Every refusal leaves list and book unchanged".
    pub change_refused : ((change_outcome kind tabulation ws scratch key).answer ≡ done → ⊥) → (change_outcome kind tabulation ws scratch key).words ≡ ws
    unfolding change_outcome
    change_refused n = rw (ne_eqb (change_refusal kind tabulation ws scratch key) done n)

    -- "it is zero over its full length after every call that borrows it"
    pub change_scratch : (change_outcome kind tabulation ws scratch key).scratch ≡ replicate (length scratch) 0
    unfolding change_outcome
    change_scratch = refl

  -- check answers 1 to 4 and no more
  pub check_answer : (check_outcome tabulation ws scratch).answer ≡ first_refusal (first_refusals tabulation ws scratch)
  unfolding check_outcome
  check_answer = refl

  -- "check .. never change them"
  pub check_words : (check_outcome tabulation ws scratch).words ≡ ws
  unfolding check_outcome
  check_words = refl

  pub check_scratch : (check_outcome tabulation ws scratch).scratch ≡ replicate (length scratch) 0
  unfolding check_outcome
  check_scratch = refl

-- "Its old content has no effect": only the length of the scratch matters, to the whole outcome.
module _ (tabulation ws scratch scratch' : List ℕ) (same : length scratch ≡ length scratch') where
  pub change_any_scratch : (kind : Change) (key : ℕ) → change_outcome kind tabulation ws scratch key ≡ change_outcome kind tabulation ws scratch' key
  unfolding change_outcome change_refusal
  change_any_scratch kind key = rw same

  pub check_any_scratch : check_outcome tabulation ws scratch ≡ check_outcome tabulation ws scratch'
  unfolding check_outcome
  check_any_scratch = rw same

-- The table, row by row: "They are tried in this order, and none is given otherwise."

rest_late : (kind : Change) (P : Params) (key : ℕ) (L : List Entry) → Late (first_refusal ((blank_key, blank key) ∷ set_refusals kind P key L))
rest_late (Insert tier) P key L = late_first ((blank_key, blank key) ∷ set_refusals (Insert tier) P key L) (λ n i. elim i [
  | here q ↦ omega arith
  | there j ↦ elim j [
    | here q ↦ omega arith
    | there k ↦ elim k [
      | here q ↦ omega arith
      | there l ↦ elim l [
        | here q ↦ omega arith
        | there m ↦ elim m [ here q ↦ omega arith | there o ↦ elim o [ here q ↦ omega arith | there p ↦ elim p [ ] ] ]
      ]
    ]
  ]
])
rest_late Remove P key L = late_first ((blank_key, blank key) ∷ set_refusals Remove P key L) (λ n i. elim i [
  | here q ↦ omega arith
  | there j ↦ elim j [ here q ↦ omega arith | there k ↦ elim k [ ] ]
])

module _ (tabulation ws scratch : List ℕ) where
  -- rows 1 to 4 of insert and remove
  module _ (kind : Change) (key : ℕ) where
    abbrev rest : List (ℕ × Bool)
    rest = later_refusals kind tabulation ws key

    pub change_tabulation : (length tabulation ≡ tabulation_length → ⊥) → (change_outcome kind tabulation ws scratch key).answer ≡ wrong_tabulation
    unfolding change_outcome change_refusal
    change_tabulation = head_tabulation tabulation ws scratch rest

    pub change_shape : length tabulation ≡ tabulation_length → shaped ws ≡ false → (change_outcome kind tabulation ws scratch key).answer ≡ wrong_shape
    unfolding change_outcome change_refusal
    change_shape = head_shape tabulation ws scratch rest

    pub change_short : length tabulation ≡ tabulation_length → shaped ws ≡ true → length scratch < scratch_length (slots_of ws) (places_of ws)
        → (change_outcome kind tabulation ws scratch key).answer ≡ short_scratch
    unfolding change_outcome change_refusal
    change_short = head_scratch tabulation ws scratch rest

    -- then 4 is tried,
    pub change_ready : Ready tabulation ws scratch
        → (change_outcome kind tabulation ws scratch key).answer ≡ first_refusal ((not_canonical, not (canonical tabulation ws)) ∷ later_refusals kind tabulation ws key)
    unfolding change_outcome change_refusal
    change_ready = head_ready tabulation ws scratch rest

    -- and the other rows look at the set
    pub change_set : Ready tabulation ws scratch → canonical tabulation ws ≡ true
        → (change_outcome kind tabulation ws scratch key).answer ≡ first_refusal (later_refusals kind tabulation ws key)
    change_set h c = change_ready h ∙ (rw c)

    -- and then the words have passed
    pub change_passed : Late (change_outcome kind tabulation ws scratch key).answer → Ready tabulation ws scratch × (canonical tabulation ws ≡ true)
    unfolding change_outcome change_refusal
    change_passed = head_passed tabulation ws scratch rest

    pub change_tampered : Ready tabulation ws scratch → ((change_outcome kind tabulation ws scratch key).answer ≡ not_canonical) ↔ Tampered tabulation ws
    unfolding change_outcome change_refusal
    change_tampered = head_tampered tabulation ws scratch rest (rest_late kind (params_of tabulation ws) key (set_in tabulation ws))

  -- rows 1 to 4 of check, and its 0
  pub check_tabulation : (length tabulation ≡ tabulation_length → ⊥) → (check_outcome tabulation ws scratch).answer ≡ wrong_tabulation
  unfolding check_outcome
  check_tabulation = head_tabulation tabulation ws scratch []

  pub check_shape : length tabulation ≡ tabulation_length → shaped ws ≡ false → (check_outcome tabulation ws scratch).answer ≡ wrong_shape
  unfolding check_outcome
  check_shape = head_shape tabulation ws scratch []

  pub check_short : length tabulation ≡ tabulation_length → shaped ws ≡ true → length scratch < scratch_length (slots_of ws) (places_of ws)
      → (check_outcome tabulation ws scratch).answer ≡ short_scratch
  unfolding check_outcome
  check_short = head_scratch tabulation ws scratch []

  pub check_ready : Ready tabulation ws scratch → (check_outcome tabulation ws scratch).answer ≡ first_refusal ((not_canonical, not (canonical tabulation ws)) ∷ [])
  unfolding check_outcome
  check_ready = head_ready tabulation ws scratch []

  pub check_tampered : Ready tabulation ws scratch → ((check_outcome tabulation ws scratch).answer ≡ not_canonical) ↔ Tampered tabulation ws
  unfolding check_outcome
  check_tampered = head_tampered tabulation ws scratch [] (inl refl)

  pub check_done : ((check_outcome tabulation ws scratch).answer ≡ done)
      ↔ (Ready tabulation ws scratch × ((L : List Entry) × ImageOf (params_of tabulation ws) L ws))
  unfolding check_outcome
  check_done = (
    λ e. let p = head_passed tabulation ws scratch [] (inl e) in (p.0, (canonical_iff tabulation ws p.0.shape).0 p.1),
    λ h. let c = (canonical_iff tabulation ws h.0.shape).1 h.1 in none_applies (first_refusals tabulation ws scratch) (canonical_none tabulation ws scratch h.0 c),
  )
