-- Lookup, check and view in a sequence, the calls that change no word: on words that hold the model's set they agree
-- with the model, and like ones answer the same. Assumes nothing.
use Rattle.std.specs.Prelude.{ℕ, ◌≡◌, cond, eqb, length}
use Rattle.std.proofs.Common.{◌∙◌}
use Rattle.std.proofs.Math.Path.{ap}
use Rattle.std.proofs.Math.Logic.{inl, inr}
use mathlib.Core.List.{List, []}
use borrow.Author.Tests.{eq-eqb, ne_eqb}
use Rattle.basics.specs.Tests.{test}
use Rattle.refusals.specs.Refusal.{done, first_refusal}
use Rattle.hashing.specs.Hash.{tabulation_length, blank}
use Rattle.layout.specs.Entries.{Entry}
use Rattle.layout.specs.Layout.{Params}
use Rattle.layout.specs.Answers.{lookup_refusal, lookup_values, looked_up}
use Rattle.layout.proofs.Look.{image_lookup_values, image_view_refusal, image_view}
use Rattle.outcome.specs.Outcome.{check_outcome}
use Rattle.outcome.proofs.Laws.{check_tabulation, check_words, check_any_scratch}
use Rattle.outcome.specs.Held.{Holds}
use Rattle.outcome.proofs.Held.{held_shaped, held_check}
use Rattle.history.specs.Calls.{Lent, own, wrong, lent_of, Call, step}
use Rattle.history.specs.Model.{Request, lookup_tests, check_tests, reply}
use Rattle.history.specs.Agrees.{Agrees}
use Rattle.history.proofs.Agrees.{own_lent, wrong_lent}

module _ {P : Params} {L : List Entry} {ws : List ℕ} (h : Holds P L ws) (full_length : length P.tabulation ≡ tabulation_length) where
  abbrev t : List ℕ
  t = P.tabulation

  -- lookup: the model's number, and its values

  pub lookup_number : (l : Lent) (key : ℕ)
      → lookup_refusal (lent_of t l) ws key ≡ first_refusal (lookup_tests P l key)
  unfolding lookup_refusal
  lookup_number own key = rw (eq-eqb (length t) tabulation_length full_length, held_shaped h)
  lookup_number (wrong u n) key = rw (ne_eqb (length u) tabulation_length n)

  pub lookup_value : (l : Lent) (key : ℕ)
      → lookup_values (lent_of t l) ws key
      ≡ cond (eqb (first_refusal (lookup_tests P l key)) done) (looked_up L key) []
  unfolding lookup_values
  lookup_value own key =
      let e = image_lookup_values P L h.is.fit full_length h.range key h.is.valid in
      ap (λ (ws : List ℕ). lookup_values t ws key) h.is.is ∙ e ∙ (elim (test (blank key)) [
        | inl b ↦ rw (eq-eqb (length t) tabulation_length full_length, b)
        | inr b ↦ rw (eq-eqb (length t) tabulation_length full_length, b)
      ])
  lookup_value (wrong u n) key = rw (lookup_number (wrong u n) key, ne_eqb (length u) tabulation_length n)

  pub lookup_agrees : (l : Lent) (key : ℕ)
      → Agrees P (step t ws (Call.lookup l key)) (reply P L (Request.lookup l key))
  unfolding step reply
  lookup_agrees l key = record { answer = rw (lookup_number l key, lookup_value l key); holds = h }

  -- check

  check_number : (l : Lent) (scratch : List ℕ)
      → (check_outcome (lent_of t l) ws scratch).answer ≡ first_refusal (check_tests P l (length scratch))
  check_number own scratch = held_check h full_length scratch ∙ (rw (own_lent P full_length))
  check_number (wrong u n) scratch = check_tabulation u ws scratch n ∙ (rw (wrong_lent P u n))

  pub check_agrees : (l : Lent) (scratch : List ℕ)
      → Agrees P (step t ws (Call.check l scratch)) (reply P L (Request.check l (length scratch)))
  unfolding step reply
  check_agrees l scratch =
      record { answer = rw (check_number l scratch); holds = rw (check_words (lent_of t l) ws scratch) h }

  -- view

  pub view_agrees : Agrees P (step t ws Call.view) (reply P L Request.view)
  unfolding step reply
  view_agrees = record {
    answer = rw (h.is.is, image_view_refusal P L h.is.fit h.range, image_view P L h.is.fit h.range);
    holds = h;
  }

-- like ones

module _ (t ws : List ℕ) (l l' : Lent) (same : lent_of t l ≡ lent_of t l') where
  pub lookup_like : (key : ℕ) → step t ws (Call.lookup l key) ≡ step t ws (Call.lookup l' key)
  unfolding step
  lookup_like key = rw same

  pub check_like : (scratch scratch' : List ℕ) → length scratch ≡ length scratch'
      → step t ws (Call.check l scratch) ≡ step t ws (Call.check l' scratch')
  unfolding step
  check_like scratch scratch' f = rw (same, check_any_scratch (lent_of t l') ws scratch scratch' f)
