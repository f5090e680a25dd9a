-- What the exported call for the house tabulation answers and leaves: 1 for a lent tabulation of another length, which stays; otherwise the list that the house
-- rule gives, entry i for i from 0 to 2,559 (crates/house/specs/Rule.antt).
use Rattle.std.specs.Prelude.{ℕ, ◌≡◌, Bool, not, eqb, length}
use Rattle.std.proofs.Math.Path.{ap}
use Rattle.std.proofs.Math.Bool.{cond}
use mathlib.Core.List.{List, [], ◌∷◌, Memᴰ as In}
use Rattle.std.proofs.Common.{eq-eqb, ne_eqb}
use Rattle.refusals.specs.Refusal.{done, wrong_tabulation, first_refusal}
use Rattle.refusals.proofs.Refusals.{first_refusal_in}
use Rattle.hashing.specs.Hash.{tabulation_length}
use Rattle.house.specs.Rule.{house_table}

-- 1 where the lent tabulation is not of the right length
abbrev pub house_refusals : ℕ → List (ℕ × Bool)
house_refusals len = (wrong_tabulation, not (eqb len tabulation_length)) ∷ []

unfoldable pub house_answer : ℕ → ℕ
house_answer len = first_refusal (house_refusals len)

-- what is left in a lent tabulation
unfoldable pub housed : List ℕ → List ℕ
housed before = cond (eqb (house_answer (length before)) done) house_table before

-- The laws: what decides, and that no other number is given.
module _ (before : List ℕ) where
  pub house_refused : (length before ≡ tabulation_length → ⊥) → (house_answer (length before) ≡ wrong_tabulation) × (housed before ≡ before)
  unfolding house_answer housed
  house_refused n =
      let e : house_answer (length before) ≡ wrong_tabulation =
      ap (λ (t : Bool). cond (not t) wrong_tabulation done) (ne_eqb (length before) tabulation_length n) in
      (e, rw e)

  pub house_accepted : length before ≡ tabulation_length → (house_answer (length before) ≡ done) × (housed before ≡ house_table)
  unfolding house_answer housed
  house_accepted l =
      let e : house_answer (length before) ≡ done =
      ap (λ (t : Bool). cond (not t) wrong_tabulation done) (eq-eqb (length before) tabulation_length l) in
      (e, rw e)

pub house_answer_in : (len : ℕ) → In (house_answer len) (0 ∷ 1 ∷ [])
unfolding house_answer
house_answer_in len = first_refusal_in (house_refusals len)
