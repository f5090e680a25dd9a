-- The laws of what specs/Row.antt defines.
use Rattle.std.specs.Prelude.{Option, Some, None, Result, Ok, Err, ℕ, ◌≡◌, refl, List, [], ◌∷◌, length, get_or}
use Rattle.std.proofs.Common.{ap, arith}
use Rattle.refusals.specs.Refusal.{done}
use Rattle.grammar.specs.Decimal.{decimal}
use Rattle.grammar.specs.Row.{letter_N, letter_R, number, values, lookup_answer}

-- The laws. What a lookup's row shows of the number and the values: the tier of a key that is listed, N of one that is not, the number of a refusal.
pub lookup_listed : (looked : Result (Option ℕ) ℕ) (tier : ℕ) → values looked ≡ 1 ∷ tier ∷ [] → lookup_answer looked ≡ decimal tier
lookup_listed (Ok (Some t)) tier e = ap (λ (l : List ℕ). decimal (get_or l 1 0)) e
lookup_listed (Ok None) tier e = absurd (omega (arith, ap length e))
lookup_listed (Err refusal) tier e = absurd (omega (arith, ap length e))

pub lookup_absent : (looked : Result (Option ℕ) ℕ) → values looked ≡ 0 ∷ [] → lookup_answer looked ≡ letter_N ∷ []
lookup_absent (Ok (Some t)) e = absurd (omega (arith, ap length e))
lookup_absent (Ok None) e = refl
lookup_absent (Err refusal) e = absurd (omega (arith, ap length e))

pub lookup_refused : (looked : Result (Option ℕ) ℕ) → (number looked ≡ done → ⊥) → lookup_answer looked ≡ letter_R ∷ decimal (number looked)
lookup_refused (Ok (Some tier)) h = absurd (h refl)
lookup_refused (Ok None) h = absurd (h refl)
lookup_refused (Err refusal) h = refl
