-- The laws of what specs/Tests.antt defines.
use Rattle.std.specs.Prelude.{ℕ, ◌<◌, ◌≤◌, ◌≡◌, refl, Bool, true, false, ◌&&◌, ◌||◌, ◌⊎◌, T, eqb, leb}
use Rattle.std.proofs.Common.{sym, inl, inr, arith, eqb-true, leb-true, leb-false}
use Rattle.std.proofs.lemmas.Bool.{false≢true, eqb-false}
use Rattle.basics.specs.Tests.{test}

pub eq? : (c d : ℕ) → (c ≡ d) ⊎ (c ≡ d → ⊥)
eq? c d = elim (test (eqb c d)) [ inl e ↦ inl (eqb-true c d e) | inr e ↦ inr (eqb-false c d e) ]

pub le? : (m n : ℕ) → (m ≤ n) ⊎ (n < m)
le? m n = elim (test (leb m n)) [ inl e ↦ inl (leb-true m n e) | inr e ↦ inr (leb-false m n e) ]

pub and_true : (p q : Bool) → (p && q) ≡ true → (p ≡ true) × (q ≡ true)
and_true true q e = (refl, e)
and_true false q e = absurd (false≢true e)

pub and_false : (p q : Bool) → q ≡ false → (p && q) ≡ false
and_false true q e = e
and_false false q e = refl

pub or_cases : (p q : Bool) → (p || q) ≡ true → (p ≡ true) ⊎ (q ≡ true)
or_cases true q e = inl refl
or_cases false q e = inr e

pub or_false : (p q : Bool) → (p || q) ≡ false → (p ≡ false) × (q ≡ false)
or_false true q e = absurd (false≢true (sym e))
or_false false q e = (refl, e)

-- two tests that pass together are equal
pub bool_ext : (p q : Bool) → (p ≡ true → q ≡ true) → (q ≡ true → p ≡ true) → p ≡ q
bool_ext true q f g = sym (f refl)
bool_ext false true f g = g refl
bool_ext false false f g = refl

-- a test that the checker computed
pub T_true : (t : Bool) → T t → t ≡ true
T_true true h = refl
T_true false h = absurd h

pub zero_one : ◌≡◌ {A = ℕ} 0 1 → ⊥
zero_one e = omega arith
