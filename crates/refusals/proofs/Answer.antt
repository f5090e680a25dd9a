-- The laws of what specs/Answer.antt defines.
use Rattle.std.specs.Prelude.{ℕ, ◌≡◌, Result, Ok, Err, IsErrAnd}
use Rattle.std.proofs.Common.{arith, sym, ◌∙◌, ap}
use Rattle.refusals.specs.declared.Refusal.{Refusal}
use Rattle.refusals.specs.declared.Refusal.TheVariants.{WrongTabulation, WrongShape, ShortScratch, NotCanonical, BlankKey, KeyPresent, KeyAbsent}
use Rattle.refusals.specs.declared.Refusal.TheVariants.{StashFull, WrongTier, OtherTier, ShortTrail, WrongPrice, OtherIssue, NotRising}
use Rattle.refusals.specs.declared.Refusal.TheVariants.{NoneCounts, TableFull}
use Rattle.refusals.specs.Refusal.{done}
use Rattle.refusals.specs.Answer.{number_of, number}

-- no refusal has the number of "done"
pub refused : (e : Refusal) → number_of e ≡ done → ⊥
refused WrongTabulation q = absurd (omega (arith, q))
refused WrongShape q = absurd (omega (arith, q))
refused ShortScratch q = absurd (omega (arith, q))
refused NotCanonical q = absurd (omega (arith, q))
refused BlankKey q = absurd (omega (arith, q))
refused KeyPresent q = absurd (omega (arith, q))
refused KeyAbsent q = absurd (omega (arith, q))
refused StashFull q = absurd (omega (arith, q))
refused WrongTier q = absurd (omega (arith, q))
refused OtherTier q = absurd (omega (arith, q))
refused ShortTrail q = absurd (omega (arith, q))
refused WrongPrice q = absurd (omega (arith, q))
refused OtherIssue q = absurd (omega (arith, q))
refused NotRising q = absurd (omega (arith, q))
refused NoneCounts q = absurd (omega (arith, q))
refused TableFull q = absurd (omega (arith, q))

-- An answer whose number is n is a value exactly where n is "done".
pub ok_done : {A : Type 0} {r : Result A Refusal} {x : A} {n : ℕ} → r ≡ Ok x → number r ≡ n → n ≡ done
ok_done q e = sym e ∙ ap number q

pub err_refused : {A : Type 0} {r : Result A Refusal} {e : Refusal} {n : ℕ} → r ≡ Err e → number r ≡ n → n ≡ done → ⊥
err_refused {e = e} q m d = refused e (sym (ap number q) ∙ m ∙ d)

-- What `?` hands on of a refusal: that refusal.
pub passed_on : {A : Type 0} (r : Result A Refusal) (e : Refusal) → IsErrAnd r (λ (x : Refusal). x ≡ e) → r ≡ Err e
passed_on (Ok x) e h = absurd h
passed_on (Err x) e h = ap Err h
