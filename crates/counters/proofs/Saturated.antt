-- Std's saturating sum is the definition's step, for a count of 32 bits.
use Rattle.std.proofs.Common.{ℕ, ◌≡◌, ◌+◌, ◌<◌, min, inl, inr, arith}
use borrow.Author.Tests.{ltb-true, ltb-false}
use Rattle.std.specs.Prelude.{ltb, refl}
use Rattle.basics.specs.Tests.{test}
use Rattle.counters.specs.Counters.{one_more, max_count}

pub saturated : (n : ℕ) → n < 4294967296 → min (n + 1) 4294967295 ≡ one_more n
unfolding one_more
saturated n l = elim (test (ltb n max_count)) [
  | inl t ↦ let h = ltb-true n max_count t in rw t (omega arith)
  | inr t ↦ let h = ltb-false n max_count t in rw t (omega arith)
]

-- and at the limit it is the limit
pub stays : (n : ℕ) → n ≡ 4294967295 → 4294967295 ≡ one_more n
unfolding one_more
stays n e = rw e refl
