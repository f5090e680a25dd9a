-- The laws of what specs/Decimal.antt defines.
use Rattle.std.specs.Prelude.{ℕ, zero, suc, ◌+◌, ◌*◌, ◌/◌, ◌%◌, ◌^◌, ◌≤◌, ◌<◌, ◌≡◌, refl, List, [], ◌∷◌, ◌++◌, length}
use Rattle.std.proofs.Common.{sym, ◌∙◌, ap, inl, inr, pow-suc, arith, lt-ltb, le-ltb, length-append}
use Rattle.basics.proofs.Tests.{le?}
use Rattle.grammar.specs.Decimal.{digit, digits, decimal}

digits_small : (k n : ℕ) → n < 10 → digits k n ≡ digit n ∷ []
unfolding digits
digits_small zero n h = refl
digits_small (suc k) n h = rw (lt-ltb n 10 h)

digits_large : (k n : ℕ) → 10 ≤ n → digits (suc k) n ≡ digits k (n / 10) ++ (digit (n % 10) ∷ [])
unfolding digits
digits_large k n h = rw (le-ltb n 10 h)

-- any bound that is enough gives the same digits
digits_same : (k m n : ℕ) → n ≤ k → n ≤ m → digits k n ≡ digits m n
digits_same zero m n h l = digits_small zero n (omega arith) ∙ sym (digits_small m n (omega arith))
digits_same (suc k) zero n h l = digits_small (suc k) n (omega arith) ∙ sym (digits_small zero n (omega arith))
digits_same (suc k) (suc m) n h l =
    elim (le? 10 n) [
      | inr g ↦ digits_small (suc k) n g ∙ sym (digits_small (suc m) n g)
      | inl g ↦
          digits_large k n g
          ∙ ap (λ (l : List ℕ). l ++ (digit (n % 10) ∷ [])) (digits_same k m (n / 10) (omega arith) (omega arith))
          ∙ sym (digits_large m n g)
    ]

pub decimal_small : (n : ℕ) → n < 10 → decimal n ≡ digit n ∷ []
unfolding decimal
decimal_small n h = digits_small n n h

pub decimal_large : (n : ℕ) → 10 ≤ n → decimal n ≡ decimal (n / 10) ++ (digit (n % 10) ∷ [])
unfolding decimal
decimal_large zero h = absurd (omega arith)
decimal_large (suc k) h =
    digits_large k (suc k) h ∙ ap (λ (l : List ℕ). l ++ (digit (suc k % 10) ∷ [])) (digits_same k (suc k / 10) (suc k / 10) (omega arith) (omega arith))

-- a digit behind a number that is not 0
pub decimal_more : (n d : ℕ) → 0 < n → d < 10 → decimal (10 * n + d) ≡ decimal n ++ (digit d ∷ [])
decimal_more n d h l =
    let q : (10 * n + d) / 10 ≡ n = omega arith in
    let r : (10 * n + d) % 10 ≡ d = omega arith in
    decimal_large (10 * n + d) (omega arith) ∙ rw (q, r)

-- what holds of the numbers below 10, and of every n for which it holds of n / 10, holds of all
pub by_digits : (P : ℕ → Type 0) → ((n : ℕ) → n < 10 → P n) → ((n : ℕ) → 10 ≤ n → P (n / 10) → P n) → (n : ℕ) → P n
by_digits P few more n = go n n (omega arith)
  where
    go : (k n : ℕ) → n ≤ k → P n
    go zero n h = few n (omega arith)
    go (suc k) n h = elim (le? 10 n) [ inr g ↦ few n g | inl g ↦ more n g (go k (n / 10) (omega arith)) ]

-- how long: at least one digit, and at most k digits below 10 ^ k
pub decimal_some : (n : ℕ) → 0 < length (decimal n)
decimal_some n =
    elim (le? 10 n) [
      | inr g ↦ rw (decimal_small n g) (omega arith)
      | inl g ↦ rw (decimal_large n g, length-append) (omega arith)
    ]

pub decimal_length : (k n : ℕ) → n < 10 ^ suc k → length (decimal n) ≤ suc k
decimal_length zero n h = rw (decimal_small n h) (omega arith)
decimal_length (suc k) n h =
    elim (le? 10 n) [
      | inr g ↦ rw (decimal_small n g) (omega arith)
      | inl g ↦
          let l : n / 10 < 10 ^ suc k = omega (arith, pow-suc 10 (suc k)) in
          rw (decimal_large n g, length-append) (omega (arith, decimal_length k (n / 10) l))
    ]

-- a number of 32 bits has at most 10 digits, one of 64 bits at most 20
pub digits_32 : (n : ℕ) → n ≤ 4294967295 → length (decimal n) ≤ 10
digits_32 n h = decimal_length 9 n (omega arith)

pub digits_64 : (n : ℕ) → n < 2 ^ 64 → length (decimal n) ≤ 20
digits_64 n h = decimal_length 19 n (omega arith)
