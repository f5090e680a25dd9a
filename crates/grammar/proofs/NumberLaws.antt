-- The laws of what specs/Number.antt defines.
use Rattle.std.specs.Prelude.{Some, None, ℕ, ◌+◌, ◌-◌, ◌*◌, ◌/◌, ◌%◌, ◌≤◌, ◌<◌, Bool, not, ◌&&◌, List, [], ◌∷◌, ◌++◌, eqb, length, get_or, drop}
use Rattle.std.proofs.Math.Path.{◌≡◌, refl}
use Rattle.std.proofs.Common.{sym, ◌∙◌, ap, true≢false, append-nil, zero-add, arith, drop_of_length-le, drop-cons, add-one}
use Rattle.std.proofs.Math.Bool.{true, false, cond}
use Rattle.std.proofs.lemmas.Bool.{false≢true}
use Rattle.std.proofs.Math.Logic.{inl, inr}
use Rattle.std.proofs.Math.Dec.{leb}
use Rattle.std.proofs.Math.Seq.{append_snoc}
use borrow.Author.Tests.{le-leb, lt-leb, leb-true, leb-false, ne_eqb, eqb-false, not-true}
use Rattle.basics.specs.Tests.{test}
use Rattle.basics.proofs.Tests.{and_true, and_false}
use Rattle.grammar.specs.Decimal.{digit, decimal}
use Rattle.grammar.proofs.Decimal.{decimal_small, decimal_large, decimal_more, by_digits}
use Rattle.grammar.specs.Number.{largest, is_digit, all_digits, no_leading_zero, value, number_of, read}

value_le : (t : List ℕ) (n : ℕ) → n ≤ value n t
unfolding value
value_le [] n = omega arith
value_le (b ∷ t) n = omega (arith, value_le t (10 * n + (b - 48)))

read_number : (t : List ℕ) (n : ℕ) → n ≤ largest → read n t ≡ cond (all_digits t && leb (value n t) largest) (Some (value n t)) None
unfolding read all_digits value
read_number [] n h = rw (le-leb n largest h)
read_number (b ∷ t) n h =
    elim (test (is_digit b)) [
      | inr e ↦ rw e
      | inl e ↦ elim (test (leb (10 * n + (b - 48)) largest)) [
        | inl f ↦ rw (e, f) (read_number t (10 * n + (b - 48)) (leb-true _ _ f))
        | inr f ↦
            let m = value_le t (10 * n + (b - 48)) in
            let g = leb-false (10 * n + (b - 48)) largest f in
            rw (e, f, and_false (all_digits t) _ (lt-leb (value (10 * n + (b - 48)) t) largest (omega arith)))
      ]
    ]

pub number_read : (t : List ℕ) → no_leading_zero t ≡ true → number_of t ≡ read 0 t
unfolding number_of
number_read t e = rw e (sym (read_number t 0 (omega arith)))

pub number_bad : (t : List ℕ) → no_leading_zero t ≡ false → number_of t ≡ None
unfolding number_of
number_bad t e = rw e

-- the test before the loop
pub leading_none : (t : List ℕ) → length t ≡ 0 → no_leading_zero t ≡ false
unfolding no_leading_zero
leading_none [] e = refl
leading_none (b ∷ t) e = absurd (omega arith)

pub leading_one : (t : List ℕ) → length t ≡ 1 → no_leading_zero t ≡ true
unfolding no_leading_zero
leading_one [] e = absurd (omega arith)
leading_one (b ∷ []) e = refl
leading_one (b ∷ c ∷ t) e = absurd (omega arith)

pub leading_more : (t : List ℕ) → 1 < length t → no_leading_zero t ≡ not (eqb (get_or t 0 0) 48)
unfolding no_leading_zero
leading_more [] h = absurd (omega arith)
leading_more (b ∷ []) h = absurd (omega arith)
leading_more (b ∷ c ∷ t) h = refl

-- one turn of the loop, at the byte with index i
module _ (t : List ℕ) (i n : ℕ) (h : i < length t) where
  pub read_low : get_or t i 0 < 48 → read n (drop i t) ≡ None
  unfolding read
  read_low l = rw (drop-cons t i 0 h, read, lt-leb 48 (get_or t i 0) l)

  pub read_high : 48 ≤ get_or t i 0 → 57 < get_or t i 0 → read n (drop i t) ≡ None
  unfolding read
  read_high k l = rw (drop-cons t i 0 h, read, le-leb 48 (get_or t i 0) k, lt-leb (get_or t i 0) 57 l)

  pub read_over : 48 ≤ get_or t i 0 → get_or t i 0 ≤ 57 → largest < 10 * n + (get_or t i 0 - 48) → read n (drop i t) ≡ None
  unfolding read
  read_over k l g =
      rw (drop-cons t i 0 h, read, le-leb 48 (get_or t i 0) k, le-leb (get_or t i 0) 57 l, lt-leb (10 * n + (get_or t i 0 - 48)) largest g)

  pub read_step : 48 ≤ get_or t i 0 → get_or t i 0 ≤ 57 → 10 * n + (get_or t i 0 - 48) ≤ largest
      → read n (drop i t) ≡ read (10 * n + (get_or t i 0 - 48)) (drop (i + 1) t)
  unfolding read
  read_step k l g =
      rw (drop-cons t i 0 h, read, le-leb 48 (get_or t i 0) k, le-leb (get_or t i 0) 57 l, le-leb (10 * n + (get_or t i 0 - 48)) largest g, add-one)

pub read_done : (t : List ℕ) (i n : ℕ) → length t ≤ i → read n (drop i t) ≡ Some n
unfolding read
read_done t i n h = rw (drop_of_length-le t h)

-- ---- the grammar accepts exactly the decimal writings
is_digit_true : (b : ℕ) → is_digit b ≡ true → (48 ≤ b) × (b ≤ 57)
is_digit_true b e = elim (test (leb 48 b)) [
  | inr f ↦ absurd (true≢false (sym e ∙ rw f))
  | inl f ↦ (leb-true 48 b f, leb-true b 57 (rw f at e))
]

digit_true : (b : ℕ) → 48 ≤ b → b ≤ 57 → is_digit b ≡ true
digit_true b l h = rw (le-leb 48 b l, le-leb b 57 h)

-- digits behind a number that is not 0 are the digits of its value
behind : (t : List ℕ) (n : ℕ) → 0 < n → all_digits t ≡ true → decimal n ++ t ≡ decimal (value n t)
unfolding all_digits value
behind [] n h e = append-nil (decimal n)
behind (b ∷ t) n h e =
    let (f, g) = and_true (is_digit b) (all_digits t) e in
    let (l, m) = is_digit_true b f in
    let d : digit (b - 48) ≡ b = omega arith in
    let s = decimal_more n (b - 48) h (omega arith) in
    sym (append_snoc (decimal n) b t)
    ∙ rw d at (ap (λ (p : List ℕ). p ++ t) (sym s))
    ∙ behind t (10 * n + (b - 48)) (omega arith) g

-- what holds of a text that is accepted
module _ (t : List ℕ) where
  pub accepted : {n : ℕ} → number_of t ≡ Some n
      → (no_leading_zero t ≡ true) × (all_digits t ≡ true) × (value 0 t ≤ largest) × (value 0 t ≡ n)
  unfolding number_of
  accepted {n} e = go (no_leading_zero t && all_digits t && leb (value 0 t) largest) refl e
    where
      go : (b : Bool) → (no_leading_zero t && all_digits t && leb (value 0 t) largest) ≡ b → cond b (Some (value 0 t)) None ≡ Some n
          → (no_leading_zero t ≡ true) × (all_digits t ≡ true) × (value 0 t ≤ largest) × (value 0 t ≡ n)
      go true f g =
          let (p, q) = and_true (no_leading_zero t && all_digits t) (leb (value 0 t) largest) f in
          let (k, l) = and_true (no_leading_zero t) (all_digits t) p in
          (k, l, leb-true _ _ q, cc)
      go false f g = absurd (let z : ◌≡◌ {A = ℕ} 0 1 = cc in omega arith)

  -- a byte that is no digit makes it no number
  pub not_digits : all_digits t ≡ false → number_of t ≡ None
  unfolding number_of
  not_digits e = elim (test (no_leading_zero t)) [ inl f ↦ rw (f, e) | inr f ↦ rw f ]

-- what is accepted is the decimal writing of its value
pub number_decimal : (t : List ℕ) {n : ℕ} → number_of t ≡ Some n → t ≡ decimal n
unfolding no_leading_zero all_digits value
number_decimal t {n} e =
    let (z, d, l, v) = accepted t e in
    go t z d ∙ ap decimal v
  where
    one : (b : ℕ) → is_digit b ≡ true → b ∷ [] ≡ decimal (b - 48)
    one b f =
        let (l, m) = is_digit_true b f in
        let d : digit (b - 48) ≡ b = omega arith in
        sym (rw d at (decimal_small (b - 48) (omega arith)))

    go : (t : List ℕ) → no_leading_zero t ≡ true → all_digits t ≡ true → t ≡ decimal (value 0 t)
    go [] z d = absurd (false≢true z)
    go (b ∷ []) z d = let (f, g) = and_true (is_digit b) true d in rw zero-add (one b f)
    go (b ∷ c ∷ t) z d =
        let (f, g) = and_true (is_digit b) (all_digits (c ∷ t)) d in
        let (l, m) = is_digit_true b f in
        let ne = eqb-false b 48 (not-true (eqb b 48) z) in
        rw zero-add (ap (λ (p : List ℕ). p ++ (c ∷ t)) (one b f) ∙ behind (c ∷ t) (b - 48) (omega arith) g)

pub number_largest : (t : List ℕ) {n : ℕ} → number_of t ≡ Some n → n ≤ largest
number_largest t e = let (z, d, l, v) = accepted t e in omega arith

-- the decimal writing of a number is accepted, with the number as its value
starts : List ℕ → Bool
starts [] = false
starts (b ∷ t) = not (eqb b 48)

starts_more : (t r : List ℕ) → starts t ≡ true → starts (t ++ r) ≡ true
unfolding starts
starts_more [] r e = absurd (false≢true e)
starts_more (b ∷ t) r e = e

starts_leading : (t : List ℕ) (b : ℕ) → starts t ≡ true → no_leading_zero (t ++ (b ∷ [])) ≡ true
unfolding starts no_leading_zero
starts_leading [] b e = absurd (false≢true e)
starts_leading (c ∷ []) b e = e
starts_leading (c ∷ d ∷ t) b e = e

all_digits_more : (t : List ℕ) (b : ℕ) → all_digits t ≡ true → is_digit b ≡ true → all_digits (t ++ (b ∷ [])) ≡ true
unfolding all_digits
all_digits_more [] b e f = rw f
all_digits_more (c ∷ t) b e f =
    let (g, h) = and_true (is_digit c) (all_digits t) e in
    rw g (all_digits_more t b h f)

value_more : (t : List ℕ) (b n : ℕ) → value n (t ++ (b ∷ [])) ≡ 10 * value n t + (b - 48)
unfolding value
value_more [] b n = refl
value_more (c ∷ t) b n = value_more t b (10 * n + (c - 48))

record NumberWritten (n : ℕ) : Type 0 where
  first : 0 < n → starts (decimal n) ≡ true
  leading : no_leading_zero (decimal n) ≡ true
  digits : all_digits (decimal n) ≡ true
  worth : value 0 (decimal n) ≡ n

written : (n : ℕ) → NumberWritten n
unfolding starts no_leading_zero all_digits value
written = by_digits NumberWritten few more
  where
    few : (n : ℕ) → n < 10 → NumberWritten n
    few n h = record {
      first = λ l. rw (decimal_small n h, ne_eqb (digit n) 48 (λ e. omega arith));
      leading = rw (decimal_small n h);
      digits = rw (decimal_small n h, digit_true (digit n) (omega arith) (omega arith));
      worth = rw (decimal_small n h) (omega arith);
    }

    more : (n : ℕ) → 10 ≤ n → NumberWritten (n / 10) → NumberWritten n
    more n h w =
        let b = digit (n % 10) in
        let s = w.first (omega arith) in
        record {
          first = λ l. rw (decimal_large n h) (starts_more (decimal (n / 10)) (b ∷ []) s);
          leading = rw (decimal_large n h) (starts_leading (decimal (n / 10)) b s);
          digits = rw (decimal_large n h) (all_digits_more (decimal (n / 10)) b w.digits (digit_true b (omega arith) (omega arith)));
          worth = rw (decimal_large n h) (value_more (decimal (n / 10)) b 0 ∙ omega (arith, w.worth));
        }

pub decimal_number : (n : ℕ) → n ≤ largest → number_of (decimal n) ≡ Some n
unfolding number_of
decimal_number n h =
    let w = written n in
    rw (w.leading, w.digits, w.worth, le-leb n largest h)

-- the bytes of a number are digits
pub decimal_digits : (n : ℕ) → all_digits (decimal n) ≡ true
decimal_digits n = (written n).digits
