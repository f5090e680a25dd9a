-- "A number is 0 to 4,294,967,295 without leading zeros": which texts are numbers, and of which value. The grammar accepts exactly the decimal
-- writings of these numbers (`number_decimal`, `decimal_number`). Assumes nothing.
use Rattle.std.specs.Prelude.{Option, Some, None, ℕ, ◌+◌, ◌-◌, ◌*◌, Bool, not, ◌&&◌, List, [], ◌∷◌, eqb}
use Rattle.std.proofs.Math.Bool.{true, false, cond}
use Rattle.std.proofs.Math.Dec.{leb}

-- "0 to 4,294,967,295"
abbrev pub largest : ℕ
largest = 4294967295

-- ASCII: 48 is '0', 57 is '9'
abbrev pub is_digit : ℕ → Bool
is_digit b = leb 48 b && leb b 57

unfoldable pub all_digits : List ℕ → Bool
all_digits [] = true
all_digits (b ∷ t) = is_digit b && all_digits t

-- a text that is not empty, and whose first digit is 0 only if it is the only one
unfoldable pub no_leading_zero : List ℕ → Bool
no_leading_zero [] = false
no_leading_zero (b ∷ []) = true
no_leading_zero (b ∷ c ∷ t) = not (eqb b 48)

-- the value of digits that come behind the number n
unfoldable pub value : ℕ → List ℕ → ℕ
value n [] = n
value n (b ∷ t) = value (10 * n + (b - 48)) t

-- the number that a text writes, if it does
unfoldable pub number_of : List ℕ → Option ℕ
number_of t = cond (no_leading_zero t && all_digits t && leb (value 0 t) largest) (Some (value 0 t)) None

-- ---- what the loop of `number_in` computes
-- digits that come behind n, read one after the other; the first that is none, or that makes the number too large, ends it
unfoldable pub read : ℕ → List ℕ → Option ℕ
read n [] = Some n
read n (b ∷ t) =
    cond (is_digit b && leb (10 * n + (b - 48)) largest) (read (10 * n + (b - 48)) t) None
