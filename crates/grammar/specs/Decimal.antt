-- A number in decimal, as the console prints it, in ASCII. Assumes nothing.
use Rattle.std.specs.Prelude.{ℕ, zero, suc, ◌+◌, ◌/◌, ◌%◌, cond, List, [], ◌∷◌, ◌++◌, ltb}

-- ASCII: 48 is '0', 57 is '9'
abbrev pub digit : ℕ → ℕ
digit d = 48 + d

-- the digits of n, the last one after those of n / 10; the first number only ends the recursion, and n is always enough
unfoldable pub digits : ℕ → ℕ → List ℕ
digits zero n = digit n ∷ []
digits (suc k) n =
    let more = digits k (n / 10) ++ (digit (n % 10) ∷ []) in
    cond (ltb n 10) (digit n ∷ []) more

-- the digits of a number, the most significant first
unfoldable pub decimal : ℕ → List ℕ
decimal n = digits n n
