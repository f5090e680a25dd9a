-- The pieces of a text between its separators: the lines of an input, and the fields of a line. That a reader who holds only the current line
-- sees these lines is `read_lines`; that one who holds only a `Line` does is `run_lines`, in Stream. Assumes nothing.
use Prim.Native.Nat.{ℕ, suc}
use Rattle.std.specs.Prelude.{◌≡◌, cond, eqb, length}
use mathlib.Core.List.{List, [], ◌∷◌, ◌++◌}

-- ASCII: 10 ends a line, 44 is ','
abbrev pub newline : ℕ
newline = 10

abbrev pub comma : ℕ
comma = 44

-- a byte in front of the first piece
abbrev pub ahead : ℕ → List (List ℕ) → List (List ℕ)
ahead b [] = (b ∷ []) ∷ []
ahead b (p ∷ ps) = (b ∷ p) ∷ ps

-- the pieces between the separators: one more than there are separators
unfoldable pub parted : ℕ → List ℕ → List (List ℕ)
parted sep [] = [] ∷ []
parted sep (b ∷ t) = cond (eqb b sep) ([] ∷ parted sep t) (ahead b (parted sep t))

-- "fields parted by commas, no quoting"
abbrev pub fields : List ℕ → List (List ℕ)
fields line = parted comma line

-- without the last piece if it is empty
unfoldable pub but_empty_last : List (List ℕ) → List (List ℕ)
but_empty_last [] = []
but_empty_last ([] ∷ []) = []
but_empty_last ((b ∷ p) ∷ []) = (b ∷ p) ∷ []
but_empty_last (p ∷ q ∷ ps) = p ∷ but_empty_last (q ∷ ps)

-- "A newline or the end of input ends a line; nothing after the last newline is no line."
unfoldable pub lines_of : List ℕ → List (List ℕ)
lines_of input = but_empty_last (parted newline input)

-- how many bytes stand before the first separator
unfoldable pub place_of : ℕ → List ℕ → ℕ
place_of sep [] = 0
place_of sep (b ∷ t) = cond (eqb b sep) 0 (suc (place_of sep t))

-- a text without a separator
abbrev pub Lacks : ℕ → List ℕ → Type 0
Lacks sep t = place_of sep t ≡ length t

-- what a reader hands on that takes the input byte by byte and has p of the current line: at a newline p, and at the end p if it is not empty
unfoldable pub read_on : List ℕ → List ℕ → List (List ℕ)
read_on [] [] = []
read_on (b ∷ p) [] = (b ∷ p) ∷ []
read_on p (b ∷ rest) = cond (eqb b newline) (p ∷ read_on [] rest) (read_on (p ++ (b ∷ [])) rest)
