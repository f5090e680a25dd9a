-- Why the console answers the lines of its input and no others: whoever takes the input byte by byte, and makes the calls of `Line` as the
-- console's session does, hands on `lines_of` the input. Of a call only its contract is used. That the session makes them so (`take_byte`, `serve`)
-- is to be read there: no contract can say what was read. Assumes nothing.
use Rattle.std.specs.Prelude.{ℕ, ◌≡◌, Bool, true, false, List, [], ◌∷◌, ◌++◌, eqb, length}
use Rattle.grammar.specs.Parted.{newline}
use Rattle.lines.specs.Buffer.{Buffers}
use Rattle.lines.specs.declared.Line.{Line}

-- what `push` and `is_empty` promise of a line; `new` promises `Buffers line []`
abbrev pub Fed : Line → ℕ → Line → Type 0
Fed line byte r = (l : List ℕ) → Buffers line l → Buffers r (l ++ (byte ∷ []))

abbrev pub LineTold : Line → Bool → Type 0
LineTold line r = (l : List ℕ) → Buffers line l → r ≡ eqb (length l) 0

-- `Run line input handed`: with this line so far and this input to come, these lines are handed on. A newline hands the line on and an empty one
-- begins; any other byte is fed; the end hands the line on unless it is empty.
pub data Run : Line → List ℕ → List Line → Type 0 where
  ended : {line next : Line} {rest : List ℕ} {handed : List Line}
      → Buffers next [] → Run next rest handed
      → Run line (newline ∷ rest) (line ∷ handed)
  fed : {line next : Line} {byte : ℕ} {rest : List ℕ} {handed : List Line}
      → (byte ≡ newline → ⊥) → Fed line byte next → Run next rest handed
      → Run line (byte ∷ rest) handed
  over : {line : Line} → LineTold line true → Run line [] []
  last : {line : Line} → LineTold line false → Run line [] (line ∷ [])

-- each line holds the text at its place
pub data Hold : List Line → List (List ℕ) → Type 0 where
  none : Hold [] []
  some : {line : Line} {l : List ℕ} {handed : List Line} {ls : List (List ℕ)}
      → Buffers line l → Hold handed ls
      → Hold (line ∷ handed) (l ∷ ls)
