-- What the console prints, byte by byte: a row of fields parted by commas and ended by a newline. Assumes nothing.
use Rattle.std.specs.Prelude.{Option, Some, None, Result, Ok, Err, ℕ, List, [], ◌∷◌, ◌++◌}
use Rattle.refusals.specs.Refusal.{done}
use Rattle.grammar.specs.Decimal.{decimal}
use Rattle.grammar.specs.Parted.{newline, comma}
use Rattle.grammar.specs.Command.{letter_A, letter_W, letter_L}

-- ASCII: 'P', 'D', 'E', 'B', 'N' and 'R'
abbrev pub letter_P : ℕ
letter_P = 80

abbrev pub letter_D : ℕ
letter_D = 68

abbrev pub letter_E : ℕ
letter_E = 69

abbrev pub letter_B : ℕ
letter_B = 66

abbrev pub letter_N : ℕ
letter_N = 78

abbrev pub letter_R : ℕ
letter_R = 82

-- "fields parted by commas"; each printed line ends with a newline
abbrev pub row : List (List ℕ) → List ℕ
row [] = newline ∷ []
row (f ∷ []) = f ++ (newline ∷ [])
row (f ∷ g ∷ fs) = f ++ (comma ∷ row (g ∷ fs))

-- "It prints each of these lines with its answer": W,key,number
abbrev pub answer_row : ℕ → ℕ → ℕ → List ℕ
answer_row letter key answer = row ((letter ∷ []) ∷ decimal key ∷ decimal answer ∷ [])

unfoldable pub remove_row : ℕ → ℕ → List ℕ
remove_row key answer = answer_row letter_W key answer

-- "The program's A line gains the tier before its answer": A,key,tier,number
unfoldable pub insert_row : ℕ → ℕ → ℕ → List ℕ
insert_row key tier answer = row ((letter_A ∷ []) ∷ decimal key ∷ decimal tier ∷ decimal answer ∷ [])

-- "Look-up answers the tier or that the card isn't listed": document 01's number of a lookup's answer, whichever number
-- it is refused with, and its values, 1 and the tier, or 0
abbrev pub number : Result (Option ℕ) ℕ → ℕ
number (Ok looked) = done
number (Err refusal) = refusal

abbrev pub values : Result (Option ℕ) ℕ → List ℕ
values (Ok (Some tier)) = 1 ∷ tier ∷ []
values (Ok None) = 0 ∷ []
values (Err refusal) = []

-- "L prints the tier or N"; "a refusal as R and its number"
abbrev pub lookup_answer : Result (Option ℕ) ℕ → List ℕ
lookup_answer (Ok (Some tier)) = decimal tier
lookup_answer (Ok None) = letter_N ∷ []
lookup_answer (Err refusal) = letter_R ∷ decimal refusal

unfoldable pub lookup_row : ℕ → Result (Option ℕ) ℕ → List ℕ
lookup_row key looked = row ((letter_L ∷ []) ∷ decimal key ∷ lookup_answer looked ∷ [])

-- "A line of another form prints E,line number"
unfoldable pub error_row : ℕ → List ℕ
error_row line = row ((letter_E ∷ []) ∷ decimal line ∷ [])

-- "P,rack,pocket,card,next for each filled pocket in order"; "P and D lines gain it last": the tier
unfoldable pub slot_row : ℕ → ℕ → ℕ → ℕ → ℕ → List ℕ
slot_row table slot key next tier =
    row ((letter_P ∷ []) ∷ decimal table ∷ decimal slot ∷ decimal key ∷ decimal next ∷ decimal tier ∷ [])

-- "then D,card"; ".. and D lines gain it last"
unfoldable pub stash_row : ℕ → ℕ → List ℕ
stash_row key tier = row ((letter_D ∷ []) ∷ decimal key ∷ decimal tier ∷ [])

-- "if it is missing or of another length, the program prints B"
unfoldable pub book_row : List ℕ
book_row = row ((letter_B ∷ []) ∷ [])

-- no row of numbers of 32 bits is longer than "P" with five of them and its newline, nor an error row of 64 bits
abbrev pub row_room : ℕ
row_room = 57
