-- What a line of the console's input says: "A (add), W (withdraw) or L (look up) with a card", and "The program's A line gains the tier". A line of
-- any other form is `None`. The forms accept exactly the texts `pair_text`, `key_text` and `add_text` (`pair_exact`, `pair_given`, `command_exact`,
-- `key_given`, `add_given`). Line 1 is in Sizes. Assumes nothing.
use Rattle.std.specs.Prelude.{Option, Some, None, ℕ, ◌≤◌, ◌≡◌, cond, List, [], ◌∷◌, ◌++◌, eqb}
use Rattle.grammar.specs.Decimal.{decimal}
use Rattle.grammar.specs.Number.{number_of, largest}
use Rattle.grammar.specs.Parted.{comma, fields}
use Rattle.grammar.specs.declared.Command.{Command}
use Rattle.grammar.specs.declared.Command.TheVariants.{Insert, Remove, Lookup}

-- ASCII: 'A', 'W' and 'L'
abbrev pub letter_A : ℕ
letter_A = 65

abbrev pub letter_W : ℕ
letter_W = 87

abbrev pub letter_L : ℕ
letter_L = 76

-- two numbers
abbrev pub pair : Option ℕ → Option ℕ → Option (ℕ × ℕ)
pair (Some a) (Some b) = Some (a, b)
pair (Some a) None = None
pair None y = None

-- a text of two fields is read as two numbers; one of fewer or more fields is of another form
abbrev pub pair_in : List (List ℕ) → Option (ℕ × ℕ)
pair_in [] = None
pair_in (f ∷ []) = None
pair_in (f ∷ g ∷ []) = pair (number_of f) (number_of g)
pair_in (f ∷ g ∷ h ∷ fs) = None

-- two numbers parted by a comma
unfoldable pub pair_of : List ℕ → Option (ℕ × ℕ)
pair_of text = pair_in (fields text)

-- "W (withdraw) or L (look up) with a card": a letter and a key
abbrev pub by_letter : ℕ → ℕ → Option Command
by_letter b key = cond (eqb b letter_W) (Some (Remove key)) (cond (eqb b letter_L) (Some (Lookup key)) None)

abbrev pub command_with : List ℕ → Option ℕ → Option Command
command_with [] x = None
command_with (b ∷ []) (Some key) = by_letter b key
command_with (b ∷ []) None = None
command_with (b ∷ c ∷ f) x = None

-- "A (add)", "The program's A line gains the tier": the letter, a key and a tier
abbrev pub insertion : Option (ℕ × ℕ) → Option Command
insertion (Some (key, tier)) = Some (Insert key tier)
insertion None = None

abbrev pub with_tier : List ℕ → Option (ℕ × ℕ) → Option Command
with_tier [] x = None
with_tier (b ∷ []) x = cond (eqb b letter_A) (insertion x) None
with_tier (b ∷ c ∷ f) x = None

-- a line of two fields is W or L, one of three is A; one of fewer or more fields is of another form
abbrev pub command : List (List ℕ) → Option Command
command [] = None
command (f ∷ []) = None
command (f ∷ g ∷ []) = command_with f (number_of g)
command (f ∷ g ∷ h ∷ []) = with_tier f (pair (number_of g) (number_of h))
command (f ∷ g ∷ h ∷ i ∷ fs) = None

unfoldable pub command_of : List ℕ → Option Command
command_of line = command (fields line)

-- how a form is written
abbrev pub pair_text : ℕ → ℕ → List ℕ
pair_text a b = decimal a ++ (comma ∷ decimal b)

abbrev pub key_text : ℕ → ℕ → List ℕ
key_text letter key = letter ∷ comma ∷ decimal key

abbrev pub add_text : ℕ → ℕ → List ℕ
add_text key tier = letter_A ∷ comma ∷ pair_text key tier

-- what an accepted line is
abbrev pub Pair_text : Option (ℕ × ℕ) → List ℕ → Type 0
Pair_text (Some (a, b)) l = (l ≡ pair_text a b) × (a ≤ largest) × (b ≤ largest)
Pair_text None l = Unit {0}

abbrev pub Command_text : Option Command → List ℕ → Type 0
Command_text (Some (Insert key tier)) l = (l ≡ add_text key tier) × (key ≤ largest) × (tier ≤ largest)
Command_text (Some (Remove key)) l = (l ≡ key_text letter_W key) × (key ≤ largest)
Command_text (Some (Lookup key)) l = (l ≡ key_text letter_L key) × (key ≤ largest)
Command_text None l = Unit {0}

-- ---- a line longer than "4294967295,4294967295,4294967295" is of another form
abbrev pub longest : ℕ
longest = 32
