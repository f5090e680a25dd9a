-- What line 1 of the console's input says: "Line 1 is r,s", and "line 1 of the program ends with the station". A line of any other form is `None`; the
-- form accepts exactly the texts `sizes_text` (`sizes_exact`, `sizes_given`). Assumes nothing.
use Rattle.std.specs.Prelude.{Option, Some, None, ℕ, ◌≤◌, ◌≡◌, List, [], ◌∷◌, ◌++◌}
use Rattle.grammar.specs.Decimal.{decimal}
use Rattle.grammar.specs.Number.{number_of, largest}
use Rattle.grammar.specs.Parted.{comma, fields}
use Rattle.grammar.specs.Command.{pair_in, pair_text}
use Rattle.grammar.specs.declared.Sizes.{Sizes}

-- a number, and the two behind it
abbrev pub sizes : Option ℕ → Option (ℕ × ℕ) → Option Sizes
sizes (Some r) (Some (s, station)) = Some (record { r = r; s = s; station = station })
sizes (Some r) None = None
sizes None y = None

-- a text of three fields is read as three numbers: the first, and two behind it; one of fewer or more fields is of another form
abbrev pub sizes_in : List (List ℕ) → Option Sizes
sizes_in [] = None
sizes_in (f ∷ fs) = sizes (number_of f) (pair_in fs)

-- "Line 1 is r,s", and it "ends with the station": r,s,station
unfoldable pub sizes_of : List ℕ → Option Sizes
sizes_of text = sizes_in (fields text)

-- how it is written
abbrev pub sizes_text : ℕ → ℕ → ℕ → List ℕ
sizes_text r s station = decimal r ++ (comma ∷ pair_text s station)

abbrev pub Sizes_text : Option Sizes → List ℕ → Type 0
Sizes_text (Some z) l = (l ≡ sizes_text z.r z.s z.station) × (z.r ≤ largest) × (z.s ≤ largest) × (z.station ≤ largest)
Sizes_text None l = Unit {0}
