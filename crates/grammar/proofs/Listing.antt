-- Document 01's worked listing through the definitions, by computation, each card at tier 0: its input splits into these lines and commands, and
-- its listed answers give these bytes. Beside it, the same with tiers, lines that are of another form, and the edges of numbers and of the end of
-- the input. Assumes nothing.
use Rattle.std.specs.Prelude.{Some, None, Ok, Err, ℕ, ◌≡◌, refl, List, [], ◌∷◌, ◌++◌, map, replicate}
use Prim.Native.Char.{code}
use Prim.Native.String.{String, [] as end, ◌∷◌ as ◌then◌}
use Rattle.grammar.specs.Decimal.{digits, decimal}
use Rattle.grammar.specs.Number.{all_digits, no_leading_zero, value, number_of}
use Rattle.grammar.specs.Parted.{parted, but_empty_last, lines_of}
use Rattle.grammar.specs.Command.{command_of}
use Rattle.grammar.specs.Sizes.{sizes_of}
use Rattle.grammar.specs.Row.{insert_row, remove_row, lookup_row, error_row, slot_row, stash_row, book_row}
use Rattle.grammar.specs.declared.Command.TheVariants.{Insert, Remove, Lookup}

-- the bytes of an ASCII text
abbrev bytes : String → List ℕ
bytes end = []
bytes (c then s) = code c ∷ bytes s

-- "input 2,1 / A,65 / A,1 / A,33 / A,97 / L,65 (one a line)", with station 0 behind the sizes and a tier behind each card that is added
pub listing_lines : lines_of (bytes "2,1,0\nA,65,0\nA,1,0\nA,33,0\nA,97,0\nL,65\n")
    ≡ bytes "2,1,0" ∷ bytes "A,65,0" ∷ bytes "A,1,0" ∷ bytes "A,33,0" ∷ bytes "A,97,0" ∷ bytes "L,65" ∷ []
unfolding lines_of but_empty_last parted
listing_lines = refl

pub listing_sizes : sizes_of (bytes "2,1,0") ≡ Some (record { r = 2; s = 1; station = 0 })
unfolding sizes_of parted number_of no_leading_zero all_digits value
listing_sizes = refl

pub listing_commands : map command_of (bytes "A,65,0" ∷ bytes "A,1,0" ∷ bytes "A,33,0" ∷ bytes "A,97,0" ∷ bytes "L,65" ∷ [])
    ≡ Some (Insert 65 0) ∷ Some (Insert 1 0) ∷ Some (Insert 33 0) ∷ Some (Insert 97 0) ∷ Some (Lookup 65) ∷ []
unfolding command_of parted number_of no_leading_zero all_digits value
listing_commands = refl

-- ".. prints:"
pub listing_output :
    insert_row 65 0 0
    ++ (insert_row 1 0 0
    ++ (insert_row 33 0 0
    ++ (insert_row 97 0 8
    ++ (lookup_row 65 (Ok (Some 0)) ++ (slot_row 0 1 1 33 0 ++ (slot_row 1 0 33 1 0 ++ stash_row 65 0))))))
    ≡ bytes "A,65,0,0\nA,1,0,0\nA,33,0,0\nA,97,0,8\nL,65,0\nP,0,1,1,33,0\nP,1,0,33,1,0\nD,65,0\n"
unfolding insert_row lookup_row slot_row stash_row decimal digits
listing_output = refl

-- the same with tiers; a tier above 7 has the right form, and its answer is 9
pub tier_commands :
    map command_of
    (bytes "A,65,7" ∷ bytes "A,1,3" ∷ bytes "A,33,5" ∷ bytes "A,97,8" ∷ bytes "A,97,4294967295" ∷ bytes "W,97" ∷ bytes "L,65" ∷ [])
    ≡ Some (Insert 65 7) ∷ Some (Insert 1 3) ∷ Some (Insert 33 5) ∷ Some (Insert 97 8) ∷ Some (Insert 97 4294967295) ∷ Some (Remove 97) ∷ Some (Lookup 65) ∷ []
unfolding command_of parted number_of no_leading_zero all_digits value
tier_commands = refl

pub tier_output :
    insert_row 65 7 0
    ++ (insert_row 97 8 9
    ++ (remove_row 97 7 ++ (lookup_row 65 (Ok (Some 7)) ++ (slot_row 0 1 1 33 3 ++ (slot_row 1 0 33 1 5 ++ stash_row 65 7)))))
    ≡ bytes "A,65,7,0\nA,97,8,9\nW,97,7\nL,65,7\nP,0,1,1,33,3\nP,1,0,33,1,5\nD,65,7\n"
unfolding insert_row remove_row lookup_row slot_row stash_row decimal digits
tier_output = refl

-- the rows that the listing does not have
pub other_rows :
    remove_row 4294967295 7 ++ (lookup_row 17 (Ok None) ++ (lookup_row 0 (Err 5) ++ (error_row 4294967296 ++ book_row)))
    ≡ bytes "W,4294967295,7\nL,17,N\nL,0,R5\nE,4294967296\nB\n"
unfolding remove_row lookup_row error_row book_row decimal digits
other_rows = refl

-- the end of the input: the last newline may be missing; nothing is no line; an empty line is one
pub ends : map lines_of (bytes "2,1\nA,65" ∷ bytes "2,1\nA,65\n" ∷ bytes "" ∷ bytes "\n" ∷ bytes "2,1\n\n\n" ∷ [])
    ≡ (bytes "2,1" ∷ bytes "A,65" ∷ [])
    ∷ (bytes "2,1" ∷ bytes "A,65" ∷ [])
    ∷ []
    ∷ ([] ∷ [])
    ∷ (bytes "2,1" ∷ [] ∷ [] ∷ [])
    ∷ []
unfolding lines_of but_empty_last parted
ends = refl

-- the ends of the range, and what is no number: nothing, a leading zero, one too many, a sign, a space, another letter
pub numbers : map number_of (bytes "0" ∷ bytes "4294967295" ∷ []) ≡ Some 0 ∷ Some 4294967295 ∷ []
unfolding number_of no_leading_zero all_digits value
numbers = refl

pub no_numbers :
    map number_of
    (bytes "" ∷ bytes "00" ∷ bytes "065" ∷ bytes "4294967296" ∷ bytes "+1" ∷ bytes "-1" ∷ bytes " 1" ∷ bytes "1 " ∷ bytes "1/" ∷ bytes "1:" ∷ [])
    ≡ replicate 10 None
unfolding number_of no_leading_zero all_digits value
no_numbers = refl

-- lines of another form: empty, with a carriage return, a space, quotes, a further comma, a small letter, another letter, a field too few
pub no_commands :
    map command_of
    (bytes "" ∷ bytes "A,65,0\r" ∷ bytes "A, 65,0" ∷ bytes " A,65,0" ∷ bytes "A,\"65\",0" ∷ bytes "\"A\",65,0" ∷ bytes "A,65,0,"
    ∷ bytes "A,65,0,1" ∷ bytes ",A,65,0" ∷ bytes "a,65,0" ∷ bytes "w,65" ∷ bytes "B,65" ∷ bytes "B,65,0" ∷ bytes "AA,65,0"
    ∷ bytes "WW,65" ∷ bytes "A" ∷ bytes "W" ∷ bytes "W65" ∷ bytes "W," ∷ bytes ",65" ∷ bytes "," ∷ bytes ",," ∷ bytes "2,1" ∷ [])
    ≡ replicate 23 None
unfolding command_of parted number_of no_leading_zero all_digits value
no_commands = refl

-- an add without a tier, with one that is no number; a tier where none belongs
pub no_tiers :
    map command_of
    (bytes "A,65" ∷ bytes "A,65," ∷ bytes "A,,0" ∷ bytes "A,65,00" ∷ bytes "A,65,07" ∷ bytes "A,65,4294967296" ∷ bytes "A,065,0"
    ∷ bytes "W,5,0" ∷ bytes "L,5,0" ∷ [])
    ≡ replicate 9 None
unfolding command_of parted number_of no_leading_zero all_digits value
no_tiers = refl

pub no_sizes :
    map sizes_of
    (bytes "" ∷ bytes "2" ∷ bytes "2,1" ∷ bytes "2,1,0\r" ∷ bytes "2, 1,0" ∷ bytes "2,1," ∷ bytes "2,1,0," ∷ bytes "2,1,0,0" ∷ bytes ",2,1" ∷ bytes "02,1,0"
    ∷ bytes "2,01,0" ∷ bytes "2,1,00" ∷ bytes "4294967296,1,0" ∷ bytes "2,1,4294967296" ∷ bytes "2,,0" ∷ bytes "A,65,0" ∷ [])
    ≡ replicate 16 None
unfolding sizes_of parted number_of no_leading_zero all_digits value
no_sizes = refl
