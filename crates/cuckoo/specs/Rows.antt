-- Worked examples: document 01's "Cards on a test board" over plain ends, so that a wrong definition in Graph.antt is refused in this very
-- crate. The whole table, with every word and the hashes of the test tabulation, stands in the crate `layout`.
use Rattle.std.specs.Prelude.{ℕ, zero, suc, ◌+◌, ◌/◌, ◌%◌, Bool, true, ◌&&◌, List, [], ◌∷◌, ◌++◌, T}
use Rattle.basics.specs.Sets.{without}
use Rattle.basics.specs.Lists.{same}
use Rattle.cuckoo.specs.Graph.{label, joined, component, is_on_cycle, cyclic, spare, settle, seated, stash, root, sits, occupant, next, slot_key, slot_next}

-- the test board's slots of a key below 256: 0 to 3 in table 0, 4 to 7 in table 1
abbrev pub board_0 : ℕ → ℕ
board_0 c = c % 4

abbrev pub board_1 : ℕ → ℕ
board_1 c = 4 + c / 16 % 4

-- key and next of the n slots from v on, in the image of S
abbrev pub contents : List ℕ → ℕ → ℕ → List ℕ
contents S v zero = []
contents S v (suc n) = slot_key board_0 board_1 S v ∷ slot_next board_0 board_1 S v ∷ contents S (suc v) n

-- a row: a set, key and next of its eight slots, and its stash
pub record SlotRow : Type 0 where
  pub set : List ℕ
  pub table_0 : List ℕ
  pub table_1 : List ℕ
  pub aside : List ℕ

abbrev pub follows : SlotRow → Bool
follows R =
    same (contents R.set 0 8) (R.table_0 ++ R.table_1) && same (stash board_0 board_1 R.set) R.aside

abbrev pub all : List SlotRow → Bool
all [] = true
all (R ∷ Rs) = follows R && all Rs
