-- Worked examples on a board of five slots, so that a wrong definition in Rule.antt is refused in this very crate: the
-- place of a key is its last digit but one, modulo 5.
use Rattle.std.specs.Prelude.{ℕ, ◌/◌, ◌%◌, Bool, not, ◌&&◌, List, [], ◌∷◌, T}
use Rattle.basics.specs.Lists.{same}
use Rattle.probing.specs.Rule.{after, place, placed, table_image, looks, look}
use Rattle.probing.specs.Moves.{displace, add, wrap, wall, right, settled, all_settled}
use Rattle.probing.specs.Orders.{add_all}

abbrev board : ℕ → ℕ
board c = c / 10 % 5

abbrev full : List ℕ
full = 43 ∷ 11 ∷ 47 ∷ 90 ∷ 42 ∷ []

abbrev part : List ℕ
part = 41 ∷ 10 ∷ 12 ∷ 0 ∷ 40 ∷ []

-- a key is at least 10; b is a slot that no key passes
abbrev canonical : ℕ → List ℕ → Bool
canonical b ws = all_settled 5 ws b board 10 5 0

abbrev pub probing_rows : Bool
probing_rows =
    -- images: round the end, and all slots filled
    same (table_image board 5 (11 ∷ 42 ∷ 43 ∷ 47 ∷ 90 ∷ [])) full
    && same (table_image board 5 (10 ∷ 12 ∷ 40 ∷ 41 ∷ [])) part
    && same (table_image board 5 []) (0 ∷ 0 ∷ 0 ∷ 0 ∷ 0 ∷ [])
    -- the same by adding in other orders
    && same (add_all board 5 (90 ∷ 47 ∷ 43 ∷ 42 ∷ 11 ∷ []) (table_image board 5 [])) full
    && same (add_all board 5 (43 ∷ 90 ∷ 11 ∷ 47 ∷ 42 ∷ []) (table_image board 5 [])) full
    && same (add board 5 (40 ∷ 12 ∷ 0 ∷ 0 ∷ 0 ∷ []) 10) (40 ∷ 10 ∷ 12 ∷ 0 ∷ 0 ∷ [])
    -- look-up: found after the end; ended by an empty slot, by a larger key, by a full round
    && look board 5 full 90
    && not (look board 5 part 20)
    && not (look board 5 full 44)
    && not (look board 5 full 99)
    -- on any words: a key that stands behind an empty slot or a larger key is not found
    && not (look board 5 (50 ∷ 0 ∷ 0 ∷ 0 ∷ 0 ∷ []) 90)
    && look board 5 (51 ∷ 51 ∷ 0 ∷ 0 ∷ 0 ∷ []) 51
    -- tampered: a key too far on, a key twice, a number below 10
    && canonical 3 full
    && canonical 3 part
    && not (canonical 2 (51 ∷ 50 ∷ 0 ∷ 0 ∷ 0 ∷ []))
    && not (canonical 0 (0 ∷ 50 ∷ 0 ∷ 0 ∷ 0 ∷ []))
    && not (canonical 4 (50 ∷ 50 ∷ 0 ∷ 0 ∷ 0 ∷ []))
    && not (canonical 1 (9 ∷ 0 ∷ 0 ∷ 0 ∷ 0 ∷ []))
