-- The laws of what specs/Rows.antt defines.
use Rattle.std.specs.Prelude.{ℕ, zero, suc, ◌+◌, ◌/◌, ◌%◌, Bool, true, ◌&&◌, List, [], ◌∷◌, ◌++◌, T}
use Rattle.basics.specs.Sets.{without}
use Rattle.basics.specs.Lists.{same}
use Rattle.cuckoo.specs.Graph.{label, joined, component, is_on_cycle, cyclic, spare, settle, seated, stash, root, sits, occupant, next, slot_key, slot_next}
use Rattle.cuckoo.specs.Rows.{SlotRow, all}

abbrev rows : List SlotRow
rows =
    -- K1: all slots empty
    record { set = []; table_0 = 0 ∷ 0 ∷ 0 ∷ 0 ∷ 0 ∷ 0 ∷ 0 ∷ 0 ∷ []; table_1 = 0 ∷ 0 ∷ 0 ∷ 0 ∷ 0 ∷ 0 ∷ 0 ∷ 0 ∷ []; aside = [] }
    -- K2: a lone key in both its slots, its own next
    ∷ record { set = 17 ∷ []; table_0 = 0 ∷ 0 ∷ 17 ∷ 17 ∷ 0 ∷ 0 ∷ 0 ∷ 0 ∷ []; table_1 = 0 ∷ 0 ∷ 17 ∷ 17 ∷ 0 ∷ 0 ∷ 0 ∷ 0 ∷ []; aside = [] }
    -- K3: no cycle, the smallest key in both its slots
    ∷ record { set = 1 ∷ 17 ∷ []; table_0 = 0 ∷ 0 ∷ 1 ∷ 17 ∷ 0 ∷ 0 ∷ 0 ∷ 0 ∷ []; table_1 = 1 ∷ 17 ∷ 17 ∷ 1 ∷ 0 ∷ 0 ∷ 0 ∷ 0 ∷ []; aside = [] }
    -- K4: a cycle of two
    ∷ record { set = 1 ∷ 65 ∷ []; table_0 = 0 ∷ 0 ∷ 1 ∷ 65 ∷ 0 ∷ 0 ∷ 0 ∷ 0 ∷ []; table_1 = 65 ∷ 1 ∷ 0 ∷ 0 ∷ 0 ∷ 0 ∷ 0 ∷ 0 ∷ []; aside = [] }
    -- K5: three keys with the same two slots, the largest stashed
    ∷ record { set = 1 ∷ 65 ∷ 129 ∷ []; table_0 = 0 ∷ 0 ∷ 1 ∷ 65 ∷ 0 ∷ 0 ∷ 0 ∷ 0 ∷ []; table_1 = 65 ∷ 1 ∷ 0 ∷ 0 ∷ 0 ∷ 0 ∷ 0 ∷ 0 ∷ []; aside = 129 ∷ [] }
    -- K6, with room for two
    ∷ record { set = 1 ∷ 65 ∷ 129 ∷ 193 ∷ []; table_0 = 0 ∷ 0 ∷ 1 ∷ 65 ∷ 0 ∷ 0 ∷ 0 ∷ 0 ∷ []; table_1 = 65 ∷ 1 ∷ 0 ∷ 0 ∷ 0 ∷ 0 ∷ 0 ∷ 0 ∷ []; aside = 129 ∷ 193 ∷ [] }
    -- K7: K5 less 65, and 129 leaves the stash
    ∷ record { set = 1 ∷ 129 ∷ []; table_0 = 0 ∷ 0 ∷ 1 ∷ 129 ∷ 0 ∷ 0 ∷ 0 ∷ 0 ∷ []; table_1 = 129 ∷ 1 ∷ 0 ∷ 0 ∷ 0 ∷ 0 ∷ 0 ∷ 0 ∷ []; aside = [] }
    -- K8: the smallest key on the cycle decides, not the smallest of the component
    ∷ record { set = 17 ∷ 65 ∷ 129 ∷ []; table_0 = 0 ∷ 0 ∷ 65 ∷ 129 ∷ 0 ∷ 0 ∷ 0 ∷ 0 ∷ []; table_1 = 129 ∷ 17 ∷ 17 ∷ 65 ∷ 0 ∷ 0 ∷ 0 ∷ 0 ∷ []; aside = [] }
    -- K9: two cycles that a key joins
    ∷ record { set = 1 ∷ 33 ∷ 34 ∷ 65 ∷ 98 ∷ []; table_0 = 0 ∷ 0 ∷ 1 ∷ 33 ∷ 34 ∷ 65 ∷ 0 ∷ 0 ∷ []; table_1 = 65 ∷ 1 ∷ 0 ∷ 0 ∷ 33 ∷ 34 ∷ 0 ∷ 0 ∷ []; aside = 98 ∷ [] }
    -- K10: K9 less 33, and the stash is empty
    ∷ record { set = 1 ∷ 34 ∷ 65 ∷ 98 ∷ []; table_0 = 0 ∷ 0 ∷ 1 ∷ 65 ∷ 34 ∷ 98 ∷ 0 ∷ 0 ∷ []; table_1 = 65 ∷ 1 ∷ 0 ∷ 0 ∷ 98 ∷ 34 ∷ 0 ∷ 0 ∷ []; aside = [] }
    -- K11: the largest key is off every cycle, and is seated
    ∷ record { set = 1 ∷ 34 ∷ 65 ∷ 98 ∷ 225 ∷ []; table_0 = 0 ∷ 0 ∷ 1 ∷ 34 ∷ 34 ∷ 65 ∷ 0 ∷ 0 ∷ []; table_1 = 65 ∷ 225 ∷ 0 ∷ 0 ∷ 225 ∷ 1 ∷ 0 ∷ 0 ∷ []; aside = 98 ∷ [] }
    ∷ []

-- the rows follow from the definitions, all at once
pub board : T (all rows)
unfolding same without label joined component is_on_cycle cyclic spare settle seated stash root sits occupant next slot_key slot_next
board = tt
