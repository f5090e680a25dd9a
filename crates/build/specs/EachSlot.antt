-- A loop over slots that changes a word for each, and the list of a word for each slot. Assumes nothing.
use Rattle.std.specs.Prelude.{ℕ, zero, suc, List, [], ◌∷◌, get_or, set}

-- for the n slots from v on, ascending: the slot's word becomes f of the slot and of what it was
unfoldable pub each_slot : (ℕ → ℕ → ℕ) → ℕ → ℕ → List ℕ → List ℕ
each_slot f zero v words = words
each_slot f (suc n) v words = each_slot f n (suc v) (set words v (f v (get_or words v 0)))

-- f v, f (v + 1), ..: n of them
unfoldable pub listed : (ℕ → ℕ) → ℕ → ℕ → List ℕ
listed f zero v = []
listed f (suc n) v = f v ∷ listed f n (suc v)
