-- What the code does in a table, as functions: nobody need believe them, the theorems of this crate say what they come
-- to.
use Rattle.std.specs.Prelude.{ℕ, zero, suc, ◌+◌, ◌-◌, Bool, true, cond, ◌&&◌, ◌||◌, List, eqb, ltb, leb, get_or, set}
use Rattle.probing.specs.Rule.{after}

-- over smaller keys, from slot s on: the first of n slots that is empty or holds c or a larger key; m, which is no slot
-- (`get_or` gives 0), where there is none
unfoldable pub stop : ℕ → ℕ → List ℕ → ℕ → ℕ → ℕ
stop m zero ws c s = m
stop m (suc n) ws c s = cond (ltb 0 (get_or ws s 0) && ltb (get_or ws s 0) c) (stop m n ws c (after m s)) s

-- "The smaller number keeps a contested pocket and the larger steps on": c is carried to slot s, with at most n slots
-- to go
unfoldable pub displace : ℕ → ℕ → List ℕ → ℕ → ℕ → List ℕ
displace m zero ws c s = ws
displace m (suc n) ws c s =
    cond (eqb (get_or ws s 0) 0) (set ws s c)
    (cond (ltb c (get_or ws s 0)) (displace m n (set ws s c) (get_or ws s 0) (after m s)) (displace m n ws c (after m s)))

module _ (h : ℕ → ℕ) (m : ℕ) where
  unfoldable pub add : List ℕ → ℕ → List ℕ
  add ws c = displace m m ws c (h c)

-- The round over all slots that tells whether words are an image. It starts behind a slot b, so that b comes last. A
-- number below 2 m as a slot, round the end:
unfoldable pub wrap : ℕ → ℕ → ℕ
wrap m x = cond (ltb x m) x (x - m)

-- the slot of turn i, and the turn of slot s
abbrev pub turn_slot : ℕ → ℕ → ℕ → ℕ
turn_slot m b i = wrap m (i + (b + 1))

abbrev pub slot_turn : ℕ → ℕ → ℕ → ℕ
slot_turn m b s = wrap m (s + (m - (b + 1)))

-- a key c is right at turn i: it is not below `low`, and starts behind its wall w
unfoldable pub right : ℕ → ℕ → (ℕ → ℕ) → ℕ → ℕ → ℕ → ℕ → Bool
right m b h low c w i =
    let j = slot_turn m b (h c) in
    leb low c && (leb w j && leb j i)

module _ (m : ℕ) (ws : List ℕ) (b : ℕ) where
  -- what stands at turn i
  abbrev pub turn_word : ℕ → ℕ
  turn_word i = get_or ws (turn_slot m b i) 0

  -- the wall of a key c that comes after n turns: the last of them with an empty slot or no smaller key, counted from
  -- 1; 0 where all are smaller
  unfoldable pub wall : ℕ → ℕ → ℕ
  wall c zero = zero
  wall c (suc n) = cond (ltb 0 (turn_word n) && ltb (turn_word n) c) (wall c n) (suc n)

  module _ (h : ℕ → ℕ) (low : ℕ) where
    -- the slot of turn i is empty, or its key right
    unfoldable pub settled : ℕ → Bool
    settled i = eqb (turn_word i) 0 || right m b h low (turn_word i) (wall (turn_word i) i) i

    -- n turns from i on
    unfoldable pub all_settled : ℕ → ℕ → Bool
    all_settled zero i = true
    all_settled (suc n) i = settled i && all_settled n (suc i)
