-- One table of m slots ('pockets'), a word each, 0 for an empty one, as definitions that compute (request Nine of
-- document 02). This file is what a reader must believe; the others of this crate are theorems about it. A key c (a
-- 'card') starts at slot `h c`. A set of keys is a strictly ascending list of numbers, none 0.
use Rattle.std.specs.Prelude.{ℕ, zero, suc, ◌+◌, ◌%◌, Bool, true, false, cond, ◌||◌, List, [], ◌∷◌, eqb, ltb, get_or, set, replicate}
use Rattle.ordered.specs.Keys.{with_key}

-- "steps on by one, round the end"
unfoldable pub after : ℕ → ℕ → ℕ
after m s = (s + 1) % m

-- "each in the first empty pocket on its way": c, from slot s on, of at most n slots
unfoldable pub place : ℕ → ℕ → List ℕ → ℕ → ℕ → List ℕ
place m zero ws c s = ws
place m (suc n) ws c s = cond (eqb (get_or ws s 0) 0) (set ws s c) (place m n ws c (after m s))

-- "a look-up steps from the card's start to the card (yes), or to an empty pocket, a larger card or a full round (no)":
-- from slot s on, of at most n slots
unfoldable pub looks : ℕ → ℕ → List ℕ → ℕ → ℕ → Bool
looks m zero ws c s = false
looks m (suc n) ws c s =
    cond (eqb (get_or ws s 0) c) true
    (cond (eqb (get_or ws s 0) 0 || ltb c (get_or ws s 0)) false (looks m n ws c (after m s)))

-- the keys that stand in words, ascending
unfoldable pub table_keys : List ℕ → List ℕ
table_keys [] = []
table_keys (w ∷ ws) = cond (eqb w 0) (table_keys ws) (with_key w (table_keys ws))

module _ (h : ℕ → ℕ) (m : ℕ) where
  -- keys placed one after the other
  unfoldable pub placed : List ℕ → List ℕ → List ℕ
  placed [] ws = ws
  placed (c ∷ S) ws = placed S (place m m ws c (h c))

  -- "The image of a set is what its cards give when placed ascending, each in the first empty pocket on its way."
  unfoldable pub table_image : List ℕ → List ℕ
  table_image S = placed S (replicate m 0)

  -- a look-up of c
  unfoldable pub look : List ℕ → ℕ → Bool
  look ws c = looks m m ws c (h c)
