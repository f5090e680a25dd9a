-- The way from a slot to the root of its tree: the loop that walks it and keeps the slot of the smallest key, as a function that computes; and
-- the law that this is the smallest key that parts the slot from the root. Assumes nothing.
use Prim.Native.Nat.{ℕ, zero, suc, ◌≤◌}
use Rattle.std.specs.Prelude.{cond, eqb, ltb, get_or}
use mathlib.Core.List.{List, Memᴰ as In}
use Rattle.basics.specs.Sets.{without}
use Rattle.cuckoo.specs.Joined.{Joined}

module _ (other : ℕ → ℕ → ℕ) where
  -- at most n steps from v towards the root: the slot of the smallest key on the way, s being that of the smallest before
  unfoldable pub lowest_slot : ℕ → List ℕ → ℕ → ℕ → ℕ
  lowest_slot zero h v s = s
  lowest_slot (suc n) h v s =
      cond (eqb (get_or h v 0) 0) s (lowest_slot n h (other v (get_or h v 0)) (cond (ltb (get_or h v 0) (get_or h s 0)) v s))

module _ (a b : ℕ → ℕ) where
  -- the key c of the forest F lies on the way from v to p: without c they are not joined
  pub record OnWay (F : List ℕ) (v p c : ℕ) : Type 0 where
    pub mem : In c F
    pub parts : Joined a b (without c F) v p → ⊥

  -- and no key on the way is smaller
  pub record SmallestOnWay (F : List ℕ) (v p z : ℕ) : Type 0 where
    pub on : OnWay F v p z
    pub low : (c : ℕ) → OnWay F v p c → z ≤ c
