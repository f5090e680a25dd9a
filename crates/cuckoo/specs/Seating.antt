-- Where the keys that stay sit: `sits` and `occupant` of Graph as statements, one key to a slot. `Ends` names the two slots of a key, either first. Where
-- nothing is spare each key sits in one of its slots, and shows there (`look`). Assumes nothing.
use Prim.Native.Nat.{ℕ}
use Rattle.std.specs.Prelude.{◌≡◌, true, false, ◌&&◌, ◌||◌, ◌⊎◌}
use Rattle.std.proofs.Math.Path.{refl}
use Rattle.std.proofs.Common.{sym, ◌∙◌, ap, true≢false, eqb-true, eq-eqb, ne_eqb}
use Rattle.std.proofs.Math.Bool.{Bool, or-true}
use Rattle.std.proofs.Math.Logic.{inl, inr}
use mathlib.Core.List.Memᴰ.{head as here}
use mathlib.Core.List.{List, [], ◌∷◌, Memᴰ as In}
use Rattle.std.proofs.lemmas.Bool.{eqb-false, not-true}
use Rattle.std.proofs.Math.Dec.{eqb}
use Rattle.basics.specs.Tests.{test}
use Rattle.basics.specs.Sets.{keep, without, first, Sub}
use Rattle.cuckoo.specs.Graph.{joined, is_on_cycle, component, root, sits, occupant}
use Rattle.cuckoo.specs.Settling.{OnCycle, Settled}
use Rattle.cuckoo.specs.Joined.{Joined, past, along, back}

module _ (a b : ℕ → ℕ) where
  -- v is an end of c, and w the other
  pub data Ends (c v w : ℕ) : Type 0 where
    from_a : v ≡ a c → w ≡ b c → Ends c v w
    from_b : v ≡ b c → w ≡ a c → Ends c v w

  -- how p and q are joined past c, or over it, told by the two ends v and w of c
  pub data Over (R : List ℕ) (v w p q : ℕ) : Type 0 where
    past_it : Joined a b R p q → Over R v w p q
    by_v : Joined a b R p v → Joined a b R w q → Over R v w p q
    by_w : Joined a b R p w → Joined a b R v q → Over R v w p q

-- X has no cycle in the component of the slot p
module _ (a b : ℕ → ℕ) (X : List ℕ) (p : ℕ) where
  abbrev pub Bare : Type 0
  Bare = (c : ℕ) → In c X → Joined a b X p (a c) → Joined a b (without c X) (a c) (b c) → ⊥

module _ (a b : ℕ → ℕ) where
  -- c sits in v, where z is the root of its component
  pub data Sat (K : List ℕ) (z v c : ℕ) : Type 0 where
    tree_root : (OnCycle a b K z → ⊥) → c ≡ z → Sat K z v c
    tree_away : (OnCycle a b K z → ⊥) → (c ≡ z → ⊥) → (Joined a b (without c K) v (a z) → ⊥) → Sat K z v c
    cycle_root : OnCycle a b K z → c ≡ z → v ≡ a z → Sat K z v c
    cycle_away : OnCycle a b K z → (c ≡ z → ⊥) → (Joined a b (without c (without z K)) v (a z) → ⊥) → Sat K z v c

-- the Boolean rule, read as the laws above
module _ (a b : ℕ → ℕ) where
  -- z is a key of the component of v, on a cycle if any key there is
  pub record Rooted (K : List ℕ) (v z : ℕ) : Type 0 where
    pub z_in : In z K
    pub near : Joined a b K v (a z)
    pub flat : (OnCycle a b K z → ⊥) → (d : ℕ) → Joined a b K v (a d) → OnCycle a b K d → ⊥
