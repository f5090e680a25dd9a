-- A tree of keys that hangs from a slot p: X has no cycle in the component of p. Each key of the tree has one far end, which is cut off from p
-- when the key is taken away; each slot of the tree but p is the far end of one key. So what p holds fixes who sits where: keys are placed from p
-- outwards, and a key with one end reached must sit at its other end. Assumes nothing.
use Rattle.std.specs.Prelude.{ℕ, ◌≡◌, refl, Bool, true, false, not, cond, ◌||◌, ◌⊎◌, eqb}
use Rattle.std.proofs.Common.{sym, ◌∙◌, ap, true≢false, eqb-true, eq-eqb, ne_eqb}
use Rattle.std.proofs.Math.Logic.{inl, inr}
use mathlib.Core.List.{List, Memᴰ as In}
use Rattle.std.proofs.lemmas.Bool.{not-true}
use Rattle.basics.specs.Sets.{keep, without, Sub}
use Rattle.cuckoo.specs.Graph.{joined}
use Rattle.cuckoo.specs.Joined.{Joined}
use Rattle.cuckoo.specs.Seating.{Ends, from_a, from_b, Bare}

module _ (a b : ℕ → ℕ) where
  -- v is the far end of the key c of X: without c it is cut off from p
  pub record Far (X : List ℕ) (p c v : ℕ) : Type 0 where
    pub c_in : In c X
    pub w : ℕ
    pub ends : Ends a b c v w
    pub cut : Joined a b (without c X) v p → ⊥
