-- Cycles as a reader means them, so that `cyclic`, `spare` and `settle` of Graph.antt can be believed: a key is spare exactly if it lies on a
-- cycle and its component has two different cycles, a round takes the largest key on a cycle there, and one cycle is left. Assumes nothing.
use Prim.Native.Nat.{ℕ, zero, suc, ◌≤◌}
use Rattle.std.specs.Prelude.{◌≡◌, refl, true, ◌⊎◌, ◌↔◌, length}
use Rattle.std.proofs.Common.{inl, inr}
use mathlib.Core.List.Memᴰ.{head as here}
use mathlib.Core.List.{List, [], ◌∷◌, Memᴰ as In}
use mathlib.Core.List.Memᴰ.{eq_of_singleton as in-singleton}
use mathlib.Core.List.Memᴰ.{not-nil as in-nil}
use Rattle.basics.specs.Sets.{without, Sub, Asc}
use Rattle.cuckoo.specs.Graph.{cyclic, spare, settle, seated}
use Rattle.cuckoo.specs.Joined.{Joined}
use Rattle.cuckoo.specs.Settling.{OnCycle, Cyclic, Spare, Settled, Goes, stop, go_on}
use Rattle.cuckoo.specs.Seating.{Ends}
use Rattle.cuckoo.specs.Walks.{Distinct, nil, new, stay, step, reached, ClosedWalk}

module _ (a b : ℕ → ℕ) where
  -- A cycle of R (document 01's 'loop'): a closed walk along at least one key of R and along none twice.
  pub record Cycle (R : List ℕ) : Type 0 where
    pub key : ℕ
    pub closed : ClosedWalk a b R key

  -- the keys of a cycle
  abbrev pub keys : {R : List ℕ} → Cycle R → List ℕ
  keys γ = γ.key ∷ γ.closed.rest

  -- a cycle that is in no slot twice
  abbrev pub Simple : {R : List ℕ} → Cycle R → Type 0
  Simple γ = Distinct (reached a b γ.closed.walk)

  -- some key lies on one of the two cycles and not on the other
  pub data Differ {R : List ℕ} (γ δ : Cycle R) : Type 0 where
    first_only : (x : ℕ) → In x (keys γ) → (In x (keys δ) → ⊥) → Differ γ δ
    second_only : (x : ℕ) → In x (keys δ) → (In x (keys γ) → ⊥) → Differ γ δ

  -- a cycle in the component of slot v
  pub record CycleAt (R : List ℕ) (v : ℕ) : Type 0 where
    pub cycle : Cycle R
    pub near : (d : ℕ) → In d (keys cycle) → Joined a b R v (a d)

  -- the component of slot v has more than one cycle
  pub record TwoCycles (R : List ℕ) (v : ℕ) : Type 0 where
    pub one : CycleAt R v
    pub two : CycleAt R v
    pub differ : Differ one.cycle two.cycle

  -- c lies on a cycle, its component has more than one, and no key on any cycle of that component is larger
  pub record LargestOnCycle (R : List ℕ) (c : ℕ) : Type 0 where
    pub cycle : OnCycle a b R c
    pub two : TwoCycles R (a c)
    pub largest : (d : ℕ) → OnCycle a b R d → Joined a b R (a c) (a d) → d ≤ c
