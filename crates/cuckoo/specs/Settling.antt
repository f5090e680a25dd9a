-- What stays when the largest spare keys are taken away: the forest and, in each component, the smallest key outside it (`seated_is`, `is_seated`). First
-- `is_on_cycle`, `cyclic` and `spare` of Graph as statements; then one round; then all rounds, `settle`; then the seated keys. Assumes nothing.
use Prim.Native.Nat.{ℕ, zero, suc, ◌<◌, ◌≤◌}
use Rattle.std.specs.Prelude.{◌≡◌, true, ◌⊎◌, ◌↔◌, length}
use Rattle.std.proofs.Math.Path.{refl}
use Rattle.std.proofs.Common.{sym, ◌∙◌, true≢false, arith, le_of_eq}
use Rattle.std.proofs.Math.Logic.{inl, inr}
use mathlib.Core.List.{List, [], ◌∷◌, Memᴰ as In}
use Rattle.basics.specs.Tests.{test}
use Rattle.basics.specs.Sets.{member, keep, without, last, Sub, Asc}
use Rattle.cuckoo.specs.Graph.{joined, is_on_cycle, component, cyclic, spare, settle, seated}
use Rattle.cuckoo.specs.Joined.{Joined, past, along, back}
use Rattle.cuckoo.specs.Forest.{forest}

module _ (a b : ℕ → ℕ) where
  -- c lies on a cycle: the other keys join its two slots as well
  pub record OnCycle (R : List ℕ) (c : ℕ) : Type 0 where
    pub on : In c R
    pub closed : Joined a b (without c R) (a c) (b c)

  -- the component of v has a cycle: the key d lies on one
  pub record Cyclic (R : List ℕ) (v : ℕ) : Type 0 where
    pub d : ℕ
    pub cycle : OnCycle R d
    pub near : Joined a b R v (a d)

  -- c lies on a cycle, and without c its component still has one
  pub record Spare (R : List ℕ) (c : ℕ) : Type 0 where
    pub cycle : OnCycle R c
    pub rest : Cyclic (without c R) (a c)

  -- nothing is spare: no component has two cycles
  abbrev pub Settled : List ℕ → Type 0
  Settled R = (d : ℕ) → Spare R d → ⊥

  -- one round: nothing is spare, or the largest spare key c goes
  pub record Goes (R : List ℕ) (c : ℕ) : Type 0 where
    pub spare : Spare R c
    pub largest : (d : ℕ) → Spare R d → d ≤ c

  pub data Round (R : List ℕ) (n : ℕ) : Type 0 where
    stop : Settled R → settle a b (suc n) R ≡ R → Round R n
    go_on : (c : ℕ) → Goes R c → settle a b (suc n) R ≡ settle a b n (without c R) → Round R n

module _ (a b : ℕ → ℕ) where
  module _ (S : List ℕ) where
    abbrev pub F : List ℕ
    F = forest a b S

    -- a key y of K, off the forest, in the component of x
    pub record Stand (K : List ℕ) (x : ℕ) : Type 0 where
      pub y : ℕ
      pub y_in : In y K
      pub y_off : In y F → ⊥
      pub near : Joined a b S (a x) (a y)

    -- a key stays exactly if it is of the forest, or the smallest key off the forest in its component
    pub data Stays (c : ℕ) : Type 0 where
      tree : In c F → Stays c
      smallest : ((x : ℕ) → In x S → (In x F → ⊥) → Joined a b S (a x) (a c) → c ≤ x) → Stays c
