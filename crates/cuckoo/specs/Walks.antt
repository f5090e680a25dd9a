-- Walks along the keys, so that a reader can believe `joined` and `is_on_cycle` of Graph.antt: two slots are joined exactly if a walk leads from
-- the one to the other, and a key lies on a cycle exactly if a closed walk goes through it that uses no key twice. Assumes nothing.
use Rattle.std.specs.Prelude.{ℕ, ◌≡◌, true, ◌↔◌}
use Rattle.std.proofs.Math.Path.{refl}
use Rattle.std.proofs.Math.Logic.{inl, inr}
use mathlib.Core.List.Memᴰ.{head as here}
use mathlib.Core.List.Memᴰ.{tail as there}
use mathlib.Core.List.{List, [], ◌∷◌, ◌++◌, Memᴰ as In}
use mathlib.Core.List.Memᴰ.{append_cases as in-append}
use mathlib.Core.List.Memᴰ.{not-nil as in-nil}
use Rattle.basics.specs.Sets.{without, Sub}
use Rattle.cuckoo.specs.Graph.{label, joined, is_on_cycle}
use Rattle.cuckoo.specs.Joined.{Joined, past, along, back}
use Rattle.cuckoo.specs.Settling.{OnCycle}
use Rattle.cuckoo.specs.Seating.{Ends, from_a, from_b}

-- nothing stands twice in the list
pub data Distinct : List ℕ → Type 0 where
  nil : Distinct []
  new : {c : ℕ} {cs : List ℕ} → (In c cs → ⊥) → Distinct cs → Distinct (c ∷ cs)

module _ (a b : ℕ → ℕ) where
  -- A walk from slot u to slot v over the keys cs, in their order: each is a key of R, and each step goes from one end of its key to the other.
  pub data Walk (R : List ℕ) : List ℕ → ℕ → ℕ → Type 0 where
    stay : {u v : ℕ} → u ≡ v → Walk R [] u v
    step : {c u w v : ℕ} {cs : List ℕ} → In c R → Ends a b c u w → Walk R cs w v → Walk R (c ∷ cs) u v

  -- the slots that the steps of a walk lead to, in their order (of a closed walk: its start at the end)
  unfoldable pub reached : {R cs : List ℕ} {u v : ℕ} → Walk R cs u v → List ℕ
  reached (stay e) = []
  reached (step {w = w} i e k) = w ∷ reached k

  -- a walk that uses no key twice and is in no slot twice
  pub record SimpleWalk (R : List ℕ) (u v : ℕ) : Type 0 where
    pub keys : List ℕ
    pub walk : Walk R keys u v
    pub keys_once : Distinct keys
    pub slots_once : Distinct (u ∷ reached walk)

  -- a walk from a slot back to it, first along the key c, that uses no key twice
  pub record ClosedWalk (R : List ℕ) (c : ℕ) : Type 0 where
    pub start : ℕ
    pub rest : List ℕ
    pub walk : Walk R (c ∷ rest) start start
    pub once : Distinct (c ∷ rest)
