-- Whether every key has passed over smaller keys alone, told in one round over the slots. A round starts behind a slot
-- that no key passes, the barrier. What a key passes ends at its wall, the nearest slot before it that is empty or
-- holds no smaller key; so it stands right if it starts behind its wall. The walls of earlier slots lead to the wall of
-- the next, over all that they have behind them.
use Prim.Native.Nat.{ℕ, zero, suc, ◌+◌, ◌-◌, ◌<◌, ◌≤◌}
use Rattle.std.specs.Prelude.{◌≡◌, ◌↔◌, List, get_or}
use Rattle.std.proofs.Math.Path.{refl}
use Rattle.std.proofs.Common.{sym, ◌∙◌, ap, lt-ltb, le-ltb}
use Rattle.std.proofs.Math.Logic.{inl, inr}
use native.Mathlib.Omega.{arith}
use Rattle.probing.specs.Rule.{after}
use Rattle.probing.specs.Moves.{wrap, turn_slot, slot_turn, turn_word, wall}
use Rattle.probing.specs.Way.{PassesOver, at, on}

-- no key passes slot b: it is empty; or no slot is empty, and it holds the largest word
pub data Barrier (m : ℕ) (ws : List ℕ) (b : ℕ) : Type 0 where
  empty : get_or ws b 0 ≡ 0 → Barrier m ws b
  largest : ((p : ℕ) → p < m → (0 < get_or ws p 0) × (get_or ws p 0 ≤ get_or ws b 0)) → Barrier m ws b

-- the walls of the keys that come before turn n
pub record Walled (m : ℕ) (ws : List ℕ) (b : ℕ) (walls : List ℕ) (n : ℕ) : Type 0 where
  pub each : (i : ℕ) → i < n → 0 < turn_word m ws b i → get_or walls i 0 ≡ wall m ws b (turn_word m ws b i) i
