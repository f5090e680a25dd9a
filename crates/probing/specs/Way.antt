-- The way of a key: every slot is on it, and what it passes over. Assumes nothing.
use Rattle.std.specs.Prelude.{ℕ, zero, suc, ◌+◌, ◌<◌, ◌≤◌, ◌≡◌, true, false, ◌&&◌, ◌⊎◌, List, length, get_or, set, eqb, ltb}
use Rattle.std.proofs.Common.{sym, ◌∙◌, ap, inl, inr, arith, mod-eq_of_lt, get_or-set_same, get_or-set_other, lt-ltb, le-ltb, eq-eqb, ne_eqb}
use Rattle.std.proofs.Math.Bool.{and-false}
use Rattle.std.proofs.Math.Nat.{mod_self}
use Rattle.std.proofs.Math.ListN.{get_or-eq_default}
use Rattle.probing.specs.Rule.{after, looks}
use Rattle.probing.specs.Moves.{stop}

-- e is reached from s in fewer than n steps
pub data Ahead (m n s e : ℕ) : Type 0 where
  straight : s ≤ e → e < m → e < s + n → Ahead m n s e
  round : e < s → s < m → e + m < s + n → Ahead m n s e

-- from s to p, c passes over smaller keys alone
pub data PassesOver (m : ℕ) (ws : List ℕ) (c : ℕ) : ℕ → ℕ → Type 0 where
  at : {s p : ℕ} → s ≡ p → PassesOver m ws c s p
  on : {s p : ℕ} → 0 < get_or ws s 0 → get_or ws s 0 < c → PassesOver m ws c (after m s) p → PassesOver m ws c s p
