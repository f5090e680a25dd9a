-- A table in which every key has passed over smaller keys alone is determined by its keys. Assumes nothing.
use Rattle.std.specs.Prelude.{ℕ, zero, suc, ◌<◌, ◌≡◌, refl, length, get_or}
use Rattle.std.proofs.Common.{sym, ◌∙◌, ap, inl, inr, arith, ext_get_or}
use mathlib.Core.List.{List, Memᴰ as In}
use Rattle.probing.specs.Way.{PassesOver, at, on}

-- Every slot on the way of a standing key before its own holds a smaller key. (Past the end `get_or` gives 0: no law
-- needs to ask where the words end.)
pub record Ordered (h : ℕ → ℕ) (m : ℕ) (ws : List ℕ) : Type 0 where
  pub over : (c p : ℕ) → 0 < c → get_or ws p 0 ≡ c → PassesOver m ws c (h c) p

-- the keys that stand in the words are those of S
pub record Contains (ws S : List ℕ) : Type 0 where
  pub keys : (c : ℕ) → In c S → 0 < c
  pub all : (c : ℕ) → In c S → (p : ℕ) × (get_or ws p 0 ≡ c)
  pub only : (c p : ℕ) → 0 < c → get_or ws p 0 ≡ c → In c S
