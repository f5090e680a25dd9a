-- Adding by displacement: the words stay ordered, and have the carried key besides. Assumes nothing.
use Rattle.std.specs.Prelude.{ℕ, zero, suc, ◌<◌, ◌≤◌, ◌≡◌, refl, ◌⊎◌, length, get_or, set}
use Rattle.std.proofs.Common.{sym, ◌∙◌, ap, arith, length-set, get_or-set_same, get_or-set_other}
use Rattle.std.proofs.Math.Logic.{inl, inr}
use mathlib.Core.List.{List, Memᴰ as In}
use borrow.Author.Tests.{eq-eqb, ne_eqb, lt-ltb, le-ltb}
use Rattle.basics.specs.Sets.{Sub}
use Rattle.probing.specs.Rule.{after}
use Rattle.probing.specs.Moves.{displace, add}
use Rattle.probing.specs.Way.{PassesOver, at, Ahead}
use Rattle.probing.specs.Unique.{Ordered, Contains}

-- m words that hold the keys of S and are ordered
pub record Arranged (h : ℕ → ℕ) (m : ℕ) (S ws : List ℕ) : Type 0 where
  pub long : length ws ≡ m
  pub ordered : Ordered h m ws
  pub contains : Contains ws S
