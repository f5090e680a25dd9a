-- The laws of what specs/Words.antt defines.
use Prim.Native.Nat.{ℕ, zero, suc, ◌-◌, ◌≤◌, ◌<◌}
use Rattle.std.specs.Prelude.{◌≡◌, List, length, get_or}
use Rattle.std.proofs.Math.Path.{refl}
use Rattle.std.proofs.Math.Logic.{inl, inr}
use Rattle.std.proofs.Common.{not-suc-le-zero, sub-one, lt-ltb, le-ltb}
use Rattle.basics.proofs.Tests.{le?}
use Rattle.partition.specs.Words.{max_steps, walk, rep_of}

-- the walk, step by step
module _ (words : List ℕ) where
  pub walk_none : (v : ℕ) → walk words 0 v ≡ v
  unfolding walk
  walk_none v = refl

  -- a representative leads nowhere else
  pub walk_stop : (k v : ℕ) → length words ≤ get_or words v 0 → walk words k v ≡ v
  unfolding walk
  walk_stop zero v h = refl
  walk_stop (suc k) v h = rw (le-ltb (get_or words v 0) (length words) h)

  pub walk_step : (k v : ℕ) → get_or words v 0 < length words → 0 < k → walk words k v ≡ walk words (k - 1) (get_or words v 0)
  unfolding walk
  walk_step zero v h l = absurd (not-suc-le-zero l)
  walk_step (suc k) v h l = simp (lt-ltb (get_or words v 0) (length words) h, sub-one)

  -- from a slot it leads to a slot, whatever the words are
  walk_fits : (k v : ℕ) → v < length words → walk words k v < length words
  unfolding walk
  walk_fits zero v l = l
  walk_fits (suc k) v l = elim (le? (length words) (get_or words v 0)) [
    | inl h ↦ rw (le-ltb (get_or words v 0) (length words) h) l
    | inr h ↦ rw (lt-ltb (get_or words v 0) (length words) h) (walk_fits k (get_or words v 0) h)
  ]

  pub rep_fits : (v : ℕ) → v < length words → rep_of words v < length words
  unfolding rep_of
  rep_fits v l = walk_fits max_steps v l
