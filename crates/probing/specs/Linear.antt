-- The round that tells whether words are an image is linear, whatever stands in them: in all its turns together it
-- jumps over a smaller key at most once for each turn (`few_jumps`). Assumes nothing.
use Prim.Native.Nat.{ℕ, zero, suc, ◌+◌, ◌≤◌}
use Rattle.std.specs.Prelude.{◌≡◌, cond, ◌&&◌, List, ltb}
use Rattle.std.proofs.Math.Path.{refl, sym, ap}
use Rattle.std.proofs.Common.{◌∙◌}
use Rattle.std.proofs.Math.Logic.{inl, inr}
use native.Mathlib.Omega.{arith}
use Rattle.probing.specs.Moves.{turn_word, wall}

module _ (m : ℕ) (ws : List ℕ) (b : ℕ) where
  -- The wall of c is looked for from turn n back, as the loop of `wall_of` does: over each smaller key that is met there
  -- is a jump to that one's wall. How many jumps there are, if no more than f.
  unfoldable pub jumps : ℕ → ℕ → ℕ → ℕ
  jumps zero c n = 0
  jumps (suc f) c zero = 0
  jumps (suc f) c (suc n) =
      cond (ltb 0 (turn_word m ws b n) && ltb (turn_word m ws b n) c)
      (suc (jumps f c (wall m ws b (turn_word m ws b n) n)))
      0

  -- those of the first n turns together, each of which looks for the wall of its word (an empty slot's jumps over none)
  unfoldable pub all_jumps : ℕ → ℕ
  all_jumps zero = 0
  all_jumps (suc n) = all_jumps n + jumps n (turn_word m ws b n) n
