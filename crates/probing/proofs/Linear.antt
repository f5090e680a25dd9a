-- The laws of what specs/Linear.antt defines.
use Prim.Native.Nat.{ℕ, zero, suc, ◌+◌, ◌≤◌}
use Rattle.std.specs.Prelude.{◌≡◌, cond, ◌&&◌, List, ltb}
use Rattle.std.proofs.Math.Path.{refl, sym, ap}
use Rattle.std.proofs.Common.{◌∙◌}
use Rattle.std.proofs.Math.Logic.{inl, inr}
use native.Mathlib.Omega.{arith}
use Rattle.probing.specs.Moves.{turn_word, wall}
use Rattle.probing.proofs.Way.{passed, not_passed, passes?}
use Rattle.probing.proofs.Walls.{wall_here, wall_back, wall_le, wall_skip}
use Rattle.probing.specs.Linear.{jumps, all_jumps}

module _ (m : ℕ) (ws : List ℕ) (b : ℕ) where
  -- how many walls lie behind n turns, each reached from the one before: what later turns may still jump over
  unfoldable depth : ℕ → ℕ → ℕ
  depth zero n = 0
  depth (suc f) zero = 0
  depth (suc f) (suc n) = suc (depth f (wall m ws b (turn_word m ws b n) n))

  -- a bound of n is enough
  depth_enough : (f g n : ℕ) → n ≤ f → n ≤ g → depth f n ≡ depth g n
  unfolding depth
  depth_enough zero zero n l k = refl
  depth_enough zero (suc g) zero l k = refl
  depth_enough zero (suc g) (suc n) l k = absurd (omega arith)
  depth_enough (suc f) zero zero l k = refl
  depth_enough (suc f) zero (suc n) l k = absurd (omega arith)
  depth_enough (suc f) (suc g) zero l k = refl
  depth_enough (suc f) (suc g) (suc n) l k =
      let w = wall_le m ws b (turn_word m ws b n) n in
      ap suc (depth_enough f g (wall m ws b (turn_word m ws b n) n) (omega arith) (omega arith))

  -- each jump leaves one less
  jumps_depth : (f c n : ℕ) → n ≤ f → (jumps m ws b) f c n + depth f (wall m ws b c n) ≡ depth f n
  unfolding jumps depth wall
  jumps_depth zero c n l = refl
  jumps_depth (suc f) c zero l = refl
  jumps_depth (suc f) c (suc n) l =
      let d = turn_word m ws b n in
      let w = wall m ws b d n in
      let w_le = wall_le m ws b d n in
      elim (passes? d c) [
        | inl k ↦
            let back : wall m ws b c (suc n) ≡ wall m ws b c w =
            wall_back m ws b c n k.0 k.1 ∙ sym (wall_skip m ws b c d n (omega (arith, k.1))) in
            let less = wall_le m ws b c w in
            let same = depth_enough (suc f) f (wall m ws b c w) (omega arith) (omega arith) in
            let jump : suc ((jumps m ws b) f c w) + depth f (wall m ws b c w) ≡ suc (depth f w) =
            omega (arith, jumps_depth f c w (omega arith)) in
            rw (back, same, passed d c k.0 k.1) jump
        | inr g ↦
            let stay : 0 + depth (suc f) (suc n) ≡ depth (suc f) (suc n) = omega arith in
            rw (wall_here m ws b c n g, not_passed d c g) stay
      ]

  -- so a bound of n lets none out
  pub jumps_enough : (f c n : ℕ) → n ≤ f → (jumps m ws b) f c n ≡ (jumps m ws b) n c n
  jumps_enough f c n l =
      let w = wall_le m ws b c n in
      omega (
        arith,
        jumps_depth f c n l,
        jumps_depth n c n (omega arith),
        depth_enough f n n l (omega arith),
        depth_enough f n (wall m ws b c n) (omega arith) w,
      )

  -- all turns together jump as often as there are turns, less those that may still be jumped over
  all_jumps_depth : (n : ℕ) → (all_jumps m ws b) n + depth n n ≡ n
  unfolding all_jumps depth
  all_jumps_depth zero = refl
  all_jumps_depth (suc n) =
      let c = turn_word m ws b n in
      omega (arith, all_jumps_depth n, jumps_depth n c n (omega arith))

  pub few_jumps : (n : ℕ) → (all_jumps m ws b) n ≤ n
  few_jumps n = omega (arith, all_jumps_depth n)
