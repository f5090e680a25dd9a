-- The loops of `probe`, a turn at a time: what the laws of `probing` say of a budget that is left. Assumes nothing.
use Rattle.std.specs.Prelude.{ℕ, zero, suc, ◌+◌, ◌-◌, ◌<◌, ◌≤◌, ◌≡◌, true, false, List, get_or, set}
use Rattle.std.proofs.Common.{sym, ◌∙◌, inl, inr}
use native.Mathlib.Omega.{arith}
use borrow.Author.Tests.{eq-eqb, ne_eqb, lt-ltb, le-ltb}
use Rattle.basics.proofs.Tests.{eq?}
use Rattle.probing.specs.Rule.{after, looks}
use Rattle.probing.specs.Moves.{displace, wrap, turn_word, wall}
use Rattle.probing.proofs.Way.{after_end, after_on}
use Rattle.probing.proofs.Adding.{displace_end, displace_swap, displace_on}
use Rattle.probing.proofs.Walls.{wrap_low, wrap_high, wall_here, wall_back, wall_skip}

-- a budget that is left is one more than it will be after this turn
spend : (P : ℕ → ℕ → Type 0) (n : ℕ) → 0 < n → ((k : ℕ) → P (suc k) k) → P n (n - 1)
spend P zero l f = absurd (omega arith)
spend P (suc n) l f = let e : suc n - 1 ≡ n = omega arith in rw e (f n)

-- the slot after a slot
pub wrap_after : (m s : ℕ) → s < m → wrap m (s + 1) ≡ after m s
wrap_after m s l =
    elim (eq? (s + 1) m) [
      | inl e ↦ wrap_high m (s + 1) (omega arith) ∙ rw (after_end m s e) (omega arith)
      | inr n ↦ wrap_low m (s + 1) (omega arith) ∙ sym (after_on m s (omega arith))
    ]

module _ (m n : ℕ) (ws : List ℕ) (c s : ℕ) (l : 0 < n) where
  -- a look-up: at the key, at a larger one, at an empty slot, over a smaller key
  pub look_here : get_or ws s 0 ≡ c → looks m n ws c s ≡ true
  unfolding looks
  look_here e = spend (λ n k. looks m n ws c s ≡ true) n l (λ k. rw (eq-eqb (get_or ws s 0) c e))

  pub look_larger : c < get_or ws s 0 → looks m n ws c s ≡ false
  unfolding looks
  look_larger a =
      spend (λ n k. looks m n ws c s ≡ false) n l
      (λ k. rw (ne_eqb (get_or ws s 0) c (λ e. omega arith), ne_eqb (get_or ws s 0) 0 (λ e. omega arith), lt-ltb c (get_or ws s 0) a))

  pub look_empty : 0 < c → get_or ws s 0 ≡ 0 → looks m n ws c s ≡ false
  unfolding looks
  look_empty a e =
      spend (λ n k. looks m n ws c s ≡ false) n l
      (λ k. rw (ne_eqb (get_or ws s 0) c (λ q. omega arith), eq-eqb (get_or ws s 0) 0 e))

  pub look_on : (get_or ws s 0 ≡ 0 → ⊥) → get_or ws s 0 < c → looks m n ws c s ≡ looks m (n - 1) ws c (after m s)
  unfolding looks
  look_on a b =
      spend (λ n k. looks m n ws c s ≡ looks m k ws c (after m s)) n l
      (λ k. rw (ne_eqb (get_or ws s 0) c (λ e. omega arith), ne_eqb (get_or ws s 0) 0 a, le-ltb c (get_or ws s 0) (omega arith)))

  -- a key that is carried: to an empty slot, to a larger key's, over a smaller key
  pub carry_end : get_or ws s 0 ≡ 0 → displace m n ws c s ≡ set ws s c
  carry_end e = spend (λ n k. displace m n ws c s ≡ set ws s c) n l (λ k. displace_end m k ws c s e)

  pub carry_swap : c < get_or ws s 0 → displace m n ws c s ≡ displace m (n - 1) (set ws s c) (get_or ws s 0) (after m s)
  carry_swap b =
      spend (λ n k. displace m n ws c s ≡ displace m k (set ws s c) (get_or ws s 0) (after m s)) n l
      (λ k. displace_swap m k ws c s b)

  pub carry_on : (get_or ws s 0 ≡ 0 → ⊥) → get_or ws s 0 ≤ c → displace m n ws c s ≡ displace m (n - 1) ws c (after m s)
  carry_on a b =
      spend (λ n k. displace m n ws c s ≡ displace m k ws c (after m s)) n l
      (λ k. displace_on m k ws c s (omega arith) b)

-- a full round is over
module _ (m n : ℕ) (ws : List ℕ) (c s : ℕ) (l : n ≤ 0) where
  pub look_round : looks m n ws c s ≡ false
  unfolding looks
  look_round = let e : n ≡ 0 = omega arith in rw e

  pub carry_round : displace m n ws c s ≡ ws
  unfolding displace
  carry_round = let e : n ≡ 0 = omega arith in rw e

-- the wall of a key, from n turns back on: here; or, over a smaller key, where that one's wall is; or before all turns
module _ (m : ℕ) (ws : List ℕ) (b c n : ℕ) where
  pub wall_stop : 0 < n → (0 < turn_word m ws b (n - 1) → c ≤ turn_word m ws b (n - 1)) → wall m ws b c n ≡ n
  wall_stop l f =
      spend (λ n k. (0 < turn_word m ws b k → c ≤ turn_word m ws b k) → wall m ws b c n ≡ n) n l (λ k g. wall_here m ws b c k g) f

  pub wall_over : 0 < n → (turn_word m ws b (n - 1) ≡ 0 → ⊥) → turn_word m ws b (n - 1) < c
      → wall m ws b c n ≡ wall m ws b c (wall m ws b (turn_word m ws b (n - 1)) (n - 1))
  wall_over l a d =
      spend
      (λ n k. 0 < turn_word m ws b k → turn_word m ws b k < c → wall m ws b c n
      ≡ wall m ws b c (wall m ws b (turn_word m ws b k) k))
      n l
      (λ k x y. wall_back m ws b c k x y ∙ sym (wall_skip m ws b c (turn_word m ws b k) k (omega arith)))
      (omega arith) d

  pub wall_end : n ≤ 0 → wall m ws b c n ≡ 0
  unfolding wall
  wall_end l = let e : n ≡ 0 = omega arith in rw e
