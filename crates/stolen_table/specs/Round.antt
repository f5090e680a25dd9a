-- The round over the slots, a turn at a time, and the walls that it keeps. Assumes nothing.
use Prim.Native.Nat.{ℕ, suc, ◌+◌, ◌-◌, ◌<◌, ◌≤◌}
use Rattle.std.specs.Prelude.{◌≡◌, true, false, ◌&&◌, List, leb, length, set}
use Rattle.std.proofs.Common.{◌∙◌, inl, inr, eq-eqb, ne_eqb, le-leb, get_or-set_same, get_or-set_other}
use Rattle.std.proofs.Math.Numerals.{add-one}
use native.Mathlib.Omega.{arith}
use Rattle.std.proofs.lemmas.Bool.{lt-leb}
use Rattle.basics.proofs.Tests.{eq?}
use Rattle.hashing.specs.Hash.{blank}
use Rattle.hashing.proofs.Issues.{blank_iff}
use Rattle.probing.specs.Moves.{slot_turn, turn_word, wall, right, settled, all_settled}
use Rattle.probing.specs.Walls.{Walled}
use Rattle.stolen.proofs.Canonical.{not_blank}

-- a key that is right at a turn: no blank one, and one that starts behind its wall
module _ (m b : ℕ) (h : ℕ → ℕ) (c w i : ℕ) where
  pub right_blank : blank c ≡ true → right m b h 10 c w i ≡ false
  unfolding right
  right_blank t = rw (lt-leb 10 c ((blank_iff c).0 t))

  pub right_key : (j : ℕ) → blank c ≡ false → j ≡ slot_turn m b (h c) → right m b h 10 c w i ≡ (leb w j && leb j i)
  unfolding right
  right_key j t e = rw (le-leb 10 c (not_blank c t), e)

module _ (m : ℕ) (ws : List ℕ) (b : ℕ) (h : ℕ → ℕ) (i : ℕ) where
  -- an empty slot, and one with a key
  pub settled_empty : turn_word m ws b i ≡ 0 → settled m ws b h 10 i ≡ true
  unfolding settled
  settled_empty e = rw (eq-eqb (turn_word m ws b i) 0 e)

  pub settled_key : (turn_word m ws b i ≡ 0 → ⊥)
      → settled m ws b h 10 i ≡ right m b h 10 (turn_word m ws b i) (wall m ws b (turn_word m ws b i) i) i
  unfolding settled
  settled_key n = rw (ne_eqb (turn_word m ws b i) 0 n)

  -- the turns from i on
  pub settled_on : i < m → settled m ws b h 10 i ≡ true
      → all_settled m ws b h 10 (m - i) i ≡ all_settled m ws b h 10 (m - (i + 1)) (i + 1)
  unfolding all_settled
  settled_on l t = let e : m - i ≡ suc (m - suc i) = omega arith in rw (e, add-one, all_settled, t)

  pub settled_not : i < m → settled m ws b h 10 i ≡ false → all_settled m ws b h 10 (m - i) i ≡ false
  unfolding all_settled
  settled_not l t = let e : m - i ≡ suc (m - suc i) = omega arith in rw (e, all_settled, t)

  pub settled_all : m ≤ i → all_settled m ws b h 10 (m - i) i ≡ true
  unfolding all_settled
  settled_all l = let e : m - i ≡ 0 = omega arith in rw e

-- no turn has a wall yet; an empty slot needs none; and that of a key is kept
pub walled_none : (m : ℕ) (ws : List ℕ) (b : ℕ) (walls : List ℕ) → Walled m ws b walls 0
walled_none m ws b walls = record { each = λ i l k. absurd (omega arith) }

pub walled_empty : {m : ℕ} {ws : List ℕ} {b : ℕ} {walls : List ℕ} {n : ℕ} → turn_word m ws b n ≡ 0
    → Walled m ws b walls n → Walled m ws b walls (n + 1)
walled_empty {m} {ws} {b} {walls} {n} z h = record {
  each = λ i l k. elim (eq? i n) [
    | inl q ↦ absurd (omega (arith, z, rw q at k))
    | inr d ↦ h.each i (omega arith) k
  ];
}

pub walled_key : {m : ℕ} {ws : List ℕ} {b : ℕ} {walls : List ℕ} {n : ℕ} (w : ℕ) → n < length walls
    → w ≡ wall m ws b (turn_word m ws b n) n → Walled m ws b walls n → Walled m ws b (set walls n w) (n + 1)
walled_key {m} {ws} {b} {walls} {n} w l e h = record {
  each = λ i k p. elim (eq? i n) [
    | inl q ↦ rw q (get_or-set_same walls n w 0 l ∙ e)
    | inr d ↦ get_or-set_other walls n i w 0 d ∙ h.each i (omega arith) p
  ];
}
