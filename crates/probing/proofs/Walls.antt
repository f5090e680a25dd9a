-- The laws of what specs/Walls.antt defines.
use Prim.Native.Nat.{ℕ, zero, suc, ◌+◌, ◌-◌, ◌<◌, ◌≤◌}
use Rattle.std.specs.Prelude.{◌≡◌, ◌↔◌, List, get_or}
use Rattle.std.proofs.Math.Path.{refl}
use Rattle.std.proofs.Common.{sym, ◌∙◌, ap, lt-ltb, le-ltb}
use Rattle.std.proofs.Math.Logic.{inl, inr}
use native.Mathlib.Omega.{arith}
use Rattle.basics.proofs.Tests.{eq?, le?}
use Rattle.probing.specs.Rule.{after}
use Rattle.probing.specs.Moves.{wrap, turn_slot, slot_turn, turn_word, wall}
use Rattle.probing.specs.Way.{PassesOver, at, on}
use Rattle.probing.proofs.Way.{after_end, after_on, passed, not_passed, passes?}
use Rattle.probing.specs.Walls.{Barrier, empty, largest}

pub wrap_low : (m x : ℕ) → x < m → wrap m x ≡ x
unfolding wrap
wrap_low m x l = rw (lt-ltb x m l)

pub wrap_high : (m x : ℕ) → m ≤ x → wrap m x ≡ x - m
unfolding wrap
wrap_high m x l = rw (le-ltb x m l)

-- the slot after slot s of the round, and that slots and turns are one to one
module _ (m b : ℕ) (inside : b < m) where
  wrap_lt : (x : ℕ) → x < m + m → wrap m x < m
  wrap_lt x l = elim (le? m x) [ inl h ↦ rw (wrap_high m x h) (omega arith) | inr h ↦ rw (wrap_low m x h) h ]

  pub turn_slot_lt : (i : ℕ) → i < m → turn_slot m b i < m
  turn_slot_lt i l = wrap_lt (i + (b + 1)) (omega arith)

  pub slot_turn_lt : (s : ℕ) → s < m → slot_turn m b s < m
  slot_turn_lt s l = wrap_lt (s + (m - (b + 1))) (omega arith)

  pub turn_of_slot : (s : ℕ) → s < m → turn_slot m b (slot_turn m b s) ≡ s
  turn_of_slot s l =
      elim (le? m (s + (m - (b + 1)))) [
        | inl h ↦ rw (wrap_high m (s + (m - (b + 1))) h, wrap_low m (s + (m - (b + 1)) - m + (b + 1)) (omega arith)) (omega arith)
        | inr h ↦ rw (wrap_low m (s + (m - (b + 1))) h, wrap_high m (s + (m - (b + 1)) + (b + 1)) (omega arith)) (omega arith)
      ]

  turn_after : (i : ℕ) → suc i < m → after m (turn_slot m b i) ≡ turn_slot m b (suc i)
  turn_after i l =
      elim (le? m (i + (b + 1))) [
        | inl h ↦
            let k : m ≤ suc i + (b + 1) = omega arith in
            rw (wrap_high m (i + (b + 1)) h, wrap_high m (suc i + (b + 1)) k)
            (after_on m (i + (b + 1) - m) (omega arith) ∙ omega arith)
        | inr h ↦ elim (eq? (suc i + (b + 1)) m) [
          | inl e ↦
              let k : m ≤ suc i + (b + 1) = omega arith in
              rw (wrap_low m (i + (b + 1)) h, wrap_high m (suc i + (b + 1)) k) (after_end m (i + (b + 1)) (omega arith) ∙ omega arith)
          | inr n ↦
              let k : suc i + (b + 1) < m = omega arith in
              rw (wrap_low m (i + (b + 1)) h, wrap_low m (suc i + (b + 1)) k) (after_on m (i + (b + 1)) (omega arith) ∙ omega arith)
        ]
      ]

  turn_apart : (i j : ℕ) → i < m → j < m → turn_slot m b i ≡ turn_slot m b j → i ≡ j
  turn_apart i j l k e = sym (back i l) ∙ ap (slot_turn m b) e ∙ back j k
    where
      back : (i : ℕ) → i < m → slot_turn m b (turn_slot m b i) ≡ i
      back i l =
          elim (le? m (i + (b + 1))) [
            | inl h ↦ rw (wrap_high m (i + (b + 1)) h, wrap_low m (i + (b + 1) - m + (m - (b + 1))) (omega arith)) (omega arith)
            | inr h ↦ rw (wrap_low m (i + (b + 1)) h, wrap_high m (i + (b + 1) + (m - (b + 1))) (omega arith)) (omega arith)
          ]

  turn_last : turn_slot m b (m - 1) ≡ b
  turn_last = rw (wrap_high m (m - 1 + (b + 1)) (omega arith)) (omega arith)

-- the steps of `wall`
module _ (m : ℕ) (ws : List ℕ) (b c n : ℕ) where
  pub wall_here : (0 < turn_word m ws b n → c ≤ turn_word m ws b n) → wall m ws b c (suc n) ≡ suc n
  unfolding wall
  wall_here f = rw (not_passed (turn_word m ws b n) c f)

  pub wall_back : 0 < turn_word m ws b n → turn_word m ws b n < c → wall m ws b c (suc n) ≡ wall m ws b c n
  unfolding wall
  wall_back k l = rw (passed (turn_word m ws b n) c k l)

module _ (m : ℕ) (ws : List ℕ) (b : ℕ) where
  pub wall_le : (c n : ℕ) → wall m ws b c n ≤ n
  unfolding wall
  wall_le c zero = omega arith
  wall_le c (suc n) =
      elim (passes? (turn_word m ws b n) c) [
        | inl k ↦ omega (arith, wall_back m ws b c n k.0 k.1, wall_le c n)
        | inr f ↦ omega (arith, wall_here m ws b c n f)
      ]

  -- what a smaller key passes, the larger does: its wall is found from the smaller one's
  pub wall_skip : (c d n : ℕ) → d ≤ c → wall m ws b c (wall m ws b d n) ≡ wall m ws b c n
  unfolding wall
  wall_skip c d zero l = refl
  wall_skip c d (suc n) l =
      elim (passes? (turn_word m ws b n) d) [
        | inl k ↦
            rw (wall_back m ws b d n k.0 k.1, wall_back m ws b c n k.0 (omega (arith, k.1)))
            (wall_skip c d n l)
        | inr f ↦ rw (wall_here m ws b d n f)
      ]

  -- smaller keys stand between the wall and the key, and none does at the wall
  wall_between : (c n j : ℕ) → wall m ws b c n ≤ j → j < n → (0 < turn_word m ws b j) × (turn_word m ws b j < c)
  unfolding wall
  wall_between c zero j l k = absurd (omega arith)
  wall_between c (suc n) j l k =
      elim (passes? (turn_word m ws b n) c) [
        | inl p ↦ elim (eq? j n) [
          | inl e ↦ rw e p
          | inr ne ↦ wall_between c n j (omega (arith, wall_back m ws b c n p.0 p.1)) (omega arith)
        ]
        | inr f ↦ absurd (omega (arith, wall_here m ws b c n f))
      ]

  wall_none : (c n j : ℕ) → wall m ws b c n ≡ suc j → 0 < turn_word m ws b j → turn_word m ws b j < c → ⊥
  unfolding wall
  wall_none c zero j e k l = omega arith
  wall_none c (suc n) j e k l =
      elim (passes? (turn_word m ws b n) c) [
        | inl p ↦ wall_none c n j (sym (wall_back m ws b c n p.0 p.1) ∙ e) k l
        | inr f ↦
            let q : j ≡ n = omega (arith, wall_here m ws b c n f) in
            omega (arith, f (rw q at k), rw q at l)
      ]

  -- A key that stands at turn i and starts at turn j has passed over smaller keys alone exactly if it starts behind its
  -- wall.
  module _ (inside : b < m) (barrier : Barrier m ws b) (c i : ℕ) (l : i < m) (stands : turn_word m ws b i ≡ c) where
    unpassed : (j : ℕ) → j < m → 0 < turn_word m ws b j → turn_word m ws b j < c → (j ≡ m - 1) → ⊥
    unpassed j k a d e =
        let here : turn_word m ws b j ≡ get_or ws b 0 = ap (λ (s : ℕ). get_or ws s 0) (ap (turn_slot m b) e ∙ turn_last m b inside) in
        elim barrier [
          | empty z ↦ omega arith
          | largest f ↦ omega (arith, stands, (f (turn_slot m b i) (turn_slot_lt m b inside i l)).1)
        ]

    pub behind_passes : (n j : ℕ) → j + n ≡ i → wall m ws b c i ≤ j
        → PassesOver m ws c (turn_slot m b j) (turn_slot m b i)
    behind_passes zero j e w = let q : j ≡ i = omega arith in at (ap (turn_slot m b) q)
    behind_passes (suc n) j e w =
        let p = wall_between c i j w (omega arith) in
        let rest : PassesOver m ws c (after m (turn_slot m b j)) (turn_slot m b i) =
        rw (turn_after m b inside j (omega arith)) (behind_passes n (suc j) (omega arith) (omega arith)) in
        on p.0 p.1 rest

    passes_behind : {s : ℕ} (j : ℕ) → j < m → turn_slot m b j ≡ s → PassesOver m ws c s (turn_slot m b i)
        → (j ≤ i) × (wall m ws b c i ≤ j)
    passes_behind j k e (at q) =
        let same = turn_apart m b inside j i k l (e ∙ q) in
        (omega arith, omega (arith, wall_le c i))
    passes_behind j k e (on x y o) =
        let x' : 0 < turn_word m ws b j = rw e x in
        let y' : turn_word m ws b j < c = rw e y in
        let last : j ≡ m - 1 → ⊥ = unpassed j k x' y' in
        let k' : suc j < m = omega (arith, last) in
        let r = passes_behind (suc j) k' (sym (turn_after m b inside j k') ∙ ap (after m) e) o in
        let wn : wall m ws b c i ≡ suc j → ⊥ = λ q. wall_none c i j q x' y' in
        (omega (arith, r.0), omega (arith, r.1, wn))

    pub passes_iff : (s : ℕ) → s < m
        → PassesOver m ws c s (turn_slot m b i) ↔ ((wall m ws b c i ≤ slot_turn m b s) × (slot_turn m b s ≤ i))
    passes_iff s k =
        let j = slot_turn m b s in
        let e = turn_of_slot m b inside s k in (
          λ o. let r = passes_behind j (slot_turn_lt m b inside s k) e o in (r.1, r.0),
          λ w. rw e at (behind_passes (i - j) j (omega (arith, w.1)) w.0),
        )
