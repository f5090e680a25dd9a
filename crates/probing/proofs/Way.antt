-- The laws of what specs/Way.antt defines.
use Rattle.std.specs.Prelude.{ℕ, zero, suc, ◌+◌, ◌<◌, ◌≤◌, ◌≡◌, true, false, ◌&&◌, ◌⊎◌, List, length, get_or, set, eqb, ltb}
use Rattle.std.proofs.Common.{sym, ◌∙◌, ap, inl, inr, arith, mod-eq_of_lt, get_or-set_same, get_or-set_other, lt-ltb, le-ltb, eq-eqb, ne_eqb}
use Rattle.std.proofs.Math.Bool.{and-false}
use Rattle.std.proofs.Math.Nat.{mod_self}
use Rattle.std.proofs.Math.ListN.{get_or-eq_default}
use Rattle.basics.proofs.Tests.{eq?, le?}
use Rattle.probing.specs.Rule.{after, looks}
use Rattle.probing.specs.Moves.{stop}
use Rattle.probing.specs.Way.{Ahead, PassesOver, straight, round, at, on}

pub ahead_all : {m s e : ℕ} → s < m → e < m → Ahead m m s e
ahead_all {m} {s} {e} l k = elim (le? s e) [ inl a ↦ straight a k (omega arith) | inr a ↦ round a l (omega arith) ]

pub ahead_lt : {m n s e : ℕ} → Ahead m n s e → s < m
ahead_lt (straight a b c) = omega arith
ahead_lt (round a b c) = b

-- the next slot is one on, or the first
pub after_end : (m s : ℕ) → s + 1 ≡ m → after m s ≡ 0
unfolding after
after_end m s e = rw (e, mod_self m)

pub after_on : (m s : ℕ) → s + 1 < m → after m s ≡ s + 1
unfolding after
after_on m s l = mod-eq_of_lt l

-- no step is left only at e itself
pub ahead_none : {m s e : ℕ} → Ahead m 0 s e → ⊥
ahead_none (straight a b c) = omega arith
ahead_none (round a b c) = omega arith

pub ahead_next : {m n s e : ℕ} → Ahead m (suc n) s e → (s ≡ e → ⊥) → Ahead m n (after m s) e
unfolding after
ahead_next {m} {n} {s} {e} (straight a b c) ne =
    let k : s + 1 < m = omega arith in
    rw (mod-eq_of_lt k) (straight (omega arith) b (omega arith))
ahead_next {m} {n} {s} {e} (round a b c) ne =
    elim (eq? (s + 1) m) [
      | inl q ↦ rw (q, mod_self m) (straight (omega arith) (omega arith) (omega arith))
      | inr nq ↦ let k : s + 1 < m = omega arith in rw (mod-eq_of_lt k) (round (omega arith) k (omega arith))
    ]

-- one step further
pub passes_next : {m : ℕ} {ws : List ℕ} {c s p : ℕ} → PassesOver m ws c s p → 0 < get_or ws p 0 → get_or ws p 0 < c
    → PassesOver m ws c s (after m p)
passes_next {m} {ws} {c} {s} {p} (at e) a b = on {s = s} (rw e a) (rw e b) (at (ap (after m) e))
passes_next (on x y o) a b = on x y (passes_next o a b)

-- the same over other words in which smaller keys stand wherever they did
pub passes_map : {m : ℕ} {ws : List ℕ} (vs : List ℕ) {c s p : ℕ}
    → ((q : ℕ) → 0 < get_or ws q 0 → get_or ws q 0 < c → (0 < get_or vs q 0) × (get_or vs q 0 < c))
    → PassesOver m ws c s p → PassesOver m vs c s p
passes_map vs f (at e) = at e
passes_map vs f (on {s} a b o) = on (f s a b).0 (f s a b).1 (passes_map vs f o)

-- a store at q of a key v, where v is smaller than c if a smaller key stood there
pub passes_set : {m : ℕ} {ws : List ℕ} (q v : ℕ) {c s p : ℕ} → q < length ws
    → (0 < get_or ws q 0 → get_or ws q 0 < c → (0 < v) × (v < c))
    → PassesOver m ws c s p → PassesOver m (set ws q v) c s p
passes_set {m} {ws} q v {c} l f o =
    passes_map (set ws q v)
    (λ x a b. elim (eq? x q) [
      | inl e ↦ rw (e, get_or-set_same ws q v 0 l) (f (rw e at a) (rw e at b))
      | inr ne ↦ rw (get_or-set_other ws q x v 0 ne) (a, b)
    ])
    o

-- whether c passes over what stands in a slot: over a smaller key, and over nothing else
pub passed : (w c : ℕ) → 0 < w → w < c → (ltb 0 w && ltb w c) ≡ true
passed w c a b = rw (lt-ltb 0 w a, lt-ltb w c b)

pub not_passed : (w c : ℕ) → (0 < w → c ≤ w) → (ltb 0 w && ltb w c) ≡ false
not_passed w c f =
    elim (eq? w 0) [ inl e ↦ rw (le-ltb 0 w (omega arith)) | inr ne ↦ rw (le-ltb w c (f (omega arith)), and-false) ]

pub passes? : (w c : ℕ) → ((0 < w) × (w < c)) ⊎ (0 < w → c ≤ w)
passes? w c =
    elim (le? c w) [ inl l ↦ inr (λ a. l) | inr l ↦ elim (eq? w 0) [ inl e ↦ inr (λ a. omega arith) | inr ne ↦ inl (omega arith, l) ] ]

-- the steps of `stop`
module _ (m n : ℕ) (ws : List ℕ) (c s : ℕ) where
  pub stop_here : (0 < get_or ws s 0 → c ≤ get_or ws s 0) → stop m (suc n) ws c s ≡ s
  unfolding stop
  stop_here f = rw (not_passed (get_or ws s 0) c f)

  pub stop_next : 0 < get_or ws s 0 → get_or ws s 0 < c → stop m (suc n) ws c s ≡ stop m n ws c (after m s)
  unfolding stop
  stop_next a b = rw (passed (get_or ws s 0) c a b)

-- a walk ends where c passes over smaller keys to a slot that holds none
pub passes_stop : {m : ℕ} (n : ℕ) {ws : List ℕ} {c s p : ℕ} → PassesOver m ws c s p → Ahead m n s p
    → (0 < get_or ws p 0 → c ≤ get_or ws p 0)
    → stop m n ws c s ≡ p
passes_stop zero o a f = absurd (ahead_none a)
passes_stop {m} (suc n) {ws} {c} {s} {p} (at e) a f = stop_here m n ws c s (rw e f) ∙ e
passes_stop {m} (suc n) {ws} {c} {s} {p} (on x y o) a f =
    stop_next m n ws c s x y ∙ passes_stop n o (ahead_next a (λ e. absurd (omega (arith, f (rw e at x), ap (λ (q : ℕ). get_or ws q 0) e)))) f

-- and where a walk ends, c has passed over smaller keys
pub stop_passes : (m n : ℕ) (ws : List ℕ) (c s p : ℕ) → stop m n ws c s ≡ p → p < m → PassesOver m ws c s p
unfolding stop
stop_passes m zero ws c s p e l = absurd (omega arith)
stop_passes m (suc n) ws c s p e l =
    elim (passes? (get_or ws s 0) c) [
      | inl k ↦ on k.0 k.1 (stop_passes m n ws c (after m s) p (sym (stop_next m n ws c s k.0 k.1) ∙ e) l)
      | inr f ↦ at (sym (stop_here m n ws c s f) ∙ e)
    ]

-- a look-up says whether the key stands where its walk ends
pub looks_stop : (m n : ℕ) (ws : List ℕ) (c s : ℕ) → length ws ≤ m → 0 < c
    → looks m n ws c s ≡ eqb (get_or ws (stop m n ws c s) 0) c
unfolding looks stop
looks_stop m zero ws c s l k = rw (get_or-eq_default ws 0 l) (sym (ne_eqb 0 c (λ e. omega arith)))
looks_stop m (suc n) ws c s l k =
    elim (passes? (get_or ws s 0) c) [
      | inl p ↦
          let a = p.0 in
          let b = p.1 in
          rw (
            stop_next m n ws c s a b,
            ne_eqb (get_or ws s 0) c (λ e. omega arith),
            ne_eqb (get_or ws s 0) 0 (λ e. omega arith),
            le-ltb c (get_or ws s 0) (omega arith),
          )
          (looks_stop m n ws c (after m s) l k)
      | inr f ↦
          rw (stop_here m n ws c s f)
          (elim (eq? (get_or ws s 0) c) [
            | inl e ↦ rw (eq-eqb (get_or ws s 0) c e)
            | inr ne ↦ elim (eq? (get_or ws s 0) 0) [
              | inl z ↦ rw (ne_eqb (get_or ws s 0) c ne, eq-eqb (get_or ws s 0) 0 z)
              | inr nz ↦
                  let g = f (omega arith) in
                  rw (ne_eqb (get_or ws s 0) c ne, ne_eqb (get_or ws s 0) 0 nz, lt-ltb c (get_or ws s 0) (omega arith))
            ]
          ])
    ]
