-- The laws of what specs/Unique.antt defines.
use Rattle.std.specs.Prelude.{ℕ, zero, suc, ◌<◌, ◌≡◌, refl, length, get_or}
use Rattle.std.proofs.Common.{sym, ◌∙◌, ap, inl, inr, arith, ext_get_or}
use mathlib.Core.List.{List, Memᴰ as In}
use Rattle.basics.proofs.Tests.{eq?}
use Rattle.probing.specs.Way.{PassesOver, at, on}
use Rattle.probing.specs.Unique.{Ordered, Contains}

-- the keys below n that stand in ws stand in vs, in the same slots
record Within (n : ℕ) (ws vs : List ℕ) : Type 0 where
  same : (c p : ℕ) → 0 < c → c < n → get_or ws p 0 ≡ c → get_or vs p 0 ≡ c

-- two walks of c from one slot end in one slot where the smaller keys stand alike
meet : {m : ℕ} {ws vs : List ℕ} {c s p q : ℕ} → Within c ws vs → Within c vs ws → PassesOver m ws c s p
    → PassesOver m vs c s q
    → get_or ws p 0 ≡ c → get_or vs q 0 ≡ c → p ≡ q
meet f g (at e) (at e') x y = cc
meet {ws = ws} {vs} {c} {s} {p} f g (at e) (on a b o) x y =
    omega (arith, g.same (get_or vs s 0) s a b refl, ap (λ (i : ℕ). get_or ws i 0) e)
meet {ws = ws} {vs} {c} {s} {p} {q} f g (on a b o) (at e) x y =
    omega (arith, f.same (get_or ws s 0) s a b refl, ap (λ (i : ℕ). get_or vs i 0) e)
meet f g (on a b o) (on a' b' o') x y = meet f g o o' x y

module _ {h : ℕ → ℕ} {m : ℕ} where
  -- so each key stands once
  pub once : {ws : List ℕ} {c p q : ℕ} → Ordered h m ws → 0 < c → get_or ws p 0 ≡ c → get_or ws q 0 ≡ c → p ≡ q
  once {ws} {c} {p} {q} o l x y =
      let w : Within c ws ws = record { same = λ c p a b e. e } in
      meet w w (o.over c p l x) (o.over c q l y) x y

  within_suc : (n : ℕ) {ws vs S : List ℕ} → Ordered h m ws → Ordered h m vs → Contains ws S → Contains vs S
      → Within n ws vs → Within n vs ws → Within (suc n) ws vs
  within_suc n {ws} {vs} o o' k k' f g = record {
    same = λ c p a b e. elim (eq? c n) [
      | inl q ↦
          let r = k'.all c (k.only c p a e) in
          let f' : Within c ws vs = rw q f in
          let g' : Within c vs ws = rw q g in
          let z = meet f' g' (o.over c p a e) (o'.over c r.0 a r.1) e r.1 in
          rw z r.1
      | inr ne ↦ f.same c p a (omega arith) e
    ];
  }

  within : (n : ℕ) {ws vs S : List ℕ} → Ordered h m ws → Ordered h m vs → Contains ws S → Contains vs S → Within n ws vs
  within zero o o' k k' = record { same = λ c p a b e. absurd (omega arith) }
  within (suc n) o o' k k' = within_suc n o o' k k' (within n o o' k k') (within n o' o k' k)

  pub unique : {ws vs S : List ℕ} → Ordered h m ws → Ordered h m vs → Contains ws S → Contains vs S
      → length ws ≡ length vs → ws ≡ vs
  unique {ws} {vs} o o' k k' e =
      ext_get_or 0 ws vs e
      (λ i l. elim (eq? (get_or ws i 0) 0) [
        | inl z ↦ elim (eq? (get_or vs i 0) 0) [
          | inl z' ↦ z ∙ sym z'
          | inr n ↦ (within (suc (get_or vs i 0)) o' o k' k).same (get_or vs i 0) i (omega arith) (omega arith) refl
        ]
        | inr n ↦ sym ((within (suc (get_or ws i 0)) o o' k k').same (get_or ws i 0) i (omega arith) (omega arith) refl)
      ])
