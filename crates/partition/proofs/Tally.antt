-- The laws of what specs/Tally.antt defines.
use Prim.Native.Nat.{ℕ, zero, suc, ◌+◌, ◌≤◌, ◌<◌}
use Rattle.std.specs.Prelude.{◌≡◌}
use Rattle.std.proofs.Math.Path.{refl}
use Rattle.std.proofs.Common.{sym, ◌∙◌, ap, eq-eqb, ne_eqb}
use Rattle.std.proofs.Math.Logic.{inl, inr}
use native.Mathlib.Omega.{arith}
use Rattle.basics.proofs.Tests.{eq?}
use Rattle.partition.specs.Tally.{tally, tally_moved}

pub moved_child : (child parent r : ℕ) → r ≡ child → tally_moved child parent r ≡ parent
unfolding tally_moved
moved_child child parent r e = rw (eq-eqb r child e)

pub moved_other : (child parent r : ℕ) → (r ≡ child → ⊥) → tally_moved child parent r ≡ r
unfolding tally_moved
moved_other child parent r ne = rw (ne_eqb r child ne)

module _ (f : ℕ → ℕ) (r : ℕ) where
  hit : (n : ℕ) → f n ≡ r → tally f r (suc n) ≡ suc (tally f r n)
  unfolding tally
  hit n e = rw (eq-eqb (f n) r e)

  miss : (n : ℕ) → (f n ≡ r → ⊥) → tally f r (suc n) ≡ tally f r n
  unfolding tally
  miss n ne = rw (ne_eqb (f n) r ne)

  pub tally_le : (n : ℕ) → tally f r n ≤ n
  unfolding tally
  tally_le zero = omega arith
  tally_le (suc n) =
      let ih = tally_le n in
      elim (eq? (f n) r) [ inl e ↦ omega (arith, hit n e) | inr ne ↦ omega (arith, miss n ne) ]

-- two different numbers share nothing
pub tally_two : (f : ℕ → ℕ) (r s n : ℕ) → (r ≡ s → ⊥) → tally f r n + tally f s n ≤ n
unfolding tally
tally_two f r s zero ne = omega arith
tally_two f r s (suc n) ne =
    let ih = tally_two f r s n ne in
    elim (eq? (f n) r) [
      | inl e ↦ omega (arith, hit f r n e, miss f s n (λ q. ne (sym e ∙ q)))
      | inr m ↦ elim (eq? (f n) s) [
        | inl e ↦ omega (arith, miss f r n m, hit f s n e)
        | inr k ↦ omega (arith, miss f r n m, miss f s n k)
      ]
    ]

-- only what f does below n counts
pub tally_ext : (f g : ℕ → ℕ) (r n : ℕ) → ((v : ℕ) → v < n → f v ≡ g v) → tally f r n ≡ tally g r n
unfolding tally
tally_ext f g r zero h = refl
tally_ext f g r (suc n) h = rw (h n (omega arith), tally_ext f g r n (λ v l. h v (omega arith)))

module _ (f : ℕ → ℕ) (child parent : ℕ) where
  -- the parent has its own and the child's
  pub tally_parent : (n : ℕ) → (child ≡ parent → ⊥) → tally (λ v. tally_moved child parent (f v)) parent n ≡ tally f parent n + tally f child n
  unfolding tally
  tally_parent zero ne = refl
  tally_parent (suc n) ne =
      let ih = tally_parent n ne in
      let g : ℕ → ℕ = λ v. tally_moved child parent (f v) in
      elim (eq? (f n) child) [
        | inl e ↦ omega (arith, hit g parent n (moved_child child parent (f n) e), hit f child n e, miss f parent n (λ q. ne (sym e ∙ q)))
        | inr m ↦
            let same = moved_other child parent (f n) m in
            elim (eq? (f n) parent) [
              | inl e ↦ omega (arith, hit g parent n (same ∙ e), miss f child n m, hit f parent n e)
              | inr k ↦ omega (arith, miss g parent n (λ q. k (sym same ∙ q)), miss f child n m, miss f parent n k)
            ]
      ]

  -- the others keep theirs
  pub tally_other : (r n : ℕ) → (r ≡ child → ⊥) → (r ≡ parent → ⊥) → tally (λ v. tally_moved child parent (f v)) r n ≡ tally f r n
  unfolding tally
  tally_other r zero nc np = refl
  tally_other r (suc n) nc np =
      let ih = tally_other r n nc np in
      let g : ℕ → ℕ = λ v. tally_moved child parent (f v) in
      elim (eq? (f n) child) [
        | inl e ↦ omega (arith, miss g r n (λ q. np (sym q ∙ moved_child child parent (f n) e)), miss f r n (λ q. nc (sym q ∙ e)))
        | inr m ↦
            let same = moved_other child parent (f n) m in
            elim (eq? (f n) r) [
              | inl e ↦ omega (arith, hit g r n (same ∙ e), hit f r n e)
              | inr k ↦ omega (arith, miss g r n (λ q. k (sym same ∙ q)), miss f r n k)
            ]
      ]

-- where each is its own, each has one
tally_none : (r n : ℕ) → n ≤ r → tally (λ v. v) r n ≡ 0
unfolding tally
tally_none r zero l = refl
tally_none r (suc n) l = miss (λ v. v) r n (omega arith) ∙ tally_none r n (omega arith)

pub tally_one : (r n : ℕ) → r < n → tally (λ v. v) r n ≡ 1
tally_one r zero l = absurd (omega arith)
tally_one r (suc n) l =
    let ih = tally_one r n in
    elim (eq? n r) [
      | inl e ↦ hit (λ v. v) r n e ∙ ap suc (tally_none r n (omega arith))
      | inr ne ↦ miss (λ v. v) r n ne ∙ ih (omega arith)
    ]
