-- The laws of what specs/Next.antt defines.
use Rattle.std.specs.Prelude.{ℕ, ◌+◌, ◌%◌, ◌<◌, ◌≤◌, ◌≡◌, ltb, length}
use Rattle.std.proofs.Math.Path.{sym}
use mathlib.Core.List.{List, Memᴰ as In}
use Rattle.std.proofs.Common.{arith, ltb-true, lt-ltb}
use Rattle.std.proofs.Math.ListN.{get_or}
use Rattle.cuckoo.specs.Graph.{component, next, seated, stash}
use Rattle.basics.specs.Sets.{Asc}
use Rattle.basics.proofs.Lists.{get_or_in, larger_drop, first_drop, picked}
use Rattle.basics.specs.Lists.{passes, fails}
use Rattle.cuckoo.specs.Joined.{Joined}
use Rattle.cuckoo.proofs.Joined.{jrefl}
use Rattle.cuckoo.proofs.Components.{in_component, component_in, component_near, component_same, asc_component}
use Rattle.cuckoo.proofs.Settling.{seated_asc}
use Rattle.cuckoo.proofs.Filled.{not_seated_and_stash}
use Rattle.cuckoo.specs.Next.{IsNext, larger, around}

module _ (a b : ℕ → ℕ) where
  -- With the keys of a component in their order, next goes from each to the one after it, and from the last to the first.
  pub next_round : (T : List ℕ) → Asc T → (v i : ℕ) → i < length (component a b T v)
      → next a b T (get_or (component a b T v) i 0) ≡ get_or (component a b T v) ((i + 1) % length (component a b T v)) 0
  unfolding next
  next_round T asc v i l =
      let C = component a b T v in
      let c = get_or C i 0 in
      let e : component a b T (a c) ≡ C = sym (component_same a b T v (component_near a b T v (get_or_in C i l))) in
      rw (e, larger_drop (asc_component a b T v asc) i l) (first_drop C i l)

  module _ {T : List ℕ} (asc : Asc T) {c : ℕ} (i : In c T) where
    -- "the next larger seated card of its group; the largest points to the smallest"
    pub is_next : (IsNext a b) T c (next a b T c)
    unfolding next
    is_next =
        let v = a c in
        elim (picked (ltb c) (asc_component a b T v asc) (in_component a b T v i jrefl)) [
          | passes k t low ↦ larger (component_in a b T v k) (component_near a b T v k) (ltb-true c _ t)
              (λ d id jd l. low d (in_component a b T v id jd) (lt-ltb c d l))
          | fails k n low ↦ around (component_in a b T v k) (component_near a b T v k) (λ d id jd l. n d (in_component a b T v id jd) (lt-ltb c d l))
              (λ d id jd. low d (in_component a b T v id jd))
        ]

    -- No other key is: what is next in these words is `next`.
    pub next_is : {x : ℕ} → (IsNext a b) T c x → next a b T c ≡ x
    next_is {x} t = go is_next t
      where
        go : {y : ℕ} → (IsNext a b) T c y → (IsNext a b) T c x → y ≡ x
        go {y} (larger iy jy ly my) (larger ix jx lx mx) = omega (arith, my x ix jx lx, mx y iy jy ly)
        go {y} (larger iy jy ly my) (around ix jx n mx) = absurd (n y iy jy ly)
        go {y} (around iy jy n my) (larger ix jx lx mx) = absurd (n x ix jx lx)
        go {y} (around iy jy n my) (around ix jx m mx) = omega (arith, my x ix jx, mx y iy jy)

    -- The next of a key is a key of its component.
    pub next_in : In (next a b T c) T × Joined a b T (a c) (a (next a b T c))
    next_in = elim is_next [ larger k j l m ↦ (k, j) | around k j n m ↦ (k, j) ]

    -- "a lone card points to itself"
    pub next_lone : ((d : ℕ) → In d T → Joined a b T (a c) (a d) → d ≡ c) → next a b T c ≡ c
    next_lone h = h (next a b T c) next_in.0 next_in.1

  -- The next of a seated key is never in the stash.
  pub next_not_stash : (S : List ℕ) → Asc S → {c : ℕ} → In c (seated a b S) → In (next a b (seated a b S) c) (stash a b S) → ⊥
  next_not_stash S asc i = not_seated_and_stash a b S (next_in (seated_asc a b S asc) i).0
