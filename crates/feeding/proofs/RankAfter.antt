-- More laws, which rest on those of Rank.antt.
use Rattle.std.specs.Prelude.{ℕ, suc, ◌+◌, ◌≤◌, ◌≡◌, cond, ◌⊎◌, ◌↔◌, eqb, length}
use Rattle.std.proofs.Common.{sym, ◌∙◌, arith, eqb-true}
use Rattle.std.proofs.Math.Bool.{true≢false}
use Rattle.std.proofs.Math.Logic.{inl, inr}
use mathlib.Core.List.Memᴰ.{head as here}
use mathlib.Core.List.Memᴰ.{tail as there}
use mathlib.Core.List.{List, ◌∷◌, Memᴰ as In}
use Rattle.std.proofs.lemmas.Bool.{eqb-false}
use Rattle.basics.specs.Tests.{test}
use Rattle.basics.specs.Sets.{without, Sub, Asc}
use Rattle.basics.proofs.Sets.{in?, out_in, in_out, out_ne, out_sub}
use Rattle.basics.proofs.Lists.{pigeonhole}
use Rattle.ordered.specs.Keys.{with_key}
use Rattle.ordered.proofs.Place.{with_cases, with_here, with_there, asc_with, length_with}
use Rattle.cuckoo.specs.Graph.{cyclic, seated, stash, occupant}
use Rattle.cuckoo.specs.Joined.{Joined, past, along, back}
use Rattle.cuckoo.proofs.Joined.{jrefl, jsym, jtrans, edge, mono, split, joined?}
use Rattle.cuckoo.specs.Settling.{OnCycle, Cyclic, Spare, Settled}
use Rattle.cuckoo.proofs.Settling.{cyclic_true, true_cyclic, cyclic_near, cyclic?}
use Rattle.cuckoo.proofs.Settling.{moves, cycle_mono, cyclic_mono, seated_sub, seated_asc, seated_joined, seated_stops}
use Rattle.cuckoo.proofs.Seating.{look}
use Rattle.cuckoo.proofs.Places.{seat_near, seat_occupant, slot_seat}
use Rattle.cuckoo.proofs.Filled.{occupant_injective, seated_stash_length}
use Rattle.cuckoo.proofs.Kruskal.{stashed_cyclic}
use Rattle.cuckoo.proofs.Cycles.{seated_cyclic}
use Rattle.cuckoo.proofs.Placement.{subset_fits}
use Rattle.feeding.specs.Rank.{BothCyclic}
use Rattle.feeding.proofs.Rank.{both_cyclic?, both_mono}
use Rattle.feeding.proofs.RankBound.{rank_most, rank_least, cyclic_grows, other_keeps}

module _ (a b : ℕ → ℕ) {X : List ℕ} {c : ℕ} (h : Asc X) (z : In 0 X → ⊥) (nz : 0 ≡ c → ⊥) (new : In c X → ⊥) where
  -- A new key enlarges the stash exactly if both its slots lie in components with a cycle.
  pub stash_with : (length (stash a b (with_key c X)) ≡ suc (length (stash a b X))) ↔ BothCyclic a b X c
  stash_with = (
    λ e. elim (both_cyclic? a b X c) [ inl k ↦ k | inr n ↦ absurd (omega (arith, (other_keeps a b h z nz new) n)) ],
    (cyclic_grows a b h z nz new),
  )

-- Diminishing returns: a key that enlarges the stash of a set enlarges that of every larger one.
pub diminishing : (a b : ℕ → ℕ) {A B : List ℕ} {c : ℕ} → Asc A → Asc B → Sub A B
    → (In 0 B → ⊥) → (0 ≡ c → ⊥) → (In c B → ⊥)
    → length (stash a b (with_key c A)) ≡ suc (length (stash a b A))
    → length (stash a b (with_key c B)) ≡ suc (length (stash a b B))
diminishing a b {c = c} hA hB s z nz new e =
    cyclic_grows a b hB z nz new (both_mono s ((stash_with a b hA (λ i. z (s 0 i)) nz (λ i. new (s c i))).0 e))

-- Keys that enlarge the stash of X one by one enlarge it all together, each by one: no more are seated.
pub together : (a b : ℕ → ℕ) {X S : List ℕ} → Asc X → Asc S → Sub X S → (In 0 S → ⊥)
    → ((c : ℕ) → In c S → In c X ⊎ (length (stash a b (with_key c X)) ≡ suc (length (stash a b X))))
    → length (seated a b S) ≡ length (seated a b X)
together a b {X} {S} h k s z each =
    let zX : In 0 X → ⊥ = λ i. z (s 0 i) in
    let up = rank_most a b (seated_asc a b X h) (seated_stops a b X h) k z (λ c i. s c (seated_sub a b X h c i)) in
    let down = rank_least a b h zX k (λ c i. elim (in? c X) [
      | inl m ↦ inl m
      | inr n ↦ elim (each c i) [ inl m ↦ inl m | inr e ↦ inr ((stash_with a b h zX (λ q. z (rw q i)) n).0 e) ]
    ]) in
    omega arith
