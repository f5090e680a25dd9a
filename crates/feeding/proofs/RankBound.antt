-- More laws, which rest on those of Rank.antt.
use Rattle.std.specs.Prelude.{ℕ, suc, ◌+◌, ◌≤◌, ◌≡◌, cond, ◌⊎◌, ◌↔◌, eqb, length}
use Rattle.std.proofs.Common.{sym, ◌∙◌, arith, eqb-true}
use Rattle.std.proofs.Math.Bool.{true≢false}
use Rattle.std.proofs.Math.Logic.{inl, inr}
use mathlib.Core.List.Memᴰ.{head as here}
use mathlib.Core.List.Memᴰ.{tail as there}
use mathlib.Core.List.{List, ◌∷◌, Memᴰ as In}
use Rattle.std.proofs.lemmas.Bool.{eqb-false}
use Rattle.basics.specs.Tests.{test}
use Rattle.basics.specs.Sets.{without, Sub, Asc}
use Rattle.basics.proofs.Sets.{in?, out_in, in_out, out_ne, out_sub}
use Rattle.basics.proofs.Lists.{pigeonhole}
use Rattle.ordered.specs.Keys.{with_key}
use Rattle.ordered.proofs.Place.{with_cases, with_here, with_there, asc_with, length_with}
use Rattle.cuckoo.specs.Graph.{cyclic, seated, stash, occupant}
use Rattle.cuckoo.specs.Joined.{Joined, past, along, back}
use Rattle.cuckoo.proofs.Joined.{jrefl, jsym, jtrans, edge, mono, split, joined?}
use Rattle.cuckoo.specs.Settling.{OnCycle, Cyclic, Spare, Settled}
use Rattle.cuckoo.proofs.Settling.{cyclic_true, true_cyclic, cyclic_near, cyclic?}
use Rattle.cuckoo.proofs.Settling.{moves, cycle_mono, cyclic_mono, seated_sub, seated_asc, seated_joined, seated_stops}
use Rattle.cuckoo.proofs.Seating.{look}
use Rattle.cuckoo.proofs.Places.{seat_near, seat_occupant, slot_seat}
use Rattle.cuckoo.proofs.Filled.{occupant_injective, seated_stash_length}
use Rattle.cuckoo.proofs.Kruskal.{stashed_cyclic}
use Rattle.cuckoo.proofs.Cycles.{seated_cyclic}
use Rattle.cuckoo.proofs.Placement.{subset_fits}
use Rattle.feeding.specs.Rank.{BothCyclic}
use Rattle.feeding.proofs.Rank.{counterpart, counterpart_is, into, apart, both_mono, seated_both, spare_both, with_nonzero, lengths}

module _ (a b : ℕ → ℕ) where
  -- A settled set K whose keys are of the settled set T, or have both slots in components of T with a cycle, has no
  -- more keys than T: each key goes to the one that T has in its slot; in a component without a cycle to itself.
  module _ {K T : List ℕ} (stop : Settled a b K) (stopT : Settled a b T) (asc : Asc T) (nonzero : In 0 T → ⊥)
      (covered : (c : ℕ) → In c K → In c T ⊎ (BothCyclic a b) T c) where
    bound : Asc K → length K ≤ length T
    bound h =
        pigeonhole (counterpart a b stop stopT asc nonzero covered) T h (λ c i. (into a b stop stopT asc nonzero covered) ((counterpart_is a b stop stopT asc nonzero covered) c i))
        (λ c d i j. (apart a b stop stopT asc nonzero covered) ((counterpart_is a b stop stopT asc nonzero covered) c i) ((counterpart_is a b stop stopT asc nonzero covered) d j))

module _ (a b : ℕ → ℕ) where
  -- Of the settled parts of a set none has more keys than are seated.
  pub rank_most : {K S : List ℕ} → Asc K → Settled a b K → Asc S → (In 0 S → ⊥) → Sub K S
      → length K ≤ length (seated a b S)
  rank_most {K} {S} hK stop h z s =
      bound a b stop (seated_stops a b S h) (seated_asc a b S h) (λ i. z (seated_sub a b S h 0 i))
      (λ c i. (seated_both a b) h (s c i)) hK

  -- More keys, each with both slots in components of X with a cycle, seat no more.
  pub rank_least : {X S : List ℕ} → Asc X → (In 0 X → ⊥) → Asc S → ((c : ℕ) → In c S → In c X ⊎ BothCyclic a b X c)
      → length (seated a b S) ≤ length (seated a b X)
  rank_least {X} {S} hX z h covered =
      bound a b (seated_stops a b S h) (seated_stops a b X hX) (seated_asc a b X hX) (λ i. z (seated_sub a b X hX 0 i))
      (λ c i. elim (covered c (seated_sub a b S h c i)) [
        | inl k ↦ (seated_both a b) hX k
        | inr k ↦ inr (record { left = seated_cyclic a b X hX k.left; right = seated_cyclic a b X hX k.right })
      ]) (seated_asc a b S h)

module _ (a b : ℕ → ℕ) {X : List ℕ} {c : ℕ} (h : Asc X) (z : In 0 X → ⊥) (nz : 0 ≡ c → ⊥) (new : In c X → ⊥) where
  more_seated : length (seated a b X) ≤ length (seated a b (with_key c X))
  more_seated =
      rank_most a b (seated_asc a b X h) (seated_stops a b X h) (asc_with c h) (with_nonzero a b h z nz new)
      (λ d i. with_there c X (seated_sub a b X h d i))

  -- A key both whose slots lie in components with a cycle goes to the stash, or another does in its place: the stash is
  -- one larger.
  pub cyclic_grows : BothCyclic a b X c → length (stash a b (with_key c X)) ≡ suc (length (stash a b X))
  cyclic_grows k =
      let l = rank_least a b h z (asc_with c h)
      (λ d i. elim (with_cases c X i) [ inl q ↦ inr (rw q k) | inr m ↦ inl m ]) in
      omega (arith, (lengths a b h z nz new).0, (lengths a b h z nz new).1, more_seated)

  -- Any other key leaves its length.
  pub other_keeps : (BothCyclic a b X c → ⊥) → length (stash a b (with_key c X)) ≡ length (stash a b X)
  other_keeps n =
      let T = seated a b X in
      let fresh : In c T → ⊥ = λ i. new (seated_sub a b X h c i) in
      let stop : Settled a b (with_key c T) = λ d s.
      n (both_mono (seated_sub a b X h) (spare_both (with_here c T) fresh (λ x. with_there c T)
      (λ x i. elim (with_cases c T i) [ inl q ↦ here q | inr k ↦ there k ]) (seated_stops a b X h) s)) in
      let l = rank_most a b (asc_with c (seated_asc a b X h)) stop (asc_with c h) (with_nonzero a b h z nz new)
      (λ d i. elim (with_cases c T i) [
        | inl q ↦ rw q (with_here c X)
        | inr k ↦ with_there c X (seated_sub a b X h d k)
      ]) in
      let m = subset_fits a b h (asc_with c h) (with_nonzero a b h z nz new) (λ d. with_there c X) in
      omega (arith, (lengths a b h z nz new).0, (lengths a b h z nz new).1, length_with c T (seated_asc a b X h) fresh)
