-- The laws of what specs/Filled.antt defines.
use Prim.Native.Nat.{ℕ, ◌+◌}
use Rattle.std.specs.Prelude.{◌≡◌, refl, true, ◌⊎◌}
use Rattle.std.proofs.Common.{sym, ◌∙◌}
use Rattle.std.proofs.Math.Path.{ap}
use Rattle.std.proofs.Math.Bool.{Bool, not, true≢false}
use Rattle.std.proofs.Math.Logic.{inl, inr}
use mathlib.Core.List.{List, Memᴰ as In}
use borrow.Author.Tests.{not-true}
use Rattle.std.proofs.Math.ListN.{length}
use Rattle.basics.proofs.Tests.{eq?}
use Rattle.basics.specs.Sets.{member, keep, Sub, Asc}
use Rattle.basics.proofs.Sets.{in?, keep_in, keep_test, in_keep, member_in, in_member, no_member, asc_keep, asc_ext}
use Rattle.basics.proofs.Lists.{length_split}
use Rattle.cuckoo.specs.Graph.{root, sits, occupant, seated, stash}
use Rattle.cuckoo.specs.Joined.{Joined}
use Rattle.cuckoo.proofs.Joined.{jsym, jrefl, jtrans}
use Rattle.cuckoo.specs.Settling.{Cyclic, Settled}
use Rattle.cuckoo.proofs.Settling.{cyclic?, cyclic_near, seated_sub, seated_asc}
use Rattle.cuckoo.proofs.Seating.{occupant_is}
use Rattle.cuckoo.proofs.Places.{or_ends, seat_near, seat_occupant, occupant_seat, slot_seat}
use Rattle.cuckoo.specs.Bullets.{InOne, SmallestOf}
use Rattle.cuckoo.proofs.Bullets.{root_tree, root_cycle, bullet_tree, bullet_cycle, seated_at}
use Rattle.cuckoo.specs.Filled.{Sitting, in_one, in_both}

module _ (a b : ℕ → ℕ) where
  -- One key to a slot: two keys that sit in the same slot are equal.
  pub sits_one : {T : List ℕ} {v c d : ℕ} → In c T → In d T → (v ≡ a c) ⊎ (v ≡ b c) → (v ≡ a d) ⊎ (v ≡ b d)
      → sits a b T v c ≡ true → sits a b T v d ≡ true → c ≡ d
  sits_one {T} {v} ic id p q s t = sym (occupant_is a b T v ic (or_ends a b p).1 s) ∙ occupant_is a b T v id (or_ends a b q).1 t

  -- Every slot of a component that has keys is filled, by a key of the set (so not 0, where 0 is not in the set),
  pub filled : {T : List ℕ} {v c : ℕ} → Settled a b T → In c T → Joined a b T v (a c) → In (occupant a b T v) T
  filled stop i j = let S = slot_seat a b stop i j in rw (seat_occupant a b S.1) S.1.c_in

  -- and every other slot is empty.
  pub empty : {T : List ℕ} {v : ℕ} → ((c : ℕ) → In c T → Joined a b T v (a c) → ⊥) → occupant a b T v ≡ 0
  empty {T} {v} n = elim (occupant_seat a b T v) [ inl e ↦ e | inr S ↦ absurd (n (occupant a b T v) S.c_in (seat_near a b S)) ]

  module _ {T : List ℕ} (stop : Settled a b T) (asc : Asc T) (nonzero : In 0 T → ⊥) where
    -- In a component with a cycle each key sits in exactly one slot.
    pub cycle_one : {v c : ℕ} → Cyclic a b T v → In c T → Joined a b T v (a c) → InOne (occupant a b T) c
    cycle_one L i j = let r = root_cycle a b T asc L in (bullet_cycle a b T stop asc nonzero _ r.0).each _ i (jtrans (jsym r.1) j)

    -- Each key sits in exactly one slot, except the smallest key of a component without a cycle, which sits in both.
    pub sitting : (c : ℕ) → In c T → (Sitting a b) T c
    sitting c i =
        elim (cyclic? a b T (a c)) [
          | inl L ↦ in_one (cycle_one L i jrefl)
          | inr n ↦ go (root_tree a b T asc i jrefl n) n (eq? c (root a b T (a c)))
        ]
      where
        go : {z : ℕ} → SmallestOf a b T z × Joined a b T (a c) (a z) → (Cyclic a b T (a c) → ⊥) → (c ≡ z) ⊎ (c ≡ z → ⊥) → (Sitting a b) T c
        go s n (inl q) = let B = bullet_tree a b T stop asc nonzero c (rw (← q) at s.0) n in in_both (rw (← q) at s.0) n B.table_0 B.table_1
        go {z} s n (inr m) =
            let flat : Cyclic a b T (a z) → ⊥ = λ L. n (cyclic_near s.1 L) in
            in_one ((bullet_tree a b T stop asc nonzero z s.0 flat).others c i (jsym s.1) m)

    -- In a component with a cycle no two slots have the same key.
    pub occupant_injective : {v w : ℕ} → Cyclic a b T v → occupant a b T v ≡ occupant a b T w → v ≡ w
    occupant_injective {v} {w} L e =
        let i = filled stop L.cycle.on L.near in
        let o = cycle_one L i (seat_near a b (seated_at a b T stop asc nonzero i refl)) in
        o.only v refl ∙ sym (o.only w (sym e))

module _ (a b : ℕ → ℕ) (S : List ℕ) where
  -- A key of the set is seated or in the stash,
  pub seated_or_stash : {c : ℕ} → In c S → In c (seated a b S) ⊎ In c (stash a b S)
  unfolding stash
  seated_or_stash {c} i =
      elim (in? c (seated a b S)) [
        | inl k ↦ inl k
        | inr n ↦ inr (in_keep (λ c. not (member c (seated a b S))) S (rw (no_member c (seated a b S) n)) i)
      ]

  -- and never both.
  pub not_seated_and_stash : {c : ℕ} → In c (seated a b S) → In c (stash a b S) → ⊥
  unfolding stash
  not_seated_and_stash {c} i k =
      true≢false (sym (in_member i) ∙ not-true (member c (seated a b S)) (keep_test (λ c. not (member c (seated a b S))) S k))

  -- The stash is a subset of the set (and so are the seated keys: `seated_sub` of Settling),
  pub stash_sub : Sub (stash a b S) S
  unfolding stash
  stash_sub c i = keep_in (λ c. not (member c (seated a b S))) S i

  module _ (asc : Asc S) where
    -- "ascending".
    pub stash_asc : Asc (stash a b S)
    unfolding stash
    stash_asc = asc_keep (λ c. not (member c (seated a b S))) asc

    -- There are as many keys as seated keys and stashed keys together.
    pub seated_stash_length : length (seated a b S) + length (stash a b S) ≡ length S
    unfolding stash
    seated_stash_length =
        let p : ℕ → Bool = λ c. member c (seated a b S) in
        let e : seated a b S ≡ keep p S = asc_ext (seated a b S) (keep p S) (seated_asc a b S asc) (asc_keep p asc)
        (λ c i. in_keep p S (in_member i) (seated_sub a b S asc c i)) (λ c i. member_in c (seated a b S) (keep_test p S i)) in
        ap (λ (L : List ℕ). length L + length (keep (λ c. not (p c)) S)) e ∙ length_split p S
