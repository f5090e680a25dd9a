-- The bullets fix who sits where: a seating that obeys them is the seating of `occupant`. From the root's slot outwards, a key with one end reached
-- sits at its other end (`fixed` of Tree.antt). Assumes nothing.
use Rattle.std.specs.Prelude.{ℕ, ◌≡◌, ◌⊎◌}
use Rattle.std.proofs.Common.{sym, ◌∙◌, inl, inr}
use mathlib.Core.List.{List, Memᴰ as In}
use Rattle.cuckoo.specs.Graph.{root, seated, occupant}
use Rattle.basics.proofs.Tests.{eq?}
use Rattle.basics.specs.Sets.{Asc}
use Rattle.cuckoo.specs.Joined.{Joined}
use Rattle.cuckoo.proofs.Joined.{jsym, jrefl, jtrans, mono}
use Rattle.cuckoo.specs.Settling.{Cyclic, Settled}
use Rattle.cuckoo.proofs.Settling.{cyclic?, cyclic_near, seated_asc, seated_sub, seated_stops}
use Rattle.cuckoo.specs.Seating.{from_a, from_b}
use Rattle.cuckoo.proofs.Seating.{ends_near, rooted}
use Rattle.cuckoo.specs.Tree.{Far}
use Rattle.cuckoo.proofs.Tree.{fixed}
use Rattle.cuckoo.specs.Places.{hung, at_root, at_far, Seat}
use Rattle.cuckoo.proofs.Places.{hung_sub, hung_root, hung_joins, hung_bare, seat_near, or_ends, seat_occupant, occupant_seat, slot_seat}
use Rattle.cuckoo.specs.Bullets.{InOne, SmallestOf, SmallestOnCycle, Obeys}
use Rattle.cuckoo.proofs.Bullets.{one_of, root_tree, root_cycle, obeys}

module _ (a b : ℕ → ℕ) where
  -- what `fixed` asks of f, in the tree that hangs from the root z
  record Rule (T : List ℕ) (f : ℕ → ℕ) (z : ℕ) : Type 0 where
    start : f (a z) ≡ z
    own : (c : ℕ) → In c (hung a b T z) → Joined a b (hung a b T z) (a z) (a c) → (f (a c) ≡ c) ⊎ (f (b c) ≡ c)
    top : (c v : ℕ) → f (a z) ≡ c → Far a b (hung a b T z) (a z) c v → f v ≡ c

  module _ {T : List ℕ} (stop : Settled a b T) (asc : Asc T) (nonzero : In 0 T → ⊥) {f : ℕ → ℕ} (o : Obeys a b T f) where
    own_end : {c : ℕ} → In c T → InOne f c → (f (a c) ≡ c) ⊎ (f (b c) ≡ c)
    own_end i n = one_of a b T o.holds (λ q. nonzero (rw q at i)) n

    rule_cycle : {z : ℕ} → SmallestOnCycle a b T z → Rule T f z
    rule_cycle {z} s =
        let k = o.cycle z s in
        record {
          start = k.table_0;
          own = λ d i j. let m = hung_sub a b T z d i in own_end m (k.each d m (mono (hung_sub a b T z) j));
          top = λ d v e F. absurd (hung_root a b T z s.on (rw (sym e ∙ k.table_0) at F.c_in));
        }

    rule_tree : {z : ℕ} → SmallestOf a b T z → (Cyclic a b T (a z) → ⊥) → Rule T f z
    rule_tree {z} s n =
        let k = o.tree z s n in
        record {
          start = k.table_0;
          own = λ d i j.
              elim (eq? d z) [
                | inl q ↦ rw q (inl k.table_0)
                | inr m ↦ let l = hung_sub a b T z d i in own_end l (k.others d l (mono (hung_sub a b T z) j) m)
              ];
          top = λ d v e F.
              let q : d ≡ z = sym e ∙ k.table_0 in
              elim F.ends [ from_a p r ↦ absurd (F.cut (rw (p, q) jrefl)) | from_b p r ↦ rw (p, q) k.table_1 ];
        }

    rule : {c : ℕ} → In c T → Rule T f (root a b T (a c))
    rule {c} i =
        elim (cyclic? a b T (a c)) [
          | inl L ↦ rule_cycle (root_cycle a b T asc L).0
          | inr n ↦
              let s = root_tree a b T asc i jrefl n in
              rule_tree s.0 (λ L. n (cyclic_near s.1 L))
        ]

    -- who sits in a slot by the rule of `sits` is in it
    seat_fixed : {v c : ℕ} → Seat a b T v c → f v ≡ c
    seat_fixed {v} {c} S =
        let z = root a b T (a c) in
        let r = rule S.c_in in
        let R = rooted a b T S.c_in jrefl in
        elim S.place [
          | at_root q p ↦ rw p (r.start ∙ sym q)
          | at_far F ↦ fixed (hung_bare a b T z stop R) f r.own r.top F (hung_joins a b T z (jsym (jtrans (seat_near a b S) R.near)))
        ]

    -- "That fixes every other card's pocket", "That fixes the rest": what obeys the bullets is the seating of `occupant`, in every slot.
    pub unique : (v : ℕ) → f v ≡ occupant a b T v
    unique v =
        elim (occupant_seat a b T v) [
          | inr S ↦ seat_fixed S
          | inl e ↦ elim (o.holds v) [
            | inl q ↦ q ∙ sym e
            | inr r ↦
                let S = slot_seat a b {v = v} stop r.0 (ends_near (or_ends a b r.1).1 r.0) in
                absurd (nonzero (rw (sym (seat_occupant a b S.1) ∙ e) at S.1.c_in))
          ]
        ]

  -- So the occupants of a set's seated keys obey the bullets, and no other seating does.
  module _ (S : List ℕ) (asc : Asc S) (nonzero : In 0 S → ⊥) where
    seated_nonzero : In 0 (seated a b S) → ⊥
    seated_nonzero i = nonzero (seated_sub a b S asc 0 i)

    pub seated_obeys : Obeys a b (seated a b S) (occupant a b (seated a b S))
    seated_obeys = obeys a b (seated a b S) (seated_stops a b S asc) (seated_asc a b S asc) seated_nonzero

    -- "That fixes the rest", for the seated keys of a set
    pub seated_unique : {f : ℕ → ℕ} → Obeys a b (seated a b S) f → (v : ℕ) → f v ≡ occupant a b (seated a b S) v
    seated_unique o = unique (seated_stops a b S asc) (seated_asc a b S asc) seated_nonzero o
