-- The laws of what specs/Places.antt defines.
use Rattle.std.specs.Prelude.{ℕ, ◌≡◌, refl, cond, ◌⊎◌}
use Rattle.std.proofs.Common.{sym, ◌∙◌, ap}
use Rattle.std.proofs.Math.Bool.{true≢false}
use Rattle.std.proofs.Math.Logic.{inl, inr}
use mathlib.Core.List.{List, Memᴰ as In}
use Rattle.basics.specs.Tests.{test}
use Rattle.basics.proofs.Tests.{eq?}
use Rattle.basics.specs.Sets.{without, Sub}
use Rattle.basics.proofs.Sets.{in_out, out_in, out_ne}
use Rattle.cuckoo.specs.Graph.{is_on_cycle, root, occupant}
use Rattle.cuckoo.specs.Joined.{Joined}
use Rattle.cuckoo.proofs.Joined.{jsym, jtrans, cut}
use Rattle.cuckoo.specs.Settling.{OnCycle, Settled}
use Rattle.cuckoo.proofs.Settling.{is_on_cycle_true, true_is_on_cycle}
use Rattle.cuckoo.specs.Seating.{Ends, from_a, from_b, Bare, Sat, tree_root, tree_away, cycle_root, cycle_away, Rooted}
use Rattle.cuckoo.proofs.Seating.{ends_near, rooted, root_same, sits_true, true_sits, occupant_is, occupant_from}
use Rattle.cuckoo.specs.Tree.{Far}
use Rattle.cuckoo.proofs.Tree.{far_some}
use Rattle.cuckoo.specs.Places.{hung, PlaceOf, Seat, at_root, at_far}

module _ (a b : ℕ → ℕ) where
  data Kind (T : List ℕ) (z : ℕ) : Type 0 where
    tree : (OnCycle a b T z → ⊥) → (hung a b) T z ≡ T → Kind T z
    cycle : OnCycle a b T z → (hung a b) T z ≡ without z T → Kind T z

  kind : (T : List ℕ) (z : ℕ) → Kind T z
  unfolding hung
  kind T z =
      elim (test (is_on_cycle a b T z)) [
        | inl e ↦ cycle (is_on_cycle_true e) (rw e)
        | inr e ↦ tree (λ l. true≢false (sym (true_is_on_cycle l) ∙ e)) (rw e)
      ]

  module _ (T : List ℕ) (z : ℕ) where
    -- every key but the root hangs, and what hangs is of the set
    pub hung_in : {c : ℕ} → In c T → (c ≡ z → ⊥) → In c ((hung a b) T z)
    hung_in i n = elim (kind T z) [ tree m e ↦ rw e i | cycle l e ↦ rw e (in_out z T (λ q. n (sym q)) i) ]

    pub hung_sub : Sub ((hung a b) T z) T
    hung_sub c i = elim (kind T z) [ tree m e ↦ rw e at i | cycle l e ↦ out_in z T (rw e at i) ]

    -- a root on a cycle does not hang
    pub hung_root : OnCycle a b T z → In z ((hung a b) T z) → ⊥
    hung_root l i = elim (kind T z) [ tree m e ↦ m l | cycle k e ↦ out_ne z T (rw e at i) refl ]

    -- what the set joins is joined by the keys that hang
    pub hung_joins : {u v : ℕ} → Joined a b T u v → Joined a b ((hung a b) T z) u v
    hung_joins j = elim (kind T z) [ tree m e ↦ rw e j | cycle l e ↦ rw e (cut z T l.closed j) ]

    -- and they have no cycle in the root's component
    pub hung_bare : {u : ℕ} → Settled a b T → Rooted a b T u z → Bare a b ((hung a b) T z) (a z)
    hung_bare stop R =
        elim (kind T z) [
          | tree m e ↦ rw e (λ c i j k. R.flat m c (jtrans R.near j) (record { on = i; closed = k }))
          | cycle l e ↦ rw e (λ c i j k. stop z (record { cycle = l; rest = record { d = c; cycle = record { on = i; closed = k }; near = j } }))
        ]

    -- `Sat` of Seating, and so `sits`, says the same
    sat_place : {c v w : ℕ} → In c T → Ends a b c v w → Sat a b T z v c → (PlaceOf a b) T z v c
    sat_place {c} {v} {w} i e s = go s (kind T z)
      where
        far : {X : List ℕ} → (hung a b) T z ≡ X → In c X → (Joined a b (without c X) v (a z) → ⊥) → (PlaceOf a b) T z v c
        far q k o = at_far (rw q (record { c_in = k; w = w; ends = e; cut = o }))

        both : {w : ℕ} → Ends a b c v w → c ≡ z → (hung a b) T z ≡ T → (OnCycle a b T z → ⊥) → (PlaceOf a b) T z v c
        both (from_a p q) r h n = at_root r (p ∙ ap a r)
        both (from_b p q) r h n = far h i (λ j. n (record { on = rw r at i; closed = jsym (rw (p, r) at j) }))

        go : Sat a b T z v c → Kind T z → (PlaceOf a b) T z v c
        go (tree_root n q) (tree m h) = both e q h m
        go (tree_root n q) (cycle l h) = absurd (n l)
        go (tree_away n q o) (tree m h) = far h i o
        go (tree_away n q o) (cycle l h) = absurd (n l)
        go (cycle_root l q r) k = at_root q r
        go (cycle_away l q o) (tree m h) = absurd (m l)
        go (cycle_away l q o) (cycle k h) = far h (in_out z T (λ r. q (sym r)) i) o

    place_sat : {c v : ℕ} → (PlaceOf a b) T z v c → Sat a b T z v c
    place_sat {c} {v} P = go P (kind T z) (eq? c z)
      where
        go : (PlaceOf a b) T z v c → Kind T z → (c ≡ z) ⊎ (c ≡ z → ⊥) → Sat a b T z v c
        go (at_root q r) (tree m h) d = tree_root m q
        go (at_root q r) (cycle l h) d = cycle_root l q r
        go (at_far F) (tree m h) (inl q) = tree_root m q
        go (at_far F) (tree m h) (inr n) = tree_away m n (rw h at F.cut)
        go (at_far F) (cycle l h) (inl q) = absurd (hung_root l (rw q at F.c_in))
        go (at_far F) (cycle l h) (inr n) = cycle_away l n (rw h at F.cut)

    place_ends : {c v : ℕ} → (PlaceOf a b) T z v c → (w : ℕ) × Ends a b c v w
    place_ends {c} (at_root q r) = (b c, from_a (r ∙ ap a (sym q)) refl)
    place_ends (at_far F) = (F.w, F.ends)

  -- a key sits in one of its two slots
  pub seat_ends : {T : List ℕ} {v c : ℕ} → (Seat a b) T v c → (w : ℕ) × Ends a b c v w
  seat_ends {T} {v} {c} S = place_ends T (root a b T (a c)) S.place

  -- a key's slot, and which of the two it is
  pub or_ends : {c v : ℕ} → (v ≡ a c) ⊎ (v ≡ b c) → (w : ℕ) × Ends a b c v w
  or_ends {c} (inl p) = (b c, from_a p refl)
  or_ends {c} (inr p) = (a c, from_b p refl)

  pub ends_or : {c v w : ℕ} → Ends a b c v w → (v ≡ a c) ⊎ (v ≡ b c)
  ends_or (from_a p q) = inl p
  ends_or (from_b p q) = inr p

  -- a key sits in a slot of its component
  pub seat_near : {T : List ℕ} {v c : ℕ} → (Seat a b) T v c → Joined a b T v (a c)
  seat_near S = ends_near (seat_ends S).1 S.c_in

  -- the occupant of a slot is the key that sits there
  pub seat_occupant : {T : List ℕ} {v c : ℕ} → (Seat a b) T v c → occupant a b T v ≡ c
  seat_occupant {T} {v} {c} S = occupant_is a b T v S.c_in (seat_ends S).1 (true_sits a b T v c (place_sat T (root a b T (a c)) S.place))

  -- a slot is empty, or its occupant sits there
  pub occupant_seat : (T : List ℕ) (v : ℕ) → (occupant a b T v ≡ 0) ⊎ (Seat a b) T v (occupant a b T v)
  occupant_seat T v =
      let c = occupant a b T v in
      elim (occupant_from a b T v) [
        | inl e ↦ inl e
        | inr r ↦ inr (record { c_in = r.0; place = sat_place T (root a b T (a c)) r.0 r.1.1 (sits_true a b T v c r.2) })
      ]

  -- every slot of a component that has keys has one that sits there
  pub slot_seat : {T : List ℕ} {v c : ℕ} → Settled a b T → In c T → Joined a b T v (a c) → (d : ℕ) × (Seat a b) T v d
  slot_seat {T} {v} {c} stop i j = go (eq? v (a z))
    where
      z : ℕ
      z = root a b T v

      R : Rooted a b T v z
      R = rooted a b T i j

      near_z : {d : ℕ} → Joined a b T v (a d) → root a b T (a d) ≡ z
      near_z k = root_same a b T (jsym k)

      go : (v ≡ a z) ⊎ (v ≡ a z → ⊥) → (d : ℕ) × (Seat a b) T v d
      go (inl q) = (z, record { c_in = R.z_in; place = rw (near_z R.near) (at_root refl q) })
      go (inr n) =
          let r = far_some (hung_bare T z stop R) (hung_joins T z (jsym R.near)) n in
          let k = hung_sub T z r.0 r.1.c_in in
          (r.0, record { c_in = k; place = rw (near_z (ends_near r.1.ends k)) (at_far r.1) })
