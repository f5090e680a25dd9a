-- The laws of what specs/Bullets.antt defines.
use Rattle.std.specs.Prelude.{ℕ, ◌≤◌, ◌≡◌, refl, ◌⊎◌, ◌↔◌}
use Rattle.std.proofs.Common.{sym, ◌∙◌, ap, inl, inr, arith}
use mathlib.Core.List.{List, Memᴰ as In}
use Rattle.cuckoo.specs.Graph.{is_on_cycle, component, root, occupant}
use Rattle.basics.proofs.Tests.{eq?}
use Rattle.basics.specs.Sets.{Asc}
use Rattle.basics.specs.Lists.{Picked, passes, fails}
use Rattle.basics.proofs.Lists.{picked}
use Rattle.cuckoo.specs.Joined.{Joined}
use Rattle.cuckoo.proofs.Joined.{jsym, jrefl, jtrans, edge}
use Rattle.cuckoo.specs.Settling.{OnCycle, Cyclic, Settled}
use Rattle.cuckoo.proofs.Settling.{is_on_cycle_true, true_is_on_cycle}
use Rattle.cuckoo.specs.Seating.{from_b, tree_root, Rooted}
use Rattle.cuckoo.proofs.Seating.{rooted, root_same, true_sits, occupant_is, occupant_from}
use Rattle.cuckoo.specs.Tree.{Far}
use Rattle.cuckoo.proofs.Tree.{far_end, far_once}
use Rattle.cuckoo.proofs.Components.{in_component, component_in, component_near, asc_component}
use Rattle.cuckoo.specs.Places.{hung, at_root, at_far, Seat}
use Rattle.cuckoo.proofs.Places.{hung_in, hung_root, hung_joins, hung_bare, ends_or, seat_occupant, occupant_seat}
use Rattle.cuckoo.specs.Bullets.{InOne, SmallestOf, SmallestOnCycle, AtEnds, TreeBullet, CycleBullet, Obeys}

module _ (a b : ℕ → ℕ) (T : List ℕ) where
  holds_at : {f : ℕ → ℕ} {v c : ℕ} → (AtEnds a b T) f → (c ≡ 0 → ⊥) → f v ≡ c → (v ≡ a c) ⊎ (v ≡ b c)
  holds_at {f} {v} h nz e = elim (h v) [ inl q ↦ absurd (nz (sym e ∙ q)) | inr r ↦ rw e at r.1 ]

  -- A key that sits in exactly one slot sits in the one or the other of its two.
  pub one_of : {f : ℕ → ℕ} {c : ℕ} → (AtEnds a b T) f → (c ≡ 0 → ⊥) → InOne f c → (f (a c) ≡ c) ⊎ (f (b c) ≡ c)
  one_of h nz o = elim (holds_at h nz o.sits) [ inl q ↦ inl (rw q at o.sits) | inr q ↦ inr (rw q at o.sits) ]

  -- Where its two slots differ, a key sits in exactly one slot exactly if it sits in the one or the other of its two, and not in both.
  pub one_end : {f : ℕ → ℕ} {c : ℕ} → (AtEnds a b T) f → (c ≡ 0 → ⊥) → (a c ≡ b c → ⊥)
      → InOne f c ↔ (((f (a c) ≡ c) ⊎ (f (b c) ≡ c)) × (f (a c) ≡ c → f (b c) ≡ c → ⊥))
  one_end {f} {c} h nz ne = (λ o. (one_of h nz o, λ p q. ne (o.only (a c) p ∙ sym (o.only (b c) q))), back)
    where
      back : ((f (a c) ≡ c) ⊎ (f (b c) ≡ c)) × (f (a c) ≡ c → f (b c) ≡ c → ⊥) → InOne f c
      back r =
          elim r.0 [
            | inl p ↦ record { slot = a c; sits = p; only = λ v e. elim (holds_at h nz e) [ inl q ↦ q | inr q ↦ absurd (r.1 p (rw q at e)) ] }
            | inr p ↦ record { slot = b c; sits = p; only = λ v e. elim (holds_at h nz e) [ inl q ↦ absurd (r.1 (rw q at e) p) | inr q ↦ q ] }
          ]

  -- `root` is what the bullets say.
  module _ (asc : Asc T) where
    root_picked : {v c : ℕ} → In c T → Joined a b T v (a c) → Picked (is_on_cycle a b T) (component a b T v) (root a b T v)
    unfolding root
    root_picked {v} i j = picked (is_on_cycle a b T) (asc_component a b T v asc) (in_component a b T v i j)

    -- If the component of v has a cycle, the root is the smallest key on a cycle in it.
    pub root_cycle : {v : ℕ} → Cyclic a b T v → (SmallestOnCycle a b T) (root a b T v) × Joined a b T v (a (root a b T v))
    root_cycle {v} L =
        elim (root_picked L.cycle.on L.near) [
          | passes i t low ↦
              let j = component_near a b T v i in
              (record { on = is_on_cycle_true t; low = λ d l k. low d (in_component a b T v l.on (jtrans j k)) (true_is_on_cycle l) }, j)
          | fails i n low ↦ absurd (n L.d (in_component a b T v L.cycle.on L.near) (true_is_on_cycle L.cycle))
        ]

    -- If it has keys and no cycle, the root is its smallest key.
    pub root_tree : {v c : ℕ} → In c T → Joined a b T v (a c) → (Cyclic a b T v → ⊥) → (SmallestOf a b T) (root a b T v) × Joined a b T v (a (root a b T v))
    root_tree {v} i j n =
        elim (root_picked i j) [
          | passes k t low ↦ absurd (n (record { d = root a b T v; cycle = is_on_cycle_true t; near = component_near a b T v k }))
          | fails k m low ↦
              let l = component_near a b T v k in
              (record { z_in = component_in a b T v k; low = λ d id jd. low d (in_component a b T v id (jtrans l jd)) }, l)
        ]

    -- So the root of a component without a cycle is the smallest key in it,
    pub root_smallest : {z : ℕ} → (SmallestOf a b T) z → (Cyclic a b T (a z) → ⊥) → root a b T (a z) ≡ z
    root_smallest {z} s n =
        let r = root_tree s.z_in jrefl n in
        omega (arith, s.low (root a b T (a z)) r.0.z_in r.1, r.0.low z s.z_in (jsym r.1))

    -- and with a cycle the smallest on a cycle.
    pub root_smallest_on_cycle : {z : ℕ} → (SmallestOnCycle a b T) z → root a b T (a z) ≡ z
    root_smallest_on_cycle {z} s =
        let r = root_cycle (record { d = z; cycle = s.on; near = jrefl }) in
        omega (arith, s.low (root a b T (a z)) r.0.on r.1, r.0.low z s.on (jsym r.1))

  -- `occupant` obeys the bullets.
  module _ (stop : Settled a b T) (asc : Asc T) (nonzero : In 0 T → ⊥) where
    -- a key of T that is the occupant of a slot sits there
    pub seated_at : {v c : ℕ} → In c T → occupant a b T v ≡ c → Seat a b T v c
    seated_at {v} i e = elim (occupant_seat a b T v) [ inl q ↦ absurd (nonzero (rw (sym e ∙ q) at i)) | inr S ↦ rw e at S ]

    -- a key that is not the root sits in exactly one slot
    other_one : {c : ℕ} → In c T → (c ≡ root a b T (a c) → ⊥) → InOne (occupant a b T) c
    other_one {c} i n =
        let k = hung_in a b T z i n in
        elim (far_end (hung_bare a b T z stop R) k j) [ inl F ↦ at F j | inr F ↦ at F (jtrans j (edge k)) ]
      where
        z : ℕ
        z = root a b T (a c)

        R : Rooted a b T (a c) z
        R = rooted a b T i jrefl

        j : Joined a b (hung a b T z) (a z) (a c)
        j = hung_joins a b T z (jsym R.near)

        at : {v : ℕ} → Far a b (hung a b T z) (a z) c v → Joined a b (hung a b T z) (a z) v → InOne (occupant a b T) c
        at {v} F k = record {
          slot = v;
          sits = seat_occupant a b (record { c_in = i; place = at_far F });
          only = λ w e. elim (seated_at i e).place [ at_root q r ↦ absurd (n q) | at_far G ↦ far_once F G k ];
        }

    root_sits : {z : ℕ} → In z T → root a b T (a z) ≡ z → occupant a b T (a z) ≡ z
    root_sits {z} i e = seat_occupant a b (record { c_in = i; place = at_root (sym e) (ap a (sym e)) })

    -- "No loop in the group: its smallest card sits in both its pockets. That fixes every other card's pocket."
    pub bullet_tree : (z : ℕ) → (SmallestOf a b T) z → (Cyclic a b T (a z) → ⊥) → (TreeBullet a b T) (occupant a b T) z
    bullet_tree z s n =
        let e = root_smallest asc s n in
        let flat : OnCycle a b T z → ⊥ = λ l. n (record { d = z; cycle = l; near = jrefl }) in
        record {
          table_0 = root_sits s.z_in e;
          table_1 = occupant_is a b T (b z) s.z_in (from_b refl refl) (true_sits a b T (b z) z (rw e (tree_root flat refl)));
          others = λ c i j m. other_one i (λ q. m (q ∙ root_same a b T (jsym j) ∙ e));
        }

    -- "One loop: the smallest card on the loop sits in rack 0. That fixes the rest."
    pub bullet_cycle : (z : ℕ) → (SmallestOnCycle a b T) z → (CycleBullet a b T) (occupant a b T) z
    bullet_cycle z s =
        let e = root_smallest_on_cycle asc s in
        let t = root_sits s.on.on e in
        let self : InOne (occupant a b T) z = record {
          slot = a z;
          sits = t;
          only = λ w k. elim (rw e at (seated_at s.on.on k).place) [ at_root q r ↦ r | at_far G ↦ absurd (hung_root a b T z s.on G.c_in) ];
        } in
        record {
          table_0 = t;
          each = λ c i j. elim (eq? c z) [ inl q ↦ rw q self | inr n ↦ other_one i (λ q. n (q ∙ root_same a b T (jsym j) ∙ e)) ];
        }

    -- The occupants of a settled set obey the bullets.
    pub obeys : (Obeys a b T) (occupant a b T)
    obeys = record {
      holds = λ v. elim (occupant_from a b T v) [ inl e ↦ inl e | inr r ↦ inr (r.0, ends_or a b r.1.1) ];
      tree = bullet_tree;
      cycle = bullet_cycle;
    }
