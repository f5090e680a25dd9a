-- Settling, which takes away keys from the largest down, leaves what Kruskal's rule keeps as it lays keys down from the smallest up: the forest,
-- and in each component the smallest key outside it, which closes the component's one cycle and is the largest key on it. Assumes nothing.
use Rattle.std.specs.Prelude.{ℕ, suc, ◌<◌, ◌≤◌, ◌≡◌, Bool, true, ◌↔◌}
use Rattle.std.proofs.Common.{sym, inl, inr, arith}
use mathlib.Core.List.{List, Memᴰ as In}
use Rattle.basics.proofs.Tests.{eq?, le?}
use Rattle.basics.specs.Sets.{keep, without, Sub, Asc}
use Rattle.basics.proofs.Sets.{in?, keep_in, keep_test, in_keep, out_in, in_out, out_ne, outs, below_in, below_lt, asc_keep, asc_ext}
use Rattle.cuckoo.specs.Graph.{seated, root}
use Rattle.cuckoo.specs.Joined.{Joined}
use Rattle.cuckoo.proofs.Joined.{jrefl, jsym, jtrans, edge, mono, confine}
use Rattle.cuckoo.specs.Forest.{forest}
use Rattle.cuckoo.proofs.Forest.{forest_in, spans_key, spans, acyclic}
use Rattle.cuckoo.specs.Settling.{OnCycle, Cyclic, Settled, Stays}
use Rattle.cuckoo.proofs.Settling.{seated_asc, one, seated_sub, seated_forest, seated_stops, seated_some, seated_is, is_seated}
use Rattle.cuckoo.specs.Seating.{Bare}
use Rattle.cuckoo.proofs.Seating.{ends_near, ends_cycle, one_near}
use Rattle.cuckoo.proofs.Tree.{far_some}
use Rattle.cuckoo.proofs.Bullets.{root_cycle}

module _ (a b : ℕ → ℕ) where
  -- The forest joins exactly the slots that the set joins.
  pub forest_joins : (S : List ℕ) (u v : ℕ) → Joined a b (forest a b S) u v ↔ Joined a b S u v
  forest_joins S u v = (mono (forest_in a b S), spans S)

  -- No key of the forest lies on a cycle of it.
  pub forest_acyclic : (S : List ℕ) (c : ℕ) → OnCycle a b (forest a b S) c → ⊥
  forest_acyclic S c l = acyclic S l.on l.closed

  module _ {S : List ℕ} (h : Asc S) where
    abbrev T : List ℕ
    T = seated a b S

    -- "the largest card that lies on a loop goes to the drawer, and again, until one loop is left": a key of the set stays exactly if it is of the
    -- forest, or the smallest key of its component that is not.
    pub kruskal : (c : ℕ) → In c T ↔ (In c S × Stays a b S c)
    kruskal c = (λ i. (seated_sub a b S h c i, seated_is a b S h c i), λ r. is_seated a b S h c r.0 r.1)

    -- the same as an equation, for any test that agrees with the rule
    pub kruskal_keep : (p : ℕ → Bool) → ((c : ℕ) → In c S → (p c ≡ true) ↔ Stays a b S c) → T ≡ keep p S
    kruskal_keep p e = asc_ext T (keep p S) (seated_asc a b S h) (asc_keep p h)
        (λ c i. let s = (kruskal c).0 i in in_keep p S ((e c s.0).1 s.1) s.0)
        (λ c i. let s = keep_in p S i in (kruskal c).1 (s, (e c s).0 (keep_test p S i)))

    -- The kept key y outside the forest is the largest on its cycle.
    pub largest_on_cycle : (y c : ℕ) → In y T → (In y (forest a b S) → ⊥) → OnCycle a b T c → Joined a b S (a c) (a y) → c ≤ y
    largest_on_cycle y c iy ny l j =
        elim (le? c y) [
          | inl q ↦ q
          | inr y<c ↦ absurd (acyclic S (in_F c l.on jrefl (omega arith)) (confine S up (bypass y<c) l.closed))
        ]
      where
        F : List ℕ
        F = forest a b S

        -- y is the only kept key near it that is outside the forest
        in_F : (d : ℕ) → In d T → Joined a b S (a c) (a d) → (d ≡ y → ⊥) → In d F
        in_F d i k n =
            elim (in? d F) [
              | inl f ↦ f
              | inr o ↦ absurd (n (one a b S (seated_stops a b S h) (seated_sub a b S h) (seated_forest a b S h) d y i iy o ny (jtrans (jsym k) j)))
            ]

        up : Sub (without c T) S
        up d i = seated_sub a b S h d (out_in c T i)

        -- the other keys of the cycle join nothing that the forest without c does not join: they are of the forest, or y, whose slots the
        -- smaller keys of the forest join
        bypass : y < c → (d : ℕ) → In d (without c T) → Joined a b S (a c) (a d) → Joined a b (without c F) (a d) (b d)
        bypass y<c d i k =
            elim (eq? d y) [
              | inl q ↦ rw q (mono (λ x f. let x<y = below_lt (suc y) F f in in_out c F (omega arith) (below_in (suc y) F f))
                  (spans_key S (suc y) y (omega arith) (seated_sub a b S h y iy)))
              | inr n ↦ edge (in_out c F (out_ne c T i) (in_F d (out_in c T i) k n))
            ]

    -- It closes a cycle,
    pub outside_cycle : (y : ℕ) → In y T → (In y (forest a b S) → ⊥) → OnCycle a b T y
    outside_cycle y i n = record {
      on = i;
      closed = mono (λ d f. in_out y T (λ q. n (rw q f)) (seated_forest a b S h d f)) (spans S (edge (seated_sub a b S h y i)));
    }

    -- and is there wherever a key was taken away: a component with a stashed key keeps a cycle.
    pub stashed_cyclic : (d : ℕ) → In d S → (In d T → ⊥) → Cyclic a b T (a d)
    stashed_cyclic d i n =
        let y = seated_some a b S h d i (λ f. n (seated_forest a b S h d f)) in
        record { d = y.y; cycle = outside_cycle y.y y.y_in y.y_off; near = mono (seated_forest a b S h) (spans S y.near) }

  -- In a settled set a cycle has at least two keys, where its key c has two slots: d is another.
  pub two_on_cycle : {K : List ℕ} {c : ℕ} → Settled a b K → (a c ≡ b c → ⊥) → OnCycle a b K c
      → (d : ℕ) × (c ≡ d → ⊥) × OnCycle a b K d × Joined a b K (a c) (a d)
  two_on_cycle {K} {c} stop n l =
      let X = without c K in
      let bare : Bare a b X (b c) = λ x i j k.
      stop c (record { cycle = l; rest = record { d = x; cycle = record { on = i; closed = k }; near = jtrans l.closed j } }) in
      let r = far_some bare (jsym l.closed) n in
      let d = r.0 in
      let F = r.1 in
      let i = out_in c K F.c_in in
      let ne = out_ne c K F.c_in in
      let e : Joined a b (without d K) (a c) (b c) = edge (in_out d K (λ q. ne (sym q)) l.on) in
      let w : Joined a b (without d X) F.w (b c) = elim (one_near F.ends F.c_in (jsym l.closed)) [ inl k ↦ absurd (F.cut k) | inr k ↦ k ] in
      (d, ne, record { on = i; closed = ends_cycle F.ends (jtrans e (jsym (mono (λ x k. search outs) w))) }, ends_near F.ends i)

  -- The root of a component with a cycle is of the forest (where each key has two slots: the tables are disjoint).
  pub root_forest : {S : List ℕ} {v : ℕ} → Asc S → ((c : ℕ) → In c S → a c ≡ b c → ⊥) → Cyclic a b (seated a b S) v
      → In (root a b (seated a b S) v) (forest a b S)
  root_forest {S} {v} h apart L =
      let K = seated a b S in
      let z = root a b K v in
      let s = (root_cycle a b K (seated_asc a b S h) L).0 in
      elim (in? z (forest a b S)) [
        | inl f ↦ f
        | inr n ↦
            let t = two_on_cycle (seated_stops a b S h) (apart z (seated_sub a b S h z s.on.on)) s.on in
            let low = s.low t.0 t.2 t.3 in
            let high = largest_on_cycle h z t.0 s.on.on n t.2 (jsym (mono (seated_sub a b S h) t.3)) in
            absurd (t.1 (omega arith))
      ]
