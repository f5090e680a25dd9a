-- The laws of what specs/Finish.antt defines.
use Rattle.std.specs.Prelude.{ℕ, ◌<◌, ◌≤◌, ◌≡◌}
use Rattle.std.proofs.Math.Path.{refl, sym}
use Rattle.std.proofs.Common.{◌∙◌, ap, arith}
use Rattle.std.proofs.Math.Logic.{inl, inr}
use mathlib.Core.List.Memᴰ.{head as here}
use mathlib.Core.List.Memᴰ.{tail as there}
use mathlib.Core.List.{List, ◌∷◌, Memᴰ as In}
use Rattle.std.proofs.Math.ListN.{length, get_or, set, length-set}
use Rattle.std.proofs.lemmas.List.{set-get_or}
use Rattle.basics.proofs.Tests.{eq?, le?}
use Rattle.basics.specs.Sets.{without, Sub}
use Rattle.basics.proofs.Sets.{out_in, in_out, out_ne, around, out_shorter, below_in, below_lt}
use Rattle.cuckoo.specs.Graph.{root}
use Rattle.cuckoo.specs.Joined.{Joined, past, along, back}
use Rattle.cuckoo.proofs.Joined.{split_out, jrefl, jsym, jtrans, edge, edge_head, mono, within, confine, more}
use Rattle.cuckoo.specs.Settling.{OnCycle}
use Rattle.cuckoo.specs.Seating.{Ends, from_a}
use Rattle.cuckoo.specs.Places.{hung}
use Rattle.cuckoo.proofs.Places.{hung_in, hung_sub, hung_root}
use Rattle.cuckoo.proofs.Bullets.{root_smallest, root_smallest_on_cycle}
use Rattle.forest.proofs.Oriented.{off_set, emptied, sides, forest_sub, forest_more, move, join, leads, tree_beyond, tree_below}
use Rattle.forest.specs.Oriented.{Forest, Oriented}
use Rattle.forest.specs.Reroot.{reroot}
use Rattle.forest.proofs.RerootLaws.{length_reroot, reroots}
use Rattle.forest.specs.Way.{SmallestOnWay}
use Rattle.forest.proofs.Way.{finds_lowest}
use Rattle.forest.proofs.Seats.{hung_tree, seats}
use Rattle.forest.specs.Finish.{finish_tree, exchange, finish_cycle, Finished, Spanned, TreeComponent, CycleComponent}

module _ (a b : ℕ → ℕ) (other : ℕ → ℕ → ℕ) (n : ℕ) where
  pub length_finish_tree : (h : List ℕ) (z : ℕ) → length ((finish_tree a b other n) h z) ≡ length h
  unfolding finish_tree
  length_finish_tree h z = simp length_reroot

  pub length_finish_cycle : (h : List ℕ) (y : ℕ) → length ((finish_cycle a b other n) h y) ≡ length h
  unfolding finish_cycle exchange
  length_finish_cycle h y = simp (length_reroot, length-set)

module _ {a b : ℕ → ℕ} {K F : List ℕ} (P : Spanned a b K F) where
  span : {u v : ℕ} → Joined a b K u v → Joined a b F u v
  span j = within P.spans j

  module _ {z : ℕ} (C : TreeComponent a b K F z) where
    tree_flat : (c : ℕ) → OnCycle a b K c → Joined a b K (a z) (a c) → ⊥
    tree_flat c l j = P.forest.acyclic c (C.all c l.on j)
        (confine K (λ d i. out_in c K i) (λ d i k. edge (in_out c F (out_ne c K i) (C.all d (out_in c K i) (jtrans j k)))) l.closed)

    tree_top : root a b K (a z) ≡ z
    tree_top = root_smallest a b K P.asc (record { z_in = C.z_in; low = C.low }) (λ L. tree_flat L.d L.cycle L.near)

  -- z is the smallest key on the way between the slots of y
  module _ {y z : ℕ} (C : CycleComponent a b K F y) (Z : SmallestOnWay a b F (b y) (a y) z) where
    -- the tree with y for z
    abbrev T : List ℕ
    T = y ∷ without z F

    iz : In z F
    iz = Z.on.mem

    z≢y : z ≡ y → ⊥
    z≢y q = C.off (rw q at iz)

    -- it joins the ends of z,
    T_closed : Joined a b T (a z) (b z)
    T_closed =
        let e : Joined a b T (a y) (b y) = edge_head in
        elim (split_out z F (jsym (span (edge C.y_in)))) [
          | past k ↦ absurd (Z.on.parts k)
          | along k l ↦ let k' : Joined a b T (b y) (a z) = more k in let l' : Joined a b T (b z) (a y) = more l in record { same = cc }
          | back k l ↦ let k' : Joined a b T (b y) (b z) = more k in let l' : Joined a b T (a z) (a y) = more l in record { same = cc }
        ]

    T_sub : Sub T (without z K)
    T_sub d i = elim i [ here q ↦ rw q (in_out z K z≢y C.y_in) | there k ↦ in_out z K (out_ne z F k) (P.sub d (out_in z F k)) ]

    -- so z lies on a cycle, and the tree joins what F joins
    on_cycle : OnCycle a b K z
    on_cycle = record { on = P.sub z iz; closed = mono T_sub T_closed }

    F_T : {u v : ℕ} → Joined a b F u v → Joined a b T u v
    F_T j = within (λ d i. elim (eq? z d) [ inl q ↦ rw (← q) T_closed | inr ne ↦ edge (there (in_out z F ne i)) ]) j

    T_F : {u v : ℕ} → Joined a b T u v → Joined a b F u v
    T_F j = span (mono (λ d i. out_in z K (T_sub d i)) j)

    z_near : Joined a b F (a y) (a z)
    z_near =
        let e : Joined a b F (a y) (b y) = span (edge C.y_in) in
        let ez : Joined a b F (a z) (b z) = edge iz in
        let up : Sub (without z F) F = λ d i. out_in z F i in
        elim (split_out z F (jsym e)) [
          | past k ↦ absurd (Z.on.parts k)
          | along k l ↦ let k' : Joined a b F (b y) (a z) = mono up k in record { same = cc }
          | back k l ↦ let k' : Joined a b F (b y) (b z) = mono up k in record { same = cc }
        ]

    y_near : {x : ℕ} → Joined a b K (a z) x → Joined a b K (a y) x
    y_near j = jtrans (mono P.sub z_near) j

    -- y is not smaller than z, and the other keys on the cycle are on the way
    z≤y : z ≤ y
    z≤y = elim (le? z y) [
      | inl l ↦ l
      | inr l ↦ absurd (Z.on.parts (jsym (mono (λ d i. in_out z F (λ q. omega (arith, below_lt y F i)) (below_in y F i)) C.closed)))
    ]

    z_low : (c : ℕ) → OnCycle a b K c → Joined a b K (a z) (a c) → z ≤ c
    z_low c l j = elim (C.all c l.on (y_near j)) [
      | inl q ↦ rw q z≤y
      | inr i ↦ Z.low c (record {
        mem = i;
        parts = λ k. P.forest.acyclic c i (confine K (λ d h. out_in c K h) (λ d h n.
            elim (C.all d (out_in c K h) (y_near (jtrans j n))) [
              | inl q ↦ rw q (jsym k)
              | inr i' ↦ edge (in_out c F (out_ne c K h) i')
            ]) l.closed);
      })
    ]

    cycle_top : root a b K (a z) ≡ z
    cycle_top = root_smallest_on_cycle a b K P.asc (record { on = on_cycle; low = z_low })

    -- the tree has the keys that hang from z
    hung_T : (c : ℕ) → In c (hung a b K z) → Joined a b (hung a b K z) (a z) (a c) → In c T
    hung_T c i j = elim (C.all c (hung_sub a b K z c i) (y_near (mono (hung_sub a b K z) j))) [
      | inl q ↦ here q
      | inr k ↦ there (in_out z F (λ q. hung_root a b K z on_cycle (rw (← q) at i)) k)
    ]

    T_hung : (c : ℕ) → In c T → In c (hung a b K z)
    T_hung c i = let k = T_sub c i in hung_in a b K z (out_in z K k) (λ q. out_ne z K k (sym q))

    T_forest : (y ≡ 0 → ⊥) → Forest a b T
    T_forest nz = forest_more (forest_sub (λ d i. out_in z F i) P.forest) nz (λ j. Z.on.parts (jsym j))

set_none : (h : List ℕ) (v : ℕ) → get_or h v 0 ≡ 0 → set h v 0 ≡ h
set_none h v e = ap (λ (y : ℕ). set h v y) (sym e) ∙ set-get_or h v 0

module _ {a b : ℕ → ℕ} {other : ℕ → ℕ → ℕ} (turn : (c v w : ℕ) → Ends a b c v w → other v c ≡ w)
    (m : ℕ) (fits : (c : ℕ) → (a c < m) × (b c < m))
    {K F : List ℕ} (P : Spanned a b K F) (n : ℕ) (len : length F < n) where
  pub finishes_tree : {z : ℕ} {h : List ℕ} → TreeComponent a b K F z → Oriented a b F h (a z) → length h ≡ m
      → Finished a b K h (a z) (finish_tree a b other n h z)
  unfolding finish_tree
  finishes_tree {z} {h} C o sz =
      let I = reroots turn m fits n z len P.forest o sz (fits z).0 in
      let flat = tree_flat P C in
      record {
        seats = seats P.forest C.z_in (tree_top P C) (λ d i j. C.all d (hung_sub a b K z d i) (mono (hung_sub a b K z) j))
            (λ d i j. hung_tree K z (λ l. flat z l jrefl) d (P.sub d i)) I (P.forest.nonzero z (C.all z C.z_in jrefl));
        frame = λ x k. I.frame x (λ j. k (mono P.sub j));
        size = I.size;
      }

  -- The root is at a y, and slot s holds z, the smallest key on the way there from b y.
  module _ {y s : ℕ} {h : List ℕ} (C : CycleComponent a b K F y) (o : Oriented a b F h (a y)) (sz : length h ≡ m)
      (Z : SmallestOnWay a b F (b y) (a y) (get_or h s 0)) (to : Joined a b F (b y) s) (nz : y ≡ 0 → ⊥) where
    exchanged : Finished a b K h (a y) (exchange a b other n h y s)
    unfolding exchange
    exchanged =
        let f = P.forest in
        let z = get_or h s 0 in
        let iz = Z.on.mem in
        let parts = Z.on.parts in
        let G = without z F in
        let up : Sub G F = λ d i. out_in z F i in
        let ey : Joined a b F (a y) (b y) = span P (edge C.y_in) in
        -- z is taken out of its slot s, which leaves two trees: h2, with the slots of y on either side
        let os = move (jtrans ey to) o in
        let w = leads f os refl (f.nonzero z iz) in
        let h2 = set h s 0 in
        let same2 : (x : ℕ) → (x ≡ s → ⊥) → get_or h2 x 0 ≡ get_or h x 0 = λ x k. off_set h s 0 x k in
        let o2 : (x : ℕ) → Joined a b F s x → Oriented a b G h2 x = λ x j. elim (sides G w.ends (around z F) j) [
          | inl k ↦ move k (tree_below h2 f os w same2 (emptied h s))
          | inr k ↦ move k (tree_beyond h2 f os w same2)
        ] in
        -- the tree of b y is re-rooted there, and y is left in it: h3, one tree again, of the keys T
        let l1 = out_shorter z F iz in
        let sz2 : length h2 ≡ m = length-set h s 0 ∙ sz in
        let I3 = reroots turn m fits n y (omega arith) (forest_sub up f) (o2 (b y) (jsym to)) sz2 (fits y).1 in
        let h3 = reroot other n h2 y (b y) in
        let sz3 : length h3 ≡ m = I3.size ∙ sz2 in
        let fT = T_forest P C Z nz in
        let o3 : Oriented a b (y ∷ G) h3 (a y) = join h3 fT (from_a refl refl) (here refl) (λ d i. there i) (λ d i. i) (λ k. parts (jsym k))
        (o2 (a y) (jtrans (jsym to) (jsym ey))) I3.turned (emptied h3 (b y)) I3.put
        (λ x j. I3.frame x (λ k. parts (jtrans k (jsym j)))) (λ x k ne. sym (off_set h3 (b y) 0 x ne)) in
        -- it is re-rooted at a z, and z is left there
        let near = z_near P C Z in
        let I4 = reroots turn m fits n z (omega arith) fT (move (F_T P C Z near) o3) sz3 (fits z).0 in
        let no_F : (x : ℕ) → (Joined a b K (a y) x → ⊥) → Joined a b F (a y) x → ⊥ = λ x k j. k (mono P.sub j) in
        record {
          seats = λ v j. seats fT (P.sub z iz) (cycle_top P C Z) (hung_T P C Z) (λ d i k. T_hung P C Z d i) I4 (f.nonzero z iz) v
              (jtrans (mono P.sub (jsym near)) j);
          frame = λ x k.
              I4.frame x (λ j. no_F x k (jtrans near (T_F P C Z j)))
              ∙ I3.frame x (λ j. no_F x k (jtrans ey (mono up j)))
              ∙ same2 x (λ q. no_F x k (rw q (jtrans ey to)));
          size = I4.size ∙ I3.size ∙ length-set h s 0;
        }

  pub finishes_cycle : {y : ℕ} {h : List ℕ} → CycleComponent a b K F y → Oriented a b F h (a y) → length h ≡ m → (y ≡ 0 → ⊥) → (a y ≡ b y → ⊥)
      → Finished a b K h (a y) (finish_cycle a b other n h y)
  unfolding finish_cycle
  finishes_cycle {y} {h} C o sz nz two =
      let f = P.forest in
      let ey : Joined a b F (a y) (b y) = span P (edge C.y_in) in
      let I = reroots turn m fits n 0 len f o sz (fits y).0 in
      let k = reroot other n h 0 (a y) in
      let o1 : Oriented a b F k (a y) = rw (set_none k (a y) I.put) at I.turned in
      let L = finds_lowest turn n (omega arith) f (move ey o1) (jsym ey) I.put (λ q. two (sym q)) in
      let D = exchanged C o1 (I.size ∙ sz) L.0 L.1 nz in
      record {
        seats = D.seats;
        frame = λ x k. D.frame x k ∙ I.frame x (λ j. k (mono P.sub j));
        size = D.size ∙ I.size;
      }
