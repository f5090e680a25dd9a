-- The laws of what specs/Locality.antt defines.
use Prim.Native.Nat.{ℕ}
use Rattle.std.specs.Prelude.{◌≡◌, ◌&&◌, ◌||◌, ◌↔◌}
use Rattle.std.proofs.Common.{sym, ◌∙◌}
use Rattle.std.proofs.Math.Path.{ap}
use Rattle.std.proofs.Math.Bool.{Bool, true, not, and-true as and_right}
use Rattle.std.proofs.Math.Logic.{inl, inr}
use mathlib.Core.List.{List, Memᴰ as In}
use Rattle.std.proofs.Math.Dec.{eqb}
use Rattle.basics.specs.Tests.{test}
use Rattle.basics.proofs.Tests.{and_true, bool_ext}
use Rattle.basics.specs.Sets.{member, keep, without, first, Sub, below, Asc}
use Rattle.basics.proofs.Sets.{member_in, in_member, out_in, in_out, out_ne, out_sub, below_in, below_lt, in_below, below_sub, asc_ext}
use Rattle.basics.proofs.Lists.{keep_ext, keep_keep, keep_both}
use Rattle.cuckoo.specs.Graph.{joined, is_on_cycle, component, seated, stash, root, sits, occupant, next}
use Rattle.cuckoo.specs.Joined.{Joined}
use Rattle.cuckoo.proofs.Joined.{jrefl, jsym, jtrans, edge, mono, joined_true, true_joined, cut, confine}
use Rattle.cuckoo.specs.Forest.{forest}
use Rattle.cuckoo.proofs.Forest.{forest_in, forest_no, in_forest}
use Rattle.cuckoo.specs.Settling.{OnCycle, Cyclic, Spare, tree, smallest}
use Rattle.cuckoo.proofs.Settling.{is_on_cycle_true, true_is_on_cycle, seated_sub, seated_joined, cycle_mono, spare_mono, seated_asc, seated_is, is_seated}
use Rattle.cuckoo.proofs.Seating.{ends_near, ends_of, rooted, occupant_from}
use Rattle.cuckoo.proofs.Components.{in_component, component_in, component_near, asc_component}
use Rattle.cuckoo.specs.Locality.{SameImage}

module _ (a b : ℕ → ℕ) where
  component_sub : (R : List ℕ) (v : ℕ) → Sub (component a b R v) R
  component_sub R v d i = component_in a b R v i

  -- R' has those keys of R, a part of S, that lie in v's component of S, and perhaps others of R
  record Keeps (S : List ℕ) (v : ℕ) (R R' : List ℕ) : Type 0 where
    sub : Sub R S
    less : Sub R' R
    all : (d : ℕ) → In d R → Joined a b S v (a d) → In d R'

module _ {a b : ℕ → ℕ} where
  part_component : (S : List ℕ) (v : ℕ) → Keeps a b S v S (component a b S v)
  part_component S v = record { sub = λ d i. i; less = component_sub a b S v; all = λ d. in_component a b S v }

  part_out : (c : ℕ) {S R R' : List ℕ} {v : ℕ} → Keeps a b S v R R' → Keeps a b S v (without c R) (without c R')
  part_out c {R = R} {R'} p = record {
    sub = λ d i. p.sub d (out_in c R i);
    less = out_sub c p.less;
    all = λ d i j. in_out c R' (out_ne c R i) (p.all d (out_in c R i) j);
  }

  part_below : (n : ℕ) {S R R' : List ℕ} {v : ℕ} → Keeps a b S v R R' → Keeps a b S v (below n R) (below n R')
  part_below n {R = R} {R'} p = record {
    sub = λ d i. p.sub d (below_in n R i);
    less = below_sub n p.less;
    all = λ d i j. in_below n R' (below_lt n R i) (p.all d (below_in n R i) j);
  }

  -- within v's component R and R' join the same slots, and have the same cycles and the same spare keys
  module _ {S R R' : List ℕ} {v : ℕ} where
    part_joined : {u w : ℕ} → Keeps a b S v R R' → Joined a b S v u → Joined a b R u w → Joined a b R' u w
    part_joined p k j = confine S p.sub (λ c i l. edge (p.all c i (jtrans k l))) j

    part_test : {u : ℕ} (w : ℕ) → Keeps a b S v R R' → Joined a b S v u → joined a b R u w ≡ joined a b R' u w
    part_test {u} w p k = bool_ext (joined a b R u w) (joined a b R' u w)
        (λ e. true_joined (part_joined p k (joined_true e))) (λ e. true_joined (mono p.less (joined_true e)))

  part_cycle : {S R R' : List ℕ} {v c : ℕ} → Keeps a b S v R R' → Joined a b S v (a c) → OnCycle a b R c → OnCycle a b R' c
  part_cycle {c = c} p k l = record { on = p.all c l.on k; closed = part_joined (part_out c p) k l.closed }

  part_cyclic : {S R R' : List ℕ} {v u : ℕ} → Keeps a b S v R R' → Joined a b S v u → Cyclic a b R u → Cyclic a b R' u
  part_cyclic p k l = record {
    d = l.d;
    cycle = part_cycle p (jtrans k (mono p.sub l.near)) l.cycle;
    near = part_joined p k l.near;
  }

module _ (a b : ℕ → ℕ) where
  module _ (S : List ℕ) (v : ℕ) where
    -- the keys of v's component
    abbrev C : List ℕ
    C = component a b S v

    -- the keys of a component join its slots as all keys do
    joined_component : {u w : ℕ} → Joined a b S v u → Joined a b S u w ↔ Joined a b C u w
    joined_component k = (part_joined (part_component S v) k, mono (component_sub a b S v))

    -- a key of the component lies on a cycle of the whole set exactly if it does so in the component alone
    pub cycle_component : {c : ℕ} → Joined a b S v (a c) → OnCycle a b S c ↔ OnCycle a b C c
    cycle_component k = (part_cycle (part_component S v) k, cycle_mono (component_sub a b S v))

    -- "More loops": a key of the component is spare in the whole set exactly if it is so in the component alone, so a round of settling in one
    -- component is the same whatever the others hold
    pub spare_component : {c : ℕ} → Joined a b S v (a c) → Spare a b S c ↔ Spare a b C c
    spare_component {c} k = (
      λ l. record { cycle = part_cycle (part_component S v) k l.cycle; rest = part_cyclic (part_out c (part_component S v)) k l.rest },
      spare_mono (component_sub a b S v),
    )

    -- a round of settling, which takes away a key on a cycle, takes it from its component and leaves the others as they are
    pub component_out : {c : ℕ} → OnCycle a b S c → component a b (without c S) v ≡ without c C
    unfolding component without
    component_out {c} l =
        keep_keep still other S ∙ keep_both other (λ d. joined a b S v (a d)) (λ d. other d && still d) S
        (λ d i e. true_joined (mono (λ x. out_in c S) (joined_true (and_true (other d) (still d) e).1)))
        (λ d i e. rw (true_joined (cut c S l.closed (joined_true e)), and_right))
      where
        other : ℕ → Bool
        other d = not (eqb c d)

        still : ℕ → Bool
        still d = joined a b (without c S) v (a d)

    -- its slots have the same component in it
    component_component : {u : ℕ} → Joined a b S v u → component a b S u ≡ component a b C u
    unfolding component
    component_component {u} k = keep_both (λ d. joined a b C u (a d)) (λ d. joined a b S v (a d)) (λ d. joined a b S u (a d)) S
        (λ d i e. true_joined (jtrans k (joined_true e))) (λ d i e. part_test (a d) (part_component S v) k)

    is_on_cycle_component : {c : ℕ} → Joined a b S v (a c) → is_on_cycle a b S c ≡ is_on_cycle a b C c
    is_on_cycle_component {c} k =
        let l = cycle_component k in
        bool_ext (is_on_cycle a b S c) (is_on_cycle a b C c) (λ e. true_is_on_cycle (l.0 (is_on_cycle_true e))) (λ e. true_is_on_cycle (l.1 (is_on_cycle_true e)))

    -- the key that decides how the component sits is decided by the component
    pub root_component : {u : ℕ} → Joined a b S v u → root a b S u ≡ root a b C u
    unfolding root
    root_component {u} k =
        let e = keep_ext (is_on_cycle a b S) (is_on_cycle a b C) (component a b S u) (λ d i. is_on_cycle_component (jtrans k (component_near a b S u i))) in
        rw (← component_component k, e)

    -- its keys sit where they would sit with no other component there
    sits_component : {u c : ℕ} → Joined a b S v u → In c S → Joined a b S u (a c) → sits a b S u c ≡ sits a b C u c
    unfolding sits
    sits_component {u} {c} k i j =
        let z = root a b S (a c) in
        let p = part_component S v in
        let r : root a b S (a c) ≡ root a b C (a c) = root_component (jtrans k j) in
        let l : is_on_cycle a b S z ≡ is_on_cycle a b C z = is_on_cycle_component (jtrans k (jtrans j (rooted a b S i jrefl).near)) in
        rw (← r, ← l) (elim (test (is_on_cycle a b S z)) [
          | inl e ↦ rw (e, part_test (a z) (part_out c (part_out z p)) k)
          | inr e ↦ rw (e, part_test (a z) (part_out c p) k)
        ])

    -- its slots hold what they would hold
    pub occupant_component : {u : ℕ} → Joined a b S v u → occupant a b S u ≡ occupant a b C u
    unfolding occupant component
    occupant_component {u} k = ap first (keep_both (λ c. (eqb u (a c) || eqb u (b c)) && sits a b C u c) (λ c. joined a b S v (a c))
        (λ c. (eqb u (a c) || eqb u (b c)) && sits a b S u c) S
        (λ c i e. true_joined (at_end i (and_true (eqb u (a c) || eqb u (b c)) (sits a b S u c) e).0))
        (λ c i e. rw (sits_component k i (jtrans (jsym k) (joined_true e)))))
      where
        at_end : {c : ℕ} → In c S → (eqb u (a c) || eqb u (b c)) ≡ true → Joined a b S v (a c)
        at_end {c} i e = jtrans k (ends_near (ends_of a b u c e).1 i)

    -- and its keys point to the keys to which they would point
    next_component : {c : ℕ} → Joined a b S v (a c) → next a b S c ≡ next a b C c
    unfolding next
    next_component k = rw (component_component k)

  -- the keys of the forest in a component are the forest of its keys
  forest_component : (S : List ℕ) (v : ℕ) {c : ℕ} → Joined a b S v (a c) → In c (forest a b S) ↔ In c (forest a b (C S v))
  forest_component S v {c} k = (
    λ f. in_forest (C S v) (in_component a b S v (forest_in a b S c f) k) (λ j. forest_no S f (mono (below_sub c (component_sub a b S v)) j)),
    λ f. in_forest S (component_in a b S v (forest_in a b (C S v) c f)) (λ j. forest_no (C S v) f (part_joined (part_below c (part_component S v)) k j)),
  )

  module _ {S : List ℕ} (h : Asc S) (v : ℕ) where
    -- Settling looks at each component by itself: the seated keys of a component are what settling leaves of its keys.
    pub seated_component : component a b (seated a b S) v ≡ seated a b (component a b S v)
    seated_component = asc_ext (component a b (seated a b S) v) (seated a b (C S v))
        (asc_component a b (seated a b S) v (seated_asc a b S h)) (seated_asc a b (C S v) hC) to from
      where
        hC : Asc (C S v)
        hC = asc_component a b S v h

        to : Sub (component a b (seated a b S) v) (seated a b (C S v))
        to c i =
            let t = component_in a b (seated a b S) v i in
            let k : Joined a b S v (a c) = (seated_joined a b S h).0 (component_near a b (seated a b S) v i) in
            is_seated a b (C S v) hC c (in_component a b S v (seated_sub a b S h c t) k) (elim (seated_is a b S h c t) [
              | tree f ↦ tree ((forest_component S v k).0 f)
              | smallest m ↦ smallest (λ x ix nx j.
                  m x (component_in a b S v ix) (λ f. nx ((forest_component S v (component_near a b S v ix)).0 f)) (mono (component_sub a b S v) j))
            ])

        from : Sub (seated a b (C S v)) (component a b (seated a b S) v)
        from c i =
            let t = seated_sub a b (C S v) hC c i in
            let k = component_near a b S v t in
            let near : (x : ℕ) → Joined a b S (a x) (a c) → Joined a b S v (a x) = λ x j. jtrans k (jsym j) in
            in_component a b (seated a b S) v (is_seated a b S h c (component_in a b S v t) (elim (seated_is a b (C S v) hC c i) [
              | tree f ↦ tree ((forest_component S v k).1 f)
              | smallest m ↦ smallest (λ x ix nx j.
                  m x (in_component a b S v ix (near x j)) (λ f. nx ((forest_component S v (near x j)).1 f)) ((joined_component S v (near x j)).0 j))
            ])) ((seated_joined a b S h).1 k)

    -- What a slot holds depends on the keys of its component alone,
    pub occupant_alone : {u : ℕ} → Joined a b S v u → occupant a b (seated a b S) u ≡ occupant a b (seated a b (component a b S v)) u
    occupant_alone {u} k = rw (← seated_component) (occupant_component (seated a b S) v ((seated_joined a b S h).1 k))

    -- so does the key that a seated key points to,
    pub next_alone : {c : ℕ} → Joined a b S v (a c) → next a b (seated a b S) c ≡ next a b (seated a b (component a b S v)) c
    next_alone {c} k = rw (← seated_component) (next_component (seated a b S) v ((seated_joined a b S h).1 k))

    -- and what a component sends to the stash: its stashed keys are the stash of its keys.
    pub stash_alone : keep (λ c. joined a b S v (a c)) (stash a b S) ≡ stash a b (component a b S v)
    unfolding stash component
    stash_alone =
        keep_keep near kept S ∙ keep_both (λ c. not (member c (seated a b (C S v)))) near (λ c. kept c && near c) S
        (λ c i e. (and_true (kept c) (near c) e).1) (λ c i e. rw (e, member_alone (joined_true e), and_right))
      where
        near : ℕ → Bool
        near c = joined a b S v (a c)

        kept : ℕ → Bool
        kept c = not (member c (seated a b S))

        member_alone : {c : ℕ} → Joined a b S v (a c) → member c (seated a b S) ≡ member c (seated a b (C S v))
        member_alone {c} k = rw (← seated_component) (bool_ext (member c (seated a b S)) (member c (component a b (seated a b S) v))
            (λ e. in_member (in_component a b (seated a b S) v (member_in c (seated a b S) e) ((seated_joined a b S h).1 k)))
            (λ e. in_member (component_in a b (seated a b S) v (member_in c (component a b (seated a b S) v) e))))

  -- Where two sets have the same component they have the same image, whatever else is in either.
  pub same_image : {S S' : List ℕ} → Asc S → Asc S' → (v : ℕ) → component a b S v ≡ component a b S' v → (SameImage a b) S S' v
  same_image {S} {S'} h h' v e = record {
    seats = seated_component h v ∙ ap (seated a b) e ∙ sym (seated_component h' v);
    slots = slots;
    nexts = nexts;
    nexts_there = λ u k n. rw (← slots u k) (nexts (occupant a b (seated a b S) u) (jtrans k (elim (occupant_from a b (seated a b S) u) [
      | inl z ↦ absurd (n z)
      | inr o ↦ (seated_joined a b S h).0 (ends_near o.1.1 o.0)
    ])));
    stashed = stash_alone h v ∙ ap (stash a b) e ∙ sym (stash_alone h' v);
  }
    where
      across : {u : ℕ} → Joined a b S v u → Joined a b S' v u
      across k = mono (component_sub a b S' v) (rw e at ((joined_component S v jrefl).0 k))

      slots : (u : ℕ) → Joined a b S v u → occupant a b (seated a b S) u ≡ occupant a b (seated a b S') u
      slots u k = occupant_alone h v k ∙ rw e (sym (occupant_alone h' v (across k)))

      nexts : (c : ℕ) → Joined a b S v (a c) → next a b (seated a b S) c ≡ next a b (seated a b S') c
      nexts c k = next_alone h v k ∙ rw e (sym (next_alone h' v (across k)))
