-- The laws of what specs/Way.antt defines.
use Prim.Native.Nat.{ℕ, zero, suc, ◌≤◌}
use Rattle.std.specs.Prelude.{◌≡◌, cond, ◌⊎◌, ltb, length, get_or}
use Rattle.std.proofs.Math.Path.{refl}
use Rattle.std.proofs.Common.{sym, ◌∙◌, inl, inr, arith, le_of_eq, eq-eqb, ne_eqb, lt-ltb, le-ltb}
use mathlib.Core.List.{List}
use Rattle.basics.proofs.Tests.{eq?, le?}
use Rattle.basics.specs.Sets.{without, Sub}
use Rattle.basics.proofs.Sets.{outs, out_in, in_out, out_shorter}
use Rattle.cuckoo.specs.Joined.{Joined}
use Rattle.cuckoo.proofs.Joined.{jrefl, jtrans, mono}
use Rattle.cuckoo.specs.Seating.{Ends, past_it, by_v, by_w}
use Rattle.cuckoo.proofs.Seating.{over, ends_edge}
use Rattle.forest.specs.Oriented.{Forest, Oriented, LeadsTo}
use Rattle.forest.proofs.Oriented.{forest_sub, leads, tree_beyond, one_root, not_below, root_beyond, no_keys}
use Rattle.forest.specs.Way.{lowest_slot, OnWay, SmallestOnWay}

module _ (other : ℕ → ℕ → ℕ) where
  -- a bare slot ends the way
  pub lowest_stop : (n : ℕ) (h : List ℕ) (v s : ℕ) → get_or h v 0 ≡ 0 → (lowest_slot other) n h v s ≡ s
  unfolding lowest_slot
  lowest_stop zero h v s e = refl
  lowest_stop (suc n) h v s e = rw (eq-eqb (get_or h v 0) 0 e)

  pub lowest_none : (h : List ℕ) (v s : ℕ) → (lowest_slot other) 0 h v s ≡ s
  unfolding lowest_slot
  lowest_none h v s = refl

  pub lowest_step : (n : ℕ) (h : List ℕ) (v s : ℕ) → (get_or h v 0 ≡ 0 → ⊥)
      → (lowest_slot other) (suc n) h v s ≡ (lowest_slot other) n h (other v (get_or h v 0)) (cond (ltb (get_or h v 0) (get_or h s 0)) v s)
  unfolding lowest_slot
  lowest_step n h v s e = rw (ne_eqb (get_or h v 0) 0 e)

module _ (a b : ℕ → ℕ) where
  -- slot t of h holds a key on the way
  record Between (F h : List ℕ) (v p t : ℕ) : Type 0 where
    on : (OnWay a b) F v p (get_or h t 0)
    to : Joined a b F v t

  -- from v on, with s as the slot of the smallest key before, the walk ends with t
  record Lowest (F h : List ℕ) (v p s t : ℕ) : Type 0 where
    from : (t ≡ s) ⊎ Between F h v p t
    le : get_or h t 0 ≤ get_or h s 0
    low : (c : ℕ) → (OnWay a b) F v p c → get_or h t 0 ≤ c

-- the slot of the smaller of two keys
data Smaller (h : List ℕ) (v s t : ℕ) : Type 0 where
  new : t ≡ v → get_or h v 0 ≤ get_or h s 0 → Smaller h v s t
  old : t ≡ s → get_or h s 0 ≤ get_or h v 0 → Smaller h v s t

smaller : (h : List ℕ) (v s : ℕ) → Smaller h v s (cond (ltb (get_or h v 0) (get_or h s 0)) v s)
smaller h v s = elim (le? (get_or h s 0) (get_or h v 0)) [
  | inl l ↦ rw (le-ltb (get_or h v 0) (get_or h s 0) l) (old refl l)
  | inr l ↦ rw (lt-ltb (get_or h v 0) (get_or h s 0) l) (new refl (omega arith))
]

module _ {a b : ℕ → ℕ} {F h : List ℕ} {v p : ℕ} (f : Forest a b F) (o : Oriented a b F h v) (j : Joined a b F v p) (z : get_or h p 0 ≡ 0) where
  -- at the root itself there is no key on the way
  lowest_here : {s : ℕ} → get_or h v 0 ≡ 0 → Lowest a b F h v p s s
  lowest_here e =
      let q = one_root f o j e z in
      record { from = inl refl; le = le_of_eq refl; low = λ c w. absurd (w.parts (rw q jrefl)) }

  -- the keys on the way from v are the key in v, and those on the way from its other slot
  module _ {d : ℕ} (w : LeadsTo a b F h d v) where
    pub on_way_here : OnWay a b F v p d
    on_way_here = record { mem = w.mem; parts = not_below f o w z }

    on_way_beyond : {c : ℕ} → OnWay a b (without d F) w.w p c → OnWay a b F v p c
    on_way_beyond {c} W = record {
      mem = out_in d F W.mem;
      parts = λ l.
          let down : Sub (without d (without c F)) (without d F) = λ x y. search outs in
          elim (over (without c F) w.ends l) [
            | past_it q ↦ not_below f o w z (mono down q)
            | by_v q r ↦ W.parts (mono (λ x y. search outs) r)
            | by_w q r ↦ w.apart (mono down q)
          ];
    }

    beyond_on_way : {c : ℕ} → (d ≡ c → ⊥) → OnWay a b F v p c → OnWay a b (without d F) w.w p c
    beyond_on_way {c} ne W = record {
      mem = in_out d F ne W.mem;
      parts = λ l. W.parts (jtrans (ends_edge w.ends (in_out c F (λ q. ne (sym q)) w.mem)) (mono (λ x y. search outs) l));
    }

  lowest_back : {s s' t : ℕ} (w : LeadsTo a b F h (get_or h v 0) v) → Smaller h v s s'
      → Lowest a b (without (get_or h v 0) F) h w.w p s' t → Lowest a b F h v p s t
  lowest_back w k L = record {
    from = elim L.from [
      | inl q ↦ elim k [ new e l ↦ inr (rw (q ∙ e) (record { on = on_way_here w; to = jrefl })) | old e l ↦ inl (q ∙ e) ]
      | inr B ↦ inr (record { on = on_way_beyond w B.on; to = jtrans w.over (mono (λ d. out_in (get_or h v 0) F) B.to) })
    ];
    le = elim k [ new e l ↦ omega (arith, rw e at L.le) | old e l ↦ rw e at L.le ];
    low = λ c W. elim (eq? (get_or h v 0) c) [
      | inl q ↦ rw (← q) (elim k [ new e l ↦ rw e at L.le | old e l ↦ omega (arith, rw e at L.le) ])
      | inr ne ↦ L.low c (beyond_on_way w ne W)
    ];
  }

module _ {a b : ℕ → ℕ} {other : ℕ → ℕ → ℕ} (turn : (c v w : ℕ) → Ends a b c v w → other v c ≡ w) where
  lowest : (n : ℕ) {F h : List ℕ} {v p : ℕ} (s : ℕ) → length F ≤ n → Forest a b F → Oriented a b F h v → Joined a b F v p → get_or h p 0 ≡ 0
      → Lowest a b F h v p s (lowest_slot other n h v s)
  lowest zero {h = h} {v} s l f o j z = let e = no_keys o l in rw (lowest_stop other 0 h v s e) (lowest_here f o j z e)
  lowest (suc n) {F} {h} {v} {p} s l f o j z =
      elim (eq? (get_or h v 0) 0) [
        | inl e ↦ rw (lowest_stop other (suc n) h v s e) (lowest_here f o j z e)
        | inr nz ↦
            let d = get_or h v 0 in
            let w = leads f o refl nz in
            rw (lowest_step other n h v s nz, turn d v w.w w.ends) (lowest_back f o j z w (smaller h v s)
            (lowest n _ (omega (arith, out_shorter d F w.mem)) (forest_sub (λ x. out_in d F) f) (tree_beyond h f o w (λ x k. refl)) (root_beyond f o w j z) z))
      ]

  -- From a slot v that is not the root p, the walk ends with the slot of the smallest key on the way to p. As many steps as there are keys are enough.
  pub finds_lowest : (n : ℕ) {F h : List ℕ} {v p : ℕ} → length F ≤ n → Forest a b F → Oriented a b F h v → Joined a b F v p → get_or h p 0 ≡ 0
      → (v ≡ p → ⊥) → SmallestOnWay a b F v p (get_or h (lowest_slot other n h v v) 0) × Joined a b F v (lowest_slot other n h v v)
  finds_lowest n {F} {h} {v} {p} l f o j z ne =
      let L = lowest n v l f o j z in
      let B : Between a b F h v p (lowest_slot other n h v v) = elim L.from [
        | inl q ↦ rw q (record { on = on_way_here f o j z (leads f o refl (λ e. ne (one_root f o j e z))); to = jrefl })
        | inr B ↦ B
      ] in
      (record { on = B.on; low = L.low }, B.to)
