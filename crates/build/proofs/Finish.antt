-- The laws of what specs/Finish.antt defines.
use Rattle.std.specs.Prelude.{ℕ, suc, ◌%◌, ◌/◌, ◌<◌, ◌≤◌, ◌≡◌, ltb, length}
use Rattle.std.proofs.Math.Path.{refl}
use Rattle.std.proofs.Common.{sym, ◌∙◌, ap, arith}
use Rattle.std.proofs.Math.Logic.{inl, inr}
use mathlib.Core.List.Memᴰ.{head as here}
use mathlib.Core.List.Memᴰ.{tail as there}
use mathlib.Core.List.{List, [], ◌∷◌, Memᴰ as In}
use Rattle.std.proofs.Math.ListN.{get_or}
use borrow.Author.Tests.{eq-eqb, ne_eqb, lt-ltb, le-ltb, ltb-true}
use Rattle.cuckoo.specs.Graph.{seated, occupant}
use Rattle.basics.proofs.Tests.{eq?}
use Rattle.basics.proofs.Sets.{in?, below_in, below_lt, in_below}
use Rattle.basics.specs.Sets.{Sub, Asc, some}
use Rattle.cuckoo.specs.Joined.{Joined}
use Rattle.cuckoo.proofs.Joined.{jrefl, jsym, edge, mono, least}
use Rattle.cuckoo.specs.Forest.{forest}
use Rattle.cuckoo.proofs.Forest.{forest_in, spans, spans_key, acyclic}
use Rattle.cuckoo.proofs.Settling.{seated_asc, seated_sub, seated_forest, seated_stops, is_seated, one}
use Rattle.cuckoo.specs.Settling.{smallest}
use Rattle.cuckoo.specs.Seating.{Ends}
use Rattle.cuckoo.proofs.Seating.{occupant_from}
use Rattle.forest.specs.Oriented.{OrientedForest, Oriented}
use Rattle.forest.proofs.Oriented.{end_near, recast}
use Rattle.forest.specs.Finish.{Finished, Spanned, TreeComponent, CycleComponent}
use Rattle.forest.proofs.Finish.{finishes_tree, finishes_cycle}
use Rattle.build.specs.Labels.{Labels, Words}
use Rattle.build.proofs.Labels.{label_fit, same_label}
use Rattle.build.specs.Notes.{pair_base, Noting, Going, none_yet, one_seen, Lows, Smallest, empty, rank}
use Rattle.build.proofs.Notes.{smallest_of, split_pair}
use Rattle.build.specs.Finish.{Occupied, finish_rank, finish_ranks, T}

-- slots are joined to slots
joined_fit : {a b : ℕ → ℕ} (m : ℕ) → ((c : ℕ) → (a c < m) × (b c < m)) → (R : List ℕ) {u v : ℕ} → Joined a b R u v → u < m → v < m
joined_fit {a} {b} m fits R {u} {v} j l =
    ltb-true v m (sym (least (λ x. ltb x m) R (λ c i. lt-ltb (a c) m (fits c).0 ∙ sym (lt-ltb (b c) m (fits c).1)) j) ∙ lt-ltb u m l)

-- the seated keys and the forest that spans them
module _ (a b : ℕ → ℕ) (S : List ℕ) (asc : Asc S) where
  spanned : ((c : ℕ) → In c S → c ≡ 0 → ⊥) → Spanned a b (seated a b S) (forest a b S)
  spanned nonzero = record {
    asc = seated_asc a b S asc;
    forest = record { acyclic = λ c i. acyclic S i; nonzero = λ c i. nonzero c (forest_in a b S c i) };
    sub = seated_forest a b S asc;
    spans = λ c i. spans S (edge (seated_sub a b S asc c i));
  }

  -- the seated keys join what all keys join
  pub down : {u v : ℕ} → Joined a b S u v → Joined a b (seated a b S) u v
  down j = mono (seated_forest a b S asc) (spans S j)

  pub raise : {u v : ℕ} → Joined a b (seated a b S) u v → Joined a b S u v
  raise j = mono (seated_sub a b S asc) j

  -- the smallest key off the forest of a component is its one seated key off the forest
  cycle_component : {y : ℕ} → In y S → (In y (forest a b S) → ⊥)
      → ((x : ℕ) → In x S → (In x (forest a b S) → ⊥) → Joined a b S (a x) (a y) → y ≤ x) → CycleComponent a b (seated a b S) (forest a b S) y
  cycle_component {y} i off low =
      let k = is_seated a b S asc y i (smallest low) in
      record {
        y_in = k;
        off = off;
        all = λ c ic j. elim (in? c (forest a b S)) [
          | inl f ↦ inr f
          | inr n ↦ inl (one a b S (seated_stops a b S asc) (seated_sub a b S asc) (seated_forest a b S asc) c y ic k n off (raise (jsym j)))
        ];
        closed = mono (λ d h.
            let l = below_lt (suc y) (forest a b S) h in
            let f = below_in (suc y) (forest a b S) h in
            in_below y (forest a b S) (elim (eq? d y) [ inl q ↦ absurd (off (rw q at f)) | inr n ↦ omega arith ]) f)
            (spans_key S (suc y) y (omega arith) i);
      }

  -- a component whose keys are all of the forest
  tree_component : {c : ℕ} → In c (forest a b S) → ((x : ℕ) → In x S → Joined a b S (a c) (a x) → In x (forest a b S) × (c ≤ x))
      → TreeComponent a b (seated a b S) (forest a b S) c
  tree_component {c} i h = record {
    z_in = seated_forest a b S asc c i;
    all = λ x k j. (h x (seated_sub a b S asc x k) (raise j)).0;
    low = λ x k j. (h x (seated_sub a b S asc x k) (raise j)).1;
  }

module _ {a b : ℕ → ℕ} {other : ℕ → ℕ → ℕ} (turn : (c v w : ℕ) → Ends a b c v w → other v c ≡ w) (m : ℕ) (fits : (c : ℕ) → (a c < m) × (b c < m))
    {S : List ℕ} (asc : Asc S) (two : (c : ℕ) → In c S → a c ≡ b c → ⊥)
    {h₀ : List ℕ} (W : OrientedForest a b (forest a b S) h₀) (few : length (forest a b S) ≤ m)
    {lab : ℕ → ℕ} (L : Labels a b S m lab) {words : List ℕ} (X : Words a b S m lab words) {low : List ℕ} (lowest : Lows m S words low)
    (inside : (x : ℕ) → In x S → (0 < x) × (x < pair_base)) {N : Noting} (G : Going a b m S lab words low [] N) where
  abbrev F : List ℕ
  F = forest a b S

  abbrev lo : ℕ → ℕ
  lo l = get_or low l 0

  nonzero : (c : ℕ) → In c S → c ≡ 0 → ⊥
  nonzero c i e = omega (arith, (inside c i).0)

  low_of : (l : ℕ) → l < m → Smallest a b S lab l (lo l)
  low_of l f = smallest_of m fits two L X lowest l f

  -- the label of the smallest rank of a label is that label
  label_low : {l c : ℕ} → l < m → In c S → lo l ≡ c → lab (a c) ≡ l
  label_low {l} {c} f i e = elim (low_of l f) [ empty z n ↦ absurd (nonzero c i (sym e ∙ z)) | rank o k h ↦ rw e at k ]

  -- when the ranks R are still to come: the components whose smallest rank is among them are as they were, and the others show their seats
  record State (R h : List ℕ) : Type 0 where
    size : length h ≡ m
    ready : (v : ℕ) → v < m → (In (lo (lab v)) R → ⊥) → get_or h v 0 ≡ occupant a b (T turn m fits asc two W few L X lowest inside G) v
    fresh : (v : ℕ) → v < m → In (lo (lab v)) R → get_or h v 0 ≡ get_or h₀ v 0

  -- a rank that is not the smallest of a label changes nothing
  pass : {R h : List ℕ} {c : ℕ} → ((l : ℕ) → l < m → lo l ≡ c → ⊥) → State (c ∷ R) h → State R h
  pass no' st = record {
    size = st.size;
    ready = λ v k n. st.ready v k (λ i. elim i [ here q ↦ no' (lab v) (L.fit v k) q | there t ↦ n t ]);
    fresh = λ v k i. st.fresh v k (there i);
  }

  -- The component of the rank c, the smallest of its label, is done; y is a rank of it.
  module _ {R h : List ℕ} {c y : ℕ} (st : State (c ∷ R) h) (ic : In c S) (up : (x : ℕ) → In x R → c < x) (top : lo (lab (a c)) ≡ c)
      (e : lab (a y) ≡ lab (a c)) where
    after : {out : List ℕ} → Finished a b (T turn m fits asc two W few L X lowest inside G) h (a y) out → State R out
    after {out} D = record {
      size = D.size ∙ st.size;
      ready = λ v k n. elim (eq? (lab v) (lab (a c))) [
        | inl q ↦ sym (D.seats v (down a b S asc (L.joined (a y) v (fits y).0 k (e ∙ sym q)))).0
        | inr o ↦ away v k o ∙ st.ready v k (λ i. elim i [ here q ↦ o (sym (label_low (L.fit v k) ic q)) | there t ↦ n t ])
      ];
      fresh = λ v k i. away v k (λ q. later (ap (λ (l : ℕ). lo l) q ∙ top) i) ∙ st.fresh v k (there i);
    }
      where
        later : {z : ℕ} → z ≡ c → In z R → ⊥
        later {z} q i = omega (arith, up z i)

        away : (v : ℕ) → v < m → (lab v ≡ lab (a c) → ⊥) → get_or out v 0 ≡ get_or h v 0
        away v k n = D.frame v (λ j. n (sym (L.alike (a y) v (fits y).0 k (raise a b S asc j)) ∙ e))

    -- it is still the tree that it was
    tree_here : Oriented a b F h (a y)
    tree_here = recast (λ x i k. i) (λ x i k. i) jrefl (λ x k.
        let fx = joined_fit m fits F k (fits y).0 in
        let q : lab x ≡ lab (a c) = sym (L.alike (a y) x (fits y).0 fx (mono (forest_in a b S) k)) ∙ e in
        st.fresh x fx (here (ap (λ (l : ℕ). lo l) q ∙ top))) (W.each (a y))

  -- a label without a smallest rank has no ranks, and its slots stay empty
  bare : {v : ℕ} → v < m → ((x : ℕ) → In x S → lab (a x) ≡ lab v → ⊥) → get_or h₀ v 0 ≡ occupant a b (T turn m fits asc two W few L X lowest inside G) v
  bare {v} k no' = none_held ∙ sym none_seated
    where
      no_key : (c : ℕ) → In c S → Joined a b S v (a c) → ⊥
      no_key c i j = no' c i (sym (L.alike v (a c) k (fits c).0 j))

      none_held : get_or h₀ v 0 ≡ 0
      none_held = elim (eq? (get_or h₀ v 0) 0) [
        | inl q ↦ q
        | inr n ↦
            let c = get_or h₀ v 0 in
            let o = (W.each v).own v c jrefl refl n in
            let i = forest_in a b S c o.mem in
            absurd (no_key c i (jsym (end_near o.ends i jrefl)))
      ]

      none_seated : occupant a b (T turn m fits asc two W few L X lowest inside G) v ≡ 0
      none_seated = elim (occupant_from a b (T turn m fits asc two W few L X lowest inside G) v) [
        | inl q ↦ q
        | inr q ↦
            let c = occupant a b (T turn m fits asc two W few L X lowest inside G) v in
            let i = seated_sub a b S asc c q.0 in
            absurd (no_key c i (jsym (end_near q.1.1 i jrefl)))
      ]

  -- a note tells the smallest rank
  note_low : (l : ℕ) → l < m → get_or N.notes l 0 % pair_base ≡ lo l
  note_low l f =
      let s : lo l < pair_base = elim (low_of l f) [ empty z n ↦ omega arith | rank o k h ↦ (inside (lo l) (forest_in a b S (lo l) o)).1 ] in
      elim (G.seen l f) [ none_yet e h ↦ omega arith | one_seen d e k w h n ↦ rw e (split_pair (lo l) d s).0 ]

  pub note_smallest : (l : ℕ) → l < m → Smallest a b S lab l (get_or N.notes l 0 % pair_base)
  note_smallest l f = rw (note_low l f) (low_of l f)

  -- the smallest rank of a label: a tree, or a cycle
  finish_top : {R h : List ℕ} {c : ℕ} → State (c ∷ R) h → In c S → ((x : ℕ) → In x R → c < x) → In c F → lo (lab (a c)) ≡ c
      → get_or N.next c 0 ≡ lab (a c) → State R (finish_rank a b other m N.next N.notes c h)
  unfolding finish_rank
  finish_top {c = c} st ic up f top w =
      let l = lab (a c) in
      let fl = label_fit L fits c in
      let x = get_or N.notes l 0 in
      let fc = (inside c ic).1 in
      rw (w, lt-ltb l m fl, eq-eqb (x % pair_base) c (note_low l fl ∙ top)) (elim (G.seen l fl) [
        | none_yet e h ↦
            let all : (z : ℕ) → In z S → lab (a z) ≡ l → In z F × (c ≤ z) = λ z i q. (
              elim (in? z F) [ inl o ↦ o | inr o ↦ elim (h z i (rw q at (X.off z i o))) [ ] ],
              elim (low_of l fl) [ empty y n ↦ absurd (n z i q) | rank o k g ↦ omega (arith, g z i q) ],
            ) in
            rw (lt-ltb x pair_base (omega arith)) (after st ic up top refl
            (finishes_tree turn m fits (spanned a b S asc nonzero) (suc m) (omega arith)
            (tree_component a b S asc f (λ z i j. all z i (same_label L fits (jsym j)))) (tree_here st ic up top refl) st.size))
        | one_seen d e i q h n ↦
            let o : In d F → ⊥ = λ o. omega (arith, X.on d i o, label_fit L fits d) in
            let ed : lab (a d) ≡ l = omega (arith, X.off d i o) in
            let y : x / pair_base ≡ d = rw e (split_pair (lo l) d (omega arith)).1 in
            rw (le-ltb x pair_base (omega (arith, (inside d i).0)), y) (after st ic up top ed
            (finishes_cycle turn m fits (spanned a b S asc nonzero) (suc m) (omega arith)
            (cycle_component a b S asc i o (λ z k p j. h z k (rw (same_label L fits j ∙ ed) at (X.off z k p)))) (tree_here st ic up top ed) st.size (nonzero d i) (two d i)))
      ])

  finish_one : {R h : List ℕ} {c : ℕ} → State (c ∷ R) h → In c S → ((x : ℕ) → In x R → c < x) → State R (finish_rank a b other m N.next N.notes c h)
  unfolding finish_rank
  finish_one {c = c} st ic up =
      let placed = G.placed c ic (λ i. elim i [ ]) in
      elim (in? c (T turn m fits asc two W few L X lowest inside G)) [
        | inr n ↦ rw (placed.off n, le-ltb m m (omega arith)) (pass (λ l k q. elim (low_of l k) [
          | empty z e ↦ nonzero c ic (sym q ∙ z)
          | rank o e h ↦ n (seated_forest a b S asc c (rw q at o))
        ]) st)
        | inl t ↦
            let w = placed.on t in
            let l = lab (a c) in
            let fl = label_fit L fits c in
            elim (eq? (lo l) c) [
              | inl q ↦ finish_top st ic up (elim (low_of l fl) [ empty z n ↦ absurd (nonzero c ic (sym q ∙ z)) | rank o k h ↦ rw q at o ]) q w
              | inr n ↦ rw (w, lt-ltb l m fl, ne_eqb (get_or N.notes l 0 % pair_base) c (λ q. n (sym (note_low l fl) ∙ q)))
                  (pass (λ k g q. n (ap (λ (l : ℕ). lo l) (label_low g ic q) ∙ q)) st)
            ]
      ]

  finish_from : (R : List ℕ) {h : List ℕ} → Asc R → Sub R S → State R h → State [] (finish_ranks a b other m N.next N.notes R h)
  unfolding finish_ranks
  finish_from [] ordered sub st = st
  finish_from (c ∷ R) (some up ordered) sub st = finish_from R ordered (λ x i. sub x (there i)) (finish_one st (sub c (here refl)) up)

  -- Law of step 5: each slot holds its occupant.
  pub finish_all : length h₀ ≡ m → Occupied a b (T turn m fits asc two W few L X lowest inside G) m (finish_ranks a b other m N.next N.notes S h₀)
  finish_all sz =
      let st = finish_from S {h = h₀} asc (λ x i. i) (record {
        size = sz;
        ready = λ v k n. bare k (elim (low_of (lab v) (L.fit v k)) [ empty z e ↦ e | rank o e h ↦ absurd (n (forest_in a b S (lo (lab v)) o)) ]);
        fresh = λ v k i. refl;
      }) in
      record { size = st.size; is = λ v k. st.ready v k (λ i. elim i [ ]) }
