-- The laws of what specs/Oriented.antt defines.
use Rattle.std.specs.Prelude.{ℕ, zero, suc, ◌<◌, ◌≤◌, ◌≡◌, refl, ◌⊎◌, length, get_or, set}
use Rattle.std.proofs.Common.{sym, ◌∙◌, ap, inl, inr, arith, get_or-set_same, get_or-set_other}
use mathlib.Core.List.Memᴰ.{head as here}
use mathlib.Core.List.Memᴰ.{tail as there}
use mathlib.Core.List.{List, ◌∷◌, Memᴰ as In}
use Rattle.std.proofs.Math.ListN.{get_or-eq_default}
use Rattle.std.proofs.Math.Seq.{set_out}
use Rattle.basics.proofs.Tests.{eq?, le?}
use Rattle.basics.specs.Sets.{without, Sub}
use Rattle.basics.proofs.Sets.{out_in, in_out, out_ne, around, out_sub, out_shorter, in_length}
use Rattle.cuckoo.specs.Joined.{Joined, past, along, back}
use Rattle.cuckoo.proofs.Joined.{jrefl, jsym, jtrans, edge, mono, split, confine}
use Rattle.cuckoo.specs.Seating.{Ends, from_a, from_b}
use Rattle.cuckoo.proofs.Seating.{ends_edge, ends_cycle, ends_flip, ends_two, one_near}
use Rattle.cuckoo.specs.Tree.{Far}
use Rattle.cuckoo.proofs.Tree.{far_some}
use Rattle.forest.specs.Oriented.{Forest, StandsIn, Owned, Oriented, LeadsTo}

-- a slot after a word was stored
pub at_set : (h : List ℕ) (v y : ℕ) → v < length h → get_or (set h v y) v 0 ≡ y
at_set h v y l = get_or-set_same h v y 0 l

pub off_set : (h : List ℕ) (v y x : ℕ) → (x ≡ v → ⊥) → get_or (set h v y) x 0 ≡ get_or h x 0
off_set h v y x n = get_or-set_other h v x y 0 n

-- a slot that was emptied is bare, and one that was bare still is
pub emptied : (h : List ℕ) (v : ℕ) → get_or (set h v 0) v 0 ≡ 0
emptied h v = elim (le? (length h) v) [ inl l ↦ rw (set_out h v 0 l) (get_or-eq_default h 0 l) | inr l ↦ at_set h v 0 l ]

pub still_bare : (h : List ℕ) (v x : ℕ) → get_or h x 0 ≡ 0 → get_or (set h v 0) x 0 ≡ 0
still_bare h v x e = elim (eq? x v) [ inl q ↦ rw q (emptied h v) | inr n ↦ off_set h v 0 x n ∙ e ]

module _ (a b : ℕ → ℕ) where
  -- slot x of h' is that of h, but that the key c is gone
  data Left (h h' : List ℕ) (c x : ℕ) : Type 0 where
    gone : get_or h x 0 ≡ c → get_or h' x 0 ≡ 0 → Left h h' c x
    same : (get_or h x 0 ≡ c → ⊥) → get_or h' x 0 ≡ get_or h x 0 → Left h h' c x

module _ {a b : ℕ → ℕ} where
  -- both are in the key's component
  pub end_near : {R : List ℕ} {c v w p : ℕ} → Ends a b c v w → In c R → Joined a b R p (a c) → Joined a b R p v
  end_near (from_a e f) i j = rw e j
  end_near (from_b e f) i j = rw e (jtrans j (edge i))

  -- what c and G join to an end v of c, G joins to v or to the other end
  pub sides : {c v w x : ℕ} {F : List ℕ} (G : List ℕ) → Ends a b c v w → Sub F (c ∷ G) → Joined a b F v x → Joined a b G v x ⊎ Joined a b G w x
  sides {c} G (from_a e f) s j = rw (e, f) (elim (split c G (mono s (rw e at j))) [ past k ↦ inl k | along k l ↦ inr l | back k l ↦ inl l ])
  sides {c} G (from_b e f) s j = rw (e, f) (elim (split c G (mono s (rw e at j))) [ past k ↦ inl k | along k l ↦ inl l | back k l ↦ inr l ])

  -- fewer keys of a forest are a forest
  pub forest_sub : {F G : List ℕ} → Sub G F → Forest a b F → Forest a b G
  forest_sub s f = record { acyclic = λ c i j. f.acyclic c (s c i) (mono (out_sub c s) j); nonzero = λ c i. f.nonzero c (s c i) }

  -- and so are a forest and a key whose slots it does not join
  pub forest_more : {F : List ℕ} {c : ℕ} → Forest a b F → (c ≡ 0 → ⊥) → (Joined a b F (a c) (b c) → ⊥) → Forest a b (c ∷ F)
  forest_more {F} {c} f nz n = record { acyclic = acyclic; nonzero = λ d i e. elim i [ here q ↦ nz (sym q ∙ e) | there k ↦ f.nonzero d k e ] }
    where
      down : (d : ℕ) → Sub (without d (c ∷ F)) (c ∷ without d F)
      down d x i = elim (out_in d (c ∷ F) i) [ here q ↦ here q | there k ↦ there (in_out d F (out_ne d (c ∷ F) i) k) ]

      self : (d : ℕ) → d ≡ c → Sub (without d (c ∷ F)) F
      self d q x i = elim (out_in d (c ∷ F) i) [ here e ↦ absurd (out_ne d (c ∷ F) i (q ∙ sym e)) | there k ↦ k ]

      acyclic : (d : ℕ) → In d (c ∷ F) → Joined a b (without d (c ∷ F)) (a d) (b d) → ⊥
      acyclic d (here q) j = n (rw q at (mono (self d q) j))
      acyclic d (there i) j =
          let e : Joined a b F (a d) (b d) = edge i in
          let up : Sub (without d F) F = λ x k. out_in d F k in
          elim (split c (without d F) (mono (down d) j)) [
            | past k ↦ f.acyclic d i k
            | along k l ↦ let k' = mono up k in let l' = mono up l in n (record { same = cc })
            | back k l ↦ let k' = mono up k in let l' = mono up l in n (record { same = cc })
          ]

  -- Only the component counts: its keys, and what its slots hold.
  pub recast : {F G h h' : List ℕ} {p q : ℕ}
      → ((c : ℕ) → In c F → Joined a b F q (a c) → In c G) → ((c : ℕ) → In c G → Joined a b G q (a c) → In c F)
      → Joined a b F p q → ((x : ℕ) → Joined a b F q x → get_or h' x 0 ≡ get_or h x 0) → Oriented a b F h p → Oriented a b G h' q
  recast {F} {G} {h} {h'} {p} {q} s t j e o = record {
    own = λ v c k u nz.
        let l = back_to v k in
        let w = o.own v c (jtrans j l) (sym (e v l) ∙ u) nz in
        record { w = w.w; mem = s c w.mem (jtrans l (jsym (end_near w.ends w.mem jrefl))); ends = w.ends };
    stands = λ c i k.
        let l = back_to (a c) k in
        let i' = t c i k in
        let w = o.stands c i' (jtrans j l) in
        let ev = e w.v (end_near w.ends i' l) in
        let ew = e w.w (end_near (ends_flip w.ends) i' l) in
        record { v = w.v; w = w.w; ends = w.ends; at = ev ∙ w.at; off = λ u. w.off (sym ew ∙ u) };
  }
    where
      back_to : (x : ℕ) → Joined a b G q x → Joined a b F q x
      back_to x k = confine G (λ c i. i) (λ c i l. edge (t c i l)) k

  -- any slot may stand for its component
  pub move : {F h : List ℕ} {p q : ℕ} → Joined a b F p q → Oriented a b F h p → Oriented a b F h q
  move j o = recast (λ c i k. i) (λ c i k. i) j (λ x k. refl) o

  -- the key c is taken out of F and of its slot
  restrict : {F h h' : List ℕ} {p q c : ℕ} → Forest a b F → Oriented a b F h p → Joined a b F p q
      → ((x : ℕ) → Joined a b (without c F) q x → Left a b h h' c x) → Oriented a b (without c F) h' q
  restrict {F} {h} {h'} {p} {q} {c} f o j left = record {
    own = λ x d k e nz.
        elim (left x k) [
          | gone u t ↦ absurd (nz (sym e ∙ t))
          | same n t ↦
              let w = o.own x d (jtrans j (mono up k)) (sym t ∙ e) nz in
              record { w = w.w; mem = in_out c F (λ y. n (sym t ∙ e ∙ sym y)) w.mem; ends = w.ends }
        ];
    stands = λ d i k.
        let w = o.stands d (out_in c F i) (jtrans j (mono up k)) in
        record {
          v = w.v;
          w = w.w;
          ends = w.ends;
          at = elim (left w.v (end_near w.ends i k)) [
            | gone u t ↦ absurd (out_ne c F i (sym u ∙ w.at))
            | same n t ↦ t ∙ w.at
          ];
          off = λ e. elim (left w.w (end_near (ends_flip w.ends) i k)) [
            | gone u t ↦ f.nonzero d (out_in c F i) (sym e ∙ t)
            | same n t ↦ w.off (sym t ∙ e)
          ];
        };
  }
    where
      up : Sub (without c F) F
      up d i = out_in c F i

  -- Two trees become one: a key c between their slots v and w is put into w, the root of the one. F is G and c; h and k show the two trees,
  -- and `out` shows the one that they make.
  module _ {F G h k : List ℕ} (out : List ℕ) {c v w : ℕ} (f : Forest a b F) (e : Ends a b c v w) (ic : In c F) (up : Sub G F) (down : Sub F (c ∷ G))
      (apart : Joined a b G v w → ⊥) (ov : Oriented a b G h v) (ow : Oriented a b G k w) (bare : get_or k w 0 ≡ 0) (put : get_or out w 0 ≡ c)
      (eh : (x : ℕ) → Joined a b G v x → get_or out x 0 ≡ get_or h x 0)
      (ek : (x : ℕ) → Joined a b G w x → (x ≡ w → ⊥) → get_or out x 0 ≡ get_or k x 0) where
    new : In c G → ⊥
    new i = apart (ends_edge e i)

    own : (x d : ℕ) → Joined a b F v x → get_or out x 0 ≡ d → (d ≡ 0 → ⊥) → Owned a b F d x
    own x d j q nz =
        elim (sides G e down j) [
          | inl g ↦ let o = ov.own x d g (sym (eh x g) ∙ q) nz in record { w = o.w; mem = up d o.mem; ends = o.ends }
          | inr g ↦ elim (eq? x w) [
            | inl t ↦ let u : d ≡ c = sym q ∙ ap (λ (y : ℕ). get_or out y 0) t ∙ put in rw (u, t) (record { w = v; mem = ic; ends = ends_flip e })
            | inr n ↦ let o = ow.own x d g (sym (ek x g n) ∙ q) nz in record { w = o.w; mem = up d o.mem; ends = o.ends }
          ]
        ]

    self : StandsIn a b out c
    self = record {
      v = w;
      w = v;
      ends = ends_flip e;
      at = put;
      off = λ q. new (ov.own v c jrefl (sym (eh v jrefl) ∙ q) (f.nonzero c ic)).mem;
    }

    old : (d : ℕ) → In d G → Joined a b F v (a d) → StandsIn a b out d
    old d i j =
        elim (sides G e down j) [
          | inl g ↦
              let o = ov.stands d i g in
              record {
                v = o.v;
                w = o.w;
                ends = o.ends;
                at = eh o.v (end_near o.ends i g) ∙ o.at;
                off = λ q. o.off (sym (eh o.w (end_near (ends_flip o.ends) i g)) ∙ q);
              }
          | inr g ↦
              let o = ow.stands d i g in
              let at_w : get_or k w 0 ≡ d → ⊥ = λ q. f.nonzero d (up d i) (sym q ∙ bare) in
              record {
                v = o.v;
                w = o.w;
                ends = o.ends;
                at = ek o.v (end_near o.ends i g) (λ t. at_w (ap (λ (y : ℕ). get_or k y 0) (sym t) ∙ o.at)) ∙ o.at;
                off = λ q. elim (eq? o.w w) [
                  | inl t ↦ let u : d ≡ c = sym q ∙ ap (λ (y : ℕ). get_or out y 0) t ∙ put in new (rw u at i)
                  | inr n ↦ o.off (sym (ek o.w (end_near (ends_flip o.ends) i g) n) ∙ q)
                ];
              }
        ]

    pub join : Oriented a b F out v
    join = record {
      own = own;
      stands = λ d i j. elim (down d i) [ here q ↦ rw q self | there l ↦ old d l j ];
    }

  -- the key in a slot leads on
  pub leads : {F h : List ℕ} {c v : ℕ} → Forest a b F → Oriented a b F h v → get_or h v 0 ≡ c → (c ≡ 0 → ⊥) → LeadsTo a b F h c v
  leads {F} {h} {c} {v} f o e nz =
      let w = o.own v c jrefl e nz in
      let near : Joined a b F v (a c) = jsym (end_near w.ends w.mem jrefl) in
      let s = o.stands c w.mem near in
      let at : (x : ℕ) → Joined a b F v x → get_or h x 0 ≡ c → x ≡ s.v =
      λ x j q. elim (ends_two s.ends (o.own x c j q nz).ends) [
        | inl t ↦ t
        | inr t ↦ absurd (s.off (ap (λ (y : ℕ). get_or h y 0) (sym t) ∙ q))
      ] in
      record {
        w = w.w;
        ends = w.ends;
        mem = w.mem;
        at = e;
        apart = λ j. f.acyclic c w.mem (ends_cycle w.ends j);
        over = ends_edge w.ends w.mem;
        only = λ x j q. at x j q ∙ sym (at v jrefl e);
      }

  -- One tree becomes two: the key c is taken out of its slot v. Beyond c is the tree with the root of old, and v is the root of the other.
  module _ {F h : List ℕ} (h' : List ℕ) {c v : ℕ} (f : Forest a b F) (o : Oriented a b F h v) (s : LeadsTo a b F h c v)
      (e : (x : ℕ) → (x ≡ v → ⊥) → get_or h' x 0 ≡ get_or h x 0) where
    pub tree_beyond : Oriented a b (without c F) h' s.w
    tree_beyond = restrict f o s.over (λ x k.
        let n : x ≡ v → ⊥ = λ q. s.apart (jsym (rw q at k)) in
        same (λ u. n (s.only x (jtrans s.over (mono (λ d i. out_in c F i) k)) u)) (e x n))

    pub tree_below : get_or h' v 0 ≡ 0 → Oriented a b (without c F) h' v
    tree_below z = restrict f o jrefl (λ x k. elim (eq? x v) [
      | inl q ↦ rw q (gone s.at z)
      | inr n ↦ same (λ t. n (s.only x (mono (λ d i. out_in c F i) k) t)) (e x n)
    ])

  below_emptied : {F h : List ℕ} {c v : ℕ} → Forest a b F → Oriented a b F h v → LeadsTo a b F h c v → Oriented a b (without c F) (set h v 0) v
  below_emptied {h = h} {v = v} f o s = tree_below (set h v 0) f o s (λ x n. off_set h v 0 x n) (emptied h v)

  -- some key parts two different slots of a tree
  parted : {F : List ℕ} {u v : ℕ} → Forest a b F → Joined a b F u v → (u ≡ v → ⊥) → (c : ℕ) × Far a b F v c u
  parted {F} {u} {v} f j ne = far_some {X = F} {p = v} (λ c i k y. f.acyclic c i y) (jsym j) ne

  -- at a bare slot u it stands at its other end
  far_leads : {F h : List ℕ} {u v c : ℕ} → Forest a b F → Oriented a b F h u → get_or h u 0 ≡ 0 → (r : Far a b F v c u) → LeadsTo a b F h c r.w
  far_leads {h = h} {c = c} f o p r =
      let i = r.c_in in
      let s = o.stands c i (jsym (end_near r.ends i jrefl)) in
      let at : get_or h r.w 0 ≡ c = elim (ends_two r.ends s.ends) [
        | inl t ↦ absurd (f.nonzero c i (sym s.at ∙ ap (λ (y : ℕ). get_or h y 0) t ∙ p))
        | inr t ↦ ap (λ (y : ℕ). get_or h y 0) (sym t) ∙ s.at
      ] in
      leads f (move (ends_edge r.ends i) o) at (f.nonzero c i)

  -- A tree has one bare slot. Were u one beside v, the key c that parts u from v would stand at its other end w, and without c there were two
  -- bare slots, w and v, in a smaller tree.
  one_root_of : (n : ℕ) {F h : List ℕ} {u v : ℕ} → length F ≤ n → Forest a b F → Oriented a b F h u → Joined a b F u v
      → get_or h u 0 ≡ 0 → get_or h v 0 ≡ 0 → u ≡ v
  one_root_of zero {u = u} {v = v} l f o j p q = elim (eq? u v) [ inl e ↦ e | inr ne ↦ let r = parted f j ne in absurd (omega (arith, in_length r.1.c_in)) ]
  one_root_of (suc n) {F} {h} {u} {v} l f o j p q = elim (eq? u v) [
    | inl e ↦ e
    | inr ne ↦
        let r = parted f j ne in
        let c = r.0 in
        let w = r.1.w in
        let i = r.1.c_in in
        let s = far_leads f o p r.1 in
        let k : Joined a b (without c F) w v = elim (one_near r.1.ends i (jsym j)) [ inl k ↦ absurd (r.1.cut k) | inr k ↦ k ] in
        let e = one_root_of n (omega (arith, out_shorter c F i)) (forest_sub (λ d. out_in c F) f) (below_emptied f (move (ends_edge r.1.ends i) o) s)
        k (emptied h w) (still_bare h w v q) in
        absurd (f.nonzero c i (sym s.at ∙ ap (λ (y : ℕ). get_or h y 0) e ∙ q))
  ]

  pub one_root : {F h : List ℕ} {u v : ℕ} → Forest a b F → Oriented a b F h u → Joined a b F u v → get_or h u 0 ≡ 0 → get_or h v 0 ≡ 0 → u ≡ v
  one_root {F} f o j p q = one_root_of (length F) (omega arith) f o j p q

  -- a key leads away from its own side of the tree, towards the root
  pub not_below : {F h : List ℕ} {c v p : ℕ} → Forest a b F → Oriented a b F h v → LeadsTo a b F h c v → get_or h p 0 ≡ 0
      → Joined a b (without c F) v p → ⊥
  not_below {F} {h} {c} {v} {p} f o s z k =
      let e = one_root (forest_sub (λ d. out_in c F) f) (below_emptied f o s) k (emptied h v) (still_bare h v p z) in
      f.nonzero c s.mem (sym s.at ∙ ap (λ (y : ℕ). get_or h y 0) e ∙ z)

  pub root_beyond : {F h : List ℕ} {c v p : ℕ} → Forest a b F → Oriented a b F h v → (s : LeadsTo a b F h c v) → Joined a b F v p → get_or h p 0 ≡ 0
      → Joined a b (without c F) s.w p
  root_beyond {F} {c = c} f o s j z = elim (sides (without c F) s.ends (around c F) j) [ inl k ↦ absurd (not_below f o s z k) | inr k ↦ k ]

  -- a slot of a forest without keys is bare
  pub no_keys : {F h : List ℕ} {v : ℕ} → Oriented a b F h v → length F ≤ 0 → get_or h v 0 ≡ 0
  no_keys {F} {h} {v} o l = elim (eq? (get_or h v 0) 0) [
    | inl e ↦ e
    | inr n ↦ absurd (omega (arith, in_length (o.own v (get_or h v 0) jrefl refl n).mem))
  ]
