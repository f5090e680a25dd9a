-- The laws of what specs/Tree.antt defines.
use Rattle.std.specs.Prelude.{ℕ, ◌≡◌, refl, Bool, true, false, not, cond, ◌||◌, ◌⊎◌, eqb}
use Rattle.std.proofs.Common.{sym, ◌∙◌, ap, true≢false, eqb-true, eq-eqb, ne_eqb}
use Rattle.std.proofs.Math.Logic.{inl, inr}
use mathlib.Core.List.{List, Memᴰ as In}
use Rattle.std.proofs.lemmas.Bool.{not-true}
use Rattle.basics.proofs.Tests.{eq?}
use Rattle.basics.specs.Sets.{keep, without, Sub}
use Rattle.basics.proofs.Sets.{in?, some_or_all, in_out, out_sub, keep_in, keep_test, in_keep}
use Rattle.cuckoo.specs.Graph.{joined}
use Rattle.cuckoo.specs.Joined.{Joined}
use Rattle.cuckoo.proofs.Joined.{mono, joined?, joined_true, true_joined, false_joined, jsym, jrefl, jtrans, edge, least}
use Rattle.cuckoo.specs.Seating.{Ends, from_a, from_b, Bare}
use Rattle.cuckoo.proofs.Seating.{one_near, not_both, away, ends_edge, ends_flip, ends_two}
use Rattle.cuckoo.specs.Tree.{Far}

module _ (a b : ℕ → ℕ) where
  -- the key c leads from v, which Y joins to p, to w, which it does not
  record LeadsOut (Y : List ℕ) (p c : ℕ) : Type 0 where
    v : ℕ
    w : ℕ
    ends : Ends a b c v w
    reached : Joined a b Y p v
    fresh : Joined a b Y p w → ⊥

  leads? : (Y : List ℕ) (p c : ℕ) → LeadsOut Y p c ⊎ (joined a b Y p (a c) ≡ joined a b Y p (b c))
  leads? Y p c = go (joined? a b Y p (a c)) (joined? a b Y p (b c))
    where
      go : Joined a b Y p (a c) ⊎ (Joined a b Y p (a c) → ⊥) → Joined a b Y p (b c) ⊎ (Joined a b Y p (b c) → ⊥)
          → LeadsOut Y p c ⊎ (joined a b Y p (a c) ≡ joined a b Y p (b c))
      go (inl x) (inl y) = inr (true_joined x ∙ sym (true_joined y))
      go (inl x) (inr m) = inl (record { v = a c; w = b c; ends = from_a refl refl; reached = x; fresh = m })
      go (inr m) (inl y) = inl (record { v = b c; w = a c; ends = from_b refl refl; reached = y; fresh = m })
      go (inr m) (inr k) = inr (false_joined m ∙ sym (false_joined k))

module _ {a b : ℕ → ℕ} where
  leads_new : {Y : List ℕ} {p c : ℕ} → LeadsOut a b Y p c → In c Y → ⊥
  leads_new l i = l.fresh (jtrans l.reached (ends_edge l.ends i))

module _ {a b : ℕ → ℕ} {X : List ℕ} {p : ℕ} where
  -- while a slot of the component is not reached, some key leads on
  progress : (Y : List ℕ) {u : ℕ} → Joined a b X p u → (Joined a b Y p u → ⊥) → (c : ℕ) × In c X × LeadsOut a b Y p c
  progress Y {u} j n =
      elim (some_or_all (leads? a b Y p) X) [
        | inl r ↦ r
        | inr h ↦ absurd (n (joined_true (sym (least (joined a b Y p) X h j) ∙ true_joined {R = Y} {u = p} jrefl)))
      ]

  -- its other end is joined to p without it
  pub far_near : {c v : ℕ} (F : Far a b X p c v) → Joined a b X p v → Joined a b (without c X) F.w p
  far_near F j = elim (one_near F.ends F.c_in j) [ inl k ↦ absurd (F.cut k) | inr k ↦ k ]

  -- a key has one far end
  pub far_once : {c v u : ℕ} → Far a b X p c v → Far a b X p c u → Joined a b X p v → u ≡ v
  far_once F G j =
      elim (ends_two F.ends G.ends) [
        | inl q ↦ q
        | inr q ↦ absurd (G.cut (rw q (far_near F j)))
      ]

module _ {a b : ℕ → ℕ} {X : List ℕ} {p : ℕ} (bare : Bare a b X p) where
  -- each key of the tree has a far end
  pub far_end : {c : ℕ} → In c X → Joined a b X p (a c) → Far a b X p c (a c) ⊎ Far a b X p c (b c)
  far_end {c} i j =
      elim (away bare i j) [
        | inl o ↦ inl (record { c_in = i; w = b c; ends = from_a refl refl; cut = o })
        | inr o ↦ inr (record { c_in = i; w = a c; ends = from_b refl refl; cut = o })
      ]

  -- a key that leads on from what keys of X reach has its far end there
  leads_far : {Y : List ℕ} {c : ℕ} → Sub Y X → In c X → (l : LeadsOut a b Y p c) → Far a b X p c l.w
  leads_far {Y} {c} s i l = record {
    c_in = i;
    w = l.v;
    ends = ends_flip l.ends;
    cut = λ k. not_both bare l.ends i (mono (λ d h. in_out c X (λ q. leads_new l (rw q h)) (s d h)) (jsym l.reached)) k;
  }

  -- each slot of the tree but p is the far end of a key
  pub far_some : {v : ℕ} → Joined a b X p v → (v ≡ p → ⊥) → (c : ℕ) × Far a b X p c v
  far_some {v} j ne = let r = progress Y j no_way in go r.1 r.2
    where
      off : ℕ → Bool
      off c = not (eqb v (a c) || eqb v (b c))

      -- the keys that have no end at v
      Y : List ℕ
      Y = keep off X

      off_ends : {c x w : ℕ} → Ends a b c x w → (v ≡ x → ⊥) → (v ≡ w → ⊥) → off c ≡ true
      off_ends {c} (from_a e f) m n = rw (ne_eqb v (a c) (λ q. m (q ∙ sym e)), ne_eqb v (b c) (λ q. n (q ∙ sym f)))
      off_ends {c} (from_b e f) m n = rw (ne_eqb v (a c) (λ q. n (q ∙ sym f)), ne_eqb v (b c) (λ q. m (q ∙ sym e)))

      both_false : (s t : Bool) → (s || t) ≡ false → s ≡ t
      both_false true t e = absurd (true≢false e)
      both_false false t e = sym e

      no_way : Joined a b Y p v → ⊥
      no_way k =
          let e = least (eqb v) Y (λ c i. both_false (eqb v (a c)) (eqb v (b c)) (not-true _ (keep_test off X i))) k in
          ne (eqb-true v p (e ∙ eq-eqb v v refl))

      go : {c : ℕ} → In c X → LeadsOut a b Y p c → (d : ℕ) × Far a b X p d v
      go {c} i l =
          elim (eq? v l.w) [
            | inl q ↦ (c, rw q (leads_far (λ d h. keep_in off X h) i l))
            | inr m ↦ absurd (leads_new l (in_keep off X (off_ends l.ends (λ q. no_way (rw (← q) at l.reached)) m) i))
          ]

  -- the keys of the tree that are in Y make a tree as well, and a far end in Y is a far end in X
  bare_sub : {Y : List ℕ} → Sub Y X → Bare a b Y p
  bare_sub s c i j k = bare c (s c i) (mono s j) (mono (out_sub c s) k)

  far_sub : {Y : List ℕ} {c v : ℕ} → Sub Y X → Far a b Y p c v → Joined a b Y p v → Far a b X p c v
  far_sub {Y} {c} s F j = record {
    c_in = s c F.c_in;
    w = F.w;
    ends = F.ends;
    cut = λ k. elim (one_near F.ends F.c_in j) [ inl l ↦ F.cut l | inr l ↦ not_both bare F.ends (s c F.c_in) k (mono (out_sub c s) l) ];
  }

module _ {a b : ℕ → ℕ} {X : List ℕ} {p : ℕ} (bare : Bare a b X p) where
  -- A seating f of the tree is fixed: if each key sits at one of its ends, and the key at p sits at its far end too (if it has one), then each key sits
  -- at its far end.
  module _ (f : ℕ → ℕ) (own : (c : ℕ) → In c X → Joined a b X p (a c) → (f (a c) ≡ c) ⊎ (f (b c) ≡ c))
      (top : (c v : ℕ) → f p ≡ c → Far a b X p c v → f v ≡ c) where
    end : ℕ → ℕ
    end c = cond (joined a b (without c X) (a c) p) (b c) (a c)

    end_is : {c v : ℕ} → Far a b X p c v → Joined a b X p v → end c ≡ v
    unfolding end
    end_is {c} {v} F j = go F.ends
      where
        go : {w : ℕ} → Ends a b c v w → end c ≡ v
        go (from_a e g) = rw (e, false_joined (rw e at F.cut))
        go (from_b e g) =
            elim (one_near (from_b e g) F.c_in j) [ inl k ↦ absurd (F.cut k) | inr k ↦ rw (e, true_joined (rw g at k)) ]

    right : ℕ → Bool
    right c = eqb (f (end c)) c

    -- the keys that sit at their far ends
    Y : List ℕ
    Y = keep right X

    Y_in : Sub Y X
    unfolding Y
    Y_in c i = keep_in right X i

    Y_right : {c v : ℕ} → In c Y → Far a b X p c v → Joined a b X p v → f v ≡ c
    unfolding Y right
    Y_right {c} i F j = rw (← end_is F j) (eqb-true (f (end c)) c (keep_test right X i))

    right_Y : {c v : ℕ} → Far a b X p c v → Joined a b X p v → f v ≡ c → In c Y
    unfolding Y right
    right_Y {c} F j e = in_keep right X (eq-eqb (f (end c)) c (ap f (end_is F j) ∙ e)) F.c_in

    own_ends : {c v w : ℕ} → Ends a b c v w → In c X → Joined a b X p v → (f v ≡ c) ⊎ (f w ≡ c)
    own_ends {c} (from_a e g) i j = rw (e, g) (own c i (rw e at j))
    own_ends {c} (from_b e g) i j = rw (e, g) (elim (own c i (jtrans (rw e at j) (jsym (edge i)))) [ inl q ↦ inr q | inr q ↦ inl q ])

    -- a key that leads on from them would be one of them
    leads_right : {c : ℕ} → In c X → LeadsOut a b Y p c → ⊥
    leads_right {c} i l =
        let F = leads_far bare Y_in i l in
        let j = mono Y_in l.reached in
        let out : f l.w ≡ c → ⊥ = λ q. leads_new l (right_Y F (jtrans j (ends_edge l.ends i)) q) in
        elim (own_ends l.ends i j) [
          | inr q ↦ out q
          | inl q ↦ elim (eq? l.v p) [
            | inl r ↦ out (top c l.w (rw (← r) q) F)
            | inr n ↦
                let d = far_some (bare_sub bare Y_in) l.reached n in
                leads_new l (rw (sym q ∙ Y_right d.1.c_in (far_sub bare Y_in d.1 l.reached) j) d.1.c_in)
          ]
        ]

    reach : {u : ℕ} → Joined a b X p u → Joined a b Y p u
    reach {u} j = elim (joined? a b Y p u) [ inl k ↦ k | inr n ↦ let r = progress Y j n in absurd (leads_right r.1 r.2) ]

    -- each key of the tree sits at its far end
    pub fixed : {c v : ℕ} → Far a b X p c v → Joined a b X p v → f v ≡ c
    fixed {c} F j =
        elim (in? c Y) [
          | inl i ↦ Y_right i F j
          | inr n ↦
              let down : Sub Y (without c X) = λ d i. in_out c X (λ q. n (rw q i)) (Y_in d i) in
              let k = reach j in
              absurd (F.cut (jsym (mono down k)))
        ]
