-- The laws of what specs/Reroot.antt defines.
use Rattle.std.specs.Prelude.{ℕ, zero, suc, ◌<◌, ◌≡◌, List, length, get_or, set}
use Rattle.std.proofs.Math.Path.{refl}
use Rattle.std.proofs.Common.{sym, ◌∙◌, inl, inr, arith, not-suc-le-zero, length-set, eq-eqb, ne_eqb}
use Rattle.basics.proofs.Tests.{eq?}
use Rattle.basics.specs.Sets.{without}
use Rattle.basics.proofs.Sets.{out_in, around, out_shorter}
use Rattle.cuckoo.specs.Joined.{Joined}
use Rattle.cuckoo.proofs.Joined.{jrefl, jsym, jtrans, mono}
use Rattle.cuckoo.specs.Seating.{Ends, from_a, from_b}
use Rattle.forest.proofs.Oriented.{at_set, off_set, emptied, forest_sub, recast, join, leads, tree_beyond, tree_below}
use Rattle.forest.specs.Oriented.{Forest, Oriented, LeadsTo}
use Rattle.forest.specs.Reroot.{reroot, Rerooted}

-- `other v c` is the other slot of the key c that stands in slot v
module _ (other : ℕ → ℕ → ℕ) where
  pub reroot_none : (h : List ℕ) (carry v : ℕ) → (reroot other) 0 h carry v ≡ h
  unfolding reroot
  reroot_none h carry v = refl

  pub reroot_stop : (n : ℕ) (h : List ℕ) (carry v : ℕ) → get_or h v 0 ≡ 0 → (reroot other) (suc n) h carry v ≡ set h v carry
  unfolding reroot
  reroot_stop n h carry v e = rw (eq-eqb (get_or h v 0) 0 e)

  pub reroot_step : (n : ℕ) (h : List ℕ) (carry v : ℕ) → (get_or h v 0 ≡ 0 → ⊥)
      → (reroot other) (suc n) h carry v ≡ (reroot other) n (set h v carry) (get_or h v 0) (other v (get_or h v 0))
  unfolding reroot
  reroot_step n h carry v e = rw (ne_eqb (get_or h v 0) 0 e)

  pub length_reroot : (n : ℕ) (h : List ℕ) (carry v : ℕ) → length ((reroot other) n h carry v) ≡ length h
  length_reroot zero h carry v = rw (reroot_none h carry v)
  length_reroot (suc n) h carry v = elim (eq? (get_or h v 0) 0) [
    | inl e ↦ rw (reroot_stop n h carry v e) (length-set h v carry)
    | inr e ↦ rw (reroot_step n h carry v e) (length_reroot n (set h v carry) (get_or h v 0) (other v (get_or h v 0)) ∙ length-set h v carry)
  ]

module _ {a b : ℕ → ℕ} where
  -- at the root there is nothing to turn
  module _ {F h : List ℕ} {v : ℕ} (carry : ℕ) (o : Oriented a b F h v) (e : get_or h v 0 ≡ 0) (fit : v < length h) where
    bare_again : (x : ℕ) → get_or (set (set h v carry) v 0) x 0 ≡ get_or h x 0
    bare_again x = elim (eq? x v) [
      | inl q ↦ rw q (emptied (set h v carry) v ∙ sym e)
      | inr n ↦ off_set (set h v carry) v 0 x n ∙ off_set h v carry x n
    ]

    at_root : Rerooted a b F h carry v (set h v carry)
    at_root = record {
      put = at_set h v carry fit;
      turned = recast (λ d i k. i) (λ d i k. i) jrefl (λ x k. bare_again x) o;
      frame = λ x k. off_set h v carry x (λ q. k (rw q jrefl));
      size = length-set h v carry;
    }

  -- elsewhere the key c in v leads to w: the tree beyond c is re-rooted at w, and c is left there
  module _ {F h out : List ℕ} (carry : ℕ) {c v : ℕ} (f : Forest a b F) (o : Oriented a b F h v) (s : LeadsTo a b F h c v) (fit : v < length h)
      (I : Rerooted a b (without c F) (set h v carry) c s.w out) where
    not_beyond : (x : ℕ) → Joined a b (without c F) s.w x → x ≡ v → ⊥
    not_beyond x k q = s.apart (jsym (rw q at k))

    below_same : (x : ℕ) → Joined a b (without c F) v x → get_or (set out v 0) x 0 ≡ get_or (set h v 0) x 0
    below_same x j = elim (eq? x v) [
      | inl q ↦ rw q (emptied out v ∙ sym (emptied h v))
      | inr n ↦ off_set out v 0 x n ∙ I.frame x (λ k. s.apart (jtrans j (jsym k))) ∙ off_set h v carry x n ∙ sym (off_set h v 0 x n)
    ]

    beyond : Rerooted a b F h carry v out
    beyond = record {
      put = I.frame v (λ k. s.apart (jsym k)) ∙ at_set h v carry fit;
      turned = join (set out v 0) f s.ends s.mem (λ d. out_in c F) (around c F) s.apart
          (tree_below (set h v 0) f o s (λ x n. off_set h v 0 x n) (emptied h v)) I.turned
          (emptied out s.w) (off_set out v 0 s.w (not_beyond s.w jrefl) ∙ I.put)
          below_same (λ x k n. off_set out v 0 x (not_beyond x k) ∙ sym (off_set out s.w 0 x n));
      frame = λ x n. I.frame x (λ k. n (jtrans s.over (mono (λ d. out_in c F) k))) ∙ off_set h v carry x (λ q. n (rw q jrefl));
      size = I.size ∙ length-set h v carry;
    }

module _ {a b : ℕ → ℕ} {other : ℕ → ℕ → ℕ} (turn : (c v w : ℕ) → Ends a b c v w → other v c ≡ w)
    (m : ℕ) (fits : (c : ℕ) → (a c < m) × (b c < m)) where
  pub ends_fit : {c v w : ℕ} → Ends a b c v w → w < m
  ends_fit {c} (from_a e f) = rw f (fits c).1
  ends_fit {c} (from_b e f) = rw f (fits c).0

  step : (n : ℕ) {F h : List ℕ} (carry : ℕ) {v : ℕ} → Forest a b F → Oriented a b F h v → v < length h → (get_or h v 0 ≡ 0 → ⊥)
      → (s : LeadsTo a b F h (get_or h v 0) v)
      → Rerooted a b (without (get_or h v 0) F) (set h v carry) (get_or h v 0) s.w (reroot other n (set h v carry) (get_or h v 0) s.w)
      → Rerooted a b F h carry v (reroot other (suc n) h carry v)
  step n {F} {h} carry {v} f o fit nz s I = rw (reroot_step other n h carry v nz, turn (get_or h v 0) v s.w s.ends) (beyond carry f o s fit I)

  -- The loop re-roots: one step more than there are keys is enough.
  pub reroots : (n : ℕ) {F h : List ℕ} (carry : ℕ) {v : ℕ} → length F < n → Forest a b F → Oriented a b F h v → length h ≡ m → v < m
      → Rerooted a b F h carry v (reroot other n h carry v)
  reroots zero carry l f o sz fit = absurd (not-suc-le-zero l)
  reroots (suc n) {F} {h} carry {v} l f o sz fit =
      elim (eq? (get_or h v 0) 0) [
        | inl e ↦ rw (reroot_stop other n h carry v e) (at_root carry o e (rw sz fit))
        | inr nz ↦
            let c = get_or h v 0 in
            let s = leads f o refl nz in
            step n carry f o (rw sz fit) nz s (reroots n c (omega (arith, out_shorter c F s.mem)) (forest_sub (λ d. out_in c F) f)
            (tree_beyond (set h v carry) f o s (λ x ne. off_set h v carry x ne)) (length-set h v carry ∙ sz) (ends_fit s.ends))
      ]
