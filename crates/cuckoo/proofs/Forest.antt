-- The laws of what specs/Forest.antt defines.
use Rattle.std.specs.Prelude.{ℕ, zero, suc, ◌<◌, ◌≤◌, ◌⊎◌}
use Rattle.std.proofs.Common.{sym, ◌∙◌, inl, inr, arith, not-suc-le-zero}
use Rattle.std.proofs.Math.Bool.{not, true≢false}
use mathlib.Core.List.Memᴰ.{head as here}
use mathlib.Core.List.Memᴰ.{tail as there}
use mathlib.Core.List.{List, ◌∷◌, Memᴰ as In}
use borrow.Author.Tests.{not-true}
use Rattle.basics.proofs.Tests.{le?}
use Rattle.basics.specs.Sets.{keep, without, Sub, below}
use Rattle.basics.proofs.Sets.{keep_in, keep_test, in_keep, in?, out_in, out_ne, below_in, below_lt, in_below, below_sub, below_up, below_suc, top, in_top}
use Rattle.cuckoo.specs.Graph.{joined}
use Rattle.cuckoo.specs.Joined.{Joined, past, along, back}
use Rattle.cuckoo.proofs.Joined.{edge, mono, within, split, joined?, true_joined, no_joined}
use Rattle.cuckoo.specs.Forest.{Larger, forest}

module _ (a b : ℕ → ℕ) where
  -- the key at which u and v come to be joined, as the keys of X are laid down from the smallest up
  record Crossing (X : List ℕ) (p u v : ℕ) : Type 0 where
    m : ℕ
    m_in : In m X
    p≤m : p ≤ m
    before : Joined a b (below m X) u v → ⊥
    after : Joined a b (m ∷ below m X) u v

  pub forest_in : (S : List ℕ) → Sub ((forest a b) S) S
  unfolding forest
  forest_in S c i = keep_in (λ c. not (joined a b (below c S) (a c) (b c))) S i

module _ {a b : ℕ → ℕ} where
  crossing_below : (X : List ℕ) (p : ℕ) {u v : ℕ} → (Joined a b (below p X) u v → ⊥) → (n : ℕ) → Joined a b (below n X) u v → Crossing a b X p u v
  crossing_below X p {u} {v} no' zero j = absurd (no' (mono (λ c i. absurd (not-suc-le-zero (below_lt 0 X i))) j))
  crossing_below X p {u} {v} no' (suc k) j = go (joined? a b (below k X) u v) (in? k X) (λ i. crossing_below X p no' k i)
    where
      go : Joined a b (below k X) u v ⊎ (Joined a b (below k X) u v → ⊥) → In k X ⊎ (In k X → ⊥) → (Joined a b (below k X) u v → Crossing a b X p u v) → Crossing a b X p u v
      go (inl i) d rest = rest i
      go (inr ni) (inl d) rest = record {
        m = k;
        m_in = d;
        p≤m = elim (le? p k) [ inl l ↦ l | inr l ↦ absurd (no' (mono (below_up (suc k) p X l) j)) ];
        before = ni;
        after = mono (below_suc k X) j;
      }
      go (inr ni) (inr nd) rest = absurd (ni (mono (λ c i. elim (below_suc k X c i) [ here e ↦ absurd (nd (rw e at (below_in (suc k) X i))) | there t ↦ t ]) j))

  crossing : (X : List ℕ) (p : ℕ) {u v : ℕ} → (Joined a b (below p X) u v → ⊥) → Joined a b X u v → Crossing a b X p u v
  crossing X p n j = crossing_below X p n (top X) (mono (λ c i. in_below (top X) X (in_top i) i) j)

  larger_at : {R : List ℕ} {c : ℕ} → In c R → Crossing a b (without c R) c (a c) (b c) → Larger a b R c
  larger_at {R} {c} i C =
      let m = C.m in
      let ne = out_ne c R C.m_in in
      let c<m : c < m = omega arith in
      let up : Sub (below m (without c R)) (below m R) = below_sub m (λ d. out_in c R) in
      let e : Joined a b (below m R) (a c) (b c) = edge (in_below m R c<m i) in
      let found : Joined a b (below m R) (a c) (a m) → Joined a b (below m R) (a m) (b m) → Larger a b R c =
      λ n l. record { m = m; m_in = out_in c R C.m_in; c<m = c<m; cycle = l; near = mono (λ d. below_in m R) n } in
      elim (split m (below m (without c R)) C.after) [
        | past k ↦ absurd (C.before k)
        | along k l ↦ let k' = mono up k in let l' = mono up l in found k' (record { same = cc })
        | back k l ↦ let k' = mono up k in let l' = mono up l in found (record { same = cc }) (record { same = cc })
      ]

  -- a key on a cycle whose ends the smaller keys do not join has a larger one on a cycle near it
  larger : {R : List ℕ} {c : ℕ} → In c R → (Joined a b (below c R) (a c) (b c) → ⊥) → Joined a b (without c R) (a c) (b c) → Larger a b R c
  larger {R} {c} i n j = larger_at i (crossing (without c R) c (λ k. n (mono (below_sub c (λ d. out_in c R)) k)) j)

  pub forest_no : (S : List ℕ) {c : ℕ} → In c (forest a b S) → Joined a b (below c S) (a c) (b c) → ⊥
  unfolding forest
  forest_no S {c} i j = true≢false (sym (true_joined j) ∙ not-true (joined a b (below c S) (a c) (b c)) (keep_test (λ c. not (joined a b (below c S) (a c) (b c))) S i))

  pub in_forest : (S : List ℕ) {c : ℕ} → In c S → (Joined a b (below c S) (a c) (b c) → ⊥) → In c (forest a b S)
  unfolding forest
  in_forest S {c} i n = in_keep (λ c. not (joined a b (below c S) (a c) (b c))) S (no_joined n) i

  pub spans_key : (S : List ℕ) (n c : ℕ) → c < n → In c S → Joined a b (below (suc c) (forest a b S)) (a c) (b c)
  spans_key S zero c l i = absurd (not-suc-le-zero l)
  spans_key S (suc n) c l i =
      elim (joined? a b (below c S) (a c) (b c)) [
        | inl j ↦ within (λ d k. let q = below_lt c S k in mono (below_up (suc d) (suc c) (forest a b S) (omega arith)) (spans_key S n d (omega arith) (below_in c S k))) j
        | inr k ↦ edge (in_below (suc c) (forest a b S) (omega arith) (in_forest S i k))
      ]

  -- the forest joins what the set joins
  pub spans : (S : List ℕ) {u v : ℕ} → Joined a b S u v → Joined a b (forest a b S) u v
  spans S j = within (λ c i. mono (λ d. below_in (suc c) (forest a b S)) (spans_key S (suc c) c (omega arith) i)) j

  -- no key of the forest lies on a cycle of it
  pub acyclic : (S : List ℕ) {c : ℕ} → In c (forest a b S) → Joined a b (without c (forest a b S)) (a c) (b c) → ⊥
  acyclic S {c} i j =
      let L = larger i (λ k. forest_no S i (mono (below_sub c (forest_in a b S)) k)) j in
      forest_no S L.m_in (mono (below_sub L.m (forest_in a b S)) L.cycle)

  -- a key of the forest is not the largest on a cycle
  pub not_largest : (S R : List ℕ) {c : ℕ} → Sub R S → In c (forest a b S) → In c R → Joined a b (without c R) (a c) (b c) → Larger a b R c
  not_largest S R {c} s f i j = larger i (λ k. forest_no S f (mono (below_sub c s) k)) j
