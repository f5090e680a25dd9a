-- The laws of what specs/Link.antt defines.
use Rattle.std.specs.Prelude.{ℕ, zero, suc, ◌<◌, ◌≤◌, ◌≡◌, ◌⊎◌, length, get_or, replicate}
use Rattle.std.proofs.Common.{zero-le, sym, ◌∙◌, inl, inr, arith}
use Rattle.std.proofs.Math.Path.{refl}
use mathlib.Core.List.Memᴰ.{head as here}
use mathlib.Core.List.Memᴰ.{tail as there}
use mathlib.Core.List.{List, [], ◌∷◌, Memᴰ as In}
use Rattle.basics.proofs.Tests.{eq?}
use Rattle.basics.proofs.Lists.{get_or_zeros}
use Rattle.basics.specs.Sets.{without, Sub, Asc, none, some}
use Rattle.basics.proofs.Sets.{in_out, out_shorter, asc_keep, below_in, below_lt, in_below}
use Rattle.cuckoo.specs.Joined.{Joined}
use Rattle.cuckoo.proofs.Joined.{jrefl, jsym, jtrans, mono, within, more, joined?, true_joined, false_joined}
use Rattle.cuckoo.specs.Seating.{Ends}
use Rattle.cuckoo.proofs.Seating.{ends_flip, ends_edge, ends_cycle}
use Rattle.cuckoo.specs.Forest.{forest}
use Rattle.cuckoo.proofs.Forest.{forest_in, forest_no, in_forest, spans_key}
use Rattle.forest.proofs.Oriented.{off_set, emptied, end_near, forest_more, recast, move, join}
use Rattle.forest.specs.Oriented.{Forest, Oriented, OrientedForest}
use Rattle.forest.specs.Reroot.{reroot, Rerooted}
use Rattle.forest.proofs.RerootLaws.{reroots, ends_fit}
use Rattle.forest.specs.Link.{Once, grow, no_key, one_more}

pub asc_once : {R : List ℕ} → Asc R → Once R
asc_once none = no_key
asc_once (some {c} up k) = one_more (λ i. let l = up c i in omega arith) (asc_once k)

once_shorter : {R : List ℕ} (L : List ℕ) → Once R → Sub R L → length R ≤ length L
once_shorter L no_key s = zero-le
once_shorter L (one_more {c} {R} n o) s =
    let i = s c (here refl) in
    omega (arith, once_shorter (without c L) o (λ d k. in_out c L (λ q. n (rw q k)) (s d (there k))), out_shorter c L i)

get_or_in : (h : List ℕ) (v : ℕ) → (get_or h v 0 ≡ 0 → ⊥) → In (get_or h v 0) h
get_or_in [] v n = absurd (n refl)
get_or_in (x ∷ h) zero n = here refl
get_or_in (x ∷ h) (suc v) n = there (get_or_in h v n)

module _ (a b : ℕ → ℕ) where
  -- no keys, and every slot bare
  pub forest_none : (m : ℕ) → OrientedForest a b [] (replicate m 0)
  forest_none m = record {
    forest = record { acyclic = λ c i. elim i [ ]; nonzero = λ c i. elim i [ ] };
    each = λ p. record { own = λ v c j e n. absurd (n (sym e ∙ get_or_zeros m v)); stands = λ c i. elim i [ ] };
  }

module _ {a b : ℕ → ℕ} where
  -- there are no more keys than slots, since each has one for itself
  pub keys_fit : {F h : List ℕ} → OrientedForest a b F h → Once F → length F ≤ length h
  keys_fit {F} {h} W o = once_shorter h o (λ c i.
      let s = (W.each (a c)).stands c i jrefl in
      let nz : get_or h s.v 0 ≡ 0 → ⊥ = λ z. W.forest.nonzero c i (sym s.at ∙ z) in
      rw (← s.at) (get_or_in h s.v nz))

  -- The tree of one end v of a key c is re-rooted there and c left in v; the other end w lies in another tree. That makes one tree of two.
  module _ {G h out : List ℕ} {c v w : ℕ} (W : OrientedForest a b G h) (nz : c ≡ 0 → ⊥) (e : Ends a b c v w) (apart : Joined a b G (a c) (b c) → ⊥)
      (I : Rerooted a b G h c v out) where
    apart_ends : Joined a b G w v → ⊥
    apart_ends j = apart (ends_cycle (ends_flip e) j)

    more_forest : Forest a b (c ∷ G)
    more_forest = forest_more W.forest nz apart

    one_tree : Oriented a b (c ∷ G) out w
    one_tree = join out more_forest (ends_flip e) (here refl) (λ d i. there i) (λ d i. i) apart_ends (W.each w) I.turned (emptied out v) I.put
        (λ x j. I.frame x (λ k. apart_ends (jtrans j (jsym k)))) (λ x k n. sym (off_set out v 0 x n))

    other_trees : (p : ℕ) → (Joined a b (c ∷ G) w p → ⊥) → Oriented a b (c ∷ G) out p
    other_trees p n =
        recast (λ d i k. there i) (λ d i k. elim i [
          | here q ↦ absurd (n (jsym (end_near (ends_flip e) (here refl) (rw q at k))))
          | there l ↦ l
        ]) jrefl (λ x k. I.frame x (λ l. n (jtrans (ends_edge (ends_flip e) (here refl)) (jtrans (more l) (jsym (more k)))))) (W.each p)

    pub linked : OrientedForest a b (c ∷ G) out
    linked = record { forest = more_forest; each = λ p. elim (joined? a b (c ∷ G) w p) [ inl j ↦ move j one_tree | inr n ↦ other_trees p n ] }

  module _ {other : ℕ → ℕ → ℕ} (turn : (c v w : ℕ) → Ends a b c v w → other v c ≡ w) (m : ℕ) (fits : (c : ℕ) → (a c < m) × (b c < m)) where
    -- So re-rooting at either end of a key, with the key, links it.
    pub links : (n : ℕ) {G h : List ℕ} {c v w : ℕ} → length G < n → OrientedForest a b G h → length h ≡ m → (c ≡ 0 → ⊥) → Ends a b c v w
        → (Joined a b G (a c) (b c) → ⊥) → OrientedForest a b (c ∷ G) (reroot other n h c v)
    links n {c = c} {v} l W sz nz e apart =
        linked W nz e apart (reroots turn m fits n c l W.forest (W.each v) sz (ends_fit turn m fits (ends_flip e)))

-- Kruskal's algorithm, and that it gives the forest of the definitions
module _ (a b : ℕ → ℕ) where
  pub grow_none : (F : List ℕ) → (grow a b) [] F ≡ F
  unfolding grow
  grow_none F = refl

  pub grow_pass : (c : ℕ) (S F : List ℕ) → Joined a b F (a c) (b c) → (grow a b) (c ∷ S) F ≡ (grow a b) S F
  unfolding grow
  grow_pass c S F j = rw (true_joined j)

  pub grow_link : (c : ℕ) (S F : List ℕ) → (Joined a b F (a c) (b c) → ⊥) → (grow a b) (c ∷ S) F ≡ (grow a b) S (c ∷ F)
  unfolding grow
  grow_link c S F n = rw (false_joined n)

  module _ (S : List ℕ) where
    -- the keys of S below t have been through, F are those of them that the forest of S has, and `rest` is still to come
    record GrownSoFar (rest F : List ℕ) (t : ℕ) : Type 0 where
      seen : (x : ℕ) → In x S → (x < t) ⊎ In x rest
      ahead : (x : ℕ) → In x rest → In x S
      within_S : Sub F (forest a b S)
      all_F : (x : ℕ) → In x (forest a b S) → x < t → In x F
      low : (x : ℕ) → In x F → x < t

    grow_forest : (rest : List ℕ) {F : List ℕ} (t : ℕ) → Asc rest → ((x : ℕ) → In x rest → t ≤ x) → GrownSoFar rest F t
        → Sub ((grow a b) rest F) (forest a b S) × Sub (forest a b S) ((grow a b) rest F)
    grow_forest [] {F} t asc up R =
        rw (grow_none F) (R.within_S, λ x i. elim (R.seen x (forest_in a b S x i)) [ inl l ↦ R.all_F x i l | inr k ↦ elim k [ ] ])
    grow_forest (c ∷ rest) {F} t (some h asc) up R =
        elim (joined? a b F (a c) (b c)) [
          | inl j ↦ rw (grow_pass c rest F j) (grow_forest rest (suc c) asc (λ x i. h x i) (record {
            seen = seen;
            ahead = λ x i. R.ahead x (there i);
            within_S = R.within_S;
            all_F = λ x i l. elim (eq? x c) [
              | inl q ↦ absurd (forest_no S i (rw q (mono (λ d k.
                  in_below c S (omega (arith, R.low d k, up c (here refl))) (forest_in a b S d (R.within_S d k))) j)))
              | inr n ↦ R.all_F x i (early x (forest_in a b S x i) (omega arith))
            ];
            low = λ x i. omega (arith, R.low x i, up c (here refl));
          }))
          | inr n ↦ rw (grow_link c rest F n) (grow_forest rest (suc c) asc (λ x i. h x i) (record {
            seen = seen;
            ahead = λ x i. R.ahead x (there i);
            within_S = λ x i. elim i [
              | here q ↦ rw q (in_forest S (R.ahead c (here refl)) (λ j. n (within (λ d k. mono (λ x i. R.all_F x (below_in (suc d) (forest a b S) i)
                  (omega (arith, below_lt (suc d) (forest a b S) i, early d (below_in c S k) (below_lt c S k))))
                  (spans_key S (suc d) d (omega arith) (below_in c S k))) j)))
              | there k ↦ R.within_S x k
            ];
            all_F = λ x i l. elim (eq? x c) [ inl q ↦ here q | inr ne ↦ there (R.all_F x i (early x (forest_in a b S x i) (omega arith))) ];
            low = λ x i. elim i [ here q ↦ omega arith | there k ↦ omega (arith, R.low x k, up c (here refl)) ];
          }))
        ]
      where
        early : (x : ℕ) → In x S → x < c → x < t
        early x i l = elim (R.seen x i) [
          | inl k ↦ k
          | inr k ↦ elim k [ here q ↦ absurd (omega arith) | there y ↦ absurd (omega (arith, h x y)) ]
        ]

        seen : (x : ℕ) → In x S → (x < suc c) ⊎ In x rest
        seen x i = elim (R.seen x i) [
          | inl k ↦ inl (omega (arith, up c (here refl)))
          | inr k ↦ elim k [ here q ↦ inl (omega arith) | there y ↦ inr y ]
        ]

  pub grow_is : {S : List ℕ} → Asc S → Sub ((grow a b) S []) (forest a b S) × Sub (forest a b S) ((grow a b) S [])
  grow_is {S} asc = grow_forest S S 0 asc (λ x i. zero-le) (record {
    seen = λ x i. inr i;
    ahead = λ x i. i;
    within_S = λ x i. elim i [ ];
    all_F = λ x i l. absurd (omega arith);
    low = λ x i. elim i [ ];
  })

  pub forest_fits : {S h : List ℕ} → Asc S → OrientedForest a b (forest a b S) h → length (forest a b S) ≤ length h
  unfolding forest
  forest_fits {S} asc W = keys_fit W (asc_once (asc_keep _ asc))
