-- The place of a key in a set of keys: its rank, and the set with it and without it. Assumes nothing.
use Rattle.std.specs.Prelude.{ℕ, zero, suc, ◌+◌, ◌-◌, ◌≤◌, ◌<◌, ◌≡◌, refl, true, false, ◌⊎◌, eqb, ltb, take, drop}
use Rattle.std.proofs.Common.{suc-le-suc, ◌∙◌, inl, inr, le_of_suc-le-suc, not-suc-le-zero, arith, eq-eqb, ne_eqb, lt-ltb, le-ltb, ltb-true, le_refl}
use Rattle.std.proofs.Math.Path.{sym, ap}
use mathlib.Core.List.Memᴰ.{head as here}
use mathlib.Core.List.Memᴰ.{tail as there}
use mathlib.Core.List.{List, [], ◌∷◌, ◌++◌, Memᴰ as In}
use mathlib.Core.List.Memᴰ
use Rattle.std.proofs.Math.ListN.{length, get_or, length-append}
use Rattle.std.proofs.Math.Seq.{get_or-append_seam, take-append_seam, drop-append_seam, drop-append-add}
use Rattle.std.proofs.lemmas.Bool.{ltb-false}
use Rattle.std.proofs.lemmas.List.Sorted.{IsPartitionedBy-ltb, IsNonDecreasingBy-from_default}
use Rattle.std.specs.List.Sorted.{IsPartitionedBy, IsPartitionPoint}
use Rattle.basics.proofs.Tests.{eq?, le?}
use Rattle.basics.specs.Sets.{member, without, Asc, none, some, below}
use Rattle.basics.proofs.Sets.{asc_ext, asc_keep, asc_out, keep_in, keep_test, in_keep, length_keep, below_in, below_lt, in_below, out_in, out_ne, in_out, in?, in_member, no_member}
use Rattle.basics.proofs.Lists.{get_or_in}
use Rattle.ordered.specs.Keys.{lower_bound, above, with_key}
use Rattle.ordered.proofs.Sorting.{in_at}

-- the larger keys
above_in : (n : ℕ) (R : List ℕ) {d : ℕ} → In d (above n R) → In d R
unfolding above
above_in n R h = keep_in _ R h

above_lt : (n : ℕ) (R : List ℕ) {d : ℕ} → In d (above n R) → n < d
unfolding above
above_lt n R {d} h = ltb-true n d (keep_test _ R h)

in_above : (n : ℕ) (R : List ℕ) {d : ℕ} → n < d → In d R → In d (above n R)
unfolding above
in_above n R {d} l h = in_keep (λ d. ltb n d) R (lt-ltb n d l) h

-- two sets one after the other
asc_append : {K L : List ℕ} → Asc K → Asc L → ((d e : ℕ) → In d K → In e L → d < e) → Asc (K ++ L)
asc_append none k h = k
asc_append {L = L} (some {c} {R = K} g r) k h =
    some {c = c} {R = K ++ L}
    (λ d i. elim (Memᴰ.append_cases K i) [ inl j ↦ g d j | inr j ↦ h c d (here refl) j ])
    (asc_append r k (λ d e i j. h d e (there i) j))

asc_below : (key : ℕ) {R : List ℕ} → Asc R → Asc (below key R)
unfolding below
asc_below key h = asc_keep (λ d. ltb d key) h

asc_above : (key : ℕ) {R : List ℕ} → Asc R → Asc (above key R)
unfolding above
asc_above key h = asc_keep (λ d. ltb key d) h

-- `with_key`: the key and the keys that were there, each once
pub with_cases : (key : ℕ) (R : List ℕ) {d : ℕ} → In d (with_key key R) → (d ≡ key) ⊎ In d R
unfolding with_key
with_cases key R h =
    elim (Memᴰ.append_cases (below key R) h) [
      | inl i ↦ inr (below_in key R i)
      | inr i ↦ elim i [ here q ↦ inl q | there j ↦ inr (above_in key R j) ]
    ]

pub with_here : (key : ℕ) (R : List ℕ) → In key (with_key key R)
unfolding with_key
with_here key R = Memᴰ.append_right (below key R) (here refl)

pub with_there : (key : ℕ) (R : List ℕ) {d : ℕ} → In d R → In d (with_key key R)
unfolding with_key
with_there key R {d} h =
    elim (eq? d key) [
      | inl e ↦ Memᴰ.append_right (below key R) (here e)
      | inr ne ↦ elim (le? d key) [
        | inl l ↦ Memᴰ.append_left (key ∷ above key R) (in_below key R (omega arith) h)
        | inr l ↦ Memᴰ.append_right (below key R) (there (in_above key R l h))
      ]
    ]

pub asc_with : (key : ℕ) {R : List ℕ} → Asc R → Asc (with_key key R)
unfolding with_key
asc_with key {R} h =
    asc_append (asc_below key h) (some {c = key} {R = above key R} (λ d i. above_lt key R i) (asc_above key h)) (λ d e i j.
    elim j [ here q ↦ omega (arith, below_lt key R i) | there k ↦ omega (arith, below_lt key R i, above_lt key R k) ])

-- a set that has the key is itself with the key
pub with_same : (key : ℕ) (S : List ℕ) → Asc S → In key S → with_key key S ≡ S
with_same key S h i =
    asc_ext (with_key key S) S (asc_with key h) h
    (λ d j. elim (with_cases key S j) [ inl e ↦ rw e i | inr k ↦ k ])
    (λ d j. with_there key S j)

-- in and out again, and out and in again
pub without_with : (key : ℕ) (S : List ℕ) → Asc S → (In key S → ⊥) → without key (with_key key S) ≡ S
without_with key S h n =
    asc_ext (without key (with_key key S)) S (asc_out key (asc_with key h)) h
    (λ d j. elim (with_cases key S (out_in key (with_key key S) j)) [
      | inl e ↦ absurd (out_ne key (with_key key S) j (sym e))
      | inr k ↦ k
    ])
    (λ d j. in_out key (with_key key S) (λ e. n (rw e j)) (with_there key S j))

-- a set without the key: the smaller keys and the larger keys
without_split : (key : ℕ) (S : List ℕ) → Asc S → without key S ≡ below key S ++ above key S
without_split key S h =
    asc_ext (without key S) (below key S ++ above key S) (asc_out key h)
    (asc_append (asc_below key h) (asc_above key h) (λ d e i j. omega (arith, below_lt key S i, above_lt key S j)))
    (λ d j. let ne = out_ne key S j in elim (le? d key) [
      | inl l ↦ Memᴰ.append_left (above key S) (in_below key S (omega arith) (out_in key S j))
      | inr l ↦ Memᴰ.append_right (below key S) (in_above key S l (out_in key S j))
    ])
    (λ d j. elim (Memᴰ.append_cases (below key S) j) [
      | inl k ↦ in_out key S (let l = below_lt key S k in λ e. omega arith) (below_in key S k)
      | inr k ↦ in_out key S (let l = above_lt key S k in λ e. omega arith) (above_in key S k)
    ])

without_none : (key : ℕ) (S : List ℕ) → Asc S → (In key S → ⊥) → without key S ≡ S
without_none key S h n = asc_ext (without key S) S (asc_out key h) h (λ d j. out_in key S j) (λ d j. in_out key S (λ e. n (rw e j)) j)

with_length : (key : ℕ) (S : List ℕ) → Asc S → length (with_key key S) ≡ suc (length (without key S))
unfolding with_key
with_length key S h = rw (without_split key S h) (omega (arith, length-append (below key S) (key ∷ above key S), length-append (below key S) (above key S)))

pub length_with : (key : ℕ) (S : List ℕ) → Asc S → (In key S → ⊥) → length (with_key key S) ≡ suc (length S)
length_with key S h n = with_length key S h ∙ ap (λ (R : List ℕ). suc (length R)) (without_none key S h n)

pub length_without : (key : ℕ) (S : List ℕ) → Asc S → In key S → suc (length (without key S)) ≡ length S
length_without key S h i = sym (with_length key S h) ∙ ap length (with_same key S h i)

-- the rank is an index, or the length
pub bound_le : (key : ℕ) (S : List ℕ) → lower_bound S key ≤ length S
unfolding lower_bound below
bound_le key S = length_keep (λ d. ltb d key) S

-- what stands there is in the set, and a key of the set stands there
found_rank : (key : ℕ) (S : List ℕ) → lower_bound S key < length S → get_or S (lower_bound S key) 0 ≡ key → In key S
found_rank key S l e = rw e at (get_or_in S (lower_bound S key) l)

-- what stands before the rank, at it and behind it
module _ (key : ℕ) (S : List ℕ) (h : Asc S) where
  split_out : (In key S → ⊥) → S ≡ below key S ++ above key S
  split_out n = sym (without_none key S h n) ∙ without_split key S h

  split_in : In key S → S ≡ below key S ++ (key ∷ above key S)
  unfolding with_key
  split_in i = sym (with_same key S h i)

  pub bound_found : In key S → (get_or S (lower_bound S key) 0 ≡ key) × (lower_bound S key < length S)
  unfolding lower_bound
  bound_found i = (
    ap (λ (L : List ℕ). get_or L (length (below key S)) 0) (split_in i) ∙ get_or-append_seam (below key S) key (above key S) 0,
    omega (arith, ap length (split_in i), length-append (below key S) (key ∷ above key S)),
  )

  -- the words of the set with the key, and of the set without it
  pub with_parts : (In key S → ⊥) → take (lower_bound S key) S ++ (key ∷ drop (lower_bound S key) S) ≡ with_key key S
  unfolding lower_bound with_key
  with_parts n =
      let a = ap (take (length (below key S))) (split_out n) ∙ take-append_seam (below key S) (above key S) in
      let b = ap (drop (length (below key S))) (split_out n) ∙ drop-append_seam (below key S) (above key S) in
      cc

  pub without_parts : In key S → take (lower_bound S key) S ++ drop (lower_bound S key + 1) S ≡ without key S
  unfolding lower_bound
  without_parts i =
      let a = ap (take (length (below key S))) (split_in i) ∙ take-append_seam (below key S) (key ∷ above key S) in
      let b = ap (drop (length (below key S) + 1)) (split_in i) ∙ drop-append-add (below key S) (key ∷ above key S) 1 in
      cc (without_split key S h)

-- one key more
bound_less : (key c : ℕ) (R : List ℕ) → c < key → lower_bound (c ∷ R) key ≡ suc (lower_bound R key)
unfolding lower_bound below
bound_less key c R l = rw (lt-ltb c key l)

bound_cons : (key c : ℕ) (R : List ℕ) → lower_bound (c ∷ R) key ≤ suc (lower_bound R key)
unfolding lower_bound below
bound_cons key c R = elim (le? key c) [ inl l ↦ rw (le-ltb c key l) (omega arith) | inr l ↦ rw (lt-ltb c key l) (omega arith) ]

bound_none : (key : ℕ) (R : List ℕ) → ((d : ℕ) → In d R → key ≤ d) → lower_bound R key ≡ 0
unfolding lower_bound below
bound_none key [] h = refl
bound_none key (c ∷ R) h = rw (le-ltb c key (h c (here refl))) (bound_none key R (λ d i. h d (there i)))

-- binary search: a smaller key is before the rank, and no other is
pub bound_low : (key : ℕ) {S : List ℕ} → Asc S → (i : ℕ) → i < length S → get_or S i 0 < key → i < lower_bound S key
bound_low key none i l k = absurd (not-suc-le-zero l)
bound_low key (some {c} {R} g r) zero l k = rw (bound_less key c R k) (omega arith)
bound_low key (some {c} {R} g r) (suc i) l k =
    let m = g (get_or R i 0) (get_or_in R i (le_of_suc-le-suc l)) in
    rw (bound_less key c R (omega arith)) (suc-le-suc (bound_low key r i (le_of_suc-le-suc l) k))

pub bound_high : (key : ℕ) {S : List ℕ} → Asc S → (i : ℕ) → i < length S → key ≤ get_or S i 0 → lower_bound S key ≤ i
bound_high key none i l k = absurd (not-suc-le-zero l)
bound_high key (some {c} {R} g r) zero l k =
    omega (arith, bound_none key (c ∷ R) (λ d i. elim i [ here q ↦ omega arith | there j ↦ omega (arith, g d j) ]))
bound_high key (some {c} {R} g r) (suc i) l k = omega (arith, bound_cons key c R, bound_high key r i (le_of_suc-le-suc l) k)

-- The keys beside a rank: before it stands the largest of the smaller keys, and at it the smallest of the others.
module _ (key : ℕ) {S : List ℕ} (h : Asc S) where
  up : (i j : ℕ) → i ≤ j → j < length S → get_or S i 0 ≤ get_or S j 0
  up i j l m = elim (le? (get_or S i 0) (get_or S j 0)) [
    | inl k ↦ k
    | inr k ↦ absurd (omega (arith, bound_low (get_or S i 0) h j m k, bound_high (get_or S i 0) h i (omega arith) (omega arith)))
  ]

  pub before_rank : 0 < lower_bound S key → get_or S (lower_bound S key - 1) 0 < key
  before_rank l = elim (le? key (get_or S (lower_bound S key - 1) 0)) [
    | inl k ↦ absurd (omega (arith, bound_high key h (lower_bound S key - 1) (omega (arith, bound_le key S)) k))
    | inr k ↦ k
  ]

  pub smaller_before : {d : ℕ} → In d S → d < key → (0 < lower_bound S key) × (d ≤ get_or S (lower_bound S key - 1) 0)
  smaller_before {d} i l =
      let w = in_at i in
      let m = bound_low key h w.0 w.1 (rw w.2 l) in
      (omega arith, rw w.2 at (up w.0 (lower_bound S key - 1) (omega arith) (omega (arith, bound_le key S))))

  pub at_rank : lower_bound S key < length S → key ≤ get_or S (lower_bound S key) 0
  at_rank l = elim (le? key (get_or S (lower_bound S key) 0)) [
    | inl k ↦ k
    | inr k ↦ absurd (omega (arith, bound_low key h (lower_bound S key) l k))
  ]

  pub larger_at : {d : ℕ} → In d S → key ≤ d → (lower_bound S key < length S) × (get_or S (lower_bound S key) 0 ≤ d)
  larger_at {d} i l =
      let w = in_at i in
      let m = bound_high key h w.0 w.1 (rw w.2 l) in
      (omega (arith, w.1), rw w.2 at (up (lower_bound S key) w.0 m w.1))

-- what std's `partition_point` asks at the test `word < key`, and finds
pub asc_parted : (key : ℕ) {S : List ℕ} → Asc S → IsPartitionedBy (λ d. ltb d key) S
asc_parted key {S} h = IsPartitionedBy-ltb (λ d. d) S key (IsNonDecreasingBy-from_default (λ d. d) S 0 (up key h))

pub point_is_bound :
    (key : ℕ) {S : List ℕ} → Asc S
    → (r : ℕ) → r ≤ length S → IsPartitionPoint (λ d. ltb d key ≡ true) (λ d. ltb d key ≡ false) S r → r ≡ lower_bound S key
point_is_bound key {S} h r fit point =
    let low : r ≤ lower_bound S key =
    elim (eq? r 0) [
      | inl e ↦ omega arith
      | inr ne ↦ omega (arith, bound_low key h (r - 1) (omega arith) (ltb-true _ _ (point.0 (r - 1) 0 (omega arith) (omega arith))))
    ] in
    let high : lower_bound S key ≤ r =
    elim (le? (length S) r) [
      | inl l ↦ omega (arith, bound_le key S)
      | inr l ↦ bound_high key h r l (ltb-false _ _ (point.1 r 0 (le_refl r) l))
    ] in
    omega arith

-- a search that ends at the rank says whether the key is there
module _ (key : ℕ) (S : List ℕ) (h : Asc S) where
  pub member_at : lower_bound S key < length S → eqb (get_or S (lower_bound S key) 0) key ≡ member key S
  member_at l =
      elim (in? key S) [
        | inl i ↦ eq-eqb _ _ (bound_found key S h i).0 ∙ sym (in_member i)
        | inr n ↦ ne_eqb _ _ (λ e. n (found_rank key S l e)) ∙ sym (no_member key S n)
      ]

  pub member_past : length S ≤ lower_bound S key → false ≡ member key S
  member_past l = sym (no_member key S (λ i. omega (arith, (bound_found key S h i).1)))
