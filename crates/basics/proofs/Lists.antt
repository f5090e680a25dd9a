-- The laws of what specs/Lists.antt defines.
use Rattle.std.specs.Prelude.{ℕ, zero, suc, ◌+◌, ◌-◌, ◌%◌, ◌<◌, ◌≤◌, ◌≡◌, refl, Bool, true, false, not, ◌&&◌, ◌⊎◌, eqb, ltb, length, get_or, take, drop, replicate}
use Rattle.std.proofs.Common.{zero-le, sym, ◌∙◌, ap, inl, inr, arith, not-suc-le-zero, le_of_eq, mod-eq_of_lt, add-one, eqb-true, eq-eqb, ltb-true, lt-ltb, le-ltb, drop_of_length-le, drop-cons}
use Rattle.std.proofs.lemmas.Bool.{false≢true}
use mathlib.Core.List.Memᴰ.{head as here}
use mathlib.Core.List.Memᴰ.{tail as there}
use mathlib.Core.List.{List, [], ◌∷◌, ◌++◌, map, Memᴰ as In}
use Rattle.std.proofs.Math.Nat.{mod_self}
use Rattle.basics.specs.Tests.{test}
use Rattle.basics.proofs.Tests.{eq?, le?, and_true, bool_ext}
use Rattle.basics.specs.Sets.{keep, first, below, Asc, none, some}
use Rattle.basics.proofs.Sets.{keep_in, keep_test, in_keep, length_drop, in_below, asc_keep, first_in}
use Rattle.basics.specs.Lists.{same_by, same, rises, Picked, upto, passes, fails}

same_by_true : {A : Type 0} (test : A → A → Bool) → ((x y : A) → test x y ≡ true → x ≡ y) → (xs ys : List A)
    → same_by test xs ys ≡ true → xs ≡ ys
same_by_true test h [] [] e = refl
same_by_true test h [] (y ∷ ys) e = absurd (false≢true e)
same_by_true test h (x ∷ xs) [] e = absurd (false≢true e)
same_by_true test h (x ∷ xs) (y ∷ ys) e =
    let p = and_true (test x y) (same_by test xs ys) e in
    let q = h x y p.0 in
    let r = same_by_true test h xs ys p.1 in
    cc

same_by_self : {A : Type 0} (test : A → A → Bool) → ((x : A) → test x x ≡ true) → (xs : List A)
    → same_by test xs xs ≡ true
same_by_self test h [] = refl
same_by_self test h (x ∷ xs) = rw (h x) (same_by_self test h xs)

pub same_true : (xs ys : List ℕ) → same xs ys ≡ true → xs ≡ ys
unfolding same
same_true xs ys e = same_by_true eqb eqb-true xs ys e

pub true_same : (xs ys : List ℕ) → xs ≡ ys → same xs ys ≡ true
unfolding same
true_same xs ys e = rw e (same_by_self eqb (λ x. eq-eqb x x refl) ys)

-- what tests keep

-- tests that agree on a list keep the same of it
pub keep_ext : {A : Type 0} (p q : A → Bool) (R : List A) → ((c : A) → In c R → p c ≡ q c) → keep p R ≡ keep q R
keep_ext p q [] h = refl
keep_ext p q (c ∷ R) h = rw (h c (here refl), keep_ext p q R (λ d i. h d (there i)))

-- two tests in turn are one
pub keep_keep : {A : Type 0} (p q : A → Bool) (R : List A) → keep p (keep q R) ≡ keep (λ c. q c && p c) R
keep_keep p q [] = refl
keep_keep p q (c ∷ R) = elim (test (q c)) [ inl e ↦ rw (e, keep_keep p q R) | inr e ↦ rw (e, keep_keep p q R) ]

-- kept by q and then by p, or at once by r, which passes only what q passes and there agrees with p
pub keep_both : {A : Type 0} (p q r : A → Bool) (R : List A) → ((c : A) → In c R → r c ≡ true → q c ≡ true)
    → ((c : A) → In c R → q c ≡ true → r c ≡ p c)
    → keep r R ≡ keep p (keep q R)
keep_both p q r R k h =
    keep_ext r (λ c. q c && p c) R (λ c i. bool_ext (r c) (q c && p c)
    (λ e. let t = k c i e in rw t (sym (h c i t) ∙ e))
    (λ e. let t = and_true (q c) (p c) e in h c i t.0 ∙ t.1)) ∙ sym (keep_keep p q R)

-- a test that all pass keeps all,
pub keep_all : {A : Type 0} (p : A → Bool) (L : List A) → ((d : A) → In d L → p d ≡ true) → keep p L ≡ L
keep_all p [] h = refl
keep_all p (d ∷ L) h = rw (h d (here refl), keep_all p L (λ e i. h e (there i)))

-- and one that none passes keeps none
pub keep_none : {A : Type 0} (p : A → Bool) (L : List A) → ((d : A) → In d L → p d ≡ false) → keep p L ≡ []
keep_none p [] h = refl
keep_none p (d ∷ L) h = rw (h d (here refl), keep_none p L (λ e i. h e (there i)))

-- of two lists one after the other
pub keep_append : {A : Type 0} (p : A → Bool) (R S : List A) → keep p (R ++ S) ≡ keep p R ++ keep p S
keep_append p [] S = refl
keep_append p (c ∷ R) S = elim (test (p c)) [ inl e ↦ rw (e, keep_append p R S) | inr e ↦ rw (e, keep_append p R S) ]

-- what passes a test and what does not are all together
pub length_split : {A : Type 0} (p : A → Bool) (S : List A)
    → length (keep p S) + length (keep (λ c. not (p c)) S) ≡ length S
length_split p [] = refl
length_split p (c ∷ S) = go (test (p c)) (length_split p S)
  where
    go : (p c ≡ true) ⊎ (p c ≡ false) → length (keep p S) + length (keep (λ c. not (p c)) S) ≡ length S
        → length (keep p (c ∷ S)) + length (keep (λ c. not (p c)) (c ∷ S)) ≡ suc (length S)
    go (inl e) h = rw e (omega arith)
    go (inr e) h = rw e (omega arith)

-- places

-- what stands at a place of a list is in it
pub get_or_in : (L : List ℕ) (i : ℕ) → i < length L → In (get_or L i 0) L
get_or_in [] i l = absurd (not-suc-le-zero l)
get_or_in (c ∷ L) zero l = here refl
get_or_in (c ∷ L) (suc i) l = there (get_or_in L i (omega arith))

first_get_or : (L : List ℕ) → first L ≡ get_or L 0 0
first_get_or [] = refl
first_get_or (c ∷ L) = refl

-- of each element its image

pub at_map : (f : ℕ → ℕ) (K : List ℕ) (i : ℕ) → i < length K → get_or (map f K) i 0 ≡ f (get_or K i 0)
at_map f [] i l = absurd (omega arith)
at_map f (c ∷ K) zero l = refl
at_map f (c ∷ K) (suc i) l = at_map f K i (omega arith)

pub from_map : (f : ℕ → ℕ) {y : ℕ} (R : List ℕ) → In y (map f R) → (x : ℕ) × (In x R × (y ≡ f x))
from_map f [] i = elim i [ ]
from_map f (x ∷ R) i = elim i [
  | here e ↦ (x, (here refl, e))
  | there k ↦ let r = from_map f R k in (r.0, (there r.1.0, r.1.1))
]

pub in_map : (f : ℕ → ℕ) {x : ℕ} {R : List ℕ} → In x R → In (f x) (map f R)
in_map f (here e) = here (ap f e)
in_map f (there i) = there (in_map f i)

pub asc_map : (f : ℕ → ℕ) {R : List ℕ} → Asc R → ((x y : ℕ) → In x R → In y R → x < y → f x < f y) → Asc (map f R)
asc_map f none up = none
asc_map f (some {c} {R} h asc) up =
    some {c = f c} (λ y i. let r = from_map f R i in rw r.1.1 (up c r.0 (here refl) (there r.1.0) (h r.0 r.1.0)))
    (asc_map f asc (λ x y i j l. up x y (there i) (there j) l))

pub map_same : (f g : ℕ → ℕ) (S : List ℕ) → ((c : ℕ) → In c S → f c ≡ g c) → map f S ≡ map g S
map_same f g [] h = refl
map_same f g (c ∷ S) h = rw (h c (here refl), map_same f g S (λ d i. h d (there i)))

pub map_take : (f : ℕ → ℕ) (i : ℕ) (S : List ℕ) → map f (take i S) ≡ take i (map f S)
map_take f zero S = refl
map_take f (suc i) [] = refl
map_take f (suc i) (c ∷ S) = ap (λ (X : List ℕ). f c ∷ X) (map_take f i S)

pub map_drop : (f : ℕ → ℕ) (i : ℕ) (S : List ℕ) → map f (drop i S) ≡ drop i (map f S)
map_drop f zero S = refl
map_drop f (suc i) [] = refl
map_drop f (suc i) (c ∷ S) = map_drop f i S

pub map_zeros : (f : ℕ → ℕ) → f 0 ≡ 0 → (n : ℕ) → map f (replicate n 0) ≡ replicate n 0
map_zeros f z zero = refl
map_zeros f z (suc n) = rw (z, map_zeros f z n)

pub drop_zeros : (k s : ℕ) → drop {A = ℕ} k (replicate s 0) ≡ replicate (s - k) 0
drop_zeros zero s = let e : s - 0 ≡ s = omega arith in rw e
drop_zeros (suc k) zero = let e : 0 - suc k ≡ 0 = omega arith in rw e
drop_zeros (suc k) (suc s) = let e : suc s - suc k ≡ s - k = omega arith in rw e (drop_zeros k s)

-- nothing but zeros, behind its end, too
pub get_or_zeros : (n p : ℕ) → ◌≡◌ {A = ℕ} (get_or (replicate n 0) p 0) 0
get_or_zeros zero p = refl
get_or_zeros (suc n) zero = refl
get_or_zeros (suc n) (suc p) = get_or_zeros n p

pub rises_asc : (n : ℕ) (S : List ℕ) → rises n S ≡ true → Asc S × ((d : ℕ) → In d S → n < d)
rises_asc n [] e = (none, λ d i. elim i [ ])
rises_asc n (c ∷ S) e =
    let p = and_true (ltb n c) (rises c S) e in
    let l = ltb-true n c p.0 in
    let r = rises_asc c S p.1 in
    (some r.1 r.0, λ d i. elim i [ here q ↦ rw q l | there j ↦ omega (arith, r.1 d j) ])

pub asc_rises : (n : ℕ) (S : List ℕ) → Asc S → ((d : ℕ) → In d S → n < d) → rises n S ≡ true
asc_rises n [] asc low = refl
asc_rises n (c ∷ S) (some h asc) low = rw (lt-ltb n c (low c (here refl))) (asc_rises c S asc h)

-- the larger members of an ascending list are those that follow
pub larger_drop : {L : List ℕ} → Asc L → (i : ℕ) → i < length L → keep (ltb (get_or L i 0)) L ≡ drop (suc i) L
larger_drop none i l = absurd (not-suc-le-zero l)
larger_drop (some {c} {R} h k) zero l = rw (le-ltb c c (omega arith)) (keep_all (ltb c) R (λ d i. lt-ltb c d (h d i)))
larger_drop (some {c} {R} h k) (suc i) l =
    let x = get_or R i 0 in
    let m = h x (get_or_in R i (omega arith)) in
    rw (le-ltb x c (omega arith)) (larger_drop k i (omega arith))

-- and, going round, the first of them is the one after
pub first_drop : (L : List ℕ) (i : ℕ) → i < length L → first (drop (suc i) L ++ L) ≡ get_or L ((i + 1) % length L) 0
first_drop L i l =
    elim (le? (length L) (suc i)) [
      | inl m ↦
          let e : i + 1 ≡ length L = omega arith in
          rw (drop_of_length-le L m, e, mod_self (length L)) (first_get_or L)
      | inr m ↦
          let e : (i + 1) % length L ≡ suc i = rw (add-one i) (mod-eq_of_lt m) in
          rw (e, drop-cons L (suc i) 0)
    ]

-- no member of an ascending list is smaller than the first
pub first_low : {L : List ℕ} {d : ℕ} → Asc L → In d L → first L ≤ d
first_low (some h k) (here q) = le_of_eq (sym q)
first_low (some h k) (there i) = omega (arith, h _ i)
first_low {d = d} none x3 = elim x3 [ ]

-- the first that passes of an ascending list, or else its first, is so picked
pub picked : (p : ℕ → Bool) {C : List ℕ} {c : ℕ} → Asc C → In c C → Picked p C (first (keep p C ++ C))
picked p {C} asc i = go (keep p C) refl
  where
    go : (L : List ℕ) → keep p C ≡ L → Picked p C (first (L ++ C))
    go [] e = fails (first_in C i) (λ d k t. elim (rw e at (in_keep p C t k)) [ ]) (λ d k. first_low asc k)
    go (x ∷ L) e =
        let k : In x (keep p C) = rw e (here refl) in
        passes (keep_in p C k) (keep_test p C k) (λ d m t. first_low (rw e at (asc_keep p asc)) (rw e at (in_keep p C t m)))

-- counting

-- one member less: all but those equal to x are left
pull : {A : Type 0} {x : A} {M : List A} → In x M → (N : List A) × (length M ≡ suc (length N)) × ((y : A) → In y M → (y ≡ x → ⊥) → In y N)
pull (here {xs = M} q) = (M, refl, λ y i n. elim i [ here e ↦ absurd (n (e ∙ sym q)) | there t ↦ t ])
pull (there {x = z} {xs = M} h) =
    let r = pull h in
    (z ∷ r.0, ap suc r.1, λ y i n. elim i [ here e ↦ here e | there t ↦ there (r.2 y t n) ])

-- pigeons in holes: what is mapped apart into a list is no longer than it
pub pigeonhole : {A : Type 0} (f : ℕ → A) {L : List ℕ} (M : List A) → Asc L → ((c : ℕ) → In c L → In (f c) M)
    → ((c d : ℕ) → In c L → In d L → f c ≡ f d → c ≡ d) → length L ≤ length M
pigeonhole f M none into apart = zero-le
pigeonhole f M (some {c} {R} h k) into apart =
    let r = pull (into c (here refl)) in
    omega (
      arith,
      r.1,
      pigeonhole f r.0 k
          (λ d i. r.2 (f d) (into d (there i)) (λ e. omega (arith, h d i, apart d c (there i) (here refl) e)))
          (λ d e i j. apart d e (there i) (there j)),
    )

pub length_upto : (n : ℕ) → length (upto n) ≡ n
unfolding upto
length_upto zero = refl
length_upto (suc n) = ap suc (length_upto n)

pub in_upto : (n : ℕ) {i : ℕ} → i < n → In i (upto n)
unfolding upto
in_upto zero l = absurd (not-suc-le-zero l)
in_upto (suc n) {i} l = elim (eq? i n) [ inl q ↦ here q | inr ne ↦ there (in_upto n (omega arith)) ]

-- the rank of a member of a list: the number of smaller ones
pub rank_below : (R : List ℕ) {c : ℕ} → In c R → length (below c R) < length R
unfolding below
rank_below R {c} i = length_drop (λ x. ltb x c) R i (le-ltb c c (omega arith))

below_below : (R : List ℕ) {c d : ℕ} → c < d → below c R ≡ below c (below d R)
unfolding below
below_below R {c} {d} l =
    keep_both (λ x. ltb x c) (λ x. ltb x d) (λ x. ltb x c) R (λ x k t. let x<c = ltb-true x c t in lt-ltb x d (omega arith)) (λ x k t. refl)

rank_lt : (R : List ℕ) {c d : ℕ} → In c R → c < d → length (below c R) < length (below d R)
rank_lt R {c} {d} i l = rw (below_below R l) (rank_below (below d R) (in_below d R l i))

pub rank_apart : (R : List ℕ) {c d : ℕ} → In c R → In d R → length (below c R) ≡ length (below d R) → c ≡ d
rank_apart R {c} {d} i j e =
    elim (le? c d) [
      | inl l ↦ elim (le? d c) [ inl m ↦ omega arith | inr m ↦ absurd (omega (arith, rank_lt R i m)) ]
      | inr l ↦ absurd (omega (arith, rank_lt R j l))
    ]
