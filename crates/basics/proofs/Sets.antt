-- The laws of what specs/Sets.antt defines.
use Rattle.std.specs.Prelude.{ℕ, suc, ◌<◌, ◌≤◌, max, ◌≡◌, refl, Bool, true, false, not, cond, ◌||◌, ◌⊎◌, length, eqb, ltb}
use Rattle.std.proofs.Common.{zero-le, sym, ◌∙◌, true≢false, inl, inr, arith, le_of_eq, eqb-true, eq-eqb, ne_eqb, ltb-true, lt-ltb}
use Rattle.std.proofs.Math.Bool.{or-true}
use Rattle.std.proofs.lemmas.Bool.{false≢true, eqb-false, not-true}
use mathlib.Core.List.Memᴰ.{head as here}
use mathlib.Core.List.Memᴰ.{tail as there}
use mathlib.Core.List.{List, [], ◌∷◌, ◌++◌, Memᴰ as In}
use Rattle.basics.specs.Tests.{test}
use Rattle.basics.proofs.Tests.{eq?}
use Rattle.basics.specs.Sets.{member, keep, any, first, last, without, below, Asc, Sub, none, some}

-- what `keep` keeps
cond_in : {A : Type 0} (t : Bool) {c d : A} {L : List A} → In c (cond t (d ∷ L) L) → ((t ≡ true) × (c ≡ d)) ⊎ In c L
cond_in true (here q) = inl (refl, q)
cond_in true (there h) = inr h
cond_in false h = inr h

in_cond : {A : Type 0} (t : Bool) {c : A} (d : A) {L : List A} → In c L → In c (cond t (d ∷ L) L)
in_cond true d h = there h
in_cond false d h = h

pub keep_in : {A : Type 0} (p : A → Bool) (R : List A) {c : A} → In c (keep p R) → In c R
keep_in p [] h = h
keep_in p (d ∷ R) h = elim (cond_in (p d) h) [ inl q ↦ here q.1 | inr k ↦ there (keep_in p R k) ]

pub keep_test : {A : Type 0} (p : A → Bool) (R : List A) {c : A} → In c (keep p R) → p c ≡ true
keep_test p [] h = elim h [ ]
keep_test p (d ∷ R) h = elim (cond_in (p d) h) [ inl q ↦ cc | inr k ↦ keep_test p R k ]

pub in_keep : {A : Type 0} (p : A → Bool) (R : List A) {c : A} → p c ≡ true → In c R → In c (keep p R)
in_keep p (d ∷ R) e (here q) = let e' : p d ≡ true = cc in rw e' (here q)
in_keep p (d ∷ R) e (there h) = in_cond (p d) d (in_keep p R e h)
in_keep {A = A} p [] {c = c} e x'' = elim x'' [ ]

pub member_in : (c : ℕ) (R : List ℕ) → member c R ≡ true → In c R
member_in c [] e = absurd (false≢true e)
member_in c (d ∷ R) e = go (test (eqb c d)) (member_in c R)
  where
    go : (eqb c d ≡ true) ⊎ (eqb c d ≡ false) → (member c R ≡ true → In c R) → In c (d ∷ R)
    go (inl t) k = here (eqb-true c d t)
    go (inr t) k = there (k (rw t at e))

pub in_member : {c : ℕ} {R : List ℕ} → In c R → member c R ≡ true
in_member {c} (here {x = d} q) = rw (eq-eqb c d q)
in_member {c} (there {x = d} {xs = R} h) = rw (in_member h, or-true)

pub in? : (c : ℕ) (R : List ℕ) → In c R ⊎ (In c R → ⊥)
in? c R = elim (test (member c R)) [ inl e ↦ inl (member_in c R e) | inr e ↦ inr (λ h. true≢false (sym (in_member h) ∙ e)) ]

-- without c R: the other keys of R
pub out_in : (c : ℕ) (R : List ℕ) {d : ℕ} → In d (without c R) → In d R
unfolding without
out_in c R h = keep_in (λ d. not (eqb c d)) R h

pub out_ne : (c : ℕ) (R : List ℕ) {d : ℕ} → In d (without c R) → c ≡ d → ⊥
unfolding without
out_ne c R {d} h = eqb-false c d (not-true (eqb c d) (keep_test (λ d. not (eqb c d)) R h))

pub in_out : (c : ℕ) (R : List ℕ) {d : ℕ} → (c ≡ d → ⊥) → In d R → In d (without c R)
unfolding without
in_out c R {d} ne h = in_keep (λ d. not (eqb c d)) R (rw (ne_eqb c d ne)) h

pub around : (c : ℕ) (R : List ℕ) → Sub R (c ∷ without c R)
around c R d h = elim (eq? c d) [ inl e ↦ here (sym e) | inr ne ↦ there (in_out c R ne h) ]

pub out_sub : (c : ℕ) {R R' : List ℕ} → Sub R R' → Sub (without c R) (without c R')
out_sub c {R} {R'} s d h = in_out c R' (out_ne c R h) (s d (out_in c R h))

pub below_in : (n : ℕ) (R : List ℕ) {d : ℕ} → In d (below n R) → In d R
unfolding below
below_in n R h = keep_in (λ d. ltb d n) R h

pub below_lt : (n : ℕ) (R : List ℕ) {d : ℕ} → In d (below n R) → d < n
unfolding below
below_lt n R {d} h = ltb-true d n (keep_test (λ d. ltb d n) R h)

pub in_below : (n : ℕ) (R : List ℕ) {d : ℕ} → d < n → In d R → In d (below n R)
unfolding below
in_below n R {d} l h = in_keep (λ d. ltb d n) R (lt-ltb d n l) h

pub below_sub : (n : ℕ) {R R' : List ℕ} → Sub R R' → Sub (below n R) (below n R')
below_sub n {R} {R'} s d h = in_below n R' (below_lt n R h) (s d (below_in n R h))

pub below_up : (m n : ℕ) (R : List ℕ) → m ≤ n → Sub (below m R) (below n R)
below_up m n R l d h = let k = below_lt m R h in in_below n R (omega arith) (below_in m R h)

pub below_out : (c : ℕ) (R : List ℕ) → Sub (below c R) (without c R)
below_out c R d h = let k = below_lt c R h in in_out c R (omega arith) (below_in c R h)

pub below_suc : (n : ℕ) (R : List ℕ) → Sub (below (suc n) R) (n ∷ below n R)
below_suc n R d h =
    let k = below_lt (suc n) R h in
    elim (eq? n d) [ inl e ↦ here (sym e) | inr ne ↦ there (in_below n R (omega arith) (below_in (suc n) R h)) ]

pub top : List ℕ → ℕ
top [] = 0
top (c ∷ R) = max (suc c) (top R)

pub in_top : {c : ℕ} {R : List ℕ} → In c R → c < top R
unfolding top
in_top (here {xs = R} e) = omega arith
in_top (there {x = d} {xs = R} h) = omega (arith, in_top h)

-- for `search`: whether a key is in a set that `without` makes
pub ruleset outs = (in_out, out_in, out_ne)

pub any_true : {A : Type 0} (p : A → Bool) (R : List A) → any p R ≡ true → (d : A) × In d R × (p d ≡ true)
any_true p [] e = absurd (false≢true e)
any_true p (d ∷ R) e =
    elim (test (p d)) [
      | inl t ↦ (d, here refl, t)
      | inr t ↦ let r = any_true p R (rw t at e) in (r.0, there r.1, r.2)
    ]

pub true_any : {A : Type 0} (p : A → Bool) {d : A} {R : List A} → In d R → p d ≡ true → any p R ≡ true
true_any p (here {x = d} q) e = let e' : p d ≡ true = cc in rw e'
true_any p (there {x = d} h) e = rw (true_any p h e, or-true)

-- none passes exactly if each of them fails
pub any_false : {A : Type 0} (p : A → Bool) (R : List A) → any p R ≡ false → (d : A) → In d R → p d ≡ false
any_false p R e d i = elim (test (p d)) [ inl t ↦ absurd (true≢false (sym (true_any p i t) ∙ e)) | inr t ↦ t ]

pub false_any : {A : Type 0} (p : A → Bool) (R : List A) → ((d : A) → In d R → p d ≡ false) → any p R ≡ false
false_any p R f = elim (test (any p R)) [
  | inl t ↦ let r = any_true p R t in absurd (true≢false (sym r.2 ∙ f r.0 r.1))
  | inr t ↦ t
]

pub asc_keep : (p : ℕ → Bool) {R : List ℕ} → Asc R → Asc (keep p R)
asc_keep p none = none
asc_keep p (some {c} {R} h k) = go (p c) (asc_keep p k)
  where
    go : (t : Bool) → Asc (keep p R) → Asc (cond t (c ∷ keep p R) (keep p R))
    go true r = some (λ d i. h d (keep_in p R i)) r
    go false r = r

pub last_in : (c : ℕ) (R : List ℕ) → In (last (c ∷ R)) (c ∷ R)
last_in c [] = here refl
last_in c (d ∷ R) = there (last_in d R)

pub last_max : (R : List ℕ) {d : ℕ} → Asc R → In d R → d ≤ last R
last_max (c ∷ []) (some h k) (here q) = le_of_eq q
last_max (c ∷ []) (some h k) (there i) = elim i [ ]
last_max (c ∷ e ∷ R) (some h k) (here q) = omega (arith, h e (here refl), last_max (e ∷ R) k (here refl))
last_max (c ∷ e ∷ R) (some h k) (there i) = last_max (e ∷ R) k i
last_max [] {d = d} _ x3 = elim x3 [ ]

pub length_keep : {A : Type 0} (p : A → Bool) (R : List A) → length (keep p R) ≤ length R
length_keep p [] = zero-le
length_keep p (d ∷ R) = go (p d) (length_keep p R)
  where
    go : (t : Bool) → length (keep p R) ≤ length R → length (cond t (d ∷ keep p R) (keep p R)) ≤ suc (length R)
    go true l = omega arith
    go false l = omega arith

pub length_drop : {A : Type 0} (p : A → Bool) (R : List A) {c : A} → In c R → p c ≡ false → length (keep p R) < length R
length_drop p (d ∷ R) (here q) e = let e' : p d ≡ false = cc in rw e' (omega (arith, length_keep p R))
length_drop p (d ∷ R) (there i) e = go (p d) (length_drop p R i e)
  where
    go : (t : Bool) → length (keep p R) < length R → length (cond t (d ∷ keep p R) (keep p R)) < suc (length R)
    go true l = omega arith
    go false l = omega arith
length_drop {A = A} p [] {c = c} x'' e = elim x'' [ ]

pub out_shorter : (c : ℕ) (R : List ℕ) → In c R → length (without c R) < length R
unfolding without
out_shorter c R i = length_drop (λ d. not (eqb c d)) R i (rw (eq-eqb c c refl))

pub asc_out : (c : ℕ) {R : List ℕ} → Asc R → Asc (without c R)
unfolding without
asc_out c h = asc_keep (λ d. not (eqb c d)) h

pub in_length : {A : Type 0} {c : A} {R : List A} → In c R → 0 < length R
in_length (here {xs = R} q) = omega arith
in_length (there {xs = R} i) = omega arith

-- two ascending lists with the same members are equal
asc_head : {c d : ℕ} {K L : List ℕ} → Asc (c ∷ K) → Asc (d ∷ L) → Sub (c ∷ K) (d ∷ L) → Sub (d ∷ L) (c ∷ K) → c ≡ d
asc_head {c} {d} {K} {L} (some hc kc) (some hd kd) s t = go (s c (here refl)) (t d (here refl))
  where
    go : In c (d ∷ L) → In d (c ∷ K) → c ≡ d
    go (here q) j = q
    go (there i) (here q) = sym q
    go (there i) (there j) = omega (arith, hd c i, hc d j)

asc_tail : {c d : ℕ} {K L : List ℕ} → c ≡ d → Asc (c ∷ K) → Sub (c ∷ K) (d ∷ L) → Sub K L
asc_tail q (some h k) s x i = elim (s x (there i)) [ here e ↦ absurd (omega (arith, h x i)) | there j ↦ j ]

pub asc_ext : (K L : List ℕ) → Asc K → Asc L → Sub K L → Sub L K → K ≡ L
asc_ext [] [] h k s t = refl
asc_ext [] (d ∷ L) h k s t = elim (t d (here refl)) [ ]
asc_ext (c ∷ K) [] h k s t = elim (s c (here refl)) [ ]
asc_ext (c ∷ K) (d ∷ L) (some h h') (some k k') s t =
    let q = asc_head (some h h') (some k k') s t in
    let r = asc_ext K L h' k' (asc_tail q (some h h') s) (asc_tail (sym q) (some k k') t) in
    cc

-- some member has the one property, or all have the other
pub some_or_all : {P Q : ℕ → Type 0} → ((y : ℕ) → P y ⊎ Q y) → (K : List ℕ) → ((y : ℕ) × In y K × P y) ⊎ ((y : ℕ) → In y K → Q y)
some_or_all t [] = inr (λ y i. elim i [ ])
some_or_all {P} {Q} t (c ∷ K) =
    elim (t c) [
      | inl p ↦ inl (c, here refl, p)
      | inr q ↦ elim (some_or_all t K) [
        | inl r ↦ inl (r.0, there r.1, r.2)
        | inr h ↦ inr (λ y i. elim i [ here e ↦ rw e q | there j ↦ h y j ])
      ]
    ]

pub both? : {P Q : Type 0} → P ⊎ (P → ⊥) → Q ⊎ (Q → ⊥) → (P × Q) ⊎ (P × Q → ⊥)
both? (inl p) (inl q) = inl (p, q)
both? (inl p) (inr n) = inr (λ r. n r.1)
both? (inr n) d = inr (λ r. n r.0)

pub not? : {P : Type 0} → P ⊎ (P → ⊥) → (P → ⊥) ⊎ ((P → ⊥) → ⊥)
not? (inl p) = inr (λ n. n p)
not? (inr n) = inl n

pub first_in : {c : ℕ} (L : List ℕ) → In c L → In (first L) L
first_in (d ∷ L) i = here refl
first_in {c = c} [] i = elim i [ ]

pub first_two : (L M : List ℕ) {c : ℕ} → In c M → In (first (L ++ M)) L ⊎ ((In (first (L ++ M)) M) × (L ≡ []))
first_two [] (d ∷ M) i = inr (here refl, refl)
first_two (d ∷ L) M i = inl (here refl)
first_two [] [] {c = c} i = elim i [ ]

pub no_member : (c : ℕ) (R : List ℕ) → (In c R → ⊥) → member c R ≡ false
no_member c R n = elim (test (member c R)) [ inl e ↦ absurd (n (member_in c R e)) | inr e ↦ e ]
