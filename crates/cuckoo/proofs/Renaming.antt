-- The laws of what specs/Renaming.antt defines.
use Prim.Native.Nat.{ℕ, zero, suc, ◌+◌, ◌<◌, ◌≤◌}
use Rattle.std.specs.Prelude.{◌≡◌, Bool, not, cond, eqb, ltb, length, get_or}
use Rattle.std.proofs.Math.Path.{refl}
use Rattle.std.proofs.Common.{sym, ap, arith, not-suc-le-zero}
use Rattle.std.proofs.Math.Bool.{true, false}
use Rattle.std.proofs.Math.Logic.{inl, inr}
use mathlib.Core.List.Memᴰ.{head as here}
use mathlib.Core.List.Memᴰ.{tail as there}
use mathlib.Core.List.{List, [], ◌∷◌, ◌++◌, map, map-append, Memᴰ as In}
use borrow.Author.Tests.{eqb-true, eq-eqb, ne_eqb, ltb-true, lt-ltb}
use Rattle.std.proofs.lemmas.List.{length-map}
use Rattle.basics.specs.Tests.{test}
use Rattle.basics.proofs.Tests.{eq?, le?, bool_ext}
use Rattle.basics.specs.Sets.{member, keep, any, first, last, without, Sub, Asc, none, some}
use Rattle.basics.proofs.Sets.{keep_in, out_in, last_in}
use Rattle.basics.proofs.Lists.{get_or_in}
use Rattle.cuckoo.specs.Graph.{label, joined, component, is_on_cycle, cyclic, spare, settle, seated, stash, root, sits, occupant, next, slot_key, slot_next}
use Rattle.cuckoo.proofs.Joined.{jrefl}
use Rattle.cuckoo.proofs.Components.{component_in}
use Rattle.cuckoo.proofs.Seating.{rooted, occupant_from}
use Rattle.cuckoo.proofs.Settling.{settle_sub}
use Rattle.cuckoo.specs.Renaming.{Renames, from, ranks, ranked}

-- lists, renamed: p looks at new names as q looks at old ones

module _ (f : ℕ → ℕ) where
  keep_map : (p q : ℕ → Bool) (R : List ℕ) → ((c : ℕ) → In c R → p (f c) ≡ q c) → keep p (map f R) ≡ map f (keep q R)
  keep_map p q [] h = refl
  keep_map p q (c ∷ R) h =
      let e = h c (here refl) in
      let r = keep_map p q R (λ d i. h d (there i)) in
      elim (test (q c)) [ inl t ↦ rw (e, t, r) | inr t ↦ rw (e, t, r) ]

  any_map : (p q : ℕ → Bool) (R : List ℕ) → ((c : ℕ) → In c R → p (f c) ≡ q c) → any p (map f R) ≡ any q R
  any_map p q [] h = refl
  any_map p q (c ∷ R) h = rw (h c (here refl), any_map p q R (λ d i. h d (there i)))

  member_map : (c : ℕ) (R : List ℕ) → ((d : ℕ) → In d R → eqb (f c) (f d) ≡ eqb c d) → member (f c) (map f R) ≡ member c R
  member_map c [] h = refl
  member_map c (d ∷ R) h = rw (h d (here refl), member_map c R (λ e i. h e (there i)))

  without_map : (c : ℕ) (R : List ℕ) → ((d : ℕ) → In d R → eqb (f c) (f d) ≡ eqb c d) → without (f c) (map f R) ≡ map f (without c R)
  unfolding without
  without_map c R h = keep_map _ _ R (λ d i. rw (h d i))

  last_map : (c : ℕ) (R : List ℕ) → last (map f (c ∷ R)) ≡ f (last (c ∷ R))
  last_map c [] = refl
  last_map c (d ∷ R) = last_map d R

  first_map : f 0 ≡ 0 → (R : List ℕ) → first (map f R) ≡ f (first R)
  first_map z [] = sym z
  first_map z (c ∷ R) = refl

  -- how `occupant` chooses, and how `root` and `next` do
  first_kept : f 0 ≡ 0 → (p q : ℕ → Bool) (R : List ℕ) → ((c : ℕ) → In c R → p (f c) ≡ q c) → first (keep p (map f R)) ≡ f (first (keep q R))
  first_kept z p q R h = rw (keep_map p q R h) (first_map z (keep q R))

  choice_map : f 0 ≡ 0 → (p q : ℕ → Bool) (R : List ℕ) → ((c : ℕ) → In c R → p (f c) ≡ q c)
      → first (keep p (map f R) ++ map f R) ≡ f (first (keep q R ++ R))
  choice_map z p q R h = rw (keep_map p q R h, ← map-append f (keep q R) R) (first_map z (keep q R ++ R))

module _ {f a b a' b' : ℕ → ℕ} where
  ren_sub : {R S : List ℕ} → Sub R S → Renames f a b a' b' S → Renames f a b a' b' R
  ren_sub s g = record {
    no_key = g.no_key;
    up = λ c d i j. g.up c d (elim i [ here q ↦ here q | there k ↦ there (s c k) ]) (s d j);
    at_0 = λ c i. g.at_0 c (s c i);
    at_1 = λ c i. g.at_1 c (s c i);
  }

  ren_out : (c : ℕ) {R : List ℕ} → Renames f a b a' b' R → Renames f a b a' b' (without c R)
  ren_out c {R} g = ren_sub (λ d. out_in c R) g

  ren_seated : {S : List ℕ} → Renames f a b a' b' S → Renames f a b a' b' (seated a' b' S)
  unfolding seated
  ren_seated {S} g = ren_sub (settle_sub a' b' (length S) S) g

  -- names compare as keys do
  back : {R : List ℕ} {c d : ℕ} → Renames f a b a' b' R → In c R → In d R → f c ≤ f d → c ≤ d
  back {c = c} {d} g i j l = elim (le? c d) [ inl m ↦ m | inr m ↦ absurd (omega (arith, g.up d c (there j) i m)) ]

  eqb_map : {R : List ℕ} {c d : ℕ} → Renames f a b a' b' R → In c R → In d R → eqb (f c) (f d) ≡ eqb c d
  eqb_map {c = c} {d} g i j = bool_ext (eqb (f c) (f d)) (eqb c d)
      (λ e. let q = eqb-true (f c) (f d) e in eq-eqb c d (omega (arith, back g i j (omega arith), back g j i (omega arith))))
      (λ e. eq-eqb (f c) (f d) (ap f (eqb-true c d e)))

  ltb_map : {R : List ℕ} {c d : ℕ} → Renames f a b a' b' R → In c R → In d R → ltb (f c) (f d) ≡ ltb c d
  ltb_map {c = c} {d} g i j = bool_ext (ltb (f c) (f d)) (ltb c d)
      (λ e. let l = ltb-true (f c) (f d) e in lt-ltb c d (elim (eq? c d) [
        | inl q ↦ absurd (omega (arith, ap f q))
        | inr n ↦ omega (arith, back g i j (omega arith))
      ]))
      (λ e. lt-ltb (f c) (f d) (g.up c d (there i) j (ltb-true c d e)))

  out_map : {R : List ℕ} {c : ℕ} → Renames f a b a' b' R → In c R → without (f c) (map f R) ≡ map f (without c R)
  out_map {R} {c} g i = without_map f c R (λ d. eqb_map g i)

  -- Each definition of Graph in its order there: over R renamed it gives what it gives over R, renamed where it is a key or a list of keys. Labels and
  -- components do so at every slot; what is asked of a key, of a key of the set.
  pub label_map : {R : List ℕ} → Renames f a b a' b' R → (v : ℕ) → label a b (map f R) v ≡ label a' b' R v
  unfolding label
  label_map {R = []} g v = refl
  label_map {R = c ∷ R} g v =
      let h = label_map (ren_sub (λ d. there) g) in
      rw (g.at_0 c (here refl), g.at_1 c (here refl), h v, h (a' c), h (b' c))

  pub joined_map : {R : List ℕ} → Renames f a b a' b' R → (u v : ℕ) → joined a b (map f R) u v ≡ joined a' b' R u v
  unfolding joined
  joined_map g u v = rw (label_map g u, label_map g v)

  pub component_map : {R : List ℕ} → Renames f a b a' b' R → (v : ℕ) → component a b (map f R) v ≡ map f (component a' b' R v)
  unfolding component
  component_map {R} g v = keep_map f _ _ R (λ d i. rw (g.at_0 d i) (joined_map g v (a' d)))

  pub is_on_cycle_map : {R : List ℕ} → Renames f a b a' b' R → {c : ℕ} → In c R → is_on_cycle a b (map f R) (f c) ≡ is_on_cycle a' b' R c
  unfolding is_on_cycle
  is_on_cycle_map {R} g {c} i =
      rw (member_map f c R (λ d. eqb_map g i), out_map g i, g.at_0 c i, g.at_1 c i, joined_map (ren_out c g) (a' c) (b' c))

  cyclic_map : {R : List ℕ} → Renames f a b a' b' R → (v : ℕ) → cyclic a b (map f R) v ≡ cyclic a' b' R v
  unfolding cyclic
  cyclic_map {R} g v = rw (component_map g v) (any_map f _ _ (component a' b' R v) (λ c i. is_on_cycle_map g (component_in a' b' R v i)))

  spare_map : {R : List ℕ} → Renames f a b a' b' R → {c : ℕ} → In c R → spare a b (map f R) (f c) ≡ spare a' b' R c
  unfolding spare
  spare_map g {c} i = rw (is_on_cycle_map g i, out_map g i, g.at_0 c i, cyclic_map (ren_out c g) (a' c))

  settle_map : (n : ℕ) {R : List ℕ} → Renames f a b a' b' R → settle a b n (map f R) ≡ map f (settle a' b' n R)
  unfolding settle
  settle_map zero g = refl
  settle_map (suc n) {R} g =
      rw (keep_map f (spare a b (map f R)) (spare a' b' R) R (λ c i. spare_map g i), settle)
      (go (keep (spare a' b' R) R) (λ c. keep_in (spare a' b' R) R) (λ c. settle_map n (ren_out c g)))
    where
      go : (D : List ℕ) → Sub D R → ((c : ℕ) → settle a b n (map f (without c R)) ≡ map f (settle a' b' n (without c R)))
          → elim (map f D) [ [] ↦ map f R | c ∷ D ↦ settle a b n (without (last (c ∷ D)) (map f R)) ]
          ≡ map f (elim D [ [] ↦ R | c ∷ D ↦ settle a' b' n (without (last (c ∷ D)) R) ])
      go [] s h = refl
      go (c ∷ D) s h = rw (last_map f c D, out_map g (s (last (c ∷ D)) (last_in c D))) (h (last (c ∷ D)))

  pub seated_map : {S : List ℕ} → Renames f a b a' b' S → seated a b (map f S) ≡ map f (seated a' b' S)
  unfolding seated
  seated_map {S} g = rw (length-map S f) (settle_map (length S) g)

  pub stash_map : {S : List ℕ} → Renames f a b a' b' S → stash a b (map f S) ≡ map f (stash a' b' S)
  unfolding stash seated
  stash_map {S} g = rw (seated_map g) (keep_map f _ _ S
      (λ c i. rw (member_map f c (seated a' b' S) (λ d j. eqb_map g i (settle_sub a' b' (length S) S d j)))))

  root_map : {T : List ℕ} → Renames f a b a' b' T → (v : ℕ) → root a b (map f T) v ≡ f (root a' b' T v)
  unfolding root
  root_map {T} g v = rw (component_map g v) (choice_map f g.no_key _ _ (component a' b' T v) (λ c i. is_on_cycle_map g (component_in a' b' T v i)))

  sits_map : {T : List ℕ} → Renames f a b a' b' T → (v : ℕ) {c : ℕ} → In c T → sits a b (map f T) v (f c) ≡ sits a' b' T v c
  unfolding sits
  sits_map {T} g v {c} i =
      let z = root a' b' T (a' c) in
      let k : In z T = (rooted a' b' T i jrefl).z_in in
      rw (g.at_0 c i, root_map g (a' c), is_on_cycle_map g k, eqb_map g i k, g.at_0 z k, cut k (is_on_cycle a' b' T z))
    where
      cut : {z : ℕ} → In z T → (t : Bool) → joined a b (without (f c) (cond t (without (f z) (map f T)) (map f T))) v (a' z)
          ≡ joined a' b' (without c (cond t (without z T) T)) v (a' z)
      cut {z} k true = rw (out_map g k, without_map f c (without z T) (λ d j. eqb_map g i (out_in z T j)))
          (joined_map (ren_out c (ren_out z g)) v (a' z))
      cut {z} k false = rw (out_map g i) (joined_map (ren_out c g) v (a' z))

  occupant_map : {T : List ℕ} → Renames f a b a' b' T → (v : ℕ) → occupant a b (map f T) v ≡ f (occupant a' b' T v)
  unfolding occupant
  occupant_map {T} g v = first_kept f g.no_key _ _ T (λ c i. rw (g.at_0 c i, g.at_1 c i, sits_map g v i))

  next_map : {T : List ℕ} → Renames f a b a' b' T → {c : ℕ} → In c T → next a b (map f T) (f c) ≡ f (next a' b' T c)
  unfolding next
  next_map {T} g {c} i =
      rw (g.at_0 c i, component_map g (a' c)) (choice_map f g.no_key _ _ (component a' b' T (a' c)) (λ d j. ltb_map g i (component_in a' b' T (a' c) j)))

  pub slot_key_map : {S : List ℕ} → Renames f a b a' b' S → (v : ℕ) → slot_key a b (map f S) v ≡ f (slot_key a' b' S v)
  unfolding slot_key
  slot_key_map g v = rw (seated_map g) (occupant_map (ren_seated g) v)

  pub slot_next_map : {S : List ℕ} → Renames f a b a' b' S → (v : ℕ) → slot_next a b (map f S) v ≡ f (slot_next a' b' S v)
  unfolding slot_next slot_key
  slot_next_map {S} g v =
      let g' = ren_seated g in
      let c = occupant a' b' (seated a' b' S) v in
      rw (seated_map g, occupant_map g' v) (elim (eq? c 0) [
        | inl q ↦ rw (q, g.no_key)
        | inr n ↦ elim (occupant_from a' b' (seated a' b' S) v) [
          | inl q ↦ absurd (n q)
          | inr r ↦
              let l = g'.up 0 c (here refl) r.0 (omega arith) in
              rw (ne_eqb c 0 n, ne_eqb (f c) 0 (λ q. omega (arith, g.no_key)), next_map g' r.0)
        ]
      ])

pub from_in : (i n : ℕ) {j : ℕ} → In j (from i n) → (i ≤ j) × (j < i + n)
unfolding from
from_in i zero k = elim k [ ]
from_in i (suc n) (here q) = (omega arith, omega arith)
from_in i (suc n) (there k) = let r = from_in (suc i) n k in (omega arith, omega arith)

pub in_from : (i n : ℕ) {j : ℕ} → i ≤ j → j < i + n → In j (from i n)
unfolding from
in_from i zero l m = absurd (omega arith)
in_from i (suc n) {j} l m = elim (eq? j i) [ inl q ↦ here q | inr ne ↦ there (in_from (suc i) n (omega arith) (omega arith)) ]

pub from_asc : (i n : ℕ) → Asc (from i n)
unfolding from
from_asc i zero = none
from_asc i (suc n) = some (λ d k. (from_in (suc i) n k).0) (from_asc (suc i) n)

from_suc : (f : ℕ → ℕ) (i n : ℕ) → map f (from (suc i) n) ≡ map (λ j. f (suc j)) (from i n)
unfolding from
from_suc f i zero = refl
from_suc f i (suc n) = rw (from_suc f (suc i) n)

from_get_or : (K : List ℕ) → map (λ i. get_or K i 0) (from 0 (length K)) ≡ K
unfolding from
from_get_or [] = refl
from_get_or (c ∷ K) = rw (from_suc (λ i. get_or (c ∷ K) i 0) 0 (length K), from_get_or K)

get_or_up : {L : List ℕ} → Asc L → (i j : ℕ) → i < j → j < length L → get_or L i 0 < get_or L j 0
get_or_up none i j l m = absurd (not-suc-le-zero m)
get_or_up (some h k) i zero l m = absurd (not-suc-le-zero l)
get_or_up (some {R = R} h k) zero (suc j) l m = h _ (get_or_in R j (omega arith))
get_or_up (some h k) (suc i) (suc j) l m = get_or_up k i j (omega arith) (omega arith)

-- one more
from_more : (i k : ℕ) → from i (suc k) ≡ from i k ++ (i + k) ∷ []
unfolding from
from_more i zero = let e : i + 0 ≡ i = omega arith in rw e
from_more i (suc k) = let e : i + suc k ≡ suc i + k = omega arith in rw (e, ← from_more (suc i) k)

pub ranks_more : (k : ℕ) → ranks (suc k) ≡ ranks k ++ suc k ∷ []
ranks_more k = let e : 1 + k ≡ suc k = omega arith in rw (from_more 1 k, e)

pub ranked_all : (K : List ℕ) → map (ranked K) (ranks (length K)) ≡ K
ranked_all K = rw (from_suc (ranked K) 0 (length K)) (from_get_or K)

-- where e' gives each rank the slot of its key
at_rank : (K : List ℕ) (e e' : ℕ → ℕ) → ((i : ℕ) → i < length K → e (get_or K i 0) ≡ e' (suc i)) → (i : ℕ) → In i (ranks (length K)) → e (ranked K i) ≡ e' i
at_rank K e e' h zero k = absurd (omega (arith, from_in 1 (length K) k))
at_rank K e e' h (suc i) k = h i (omega (arith, from_in 1 (length K) k))

-- The keys of a set are its ranks, renamed, where a' and b' give each rank the slots of its key.
module _ {K : List ℕ} (asc : Asc K) (solid : In 0 K → ⊥) where
  solid_asc : Asc (0 ∷ K)
  solid_asc = some above asc
    where
      above : (d : ℕ) → In d K → 0 < d
      above d i = elim (eq? d 0) [ inl q ↦ absurd (solid (rw q at i)) | inr n ↦ omega arith ]

  pub ranked_renames : {a b a' b' : ℕ → ℕ} → ((i : ℕ) → i < length K → a (get_or K i 0) ≡ a' (suc i))
      → ((i : ℕ) → i < length K → b (get_or K i 0) ≡ b' (suc i)) → Renames (ranked K) a b a' b' (ranks (length K))
  ranked_renames {a} {b} {a'} {b'} e0 e1 = record {
    no_key = refl;
    up = λ c d i j l. get_or_up solid_asc c d l (omega (arith, from_in 1 (length K) j));
    at_0 = at_rank K a a' e0;
    at_1 = at_rank K b b' e1;
  }

-- So the image of K is that of its ranks, with the key put in for each rank.
module _ {a b a' b' : ℕ → ℕ} (K : List ℕ) (g : Renames (ranked K) a b a' b' (ranks (length K))) where
  pub ranked_seated : seated a b K ≡ map (ranked K) (seated a' b' (ranks (length K)))
  ranked_seated = rw (ranked_all K) at (seated_map g)

  pub ranked_stash : stash a b K ≡ map (ranked K) (stash a' b' (ranks (length K)))
  ranked_stash = rw (ranked_all K) at (stash_map g)

  pub ranked_slot_key : (v : ℕ) → slot_key a b K v ≡ ranked K (slot_key a' b' (ranks (length K)) v)
  ranked_slot_key v = rw (ranked_all K) at (slot_key_map g v)

  pub ranked_slot_next : (v : ℕ) → slot_next a b K v ≡ ranked K (slot_next a' b' (ranks (length K)) v)
  ranked_slot_next v = rw (ranked_all K) at (slot_next_map g v)
