-- The laws of what specs/Entries.antt defines.
use Rattle.std.specs.Prelude.{ℕ, zero, suc, ◌≡◌, refl, cond, eqb, length, replicate}
use Rattle.std.proofs.Common.{sym, ap, inl, inr, arith, eq-eqb, ne_eqb}
use mathlib.Core.List.Memᴰ.{head as here}
use mathlib.Core.List.Memᴰ.{tail as there}
use mathlib.Core.List.{List, [], ◌∷◌, ◌++◌, Memᴰ as In}
use Rattle.basics.proofs.Tests.{eq?}
use Rattle.basics.specs.Sets.{Asc, some}
use Rattle.layout.specs.Entries.{Entry, keys_of, tier_of, tiered, no_entry}

-- The laws.

pub keys_tiered : (t : ℕ → ℕ) (S : List ℕ) → keys_of (tiered t S) ≡ S
keys_tiered t [] = refl
keys_tiered t (c ∷ S) = rw (keys_tiered t S)

pub length_keys : (L : List Entry) → length (keys_of L) ≡ length L
length_keys [] = refl
length_keys (e ∷ L) = rw (length_keys L)

-- only the tiers of the keys matter
pub tiered_agree : {t u : ℕ → ℕ} (S : List ℕ) → ((c : ℕ) → In c S → t c ≡ u c) → tiered t S ≡ tiered u S
tiered_agree [] h = refl
tiered_agree (c ∷ S) h = rw (h c (here refl), tiered_agree S (λ d i. h d (there i)))

-- a key of the list has the tier that t gives,
pub tier_tiered : (t : ℕ → ℕ) (S : List ℕ) {c : ℕ} → In c S → tier_of (tiered t S) c ≡ t c
tier_tiered t (d ∷ S) {c} i = elim (eq? c d) [
  | inl e ↦ rw (eq-eqb c d e) (ap t (sym e))
  | inr n ↦ elim i [ here q ↦ absurd (n q) | there j ↦ rw (ne_eqb c d n) (tier_tiered t S j) ]
]
tier_tiered t [] {c = c} i = elim i [ ]

-- another none
pub tier_absent : (L : List Entry) {c : ℕ} → (In c (keys_of L) → ⊥) → tier_of L c ≡ 0
tier_absent [] n = refl
tier_absent (e ∷ L) {c} n = rw (ne_eqb c e.key (λ q. n (here q))) (tier_absent L (λ i. n (there i)))

-- where all entries with a key have one tier, that is its tier
pub tier_all : (L : List Entry) {c t : ℕ} → In c (keys_of L) → ((e : Entry) → In e L → e.key ≡ c → e.tier ≡ t) → tier_of L c ≡ t
tier_all (e ∷ L) {c} i h = elim (eq? c e.key) [
  | inl q ↦ rw (eq-eqb c e.key q) (h e (here refl) (sym q))
  | inr n ↦ elim i [ here q ↦ absurd (n q) | there j ↦ rw (ne_eqb c e.key n) (tier_all L j (λ f k. h f (there k))) ]
]
tier_all [] {c = c} {t = t} i h = elim i [ ]

-- the key of an entry is one of the keys
pub key_in : (L : List Entry) {e : Entry} → In e L → In e.key (keys_of L)
key_in (f ∷ L) (here q) = here (ap (λ (x : Entry). x.key) q)
key_in (f ∷ L) (there i) = there (key_in L i)
key_in [] {e = e} x' = elim x' [ ]

-- and comes from an entry
pub in_key : (L : List Entry) {c : ℕ} → In c (keys_of L) → (e : Entry) × In e L × (e.key ≡ c)
in_key (e ∷ L) (here q) = (e, here refl, sym q)
in_key (e ∷ L) (there i) = let r = in_key L i in (r.0, there r.1, r.2)
in_key [] {c = c} x' = elim x' [ ]

-- a list whose keys ascend is its keys with their tiers
pub tiered_self : (L : List Entry) → Asc (keys_of L) → tiered (tier_of L) (keys_of L) ≡ L
tiered_self [] a = refl
tiered_self (e ∷ L) (some h a) =
    let rest : tiered (tier_of (e ∷ L)) (keys_of L) ≡ tiered (tier_of L) (keys_of L) =
    tiered_agree (keys_of L) (λ c i. rw (ne_eqb c e.key (λ q. omega (arith, h c i)))) in
    rw (eq-eqb e.key e.key refl, rest, tiered_self L a)

-- an entry of keys with tiers has the tier of its key
pub tiered_in : (t : ℕ → ℕ) (S : List ℕ) {e : Entry} → In e (tiered t S) → e.tier ≡ t e.key
tiered_in t (c ∷ S) (here q) = rw q
tiered_in t (c ∷ S) (there i) = tiered_in t S i
tiered_in t [] {e = e} x' = elim x' [ ]

pub in_tiered : (t : ℕ → ℕ) (S : List ℕ) {c : ℕ} → In c S → In (record { key = c; tier = t c }) (tiered t S)
in_tiered t (d ∷ S) (here q) = here (ap (λ (x : ℕ). record { key = x; tier = t x }) q)
in_tiered t (d ∷ S) (there i) = there (in_tiered t S i)
in_tiered t [] {c = c} x' = elim x' [ ]

pub keys_none : (n : ℕ) → keys_of (replicate n no_entry) ≡ replicate n 0
keys_none zero = refl
keys_none (suc n) = ap (λ (R : List ℕ). 0 ∷ R) (keys_none n)

pub none_in : (n : ℕ) {e : Entry} → In e (replicate n no_entry) → e ≡ no_entry
none_in (suc n) (here q) = q
none_in (suc n) (there i) = none_in n i
none_in zero {e = e} x' = elim x' [ ]

pub keys_append : (L M : List Entry) → keys_of (L ++ M) ≡ keys_of L ++ keys_of M
keys_append [] M = refl
keys_append (e ∷ L) M = ap (λ (R : List ℕ). e.key ∷ R) (keys_append L M)
