-- The laws of what specs/Adding.antt defines.
use Rattle.std.specs.Prelude.{ℕ, zero, suc, ◌<◌, ◌≤◌, ◌≡◌, refl, ◌⊎◌, length, get_or, set}
use Rattle.std.proofs.Common.{sym, ◌∙◌, ap, arith, length-set, get_or-set_same, get_or-set_other}
use Rattle.std.proofs.Math.Logic.{inl, inr}
use mathlib.Core.List.{List, Memᴰ as In}
use borrow.Author.Tests.{eq-eqb, ne_eqb, lt-ltb, le-ltb}
use Rattle.basics.proofs.Tests.{eq?, le?}
use Rattle.basics.specs.Sets.{Sub}
use Rattle.probing.specs.Rule.{after}
use Rattle.probing.specs.Moves.{displace, add}
use Rattle.probing.specs.Way.{PassesOver, at, Ahead}
use Rattle.probing.proofs.Way.{passes_next, passes_set, ahead_all, ahead_lt, ahead_none}
use Rattle.probing.proofs.Way.{ahead_next}
use Rattle.probing.specs.Unique.{Ordered, Contains}
use Rattle.probing.proofs.Unique.{once}
use Rattle.probing.specs.Adding.{Arranged}

-- the steps of `displace`
module _ (m n : ℕ) (ws : List ℕ) (c s : ℕ) where
  pub displace_end : get_or ws s 0 ≡ 0 → displace m (suc n) ws c s ≡ set ws s c
  unfolding displace
  displace_end e = rw (eq-eqb (get_or ws s 0) 0 e)

  pub displace_swap : c < get_or ws s 0 → displace m (suc n) ws c s ≡ displace m n (set ws s c) (get_or ws s 0) (after m s)
  unfolding displace
  displace_swap l = rw (ne_eqb (get_or ws s 0) 0 (λ e. omega arith), lt-ltb c (get_or ws s 0) l)

  pub displace_on : 0 < get_or ws s 0 → get_or ws s 0 ≤ c → displace m (suc n) ws c s ≡ displace m n ws c (after m s)
  unfolding displace
  displace_on k l = rw (ne_eqb (get_or ws s 0) 0 (λ e. omega arith), le-ltb c (get_or ws s 0) l)

-- the words with c, which is carried to slot s, are to hold the keys of T
record Carried (h : ℕ → ℕ) (m : ℕ) (T ws : List ℕ) (c s : ℕ) : Type 0 where
  long : length ws ≡ m
  ordered : Ordered h m ws
  over : PassesOver m ws c (h c) s
  key : 0 < c
  keys : (d : ℕ) → In d T → 0 < d
  absent : (p : ℕ) → get_or ws p 0 ≡ c → ⊥
  all : (d : ℕ) → In d T → (d ≡ c) ⊎ ((p : ℕ) × (get_or ws p 0 ≡ d))
  only : (d p : ℕ) → 0 < d → get_or ws p 0 ≡ d → In d T
  has : In c T

-- what stands after a store
set_stands : (ws : List ℕ) (c q d p : ℕ) → q < length ws → get_or (set ws q c) p 0 ≡ d
    → (d ≡ c) ⊎ ((p ≡ q → ⊥) × (get_or ws p 0 ≡ d))
set_stands ws c q d p l e =
    elim (eq? p q) [
      | inl r ↦ inl (sym e ∙ ap (λ (i : ℕ). get_or (set ws q c) i 0) r ∙ get_or-set_same ws q c 0 l)
      | inr n ↦ inr (n, sym (get_or-set_other ws q p c 0 n) ∙ e)
    ]

module _ {h : ℕ → ℕ} {m : ℕ} where
  -- c takes a slot that is empty or holds a larger key
  set_ordered : {ws : List ℕ} {c q : ℕ} → Ordered h m ws → q < length ws → 0 < c → (0 < get_or ws q 0 → c < get_or ws q 0)
      → PassesOver m ws c (h c) q
      → Ordered h m (set ws q c)
  set_ordered {ws} {c} {q} o l k f v = record {
    over = λ d p a e. elim (eq? p q) [
      | inl r ↦
          let z : d ≡ c = sym e ∙ ap (λ (i : ℕ). get_or (set ws q c) i 0) r ∙ get_or-set_same ws q c 0 l in
          rw (z, r) (passes_set q c l (λ x y. absurd (omega (arith, f x))) v)
      | inr n ↦ passes_set q c l (λ x y. (k, omega (arith, f x))) (o.over d p a (sym (get_or-set_other ws q p c 0 n) ∙ e))
    ];
  }

  module _ {T ws : List ℕ} {c s : ℕ} (k : Carried h m T ws c s) (l : s < m) where
    inside : s < length ws
    inside = omega (arith, k.long)

    set_only : (d p : ℕ) → 0 < d → get_or (set ws s c) p 0 ≡ d → In d T
    set_only d p a e = elim (set_stands ws c s d p inside e) [ inl q ↦ rw q k.has | inr r ↦ k.only d p a r.1 ]

    ends : get_or ws s 0 ≡ 0 → Arranged h m T (set ws s c)
    ends z = record {
      long = rw length-set k.long;
      ordered = set_ordered k.ordered inside k.key (λ a. omega arith) k.over;
      contains = record {
        keys = k.keys;
        all = λ d i. elim (k.all d i) [
          | inl q ↦ (s, get_or-set_same ws s c 0 inside ∙ sym q)
          | inr r ↦ elim (eq? r.0 s) [
            | inl q ↦ absurd (omega (arith, k.keys d i, r.1, ap (λ (i : ℕ). get_or ws i 0) q))
            | inr n ↦ (r.0, get_or-set_other ws s r.0 c 0 n ∙ r.1)
          ]
        ];
        only = set_only;
      };
    }

    swaps : c < get_or ws s 0 → Carried h m T (set ws s c) (get_or ws s 0) (after m s)
    swaps b =
        let d = get_or ws s 0 in
        let here = get_or-set_same ws s c 0 inside in
        let a : 0 < d = omega arith in
        record {
          long = rw length-set k.long;
          ordered = set_ordered k.ordered inside k.key (λ a. b) k.over;
          over =
              passes_next (passes_set s c inside (λ x y. absurd (omega arith)) (k.ordered.over d s a refl)) (rw here k.key) (rw here b);
          key = a;
          keys = k.keys;
          absent =
              λ p e. elim (set_stands ws c s d p inside e) [ inl q ↦ omega arith | inr r ↦ r.0 (once k.ordered a r.1 refl) ];
          all = λ x i. elim (k.all x i) [
            | inl q ↦ inr (s, here ∙ sym q)
            | inr r ↦ elim (eq? r.0 s) [
              | inl q ↦ inl (sym r.1 ∙ ap (λ (i : ℕ). get_or ws i 0) q)
              | inr n ↦ inr (r.0, get_or-set_other ws s r.0 c 0 n ∙ r.1)
            ]
          ];
          only = set_only;
          has = k.only d s a refl;
        }

    steps : 0 < get_or ws s 0 → get_or ws s 0 < c → Carried h m T ws c (after m s)
    steps a b = record {
      long = k.long;
      ordered = k.ordered;
      over = passes_next k.over a b;
      key = k.key;
      keys = k.keys;
      absent = k.absent;
      all = k.all;
      only = k.only;
      has = k.has;
    }

  -- an empty slot lies ahead: the carried key, or another that it displaces, comes to one
  displaced : (n : ℕ) {T ws : List ℕ} {c s : ℕ} (e : ℕ) → Carried h m T ws c s → Ahead m n s e → get_or ws e 0 ≡ 0
      → Arranged h m T (displace m n ws c s)
  displaced zero e k a z = absurd (ahead_none a)
  displaced (suc n) {T} {ws} {c} {s} e k a z =
      let l = ahead_lt a in
      elim (eq? (get_or ws s 0) 0) [
        | inl q ↦ rw (displace_end m n ws c s q) (ends k l q)
        | inr ne ↦
            let n_e : s ≡ e → ⊥ = λ q. ne (ap (λ (i : ℕ). get_or ws i 0) q ∙ z) in
            elim (le? (get_or ws s 0) c) [
              | inl b ↦
                  let b' : get_or ws s 0 < c = let ab = k.absent s in elim (eq? (get_or ws s 0) c) [ inl q ↦ absurd (ab q) | inr nq ↦ omega arith ] in
                  rw (displace_on m n ws c s (omega arith) b) (displaced n e (steps k l (omega arith) b') (ahead_next a n_e) z)
              | inr b ↦
                  rw (displace_swap m n ws c s b)
                  (displaced n e (swaps k l b) (ahead_next a n_e) (get_or-set_other ws s e c 0 (λ q. n_e (sym q)) ∙ z))
            ]
      ]

  -- c is added to words that hold S: now they hold T, which is S with c
  pub added : {S T ws : List ℕ} {c : ℕ} (e : ℕ) → h c < m → Arranged h m S ws → 0 < c → (In c S → ⊥)
      → In c T → Sub S T → ((d : ℕ) → In d T → (d ≡ c) ⊎ In d S)
      → e < m → get_or ws e 0 ≡ 0 → Arranged h m T (add h m ws c)
  unfolding add
  added {S} {T} {ws} {c} e r w key n i sub split l z =
      let k : Carried h m T ws c (h c) = record {
        long = w.long;
        ordered = w.ordered;
        over = at refl;
        key = key;
        keys = λ d j. elim (split d j) [ inl q ↦ rw q key | inr j' ↦ w.contains.keys d j' ];
        absent = λ p q. n (w.contains.only c p key q);
        all = λ d j. elim (split d j) [ inl q ↦ inl q | inr j' ↦ inr (w.contains.all d j') ];
        only = λ d p a q. sub d (w.contains.only d p a q);
        has = i;
      } in
      displaced m e k (ahead_all r l) z
