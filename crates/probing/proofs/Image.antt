-- The laws of what specs/Image.antt defines.
use Rattle.std.specs.Prelude.{ℕ, zero, suc, ◌+◌, ◌<◌, ◌≤◌, ◌≡◌, refl, ◌⊎◌, eqb, ltb, length, get_or, replicate}
use Rattle.std.proofs.Common.{sym, ◌∙◌, ap}
use Rattle.std.proofs.Math.Logic.{inl, inr}
use mathlib.Core.List.Memᴰ.{head as here}
use mathlib.Core.List.Memᴰ.{tail as there}
use mathlib.Core.List.{List, [], ◌∷◌, Memᴰ as In}
use native.Mathlib.Omega.{arith}
use Rattle.std.proofs.lemmas.List.{length-replicate}
use Rattle.std.proofs.Math.ListN.{get_or-eq_default}
use borrow.Author.Tests.{eq-eqb, ne_eqb, eqb-true, lt-ltb, ltb-true}
use Rattle.basics.proofs.Tests.{eq?, le?, bool_ext}
use Rattle.basics.specs.Sets.{member, Sub, Asc, none, some}
use Rattle.basics.proofs.Sets.{some_or_all, in_member, member_in, top, in_top}
use Rattle.basics.proofs.Lists.{get_or_in, get_or_zeros, pigeonhole, length_upto, in_upto}
use Rattle.basics.specs.Lists.{upto}
use Rattle.ordered.specs.Keys.{with_key}
use Rattle.ordered.proofs.Sorting.{in_at}
use Rattle.ordered.proofs.Place.{with_cases, with_here, with_there, asc_with, length_with}
use Rattle.probing.specs.Rule.{after, place, placed, table_image, look}
use Rattle.probing.specs.Moves.{stop, displace, add}
use Rattle.probing.proofs.Way.{ahead_all, passes_stop, looks_stop}
use Rattle.probing.proofs.Unique.{once, unique}
use Rattle.probing.specs.Adding.{Arranged}
use Rattle.probing.proofs.Adding.{added, displace_end, displace_on}
use Rattle.probing.specs.Image.{KeySet}

-- the n slots from s on, ascending
range : ℕ → ℕ → List ℕ
range s zero = []
range s (suc n) = s ∷ range (suc s) n

range_in : (s n : ℕ) {d : ℕ} → In d (range s n) → (s ≤ d) × (d < s + n)
unfolding range
range_in s (suc n) (here e) = (omega arith, omega arith)
range_in s (suc n) (there i) = let r = range_in (suc s) n i in (omega arith, omega arith)
range_in s zero {d = d} x' = elim x' [ ]

in_range : (s n : ℕ) {d : ℕ} → s ≤ d → d < s + n → In d (range s n)
unfolding range
in_range s zero a b = absurd (omega arith)
in_range s (suc n) {d} a b =
    elim (eq? d s) [ inl e ↦ here e | inr ne ↦ there (in_range (suc s) n (omega arith) (omega arith)) ]

asc_range : (s n : ℕ) → Asc (range s n)
unfolding range
asc_range s zero = none
asc_range s (suc n) = some (λ d i. (range_in (suc s) n i).0) (asc_range (suc s) n)

length_range : (s n : ℕ) → length (range s n) ≡ n
unfolding range
length_range s zero = refl
length_range s (suc n) = ap suc (length_range (suc s) n)

-- a key that is larger than all that stand displaces none
place_displace : (m n : ℕ) (ws : List ℕ) (c s : ℕ) → ((p : ℕ) → get_or ws p 0 < c)
    → place m n ws c s ≡ displace m n ws c s
unfolding place displace
place_displace m zero ws c s f = refl
place_displace m (suc n) ws c s f =
    elim (eq? (get_or ws s 0) 0) [
      | inl e ↦ rw (displace_end m n ws c s e, eq-eqb (get_or ws s 0) 0 e)
      | inr ne ↦
          let l = f s in
          let k : 0 < get_or ws s 0 = omega arith in
          let l' : get_or ws s 0 ≤ c = omega arith in
          rw (displace_on m n ws c s k l', ne_eqb (get_or ws s 0) 0 ne) (place_displace m n ws c (after m s) f)
    ]

-- a key stands inside the words
pub stands_inside : (ws : List ℕ) (c p : ℕ) → 0 < c → get_or ws p 0 ≡ c → p < length ws
stands_inside ws c p l e =
    elim (le? (length ws) p) [ inl k ↦ absurd (omega (arith, get_or-eq_default ws 0 k)) | inr k ↦ k ]

module _ {h : ℕ → ℕ} {m : ℕ} where
  -- fewer keys than slots: one is empty
  pub room : {S ws : List ℕ} → Arranged h m S ws → length S < m → (e : ℕ) × ((e < m) × (get_or ws e 0 ≡ 0))
  room {S} {ws} w l =
      elim (some_or_all {P = λ p. get_or ws p 0 ≡ 0} {Q = λ p. 0 < get_or ws p 0}
      (λ p. elim (eq? (get_or ws p 0) 0) [ inl e ↦ inl e | inr ne ↦ inr (omega arith) ]) (range 0 m)) [
        | inl r ↦ let q = range_in 0 m r.1 in (r.0, (omega arith, r.2))
        | inr f ↦ absurd (omega (
          arith,
          length_range 0 m,
          pigeonhole (λ p. get_or ws p 0) S (asc_range 0 m)
              (λ p i. w.contains.only (get_or ws p 0) p (f p i) refl)
              (λ p q i j e. once w.ordered (f p i) refl (sym e)),
        ))
      ]

  empty_arranged : Arranged h m [] (replicate m 0)
  empty_arranged = record {
    long = length-replicate m 0;
    ordered = record { over = λ c p l e. absurd (omega (arith, get_or_zeros m p)) };
    contains = record {
      keys = λ c i. elim i [ ];
      all = λ c i. elim i [ ];
      only = λ c p l e. absurd (omega (arith, get_or_zeros m p));
    };
  }

  same_keys : {R T ws : List ℕ} → Arranged h m R ws → Sub R T → Sub T R → Arranged h m T ws
  same_keys w s t = record {
    long = w.long;
    ordered = w.ordered;
    contains = record {
      keys = λ c i. w.contains.keys c (t c i);
      all = λ c i. w.contains.all c (t c i);
      only = λ c p l e. s c (w.contains.only c p l e);
    };
  }

  module _ (r : (c : ℕ) → h c < m) where
    -- the next larger key is placed
    place_arranged : {R ws : List ℕ} {c : ℕ} → Arranged h m R ws → 0 < c → ((d : ℕ) → In d R → d < c) → length R < m
        → Arranged h m (c ∷ R) (place m m ws c (h c))
    unfolding add
    place_arranged {R} {ws} {c} w k f l =
        let e = room w l in
        rw (place_displace m m ws c (h c) (λ p. elim (eq? (get_or ws p 0) 0) [
          | inl z ↦ omega arith
          | inr ne ↦ f (get_or ws p 0) (w.contains.only (get_or ws p 0) p (omega arith) refl)
        ]))
        (added e.0 (r c) w k (λ i. omega (arith, f c i)) (here refl) (λ d i. there i)
        (λ d i. elim i [ here q ↦ inl q | there j ↦ inr j ]) e.1.0 e.1.1)

    placed_arranged : (S : List ℕ) {R T ws : List ℕ} → Asc S → Arranged h m R ws → ((d e : ℕ) → In d R → In e S → d < e)
        → ((c : ℕ) → In c S → 0 < c) → length R + length S ≤ m → Sub R T → Sub S T
        → ((d : ℕ) → In d T → In d R ⊎ In d S)
        → Arranged h m T (placed h m S ws)
    unfolding placed
    placed_arranged [] asc w f k l s t u = same_keys w s (λ d i. elim (u d i) [ inl j ↦ j | inr j ↦ elim j [ ] ])
    placed_arranged (c ∷ S) (some g asc) w f k l s t u =
        placed_arranged S asc (place_arranged w (k c (here refl)) (λ d i. f d c i (here refl)) (omega arith))
        (λ d e i j. elim i [ here q ↦ rw q (g e j) | there i' ↦ f d e i' (there j) ])
        (λ d i. k d (there i))
        (omega arith)
        (λ d i. elim i [ here q ↦ t d (here q) | there j ↦ s d j ])
        (λ d i. t d (there i))
        (λ d i. elim (u d i) [ inl j ↦ inl (there j) | inr j ↦ elim j [ here q ↦ inl (here q) | there j' ↦ inr j' ] ])

    -- The image is an arrangement of the set,
    pub image_arranged : {S : List ℕ} → KeySet 1 S → length S ≤ m → Arranged h m S (table_image h m S)
    unfolding table_image
    image_arranged {S} v l =
        placed_arranged S v.asc empty_arranged (λ d e i j. elim i [ ]) v.least (omega arith) (λ d i. elim i [ ]) (λ d i. i) (λ d i. inr i)

    -- in which look-up finds the keys of the set alone,
    pub stop_at : {S ws : List ℕ} {c : ℕ} → Arranged h m S ws → In c S → get_or ws (stop m m ws c (h c)) 0 ≡ c
    stop_at {S} {ws} {c} w i =
        let k = w.contains.keys c i in
        let p = w.contains.all c i in
        let l = stands_inside ws c p.0 k p.1 in
        rw (passes_stop m (w.ordered.over c p.0 k p.1) (ahead_all (r c) (omega (arith, w.long))) (λ a. omega (arith, p.1))) p.1

    pub look_arranged : {S ws : List ℕ} {c : ℕ} → Arranged h m S ws → 0 < c → look h m ws c ≡ member c S
    unfolding look
    look_arranged {S} {ws} {c} w l =
        looks_stop m m ws c (h c) (omega (arith, w.long)) l
        ∙ bool_ext (eqb (get_or ws (stop m m ws c (h c)) 0) c) (member c S)
        (λ e. in_member (w.contains.only c (stop m m ws c (h c)) l (eqb-true _ c e)))
        (λ e. eq-eqb (get_or ws (stop m m ws c (h c)) 0) c (stop_at w (member_in c S e)))

    -- which has no more keys than slots,
    pub arranged_fits : {S ws : List ℕ} → Asc S → Arranged h m S ws → length S ≤ m
    arranged_fits {S} {ws} asc w =
        omega (
          arith,
          length_upto m,
          pigeonhole (λ c. stop m m ws c (h c)) (upto m) asc
              (λ c i. in_upto m (rw w.long at (stands_inside ws c (stop m m ws c (h c)) (w.contains.keys c i) (stop_at w i))))
              (λ c d i j e. sym (stop_at w i) ∙ ap (λ (p : ℕ). get_or ws p 0) e ∙ stop_at w j),
        )

    -- and there is no other.
    pub arranged_image : {S ws : List ℕ} → Asc S → Arranged h m S ws → ws ≡ table_image h m S
    arranged_image {S} {ws} asc w =
        let v = image_arranged (record { asc = asc; least = w.contains.keys }) (arranged_fits asc w) in
        unique w.ordered v.ordered w.contains v.contains (w.long ∙ sym v.long)

    -- Adding
    pub add_arranged : {S ws : List ℕ} {c : ℕ} (e : ℕ) → Arranged h m S ws → 0 < c → (In c S → ⊥) → e < m
        → get_or ws e 0 ≡ 0
        → Arranged h m (with_key c S) (add h m ws c)
    add_arranged {S} {ws} {c} e w k n l z =
        added e (r c) w k n (with_here c S) (λ d i. with_there c S i) (λ d i. with_cases c S i) l z

    -- there is an empty slot exactly where there are fewer keys than slots: with one, a key larger than all could be
    -- added
    pub has_room : {S ws : List ℕ} (e : ℕ) → Asc S → Arranged h m S ws → e < m → get_or ws e 0 ≡ 0 → length S < m
    has_room {S} {ws} e asc w l z =
        let n : In (suc (top S)) S → ⊥ = λ i. omega (arith, in_top i) in
        omega (arith, length_with (suc (top S)) S asc n, arranged_fits (asc_with (suc (top S)) asc) (add_arranged e w (omega arith) n l z))

    -- so "all pockets filled" is that there are as many keys as slots
    pub empty_room : {S ws : List ℕ} → Asc S → Arranged h m S ws → member 0 ws ≡ ltb (length S) m
    empty_room {S} {ws} asc w =
        bool_ext (member 0 ws) (ltb (length S) m)
        (λ e. let i =
        in_at (member_in 0 ws e) in lt-ltb (length S) m (has_room i.0 asc w (omega (arith, w.long, i.1)) i.2))
        (λ e. let i = room w (ltb-true (length S) m e) in
        let at : In (get_or ws i.0 0) ws = get_or_in ws i.0 (omega (arith, w.long, i.1.0)) in
        in_member (rw i.1.1 at at))

    pub add_image : {S : List ℕ} {c : ℕ} → KeySet 1 S → 0 < c → (In c S → ⊥) → length S < m
        → add h m (table_image h m S) c ≡ table_image h m (with_key c S)
    add_image {S} {c} v k n l =
        let w = image_arranged v (omega arith) in
        let e = room w l in
        arranged_image (asc_with c v.asc) (add_arranged e.0 w k n e.1.0 e.1.1)
