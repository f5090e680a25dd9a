-- Whether words are the image of some set, decided in one round over the slots: no set is collected, and no other image
-- is made. Assumes nothing.
use Prim.Native.Nat.{ℕ, zero, suc, ◌+◌, ◌<◌, ◌≤◌}
use Rattle.std.specs.Prelude.{◌≡◌, true, ◌&&◌, ◌⊎◌, eqb, length, get_or}
use Rattle.std.proofs.Math.Path.{refl}
use Rattle.std.proofs.Common.{sym, ◌∙◌, ap, arith}
use Rattle.std.proofs.Math.Bool.{or-true}
use Rattle.std.proofs.Math.Logic.{inl, inr}
use mathlib.Core.List.{List, [], ◌∷◌, Memᴰ as In}
use Rattle.std.proofs.Math.Dec.{leb}
use borrow.Author.Tests.{eq-eqb, ne_eqb, eqb-true, le-leb, leb-true}
use Rattle.basics.proofs.Tests.{eq?, and_true}
use Rattle.basics.specs.Sets.{Asc, none}
use Rattle.basics.proofs.Sets.{asc_ext, in?}
use Rattle.ordered.proofs.Place.{with_cases, with_here, with_there, asc_with, with_same, length_with}
use Rattle.probing.specs.Rule.{look, table_keys, table_image}
use Rattle.probing.specs.Moves.{stop, turn_slot, slot_turn, turn_word, wall, right, settled, all_settled}
use Rattle.probing.specs.Way.{PassesOver}
use Rattle.probing.proofs.Way.{looks_stop}
use Rattle.probing.specs.Walls.{Barrier}
use Rattle.probing.proofs.Walls.{slot_turn_lt, turn_of_slot, passes_iff}
use Rattle.probing.specs.Unique.{Contains}
use Rattle.probing.specs.Adding.{Arranged}
use Rattle.probing.specs.Image.{KeySet}
use Rattle.probing.proofs.Image.{image_arranged, arranged_image, arranged_fits, stands_inside}

-- the keys that stand in words
pub table_keys_asc : (ws : List ℕ) → Asc (table_keys ws)
unfolding table_keys
table_keys_asc [] = none
table_keys_asc (w ∷ ws) =
    elim (eq? w 0) [
      | inl e ↦ rw (eq-eqb w 0 e) (table_keys_asc ws)
      | inr n ↦ rw (ne_eqb w 0 n) (asc_with w (table_keys_asc ws))
    ]

table_keys_at : (ws : List ℕ) (c : ℕ) → In c (table_keys ws) → (0 < c) × ((p : ℕ) × (get_or ws p 0 ≡ c))
unfolding table_keys
table_keys_at [] c i = elim i [ ]
table_keys_at (w ∷ ws) c i = go (eq? w 0) (table_keys_at ws c)
  where
    go : (w ≡ 0) ⊎ (w ≡ 0 → ⊥) → (In c (table_keys ws) → (0 < c) × ((p : ℕ) × (get_or ws p 0 ≡ c)))
        → (0 < c) × ((p : ℕ) × (get_or (w ∷ ws) p 0 ≡ c))
    go (inl e) f = let r = f (rw (eq-eqb w 0 e) at i) in (r.0, (suc r.1.0, r.1.1))
    go (inr n) f =
        elim (with_cases w (table_keys ws) (rw (ne_eqb w 0 n) at i)) [
          | inl q ↦ (omega arith, (0, sym q))
          | inr j ↦ let r = f j in (r.0, (suc r.1.0, r.1.1))
        ]

at_table_keys : (ws : List ℕ) (c p : ℕ) → 0 < c → get_or ws p 0 ≡ c → In c (table_keys ws)
unfolding table_keys
at_table_keys [] c p l e = absurd (omega arith)
at_table_keys (w ∷ ws) c zero l e = rw (ne_eqb w 0 (λ z. omega arith), e) (with_here c (table_keys ws))
at_table_keys (w ∷ ws) c (suc p) l e =
    elim (eq? w 0) [
      | inl z ↦ rw (eq-eqb w 0 z) (at_table_keys ws c p l e)
      | inr n ↦ rw (ne_eqb w 0 n) (with_there w (table_keys ws) (at_table_keys ws c p l e))
    ]

pub table_keys_contained : (ws : List ℕ) → Contains ws (table_keys ws)
table_keys_contained ws = record {
  keys = λ c i. (table_keys_at ws c i).0;
  all = λ c i. (table_keys_at ws c i).1;
  only = λ c p l e. at_table_keys ws c p l e;
}

-- on any words a look-up finds a key alone that stands there
pub look_stands : (h : ℕ → ℕ) (m : ℕ) (ws : List ℕ) (c : ℕ) → length ws ≤ m → 0 < c → look h m ws c ≡ true
    → In c (table_keys ws)
unfolding look
look_stands h m ws c l k e =
    at_table_keys ws c (stop m m ws c (h c)) k (eqb-true (get_or ws (stop m m ws c (h c)) 0) c (sym (looks_stop m m ws c (h c) l k) ∙ e))

-- there are no more of them than words
pub table_keys_length : (ws : List ℕ) → length (table_keys ws) ≤ length ws
unfolding table_keys
table_keys_length [] = omega arith
table_keys_length (w ∷ ws) =
    let l = table_keys_length ws in
    elim (eq? w 0) [
      | inl e ↦ rw (eq-eqb w 0 e) (omega arith)
      | inr n ↦ rw (ne_eqb w 0 n) (elim (in? w (table_keys ws)) [
        | inl i ↦ rw (with_same w (table_keys ws) (table_keys_asc ws) i) (omega arith)
        | inr o ↦ omega (arith, length_with w (table_keys ws) (table_keys_asc ws) o)
      ])
    ]

-- an arrangement's set is what stands in it
pub arranged_keys : {h : ℕ → ℕ} {m : ℕ} {S ws : List ℕ} → Asc S → Arranged h m S ws → table_keys ws ≡ S
arranged_keys {S = S} {ws} asc w =
    let k = table_keys_contained ws in
    asc_ext (table_keys ws) S (table_keys_asc ws) asc
    (λ c i. let p = k.all c i in w.contains.only c p.0 (k.keys c i) p.1)
    (λ c i. let p = w.contains.all c i in k.only c p.0 (w.contains.keys c i) p.1)

-- The test, turn by turn, in a round behind a slot that no key passes.
module _ (h : ℕ → ℕ) (m low : ℕ) (ws : List ℕ) (b : ℕ) (inside : b < m) (barrier : Barrier m ws b) (r : (c : ℕ) → h c < m) where
  settled_true : (i : ℕ) → i < m → settled m ws b h low i ≡ true → 0 < turn_word m ws b i
      → (low ≤ turn_word m ws b i) × PassesOver m ws (turn_word m ws b i) (h (turn_word m ws b i)) (turn_slot m b i)
  unfolding settled right
  settled_true i l e k =
      let c = turn_word m ws b i in
      let j = slot_turn m b (h c) in
      let q = and_true (leb low c) (leb (wall m ws b c i) j && leb j i) (rw (ne_eqb c 0 (λ z. omega arith)) at e) in
      let w = and_true (leb (wall m ws b c i) j) (leb j i) q.1 in
      (leb-true low c q.0, (passes_iff m ws b inside barrier c i l refl (h c) (r c)).1 (leb-true _ j w.0, leb-true j i w.1))

  true_settled : (i : ℕ) → i < m
      → (0 < turn_word m ws b i → (low ≤ turn_word m ws b i) × PassesOver m ws (turn_word m ws b i) (h (turn_word m ws b i)) (turn_slot m b i))
      → settled m ws b h low i ≡ true
  unfolding settled right
  true_settled i l f =
      let c = turn_word m ws b i in
      let j = slot_turn m b (h c) in
      elim (eq? c 0) [
        | inl z ↦ rw (eq-eqb c 0 z)
        | inr n ↦
            let o = f (omega arith) in
            let w = (passes_iff m ws b inside barrier c i l refl (h c) (r c)).0 o.1 in
            rw (le-leb low c o.0, le-leb (wall m ws b c i) j w.0, le-leb j i w.1, or-true)
      ]

  all_true : (n s : ℕ) → all_settled m ws b h low n s ≡ true → (i : ℕ) → s ≤ i → i < s + n
      → settled m ws b h low i ≡ true
  unfolding all_settled
  all_true zero s e i g l = absurd (omega arith)
  all_true (suc n) s e i g l =
      let q = and_true (settled m ws b h low s) (all_settled m ws b h low n (suc s)) e in
      elim (eq? i s) [ inl z ↦ rw z q.0 | inr ne ↦ all_true n (suc s) q.1 i (omega arith) (omega arith) ]

  true_all : (n s : ℕ) → s + n ≤ m → ((i : ℕ) → i < m → settled m ws b h low i ≡ true)
      → all_settled m ws b h low n s ≡ true
  unfolding all_settled
  true_all zero s l f = refl
  true_all (suc n) s l f = rw (f s (omega arith), true_all n (suc s) (omega arith) f)

  -- words that pass are an arrangement of what stands in them: each slot has its turn
  canonical_arranged : length ws ≡ m → all_settled m ws b h low m 0 ≡ true
      → KeySet low (table_keys ws) × Arranged h m (table_keys ws) ws
  canonical_arranged long e =
      let k = table_keys_contained ws in
      let t : (c p : ℕ) → 0 < c → get_or ws p 0 ≡ c → (low ≤ c) × PassesOver m ws c (h c) p =
      λ c p l q.
      let i = slot_turn m b p in
      let p_lt : p < m = omega (arith, stands_inside ws c p l q) in
      let i_lt = slot_turn_lt m b inside p p_lt in
      let at_p = turn_of_slot m b inside p p_lt in
      let word : turn_word m ws b i ≡ c = ap (λ (s : ℕ). get_or ws s 0) at_p ∙ q in
      rw (word, at_p) at (settled_true i i_lt (all_true m 0 e i (omega arith) (omega arith)) (rw word l)) in (
        record { asc = table_keys_asc ws; least = λ c i. let p = k.all c i in (t c p.0 (k.keys c i) p.1).0 },
        record { long = long; ordered = record { over = λ c p l q. (t c p l q).1 }; contains = k },
      )

  arranged_canonical : {S : List ℕ} → KeySet low S → Arranged h m S ws → all_settled m ws b h low m 0 ≡ true
  arranged_canonical {S} v w =
      true_all m 0 (omega arith)
      (λ i l. true_settled i l (λ k.
      let c = turn_word m ws b i in
      (v.least c (w.contains.only c (turn_slot m b i) k refl), w.ordered.over c (turn_slot m b i) k refl)))

  -- both ways, with the image
  pub canonical_image : length ws ≡ m → all_settled m ws b h low m 0 ≡ true
      → KeySet low (table_keys ws) × ((length (table_keys ws) ≤ m) × (ws ≡ table_image h m (table_keys ws)))
  canonical_image long e =
      let k = canonical_arranged long e in
      (k.0, (arranged_fits r k.0.asc k.1, arranged_image r k.0.asc k.1))

  pub image_canonical : {S : List ℕ} → 0 < low → KeySet low S → length S ≤ m → ws ≡ table_image h m S
      → all_settled m ws b h low m 0 ≡ true
  image_canonical {S} l v k e =
      let v' : KeySet 1 S = record { asc = v.asc; least = λ c i. omega (arith, v.least c i) } in
      let w : Arranged h m S ws = rw e (image_arranged r v' k) in
      arranged_canonical v w
