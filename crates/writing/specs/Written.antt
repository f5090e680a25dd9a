-- A text written into a lent buffer at a position: where the next one goes, what stands before it, and that the rest of the buffer stays.
-- Texts written one after the other are their concatenation. Assumes nothing.
use Prim.Native.Nat.{ℕ, suc, ◌+◌, ◌-◌, ◌%◌, ◌/◌, ◌≤◌, ◌<◌}
use Rattle.std.specs.Prelude.{◌≡◌, refl, set}
use Rattle.std.proofs.Math.Path.{sym, ap}
use Rattle.std.proofs.Common.{◌∙◌, add-one, length-set, drop-drop, take_at, drop_at, take-suc-set, drop-set-lt, drop-cons, length-take-le, get_or-set_same}
use mathlib.Core.List.{List, [], ◌∷◌, ◌++◌, append_assoc}
use native.Mathlib.Omega.{arith}
use Rattle.std.proofs.Math.ListN.{length, take, drop, length-append}
use Rattle.std.proofs.lemmas.List.{take-set-le, set_split}
use Rattle.std.proofs.Math.Seq.{append_snoc}
use Rattle.grammar.specs.Decimal.{digit, decimal}
use Rattle.grammar.proofs.Decimal.{decimal_small, decimal_large}

pub record Written (text before : List ℕ) (at : ℕ) (after : List ℕ) (next : ℕ) : Type 0 where
  pub moved : next ≡ at + length text
  pub front : take next after ≡ take at before ++ text
  pub rest : drop next after ≡ drop next before

-- one text after the other
infixr 20 ◌then◌
pub ◌then◌ : {s t : List ℕ} {a b c : ℕ} {x y z : List ℕ} → Written s x a y b → Written t y b z c → Written (s ++ t) x a z c
◌then◌ {s} {t} {a} {b} {c} {x} {y} {z} v w =
    let e : c ≡ b + length t = w.moved in
    record {
      moved = rw length-append (omega (arith, v.moved, w.moved));
      front = w.front ∙ ap (λ (p : List ℕ). p ++ t) v.front ∙ append_assoc (take a x) s t;
      rest = w.rest ∙ rw e (sym (drop-drop (length t) b y) ∙ ap (drop (length t)) v.rest ∙ drop-drop (length t) b x);
    }

-- one byte
pub written_byte : (s : List ℕ) (at b : ℕ) → at < length s → Written (b ∷ []) s at (set s at b) (at + 1)
written_byte s at b h = record {
  moved = refl;
  front = rw (add-one, take-suc-set);
  rest = rw add-one (drop-set-lt (suc at) s at b (omega arith));
}

-- a text put between what stands before it and what stands behind it
pub written_between : (s text : List ℕ) (at : ℕ) → at + length text ≤ length s
    → Written text s at (take at s ++ (text ++ drop (at + length text) s)) (at + length text)
written_between s text at h =
    let l : length (take at s) ≡ at = length-take-le at s (omega arith) in
    let k : length (take at s ++ text) ≡ at + length text = rw (length-append, l) in
    record {
      moved = refl;
      front = rw (← append_assoc) (take_at (take at s ++ text) (drop (at + length text) s) (at + length text) k);
      rest = rw (← append_assoc) (drop_at (take at s ++ text) (drop (at + length text) s) (at + length text) k);
    }

-- ---- the loop of `put_number`, which goes from the last digit to the first
-- the digits of n are still to come before index i
unfoldable pub to_come : List ℕ → ℕ → ℕ → ℕ → List ℕ
to_come s at i n = take at s ++ (decimal n ++ drop i s)

drop_set : (s : List ℕ) (j b : ℕ) → j < length s → drop j (set s j b) ≡ b ∷ drop (suc j) s
drop_set s j b h =
    let k : j < length (set s j b) = rw length-set h in
    let l : j < suc j = omega arith in
    rw (drop-cons (set s j b) j 0, get_or-set_same, drop-set-lt)

module _ (s : List ℕ) (at i n : ℕ) (e : i ≡ at + length (decimal n)) (h : i ≤ length s) where
  pub to_come_step : 10 ≤ n
      → (to_come s at i n ≡ to_come (set s (i - 1) (digit (n % 10))) at (i - 1) (n / 10))
      × (i - 1 ≡ at + length (decimal (n / 10)))
  unfolding to_come
  to_come_step l =
      let d = decimal_large n l in
      let b = digit (n % 10) in
      let v = ap length d ∙ length-append (decimal (n / 10)) (b ∷ []) in
      let f : i - 1 ≡ at + length (decimal (n / 10)) = omega arith in
      let g : i ≡ suc (i - 1) = omega arith in
      let k : at ≤ i - 1 = omega arith in
      let m : i - 1 < length s = omega arith in
      let left = ap (λ (t : List ℕ). t ++ drop i s) d ∙ append_snoc (decimal (n / 10)) b (drop i s) in
      let here = ap (λ (j : ℕ). decimal (n / 10) ++ (b ∷ drop j s)) g in
      (ap (λ (t : List ℕ). take at s ++ t) (left ∙ here) ∙ sym (rw (take-set-le at s (i - 1) b k, drop_set s (i - 1) b m)), f)

  pub to_come_last : n < 10 → to_come s at i n ≡ set s (i - 1) (digit n)
  unfolding to_come
  to_come_last l =
      let d = decimal_small n l in
      let f : i ≡ suc at = omega (arith, ap length d) in
      let g : i - 1 ≡ at = omega arith in
      let m : at < length s = omega arith in
      rw (d, g, f) (sym (set_split s at (digit n) m))

-- when none is left to come, the number is written
pub written_come : (s : List ℕ) (at n end : ℕ) {after : List ℕ} → to_come s at end n ≡ after → end ≡ at + length (decimal n)
    → at + length (decimal n) ≤ length s → Written (decimal n) s at after end
unfolding to_come
written_come s at n end e f h = rw (← e, f) (written_between s (decimal n) at h)
