-- The laws of what specs/Shift.antt defines.
use Prim.Native.Nat.{ℕ, suc, ◌+◌, ◌-◌, ◌≤◌, ◌<◌}
use Rattle.std.specs.Prelude.{◌≡◌, get_or, set}
use Rattle.std.proofs.Common.{sym, ◌∙◌, take-append-drop, length-drop, length-append, length-take-le}
use Rattle.std.proofs.Math.Path.{ap}
use mathlib.Core.List.{List, ◌∷◌, ◌++◌, append_assoc}
use Rattle.std.proofs.Math.Numerals.{add-one}
use native.Mathlib.Omega.{arith}
use Rattle.std.proofs.Math.ListN.{length, take, drop, length-take}
use Rattle.std.proofs.Math.Seq.{slice-cons, slice_empty, take-suc-set, take-set-lt, drop-set-lt, set_split, take_at, drop_at, take-take, take-append-add, drop-append-add}
use Rattle.ordered.specs.Shift.{shifted_in, shifted_out}

-- The laws, first of the loops.
module _ (s : List ℕ) (i n : ℕ) where
  pub shifted_in_step : (key : ℕ) → i < n → n < length s → shifted_in s i n key ≡ shifted_in (set s i key) (i + 1) n (get_or s i 0)
  unfolding shifted_in
  shifted_in_step key h l =
      let a : i < length s = omega arith in
      let b : n ≤ length s = omega arith in
      let d : i < suc i = omega arith in
      let e : i < suc n = omega arith in
      simp (add-one, slice-cons i n s 0, take-suc-set, take-set-lt, drop-set-lt, append_assoc)

  pub shifted_in_last : (key : ℕ) → i ≡ n → n < length s → shifted_in s i n key ≡ set s n key
  unfolding shifted_in
  shifted_in_last key e h = rw e (simp (slice_empty, add-one, set_split s n key h))

  pub shifted_out_step : i + 1 < n → n ≤ length s → shifted_out s i n ≡ shifted_out (set s i (get_or s (i + 1) 0)) (i + 1) n
  unfolding shifted_out
  shifted_out_step h l =
      let a : i < length s = omega arith in
      let b : suc i < n = omega arith in
      let d : i < suc (suc i) = omega arith in
      let e : i < n - 1 = omega arith in
      let f : i < n = omega arith in
      simp (add-one, slice-cons (suc i) n s 0, take-suc-set, take-set-lt, drop-set-lt, append_assoc)

  pub shifted_out_last : i + 1 ≡ n → shifted_out s i n ≡ s
  unfolding shifted_out
  shifted_out_last e = let f : n - 1 ≡ i = omega arith in rw (e, f, slice_empty) (take-append-drop i s)

-- What it is of the first n words, of keys or of a column beside them: the words before i, the new word, the others; and all but the word at i. The
-- words behind stay.
module _ (s : List ℕ) (i n : ℕ) where
  pub shifted_in_column :
      (word : ℕ) → i ≤ n → n < length s
      → (take (n + 1) (shifted_in s i n word) ≡ take i (take n s) ++ (word ∷ drop i (take n s)))
      × (drop (n + 1) (shifted_in s i n word) ≡ drop (n + 1) s)
  unfolding shifted_in
  shifted_in_column word h l =
      let front = take i (take n s) ++ (word ∷ drop i (take n s)) in
      let whole : shifted_in s i n word ≡ front ++ drop (n + 1) s = rw (← take-take i n s) (sym (append_assoc (take i (take n s)) (word ∷ drop i (take n s)) (drop (n + 1) s))) in
      let long : length front ≡ n + 1 = simp (length-append, length-take, length-drop) (omega arith) in
      (ap (take (n + 1)) whole ∙ take_at front (drop (n + 1) s) (n + 1) long, ap (drop (n + 1)) whole ∙ drop_at front (drop (n + 1) s) (n + 1) long)

  pub shifted_out_column :
      i < n → n ≤ length s
      → (take (n - 1) (shifted_out s i n) ≡ take i (take n s) ++ drop (i + 1) (take n s))
      × (drop (n - 1) (shifted_out s i n) ≡ drop (n - 1) s)
  unfolding shifted_out
  shifted_out_column h l =
      let front = take i (take n s) ++ drop (i + 1) (take n s) in
      let below : i ≤ n = omega arith in
      let whole : shifted_out s i n ≡ front ++ drop (n - 1) s = rw (← take-take i n s) (sym (append_assoc (take i (take n s)) (drop (i + 1) (take n s)) (drop (n - 1) s))) in
      let long : length front ≡ n - 1 = simp (length-append, length-take, length-drop) (omega arith) in
      (ap (take (n - 1)) whole ∙ take_at front (drop (n - 1) s) (n - 1) long, ap (drop (n - 1)) whole ∙ drop_at front (drop (n - 1) s) (n - 1) long)

-- The words are as many as before,
pub shifted_in_length : (s : List ℕ) (i n word : ℕ) → i ≤ n → n < length s → length (shifted_in s i n word) ≡ length s
unfolding shifted_in
shifted_in_length s i n word l m = simp (length-append, length-take, length-drop) (omega arith)

pub shifted_out_length : (s : List ℕ) (i n : ℕ) → i < n → n ≤ length s → length (shifted_out s i n) ≡ length s
unfolding shifted_out
shifted_out_length s i n l m = simp (length-append, length-take, length-drop) (omega arith)

-- and in a column that begins at m those before it stay.
module _ (s : List ℕ) (m i n : ℕ) (fit : m ≤ length s) where
  front_long : length (take m s) ≡ m
  front_long = length-take-le m s fit

  abbrev A : List ℕ
  A = take m s

  abbrev B : List ℕ
  B = drop m s

  parted : s ≡ A ++ B
  parted = sym (take-append-drop m s)

  pub shifted_in_behind : (word : ℕ) → shifted_in s (m + i) (m + n) word ≡ A ++ shifted_in B i n word
  unfolding shifted_in
  shifted_in_behind word =
      let e : m + n + 1 ≡ length A + (n + 1) = omega (arith, front_long) in
      let f : m + i ≡ length A + i = omega (arith, front_long) in
      let g : m + n ≡ length A + n = omega (arith, front_long) in
      ap (λ (x : List ℕ). take (m + i) x ++ (word ∷ (drop (m + i) (take (m + n) x) ++ drop (m + n + 1) x))) parted
      ∙ (rw (e, f, g, take-append-add A B i, take-append-add A B n, drop-append-add A (take n B) i, drop-append-add A B (n + 1))
      (append_assoc A (take i B) (word ∷ (drop i (take n B) ++ drop (n + 1) B))))

  pub shifted_out_behind : 1 ≤ n → shifted_out s (m + i) (m + n) ≡ A ++ shifted_out B i n
  unfolding shifted_out
  shifted_out_behind some =
      let e : m + n - 1 ≡ length A + (n - 1) = omega (arith, front_long) in
      let h : m + i + 1 ≡ length A + (i + 1) = omega (arith, front_long) in
      let f : m + i ≡ length A + i = omega (arith, front_long) in
      let g : m + n ≡ length A + n = omega (arith, front_long) in
      ap (λ (x : List ℕ). take (m + i) x ++ (drop (m + i + 1) (take (m + n) x) ++ drop (m + n - 1) x)) parted
      ∙ (rw (e, h, f, g, take-append-add A B i, take-append-add A B n, drop-append-add A (take n B) (i + 1), drop-append-add A B (n - 1))
      (append_assoc A (take i B) (drop (i + 1) (take n B) ++ drop (n - 1) B)))
