-- A column of records that stand one after the other: some words from `from` on, each `step` after the one before.
-- What comparing with a column, and writing one, come to. Assumes nothing.
use Rattle.std.specs.Prelude.{ℕ, zero, suc, ◌+◌, ◌*◌, ◌-◌, ◌<◌, ◌≡◌, refl, List, [], ◌∷◌, length, get_or, set}
use Rattle.std.proofs.Common.{◌∙◌, ap, mul-zero, mul-suc, arith, length-set, get_or-set_same, get_or-set_other}
use Rattle.std.proofs.lemmas.List.{set_comm}

-- `count` words from `from` on, each `step` after the one before
unfoldable pub picked : List ℕ → ℕ → ℕ → ℕ → List ℕ
picked ws from step zero = []
picked ws from step (suc count) = get_or ws from 0 ∷ picked ws (from + step) step count

-- the words with a column written from `from` on
unfoldable pub column_put : List ℕ → ℕ → ℕ → List ℕ → List ℕ
column_put ws from step [] = ws
column_put ws from step (x ∷ xs) = column_put (set ws from x) (from + step) step xs

-- the words that are left, and those after the next one
pub left_next : (step left : ℕ) → 0 < left → step * left ≡ step + step * (left - 1)
left_next step left l =
    let e : left ≡ suc (left - 1) = omega arith in omega (arith, ap (λ (n : ℕ). step * n) e, mul-suc step (left - 1))

pub picked_length : (ws : List ℕ) (from step n : ℕ) → length (picked ws from step n) ≡ n
unfolding picked
picked_length ws from step zero = refl
picked_length ws from step (suc n) = ap suc (picked_length ws (from + step) step n)

pub picked_at : (ws : List ℕ) (from step n i : ℕ) → i < n → get_or (picked ws from step n) i 0 ≡ get_or ws (from + step * i) 0
unfolding picked
picked_at ws from step zero i l = absurd (omega arith)
picked_at ws from step (suc n) zero l = let e : from + step * 0 ≡ from = omega (arith, mul-zero step) in rw e
picked_at ws from step (suc n) (suc i) l =
    let e : from + step * suc i ≡ from + step + step * i = omega (arith, mul-suc step i) in
    rw e (picked_at ws (from + step) step n i (omega arith))

-- what is written: the words of the column,
pub put_length : (ws : List ℕ) (from step : ℕ) (xs : List ℕ) → length (column_put ws from step xs) ≡ length ws
unfolding column_put
put_length ws from step [] = refl
put_length ws from step (x ∷ xs) = put_length (set ws from x) (from + step) step xs ∙ length-set ws from x

-- and no others
pub put_off : (ws : List ℕ) (from step : ℕ) (xs : List ℕ) (k : ℕ) → ((i : ℕ) → i < length xs → k ≡ from + step * i → ⊥)
    → get_or (column_put ws from step xs) k 0 ≡ get_or ws k 0
unfolding column_put
put_off ws from step [] k n = refl
put_off ws from step (x ∷ xs) k n =
    put_off (set ws from x) (from + step) step xs k (λ i l q. n (suc i) (omega arith) (omega (arith, mul-suc step i)))
    ∙ get_or-set_other ws from k x 0 (λ q. n zero (omega arith) (omega (arith, mul-zero step)))

pub put_at : (ws : List ℕ) (from step : ℕ) (xs : List ℕ) (i : ℕ) → 0 < step → i < length xs → from + step * i < length ws
    → get_or (column_put ws from step xs) (from + step * i) 0 ≡ get_or xs i 0
unfolding column_put
put_at ws from step [] i p l m = absurd (omega arith)
put_at ws from step (x ∷ xs) zero p l m =
    let z : from + step * 0 ≡ from = omega (arith, mul-zero step) in
    rw z (put_off (set ws from x) (from + step) step xs from (λ i k q. omega arith) ∙ get_or-set_same ws from x 0 (omega (arith, mul-zero step)))
put_at ws from step (x ∷ xs) (suc i) p l m =
    let e : from + step * suc i ≡ from + step + step * i = omega (arith, mul-suc step i) in
    rw e (put_at (set ws from x) (from + step) step xs i p (omega arith) (omega (arith, length-set ws from x, mul-suc step i)))

-- a word before the column may be written before it or after it
pub put_set : (ws : List ℕ) (from step : ℕ) (xs : List ℕ) (k x : ℕ) → k < from → column_put (set ws k x) from step xs ≡ set (column_put ws from step xs) k x
unfolding column_put
put_set ws from step [] k x l = refl
put_set ws from step (y ∷ ys) k x l = rw (set_comm ws k from x y (λ q. omega arith)) (put_set (set ws from y) (from + step) step ys k x (omega arith))
