-- The laws of what specs/Bytes.antt defines.
use Rattle.std.specs.Prelude.{ℕ, zero, suc, ◌+◌, ◌*◌, ◌/◌, ◌%◌, ◌≤◌, ◌<◌, ◌≡◌, refl, List, [], ◌∷◌, length, get_or, set, take}
use Rattle.std.proofs.Common.{sym, ◌∙◌, add-one, arith, length-set, take-suc, take-suc-set, take_all}
use Rattle.book.specs.Bytes.{bytes_of, entries_of}

-- what was written is read
pub there_and_back : (es : List ℕ) → entries_of (bytes_of es) ≡ es
unfolding bytes_of entries_of
there_and_back [] = refl
there_and_back (e ∷ es) =
    let d : get_or (entries_of (bytes_of (e ∷ es))) 0 0 ≡ e = omega arith in
    rw (d, there_and_back es)

-- how many, and which

bytes_length : (es : List ℕ) → length (bytes_of es) ≡ 2 * length es
unfolding bytes_of
bytes_length [] = refl
bytes_length (e ∷ es) = omega (arith, bytes_length es)

bytes_at : (es : List ℕ) (v : ℕ) → v < length es
    → (get_or (bytes_of es) (2 * v) 0 ≡ get_or es v 0 % 256) × (get_or (bytes_of es) (2 * v + 1) 0 ≡ get_or es v 0 / 256)
unfolding bytes_of
bytes_at [] v l = absurd (omega arith)
bytes_at (e ∷ es) zero l = (refl, refl)
bytes_at (e ∷ es) (suc v) l =
    let p : 2 * suc v ≡ suc (suc (2 * v)) = omega arith in
    let q : suc (suc (2 * v)) + 1 ≡ suc (suc (2 * v + 1)) = omega arith in
    rw (p, q) (bytes_at es v (omega arith))

entries_length : (n : ℕ) (bs : List ℕ) → length bs ≡ 2 * n → length (entries_of bs) ≡ n
unfolding entries_of
entries_length zero [] e = refl
entries_length (suc n) [] e = absurd (omega arith)
entries_length n (l ∷ []) e = absurd (omega arith)
entries_length zero (l ∷ h ∷ bs) e = absurd (omega arith)
entries_length (suc n) (l ∷ h ∷ bs) e = omega (arith, entries_length n bs (omega arith))

entries_at : (bs : List ℕ) (v : ℕ) → 2 * v + 1 < length bs → get_or (entries_of bs) v 0 ≡ 256 * get_or bs (2 * v + 1) 0 + get_or bs (2 * v) 0
unfolding entries_of
entries_at [] v l = absurd (omega arith)
entries_at (b ∷ []) v l = absurd (omega arith)
entries_at (b ∷ h ∷ bs) zero l = refl
entries_at (b ∷ h ∷ bs) (suc v) l =
    let p : 2 * suc v ≡ suc (suc (2 * v)) = omega arith in
    let q : suc (suc (2 * v)) + 1 ≡ suc (suc (2 * v + 1)) = omega arith in
    rw (p, q) (entries_at bs v (omega arith))

-- writing, element by element: xs agrees with ys in its first j elements
more : (xs ys : List ℕ) (j x : ℕ) → j < length xs → j < length ys → x ≡ get_or ys j 0 → take j xs ≡ take j ys
    → take (suc j) (set xs j x) ≡ take (suc j) ys
more xs ys j x h l e f = rw (take-suc-set xs j x h, take-suc ys j 0 l, e, f)

all : (xs ys : List ℕ) (j : ℕ) → length xs ≤ j → length ys ≤ j → take j xs ≡ take j ys → xs ≡ ys
all xs ys j h l f = sym (take_all j xs h) ∙ f ∙ take_all j ys l

module _ (es bytes : List ℕ) (i : ℕ) (e : length bytes ≡ 2 * length es) (f : take (2 * i) bytes ≡ take (2 * i) (bytes_of es)) where
  pub encode_step : i < length es
      → take (2 * (i + 1)) (set (set bytes (2 * i) (get_or es i 0 % 256)) (2 * i + 1) (get_or es i 0 / 256)) ≡ take (2 * (i + 1)) (bytes_of es)
  encode_step l =
      let n = bytes_length es in
      let at = bytes_at es i l in
      let p : 2 * (i + 1) ≡ suc (2 * i + 1) = omega arith in
      let q : 2 * i + 1 ≡ suc (2 * i) = omega arith in
      let first = set bytes (2 * i) (get_or es i 0 % 256) in
      let one : take (2 * i + 1) first ≡ take (2 * i + 1) (bytes_of es) =
      rw q (more bytes (bytes_of es) (2 * i) (get_or es i 0 % 256) (omega arith) (omega arith) (sym at.0) f)
      in
      let k : length first ≡ length bytes = length-set bytes (2 * i) _ in
      rw p (more first (bytes_of es) (2 * i + 1) (get_or es i 0 / 256) (omega arith) (omega arith) (sym at.1) one)

  pub encode_end : length es ≤ i → bytes ≡ bytes_of es
  encode_end l = all bytes (bytes_of es) (2 * i) (omega arith) (omega (arith, bytes_length es)) f

module _ (bytes es : List ℕ) (i : ℕ) (e : length bytes ≡ 2 * length es) (f : take i es ≡ take i (entries_of bytes)) where
  pub decode_step : i < length es → {entry : ℕ} → entry ≡ 256 * get_or bytes (2 * i + 1) 0 + get_or bytes (2 * i) 0
      → take (i + 1) (set es i entry) ≡ take (i + 1) (entries_of bytes)
  decode_step l v =
      let n = entries_length (length es) bytes e in
      rw (v, add-one) (more es (entries_of bytes) i _ l (omega arith) (sym (entries_at bytes i (omega arith))) f)

  pub decode_end : length es ≤ i → es ≡ entries_of bytes
  decode_end l = all es (entries_of bytes) i l (omega (arith, entries_length (length es) bytes e)) f
