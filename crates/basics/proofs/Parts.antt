-- The laws of what specs/Parts.antt defines.
use Rattle.std.specs.Prelude.{ℕ, ◌+◌, ◌-◌, ◌≤◌, ◌<◌, ◌≡◌, refl, List, ◌++◌, length, get_or, set, take, drop}
use Rattle.std.proofs.Common.{sym, ◌∙◌, ap, inl, inr, append_assoc, add-one, arith, length-take, length-drop, get_or-take, get_or-drop, get_or-append-add, take_at, drop_at, take_all, take-take, length-take-le, drop-set-lt}
use Rattle.std.proofs.Math.ListN.{get_or-append}
use Rattle.std.proofs.lemmas.List.{take-append-le, drop-append-le, take-set-le, drop-set-add}
use Rattle.std.proofs.Math.Seq.{take-set-lt, paste, paste-suc, length_paste_head}
use Rattle.std.proofs.lemmas.List.Edits.{length-paste}
use borrow.Rule.Slice.PartMut.{mid_of, put_mid, set_mid_at}
use Rattle.basics.proofs.Tests.{le?}
use Rattle.basics.specs.Parts.{part, PartAt}

-- The laws. A part as it is lent, from a to e,
pub part_lent : (xs : List ℕ) {a e : ℕ} (at k : ℕ) → a ≡ at → e ≡ at + k → mid_of a (e - a) xs ≡ part at k xs
part_lent xs {a} {e} at k start end = let n : e - a ≡ k = omega arith in rw (n, start)

-- and from a to the end
pub to_end : (a : ℕ) (xs : List ℕ) → mid_of a (length xs - a) xs ≡ drop a xs
to_end a xs = take_all (length xs - a) (drop a xs) (omega (arith, length-drop a xs))

module _ (at k : ℕ) (xs : List ℕ) where
  pub part_length : at + k ≤ length xs → length (part at k xs) ≡ k
  part_length h = simp (length-take, length-drop) (omega arith)

  pub part_word : (i : ℕ) → i < k → get_or (part at k xs) i 0 ≡ get_or xs (at + i) 0
  part_word i l = rw (get_or-take, get_or-drop)

  -- a word written inside, and one outside
  pub part_set : (j x : ℕ) → j < k → part at k (set xs (at + j) x) ≡ set (part at k xs) j x
  part_set j x l = rw (drop-set-add, take-set-lt)

  pub part_off : (j x : ℕ) → (at ≤ j → at + k ≤ j) → part at k (set xs j x) ≡ part at k xs
  part_off j x h =
      elim (le? at j) [
        | inl l ↦
            let m = h l in
            let e : j ≡ at + (j - at) = omega arith in
            let i : k ≤ j - at = omega arith in
            rw (e, drop-set-add, take-set-le k (drop at xs) (j - at) x i)
        | inr l ↦ rw drop-set-lt
      ]

  -- what stands behind it does not count
  pub part_before : (m : ℕ) (zs : List ℕ) → at + k ≤ m → m ≤ length xs
      → part at k (take m xs ++ zs) ≡ part at k (take m xs)
  part_before m zs h l =
      let a : at ≤ length (take m xs) = omega (arith, length-take-le m xs l) in
      let b : k ≤ length (drop at (take m xs)) = omega (arith, length-take-le m xs l, length-drop at (take m xs)) in
      rw (drop-append-le, take-append-le)

module _ {at : ℕ} {of : List ℕ → List ℕ} (L : PartAt at of) (X : List ℕ) where
  -- a word of the part
  pub place_word : (v : ℕ) → v < length X → get_or (of X) (at + v) 0 ≡ get_or X v 0
  place_word v l =
      rw (L.is X, ← L.long) (get_or-append-add L.front (X ++ L.back) v 0 ∙ get_or-append X L.back 0 v l)

  -- the part, as it is lent
  pub place_part : (n : ℕ) → length X ≡ n → mid_of at n (of X) ≡ X
  place_part n e = rw (L.is X, drop_at L.front (X ++ L.back) at L.long) (take_at X L.back n e)

  -- and as it comes back
  pub place_put : (n : ℕ) → length X ≡ n → (ys : List ℕ) → put_mid at n (of X) ys ≡ of ys
  place_put n e ys =
      rw (
        L.is X,
        L.is ys,
        drop_at L.front (X ++ L.back) at L.long,
        take_at L.front (X ++ L.back) at L.long,
        drop_at X L.back n e,
      )

  -- a word written
  pub place_set : (v x : ℕ) → v < length X → set (of X) (at + v) x ≡ of (set X v x)
  place_set v x l =
      let p = place_part (length X) refl in
      sym (set_mid_at at (length X) v (of X) x (rw p l)) ∙ (rw p (place_put (length X) refl (set X v x)))

-- A list s that a loop writes over d from `at` on, word by word: after i turns the words are `paste d at s i`.
module _ (d : List ℕ) (at : ℕ) (s : List ℕ) (i : ℕ) {u : List ℕ} (T : u ≡ paste d at s i) where
  pub pasted_more : {x : ℕ} → i < length s → at + i < length d → x ≡ get_or s i 0
      → set u (at + i) x ≡ paste d at s (i + 1)
  pasted_more l m e = rw (T, e, add-one i) (paste-suc d at s i 0 m l)

  module _ (l : i ≤ length s) (m : at + i ≤ length d) where
    pub pasted_length : length u ≡ length d
    pasted_length = ap length T ∙ length-paste d at s i m l

    -- the words before them are as they were,
    pub pasted_front : (k : ℕ) → k ≤ at → take k u ≡ take k d
    pasted_front k q =
        let a : k ≤ length (take at d ++ take i s) = omega (arith, length_paste_head d at s i (omega arith) l) in
        let b : k ≤ length (take at d) = omega (arith, length-take-le at d (omega arith)) in
        rw T
        (take-append-le k (take at d ++ take i s) (drop (at + i) d) a
        ∙ take-append-le k (take at d) (take i s) b ∙ take-take k at d q)

    -- and in the end the whole list stands there
    pub pasted_all : i ≡ length s → part at i u ≡ s
    pasted_all e =
        let a = length-take-le at d (omega arith) in
        rw (
          T,
          append_assoc (take at d) (take i s) (drop (at + i) d),
          drop_at (take at d) (take i s ++ drop (at + i) d) at a,
        )
        (take_at (take i s) (drop (at + i) d) i (length-take-le i s l) ∙ take_all i s (omega arith))
