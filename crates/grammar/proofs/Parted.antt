-- The laws of what specs/Parted.antt defines.
use Prim.Native.Nat.{ℕ, suc, ◌+◌, ◌≤◌, ◌<◌}
use Rattle.std.specs.Prelude.{◌≡◌, ◌==◌, Option, MatchOption, cond, length, take, drop, get_or}
use Rattle.std.specs.List.{position, position_or_len}
use Rattle.std.proofs.lemmas.List.Recursion.{is_position_or_len}
use Rattle.std.proofs.Math.Path.{refl}
use Rattle.std.proofs.Common.{sym, ◌∙◌, ap, length-append, drop_of_length-le, add-one}
use mathlib.Core.List.{List, [], ◌∷◌, ◌++◌, append-nil}
use native.Mathlib.Omega.{arith}
use Rattle.std.proofs.Math.Seq.{take-append_seam, drop-cons, append_snoc}
use Rattle.std.proofs.Math.Logic.{inl, inr}
use borrow.Author.Tests.{eq-eqb, ne_eqb, lt-ltb, le-ltb}
use Rattle.basics.proofs.Tests.{eq?, le?}
use Rattle.grammar.specs.Parted.{newline, parted, but_empty_last, lines_of, place_of, Lacks, read_on}

drop_behind : (b : ℕ) (p t : List ℕ) → drop (suc (length p)) (p ++ (b ∷ t)) ≡ t
drop_behind b [] t = refl
drop_behind b (c ∷ p) t = drop_behind b p t

-- ---- the first separator ends the first piece
module _ (sep : ℕ) where
  pub place_le : (t : List ℕ) → place_of sep t ≤ length t
  unfolding place_of
  place_le [] = omega arith
  place_le (b ∷ t) =
      elim (eq? b sep) [ inl e ↦ rw (eq-eqb b sep e) (omega arith) | inr n ↦ rw (ne_eqb b sep n) (omega (arith, place_le t)) ]

  -- one turn of the loop of `find`, at index i
  pub place_here : (t : List ℕ) (i : ℕ) → i < length t → get_or t i 0 ≡ sep → place_of sep (drop i t) ≡ 0
  unfolding place_of
  place_here t i h e = rw (drop-cons t i 0 h, place_of, eq-eqb (get_or t i 0) sep e)

  pub place_next : (t : List ℕ) (i : ℕ) → i < length t → (get_or t i 0 ≡ sep → ⊥) → place_of sep (drop i t) ≡ suc (place_of sep (drop (i + 1) t))
  unfolding place_of
  place_next t i h n = rw (add-one, drop-cons t i 0 h, place_of, ne_eqb (get_or t i 0) sep n)

  pub place_end : (t : List ℕ) (i : ℕ) → length t ≤ i → place_of sep (drop i t) ≡ 0
  unfolding place_of
  place_end t i h = rw (drop_of_length-le t h)

  -- std's words for it
  place_first : (t : List ℕ) → place_of sep t ≡ position_or_len (λ b. b == sep) t
  unfolding place_of
  place_first = is_position_or_len (place_of sep) (λ b. b == sep) refl (λ b t. ap (cond (b == sep) 0) (omega arith))

  pub place_position : (t : List ℕ) {r : Option ℕ} → r ≡ position (λ b. b == sep) t
      → MatchOption r (place_of sep t ≡ length t) (λ i. (i ≡ place_of sep t) × (i < length t))
  place_position t e =
      let f = place_first t in
      let l = place_le t in
      elim (le? (length t) (place_of sep t)) [
        | inl h ↦ rw (e, ← f, le-ltb (place_of sep t) (length t) h) (omega arith)
        | inr h ↦ rw (e, ← f, lt-ltb (place_of sep t) (length t) h) (refl, h)
      ]

  -- what stands there
  pub place_at : (t : List ℕ) → place_of sep t < length t → get_or t (place_of sep t) 0 ≡ sep
  unfolding place_of
  place_at [] h = absurd (omega arith)
  place_at (b ∷ t) h =
      elim (eq? b sep) [
        | inl e ↦ rw (eq-eqb b sep e) e
        | inr n ↦ rw (ne_eqb b sep n) (place_at t (let l = rw (ne_eqb b sep n) at h in omega arith))
      ]

  -- no separator: one piece
  pub parted_one : (t : List ℕ) → Lacks sep t → parted sep t ≡ t ∷ []
  unfolding place_of parted
  parted_one [] e = refl
  parted_one (b ∷ t) e =
      elim (eq? b sep) [
        | inl q ↦ absurd (let f = rw (eq-eqb b sep q) at e in omega arith)
        | inr n ↦ let f = rw (ne_eqb b sep n) at e in rw (ne_eqb b sep n, parted_one t (omega arith))
      ]

  -- a separator: the piece before it, and the pieces of what comes behind it
  pub parted_first : (t : List ℕ) → place_of sep t < length t
      → parted sep t ≡ take (place_of sep t) t ∷ parted sep (drop (suc (place_of sep t)) t)
  unfolding place_of parted
  parted_first [] h = absurd (omega arith)
  parted_first (b ∷ t) h =
      elim (eq? b sep) [
        | inl e ↦ rw (eq-eqb b sep e)
        | inr n ↦ let f = rw (ne_eqb b sep n) at h in rw (ne_eqb b sep n, parted_first t (omega arith))
      ]

  -- a text without a separator in front
  pub place_append : (p t : List ℕ) → Lacks sep p → place_of sep (p ++ (sep ∷ t)) ≡ length p
  unfolding place_of
  place_append [] t e = rw (eq-eqb sep sep refl)
  place_append (b ∷ p) t e =
      elim (eq? b sep) [
        | inl q ↦ absurd (let f = rw (eq-eqb b sep q) at e in omega arith)
        | inr n ↦ let f = rw (ne_eqb b sep n) at e in rw (ne_eqb b sep n) (ap suc (place_append p t (omega arith)))
      ]

  pub parted_append : (p t : List ℕ) → Lacks sep p → parted sep (p ++ (sep ∷ t)) ≡ p ∷ parted sep t
  parted_append p t e =
      let f = place_append p t e in
      let l : place_of sep (p ++ (sep ∷ t)) < length (p ++ (sep ∷ t)) = rw f (omega (arith, length-append p (sep ∷ t))) in
      parted_first (p ++ (sep ∷ t)) l ∙ rw (f, take-append_seam) (ap (λ (s : List ℕ). p ∷ parted sep s) (drop_behind sep p t))

  -- two texts without a separator, and the text before the first one
  pub place_join : (p t : List ℕ) → Lacks sep p → Lacks sep t → Lacks sep (p ++ t)
  unfolding place_of
  place_join [] t e f = f
  place_join (b ∷ p) t e f =
      elim (eq? b sep) [
        | inl q ↦ absurd (let g = rw (eq-eqb b sep q) at e in omega arith)
        | inr n ↦ let g = rw (ne_eqb b sep n) at e in rw (ne_eqb b sep n) (ap suc (place_join p t (omega arith) f))
      ]

  pub place_byte : (b : ℕ) → (b ≡ sep → ⊥) → Lacks sep (b ∷ [])
  unfolding place_of
  place_byte b n = rw (ne_eqb b sep n)

  -- there is always a piece
  pub parted_some : (t : List ℕ) → (p : List ℕ) × ((ps : List (List ℕ)) × (parted sep t ≡ p ∷ ps))
  unfolding parted
  parted_some [] = ([], ([], refl))
  parted_some (b ∷ t) =
      let (p, (ps, e)) = parted_some t in
      elim (eq? b sep) [
        | inl q ↦ ([], (parted sep t, rw (eq-eqb b sep q)))
        | inr n ↦ (b ∷ p, (ps, rw (ne_eqb b sep n, e)))
      ]

-- ---- the lines of an input
-- nothing is no line
pub lines_none : lines_of [] ≡ []
unfolding lines_of but_empty_last parted
lines_none = refl

-- "A newline .. ends a line"
pub lines_ended : (p rest : List ℕ) → Lacks newline p → lines_of (p ++ (newline ∷ rest)) ≡ p ∷ lines_of rest
unfolding lines_of but_empty_last
lines_ended p rest e =
    let (q, (qs, f)) = parted_some newline rest in
    rw (parted_append newline p rest e, f)

-- ".. or the end of input ends a line": what stands after the last newline, if anything does
pub lines_last : (b : ℕ) (p : List ℕ) → Lacks newline (b ∷ p) → lines_of (b ∷ p) ≡ (b ∷ p) ∷ []
unfolding lines_of but_empty_last
lines_last b p e = rw (parted_one newline (b ∷ p) e)

-- "nothing after the last newline is no line"
pub lines_closed : (p : List ℕ) → Lacks newline p → lines_of (p ++ (newline ∷ [])) ≡ p ∷ []
lines_closed p e = lines_ended p [] e ∙ ap (λ (ls : List (List ℕ)). p ∷ ls) lines_none

pub read_lines : (rest p : List ℕ) → Lacks newline p → read_on p rest ≡ lines_of (p ++ rest)
unfolding read_on place_of
read_lines [] [] e = sym lines_none
read_lines [] (b ∷ p) e = rw append-nil (sym (lines_last b p e))
read_lines (b ∷ rest) p e =
    elim (eq? b newline) [
      | inl q ↦ rw q ((λ i. p ∷ read_lines rest [] refl i) ∙ sym (lines_ended p rest e))
      | inr n ↦
          let f = place_join newline p (b ∷ []) e (place_byte newline b n) in
          rw (ne_eqb b newline n) (read_lines rest (p ++ (b ∷ [])) f ∙ ap lines_of (append_snoc p b rest))
    ]
