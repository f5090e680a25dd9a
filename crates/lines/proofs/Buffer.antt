-- The laws of what specs/Buffer.antt defines.
use Rattle.std.specs.Prelude.{ℕ, suc, ◌+◌, ◌≤◌, ◌<◌, ◌≡◌, List, [], ◌∷◌, ◌++◌, length, take, set, eqb}
use Rattle.std.proofs.Common.{sym, ◌∙◌, ap, add-one, arith, length-append, take-suc-set, inl, inr, eq-eqb, ne_eqb}
use Rattle.basics.proofs.Tests.{eq?}
use Rattle.grammar.specs.Command.{longest}
use Rattle.lines.specs.declared.Line.{Line}
use Rattle.lines.specs.Buffer.{Buffers}

module _ (line : Line) (l : List ℕ) (h : Buffers line l) where
  -- the bytes, and that there are too many
  pub held : line.count ≤ longest → take line.count line.bytes ≡ l
  held k = let e : line.count ≡ length l = omega (arith, h.counted) in rw e (h.kept (omega (arith, h.counted)))

  pub too_many : longest < line.count → longest < length l
  too_many k = omega (arith, h.counted)

  -- one byte more, where there is room and where there is none
  pub holds_more : (b : ℕ) → length line.bytes ≡ longest → line.count < longest
      → Buffers (record { bytes = set line.bytes line.count b; count = line.count + 1 }) (l ++ (b ∷ []))
  holds_more b f k =
      let e : line.count ≡ length l = omega (arith, h.counted) in
      let n : length l < length line.bytes = omega arith in
      record {
        counted = rw length-append (omega arith);
        kept = λ _. rw (length-append, e, add-one, take-suc-set) (ap (λ (p : List ℕ). p ++ (b ∷ [])) (h.kept (omega arith)));
      }

  pub holds_over : (b : ℕ) → longest ≤ line.count → Buffers (record { bytes = line.bytes; count = suc longest }) (l ++ (b ∷ []))
  holds_over b k = record {
    counted = rw length-append (omega (arith, h.counted));
    kept = λ m. absurd (omega (arith, h.counted, length-append l (b ∷ [])));
  }

  -- nothing was read yet
  pub same_empty : eqb line.count 0 ≡ eqb (length l) 0
  same_empty =
      elim (eq? (length l) 0) [
        | inl e ↦ eq-eqb line.count 0 (omega (arith, h.counted)) ∙ sym (eq-eqb (length l) 0 e)
        | inr n ↦ ne_eqb line.count 0 (λ e. n (omega (arith, h.counted))) ∙ sym (ne_eqb (length l) 0 n)
      ]
