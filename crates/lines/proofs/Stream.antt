-- The laws of what specs/Stream.antt defines.
use Rattle.std.specs.Prelude.{ℕ, refl, List, [], ◌∷◌, ◌++◌, length}
use Rattle.std.proofs.Common.{◌∙◌, true≢false, arith, ne_eqb}
use Rattle.std.proofs.lemmas.Bool.{false≢true}
use Rattle.grammar.specs.Parted.{newline, lines_of, place_of, read_on}
use Rattle.grammar.proofs.Parted.{read_lines}
use Rattle.lines.specs.Buffer.{Buffers}
use Rattle.lines.specs.declared.Line.{Line}
use Rattle.lines.specs.Stream.{Run, Hold, ended, fed, over, last, none, some}

run_read : {line : Line} {input : List ℕ} {handed : List Line} → Run line input handed → (l : List ℕ) → Buffers line l
    → Hold handed (read_on l input)
unfolding read_on
run_read (ended e r) l h = some h (run_read r [] e)
run_read (fed {byte = b} {rest = rest} n f r) l h = rw (ne_eqb b newline n) (run_read r (l ++ (b ∷ [])) (f l h))
run_read (over t) [] h = none
run_read (over t) (b ∷ l) h = absurd (true≢false (t (b ∷ l) h ∙ ne_eqb (length (b ∷ l)) 0 (λ e. omega arith)))
run_read (last t) [] h = absurd (false≢true (t [] h))
run_read (last t) (b ∷ l) h = some h none

-- from an empty line on, just the lines of the input are handed on: none is lost, none is made up, and they stay in order
pub run_lines : {line : Line} {input : List ℕ} {handed : List Line} → Buffers line [] → Run line input handed
    → Hold handed (lines_of input)
unfolding place_of
run_lines {input = input} h r = rw (← read_lines input [] refl) (run_read r [] h)
