-- `scratch_set::other_issue` meets its contract: another issue stands before the key's place or at it.
use mathlib.Core.Path.{◌≡◌, sym, ◌∙◌}
use native.Mathlib.Omega.{arith}
use borrow.Author.Rules.{rules}
use lib.ListN.{get_or}
use Rattle.hashing.specs.Hash.{first_part}
use Rattle.scratch_set.specs.Members.{placed_le, issue_below, issue_past, issue_exact, issue_next}
use Rattle.scratch_set.proofs.other_issue.Goals as goal

pub offset_bounds-scratch-at : goal.offset_bounds-scratch-at
offset_bounds-scratch-at c = omega (arith, placed_le c.requires, c.requires.long)

pub bounds-scratch-at : goal.bounds-scratch-at
bounds-scratch-at c = omega (arith, placed_le c.requires, c.requires.long)

pub returns-then-first_part-part : goal.returns-then-first_part-part
returns-then-first_part-part c =
    issue_below c.requires (sym c.first_part.ensures ∙ (c.if-first_part-part.true ∙ c.first_part-part.ensures))

pub returns-then-n-at : goal.returns-then-n-at
returns-then-n-at c =
    let not_below : let a = c.args in first_part (get_or a.scratch.now a.at 0) ≡ first_part a.key → ⊥ = λ q. c.if-first_part-part.false (c.first_part.ensures ∙ (q ∙ sym c.first_part-part.ensures)) in
    issue_past c.requires (not_below) c.if-n-at.true

pub offset_bounds-scratch-at-2 : goal.offset_bounds-scratch-at-2
offset_bounds-scratch-at-2 c = omega (arith, c.requires.long)

pub bounds-scratch-at-2 : goal.bounds-scratch-at-2
bounds-scratch-at-2 c = omega (arith, c.requires.long)

pub returns-then-next-key : goal.returns-then-next-key
returns-then-next-key c =
    let not_below : let a = c.args in first_part (get_or a.scratch.now a.at 0) ≡ first_part a.key → ⊥ = λ q. c.if-first_part-part.false (c.first_part.ensures ∙ (q ∙ sym c.first_part-part.ensures)) in
    issue_exact c.requires (not_below) c.if-n-at.false c.if-next-key.true

pub returns : goal.returns
returns c =
    let not_below : let a = c.args in first_part (get_or a.scratch.now a.at 0) ≡ first_part a.key → ⊥ = λ q. c.if-first_part-part.false (c.first_part.ensures ∙ (q ∙ sym c.first_part-part.ensures)) in
    rw (c.first_part-2.ensures, c.first_part-part.ensures)
    (issue_next c.requires (not_below) c.if-n-at.false (λ q. c.if-next-key.false q))
