use mathlib.Core.Path.{sym, ◌∙◌, ap}
use mathlib.Core.List.{List}
use native.Mathlib.Omega.{arith}
use Rattle.layout.specs.Entries.{Entry}
use Rattle.survivors.specs.Looked.{sound_issue}
use Rattle.candidates.specs.Candidates.{places_start}
use Rattle.salvage.specs.Issue.{issue_left, left_here, left_further, left_none}
use Rattle.salvage.proofs.issue_in_places.Goals as goal

pub loop-i-init : goal.loop-i-init
unfolding issue_left
loop-i-init c =
    let a = c.args in
    ap (λ (L : List Entry). sound_issue L a.key) (sym (places_start a.places.now a.count))

pub returns-then-is_issue : goal.returns-then-is_issue
returns-then-is_issue c =
    let a = c.args in
    sym (c.loop-i.invariant ∙ left_here a.places.now a.count a.key c.loop-i.i (omega arith)
    c.first_part-part.ensures c.is_issue.ensures c.if-is_issue.true)

pub loop-i-preserved : goal.loop-i-preserved
loop-i-preserved c =
    let a = c.args in
    c.loop-i.invariant ∙ left_further a.places.now a.count a.key c.loop-i.i (omega arith)
    c.first_part-part.ensures c.is_issue.ensures c.if-is_issue.false

pub returns : goal.returns
returns c =
    let a = c.args in
    sym (c.loop-i.invariant ∙ left_none a.places.now a.count a.key c.loop-i.i (omega arith))
