use Prim.Native.Nat.{◌≤◌, ◌-◌, ◌+◌}
use mathlib.Core.Path.{◌≡◌, refl, sym, ◌∙◌, ap}
use mathlib.Core.Bool.{not, ◌&&◌}
use native.Mathlib.Omega.{arith}
use borrow.Author.Tests.{eq-eqb, ne_eqb}
use borrow.Author.Rules.{rules}
use lib.Dec.{eqb}
use lib.ListN.{drop}
use Rattle.hashing.specs.Hash.{first_part}
use Rattle.layout.specs.Issues.{parts_apart}
use Rattle.layout.proofs.Issues.{apart_next, apart_end}
use Rattle.layout.proofs.IssuesAfter.{apart_one_issue}
use Rattle.scratch_set.specs.Members.{keys_at, key_read, keys_length}
use Rattle.scratch_set.proofs.one_issue.Goals as goal

pub loop-i-init : goal.loop-i-init
loop-i-init c = (search rules, refl)

pub returns-then-part-last : goal.returns-then-part-last
returns-then-part-last c =
    let next : let a = c.args in let l = c.loop-i in parts_apart 0 (keys_at a.n a.scratch.now) ≡ (not (eqb c.first_part-part.result l.last) && parts_apart c.first_part-part.result (drop (l.i + 1) (keys_at a.n a.scratch.now))) = let a = c.args in
    let l = c.loop-i in
    let K = keys_at a.n a.scratch.now in
    let part = c.first_part-part.ensures ∙ ap first_part (key_read a.scratch.now a.n l.i (omega arith)) in
    l.invariant.1 ∙ apart_next l.last K l.i (omega (arith, keys_length a.scratch.now a.n c.requires.0)) _ part in
    let p = c.requires in
    sym (sym (apart_one_issue p.1) ∙ next ∙ (rw (eq-eqb _ _ c.if-part-last.true)))

pub loop-i-preserved : goal.loop-i-preserved
loop-i-preserved c =
    let next : let a = c.args in let l = c.loop-i in parts_apart 0 (keys_at a.n a.scratch.now) ≡ (not (eqb c.first_part-part.result l.last) && parts_apart c.first_part-part.result (drop (l.i + 1) (keys_at a.n a.scratch.now))) = let a = c.args in
    let l = c.loop-i in
    let K = keys_at a.n a.scratch.now in
    let part = c.first_part-part.ensures ∙ ap first_part (key_read a.scratch.now a.n l.i (omega arith)) in
    l.invariant.1 ∙ apart_next l.last K l.i (omega (arith, keys_length a.scratch.now a.n c.requires.0)) _ part in
    (search rules, next ∙ (rw (ne_eqb _ _ c.if-part-last.false)))

pub returns : goal.returns
returns c =
    let a = c.args in
    let p = c.requires in
    let K = keys_at a.n a.scratch.now in
    sym (sym (apart_one_issue p.1) ∙ c.loop-i.invariant.1
    ∙ apart_end c.loop-i.last K c.loop-i.i (omega (arith, keys_length a.scratch.now a.n p.0)))
