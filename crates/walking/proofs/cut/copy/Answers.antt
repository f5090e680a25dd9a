use Prim.Native.Nat.{◌-◌, ◌≤◌}
use mathlib.Core.Path.{◌≡◌, ◌∙◌, ap}
use native.Mathlib.Omega.{arith}
use lib.ListN.{length}
use lib.Seq.{paste, paste-zero, length-paste}
use Rattle.walking.proofs.CutLaws.{copied_more, copied_all}
use borrow.Author.Rules.{rules}
use Rattle.walking.proofs.cut.copy.Goals as goal

pub loop-i-init : goal.loop-i-init
loop-i-init c = (search rules, paste-zero c.args.words.now 0 c.args.keys.now)

pub bounds-words-i : goal.bounds-words-i
bounds-words-i c =
    let a = c.args in
    omega (arith, c.loop-i.invariant, ap length c.loop-i.invariant.1, length-paste a.words.now 0 a.keys.now c.loop-i.i (omega (arith, c.requires)) c.loop-i.invariant.0)

pub loop-i-preserved : goal.loop-i-preserved
loop-i-preserved c =
    let a = c.args in
    (search rules, copied_more a.words.now a.keys.now c.loop-i.invariant.1 (omega (arith, c.requires)) (search rules))

pub shape_of-words : goal.shape_of-words
shape_of-words c =
    let a = c.args in
    ap length c.loop-i.invariant.1 ∙ length-paste a.words.now 0 a.keys.now c.loop-i.i (omega (arith, c.requires, c.loop-i.invariant)) c.loop-i.invariant.0

pub returns : goal.returns
returns c =
    let a = c.args in
    let e : c.loop-i.i ≡ length a.keys.now = omega (arith, c.loop-i.invariant) in
    c.loop-i.invariant.1 ∙ ap (paste a.words.now 0 a.keys.now) e ∙ copied_all a.words.now a.keys.now
