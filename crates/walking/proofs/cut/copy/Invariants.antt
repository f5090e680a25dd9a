-- `cut::copy` meets its contract: after i turns i keys are copied.
use Prim.Native.Nat.{◌-◌, ◌≤◌}
use mathlib.Core.Path.{◌≡◌, ◌∙◌, ap}
use native.Mathlib.Omega.{arith}
use lib.ListN.{length}
use lib.Seq.{paste, paste-zero, length-paste}
use Rattle.walking.proofs.CutLaws.{copied_more, copied_all}
use borrow.Author.Rules.{rules}
use Rattle.walking.proofs.cut.copy.Given as goal

abbrev pub invariant-loop-i : goal.invariant-loop-i
invariant-loop-i l = (l.i ≤ length l.keys) × (l.words ≡ paste l.initial.words 0 l.keys l.i)
