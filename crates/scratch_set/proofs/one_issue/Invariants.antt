-- `scratch_set::one_issue` meets its contract: what is left to compare are the neighbours that are left.
use Prim.Native.Nat.{◌≤◌, ◌-◌, ◌+◌}
use mathlib.Core.Path.{◌≡◌, refl, sym, ◌∙◌, ap}
use mathlib.Core.Bool.{not, ◌&&◌}
use native.Mathlib.Omega.{arith}
use borrow.Author.Tests.{eq-eqb, ne_eqb}
use borrow.Author.Rules.{rules}
use lib.Dec.{eqb}
use lib.ListN.{drop}
use Rattle.hashing.specs.Hash.{first_part}
use Rattle.layout.specs.Issues.{parts_apart}
use Rattle.layout.proofs.Issues.{apart_next, apart_end}
use Rattle.layout.proofs.IssuesAfter.{apart_one_issue}
use Rattle.scratch_set.specs.Members.{keys_at, key_read, keys_length}
use Rattle.scratch_set.proofs.one_issue.Given as goal

abbrev pub invariant-loop-i : goal.invariant-loop-i
invariant-loop-i l = (l.i ≤ l.n) × (parts_apart 0 (keys_at l.n l.scratch) ≡ parts_apart l.last (drop l.i (keys_at l.n l.scratch)))
