-- `cut::write_keys` meets its contract: a copy over zeros.
use native.Mathlib.Omega.{arith}
use Prim.Native.Nat.{ℕ}
use mathlib.Core.Path.{◌∙◌, ap}
use mathlib.Core.List.{List, ◌++◌}
use lib.ListN.{length, drop}
use Rattle.walking.proofs.CutLaws.{copied_zeros}
use borrow.Author.Rules.{rules}
use Rattle.walking.proofs.cut.write_keys.Goals as goal

pub copy-requires : goal.copy-requires
copy-requires c =
    omega (arith, c.requires, c.fill.auto.words)

pub returns : goal.returns
returns c =
    let a = c.args in
    c.copy.ensures ∙ ap (λ (w : List ℕ). a.keys.now ++ drop (length a.keys.now) w) c.fill.ensures
    ∙ copied_zeros (length a.words.now) a.keys.now
