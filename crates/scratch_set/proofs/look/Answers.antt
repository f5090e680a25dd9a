-- `scratch_set::look` meets its contract: the test is that of the definition.
use native.Mathlib.Omega.{arith}
use mathlib.Core.Path.{refl, sym, ◌∙◌}
use Rattle.scratch_set.specs.Members.{place_lt}
use borrow.Author.Rules.{rules}
use Rattle.scratch_set.proofs.look.Goals as goal

pub tier_at-requires : goal.tier_at-requires
tier_at-requires c =
    let a = c.args in
    let l = place_lt a.scratch.now a.n a.key a.at c.requires.0.0.0 c.requires.0.0.1 c.requires.0.1 (sym c.is_at.ensures ∙ c.if-is_at.true) in
    (c.requires.1.0, omega (arith, c.requires.1.1))

pub returns-then-is_at : goal.returns-then-is_at
returns-then-is_at c = rw (sym c.is_at.ensures ∙ c.if-is_at.true, c.tier_at.ensures)

pub returns : goal.returns
returns c = rw (sym c.is_at.ensures ∙ c.if-is_at.false)
