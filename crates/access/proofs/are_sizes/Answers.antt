-- `access::are_sizes` meets its contract: its two tests are the definition's.
use mathlib.Core.Path.{sym, ◌∙◌}
use Rattle.layout.specs.Layout.{sizes_in_range}
use borrow.Author.Rules.{rules}
use Rattle.access.proofs.are_sizes.Goals as goal

pub returns-then-in_range : goal.returns-then-in_range
unfolding sizes_in_range
returns-then-in_range c = rw (sym c.in_range.ensures ∙ c.if-in_range.true)

pub returns-else-in_range : goal.returns-else-in_range
unfolding sizes_in_range
returns-else-in_range c = let t = sym c.in_range.ensures ∙ c.if-in_range.false in rw (c.if-in_range.false, t)
