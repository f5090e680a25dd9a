-- `access::are_params` meets its contract: its two tests are the definition's.
use mathlib.Core.Path.{sym, ◌∙◌}
use Rattle.layout.specs.Layout.{params_in_range}
use borrow.Author.Rules.{rules}
use Rattle.access.proofs.are_params.Goals as goal

pub returns-then-are_sizes : goal.returns-then-are_sizes
unfolding params_in_range
returns-then-are_sizes c = rw (sym c.are_sizes.ensures ∙ c.if-are_sizes.true) c.is_station.ensures

pub returns-else-are_sizes : goal.returns-else-are_sizes
unfolding params_in_range
returns-else-are_sizes c = let t = sym c.are_sizes.ensures ∙ c.if-are_sizes.false in rw (c.if-are_sizes.false, t)
