-- `access::is_shaped` meets its contract: its tests are the definition's, in their order.
use mathlib.Core.Path.{sym, ◌∙◌}
use borrow.Author.Tests.{le-leb, lt-leb, not-true, not-false}
use Rattle.layout.specs.Layout.{header_length, shaped}
use Rattle.layout.proofs.Shape.{ranged}
use borrow.Author.Rules.{rules}
use Rattle.access.proofs.is_shaped.Goals as goal

pub returns-then-words-lt-HEADER_LENGTH : goal.returns-then-words-lt-HEADER_LENGTH
unfolding shaped
returns-then-words-lt-HEADER_LENGTH c = rw (lt-leb _ _ c.if-words-lt-HEADER_LENGTH.true)

pub returns-then-not-are_params : goal.returns-then-not-are_params
unfolding shaped
returns-then-not-are_params c = rw (le-leb header_length _ c.if-words-lt-HEADER_LENGTH.false, sym c.are_params.ensures ∙ c.if-not-are_params.true)

pub length_for-requires : goal.length_for-requires
length_for-requires c = (ranged _ _ _ (sym c.are_params.ensures ∙ c.if-not-are_params.false)).0

pub returns : goal.returns
unfolding shaped
returns c = rw (c.length_for.ensures, le-leb header_length _ c.if-words-lt-HEADER_LENGTH.false, sym c.are_params.ensures ∙ c.if-not-are_params.false)
