-- `lookup::stash_refusal` meets its contract: the refusals in their order.
use mathlib.Core.Path.{◌≡◌, sym, ◌∙◌}
use mathlib.Core.Bool.{true}
use native.Mathlib.Omega.{arith}
use borrow.Author.Tests.{lt-ltb, le-ltb, not-true, not-false}
use Rattle.layout.specs.Layout.{shaped}
use Rattle.layout.specs.Answers.{view_refusal}
use Rattle.layout.proofs.Shape.{shape}
use Rattle.layout.proofs.Shape.{same_header}
use borrow.Author.Rules.{rules}
use Rattle.lookup.proofs.stash_refusal.Goals as goal

pub returns-then-not-is_shaped : goal.returns-then-not-is_shaped
unfolding view_refusal
returns-then-not-is_shaped c = rw (sym c.is_shaped.ensures ∙ c.if-not-is_shaped.true)

pub read_header-header-requires : goal.read_header-header-requires
read_header-header-requires c =
    let formed : shaped c.args.words.now ≡ true = sym c.is_shaped.ensures ∙ c.if-not-is_shaped.false in
    omega (arith, shape _ (formed))

pub returns-then-header : goal.returns-then-header
unfolding view_refusal
returns-then-header c =
    let formed : shaped c.args.words.now ≡ true = sym c.is_shaped.ensures ∙ c.if-not-is_shaped.false in
    let h = same_header c.read_header-header.ensures in
    rw (formed, lt-ltb _ _ (rw (h.places, h.stashed) at c.if-header.true))

pub returns : goal.returns
unfolding view_refusal
returns c =
    let formed : shaped c.args.words.now ≡ true = sym c.is_shaped.ensures ∙ c.if-not-is_shaped.false in
    let h = same_header c.read_header-header.ensures in
    rw (formed, le-ltb _ _ (rw (h.places, h.stashed) at c.if-header.false))
