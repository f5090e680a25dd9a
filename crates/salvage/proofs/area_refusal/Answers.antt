-- `salvage::area_refusal` meets its contract: the tests in their order.
use mathlib.Core.Path.{◌≡◌, sym, ◌∙◌}
use mathlib.Core.Bool.{true}
use native.Mathlib.Omega.{arith}
use borrow.Author.Tests.{eq-eqb, ne_eqb, lt-ltb, le-ltb}
use Rattle.layout.specs.Layout.{shaped}
use Rattle.layout.proofs.Shape.{shape, same_header}
use Rattle.salvage.proofs.area_refusal.Goals as goal

pub returns-then-tabulation-ne-TABULATION_LENGTH : goal.returns-then-tabulation-ne-TABULATION_LENGTH
returns-then-tabulation-ne-TABULATION_LENGTH c = rw (ne_eqb _ _ c.if-tabulation-ne-TABULATION_LENGTH.true)

pub returns-then-not-is_shaped : goal.returns-then-not-is_shaped
returns-then-not-is_shaped c =
    rw (eq-eqb _ _ c.if-tabulation-ne-TABULATION_LENGTH.false, sym c.is_shaped.ensures ∙ c.if-not-is_shaped.true)

pub returns-then-len-words : goal.returns-then-len-words
returns-then-len-words c =
    let formed : shaped c.args.words.now ≡ true = sym c.is_shaped.ensures ∙ c.if-not-is_shaped.false in
    rw (eq-eqb _ _ c.if-tabulation-ne-TABULATION_LENGTH.false, formed, ne_eqb _ _ c.if-len-words.true)

pub read_header-header-requires : goal.read_header-header-requires
read_header-header-requires c =
    let formed : shaped c.args.words.now ≡ true = sym c.is_shaped.ensures ∙ c.if-not-is_shaped.false in
    omega (arith, shape _ formed)

pub scratch_for-requires : goal.scratch_for-requires
scratch_for-requires c =
    let formed : shaped c.args.words.now ≡ true = sym c.is_shaped.ensures ∙ c.if-not-is_shaped.false in
    let h = same_header c.read_header-header.ensures in
    rw (h.slots, h.places) (shape _ formed).sizes

pub returns-then-room-scratch_for : goal.returns-then-room-scratch_for
returns-then-room-scratch_for c =
    let formed : shaped c.args.words.now ≡ true = sym c.is_shaped.ensures ∙ c.if-not-is_shaped.false in
    let h = same_header c.read_header-header.ensures in
    let short = rw (c.scratch_for.ensures, h.slots, h.places) at c.if-room-scratch_for.true in
    rw (
      eq-eqb _ _ c.if-tabulation-ne-TABULATION_LENGTH.false,
      formed,
      eq-eqb _ _ c.if-len-words.false,
      lt-ltb _ _ short,
    )

pub returns : goal.returns
returns c =
    let formed : shaped c.args.words.now ≡ true = sym c.is_shaped.ensures ∙ c.if-not-is_shaped.false in
    let h = same_header c.read_header-header.ensures in
    let long = rw (c.scratch_for.ensures, h.slots, h.places) at c.if-room-scratch_for.false in
    rw (
      eq-eqb _ _ c.if-tabulation-ne-TABULATION_LENGTH.false,
      formed,
      eq-eqb _ _ c.if-len-words.false,
      le-ltb _ _ long,
    )
