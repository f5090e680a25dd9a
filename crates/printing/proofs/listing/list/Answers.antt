-- `printing::listing::list` lists words that passed the shape test.
use Rattle.std.proofs.Common.{sym, ◌∙◌, arith}
use Rattle.layout.proofs.Shape.{shape}
use Rattle.printing.proofs.listing.list.Goals as goal

pub table_0-requires : goal.table_0-requires
table_0-requires g c = shape _ (sym c.is_shaped.ensures ∙ c.if-not-is_shaped.false)

pub list_table-requires : goal.list_table-requires
list_table-requires g c =
    let z = shape _ (sym c.is_shaped.ensures ∙ c.if-not-is_shaped.false) in
    omega (arith, z)

pub table_1-requires : goal.table_1-requires
table_1-requires g c = shape _ (sym c.is_shaped.ensures ∙ c.if-not-is_shaped.false)

pub list_table-requires-2 : goal.list_table-requires-2
list_table-requires-2 g c =
    let z = shape _ (sym c.is_shaped.ensures ∙ c.if-not-is_shaped.false) in
    omega (arith, z)
