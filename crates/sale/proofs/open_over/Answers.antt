-- `sale::open_over` meets its contract: it hands on the record that was opened, or the old one.
use Rattle.sale.specs.Priced.{open_left, refused_left}
use Rattle.sale.proofs.open_over.Goals as goal

pub returns-in-Ok-clause-left : goal.returns-in-Ok-clause-left
returns-in-Ok-clause-left c = (open_left _ _ _ _ _ _ c.in-Ok.ensures.numbered c.in-Ok.ensures.valued).1

pub returns-in-Err-clause-left : goal.returns-in-Err-clause-left
returns-in-Err-clause-left c = (refused_left _ _ _ _ _ _ c.in-Err.ensures.numbered c.in-Err.ensures.valued).1
