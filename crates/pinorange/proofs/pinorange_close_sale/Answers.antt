-- `pinorange::pinorange_close_sale` meets its contract: the price that the record holds is what closing it gives.
use Rattle.std.proofs.Common.{refl}
use Rattle.outcome.specs.Sale.{closed}
use Rattle.pinorange.proofs.pinorange_close_sale.Goals as goal

pub returns : goal.returns
unfolding closed
returns c = refl
