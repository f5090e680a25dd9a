-- `sale::litre_price` meets its contract: base and step are small enough that the machine's sum is the sum.
use Rattle.sale.specs.Priced.{base_fits, sum_fits, summed, below_one, from_one, sum_casts}
use Rattle.sale.proofs.litre_price.Goals as goal

pub overflow_cast-price : goal.overflow_cast-price
overflow_cast-price c = base_fits c.args.base c.args.step c.requires.0 c.requires.1

pub overflow_add-price : goal.overflow_add-price
overflow_add-price c =
    rw (summed c.args.base c.args.step c.requires.0 c.requires.1 c.ranges.step) (sum_fits c.args.base c.args.step c.requires.0 c.requires.1)

pub returns-then-price-lt-MIN_PRICE : goal.returns-then-price-lt-MIN_PRICE
returns-then-price-lt-MIN_PRICE c =
    below_one c.args.base c.args.step c.requires.0 c.requires.1 c.ranges.step c.if-price-lt-MIN_PRICE.true

pub overflow_cast-result : goal.overflow_cast-result
overflow_cast-result c =
    sum_casts c.args.base c.args.step c.requires.0 c.requires.1 c.ranges.step c.if-price-lt-MIN_PRICE.false

pub returns : goal.returns
returns c =
    from_one c.args.base c.args.step c.requires.0 c.requires.1 c.ranges.step c.if-price-lt-MIN_PRICE.false
