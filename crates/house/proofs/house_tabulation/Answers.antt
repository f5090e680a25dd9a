-- `house::house_tabulation` meets its contract: the checker computes the test over the table.
use mathlib.Core.Path.{refl}
use Rattle.house.specs.Rule.{house_test, test_from, has, grown}
use Rattle.house.proofs.house_tabulation.Goals as goal

pub returns : goal.returns
unfolding house_test test_from has grown
returns c = refl
