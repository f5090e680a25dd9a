-- `pinorange::pinorange_house` meets its contract: after i turns the first i entries are those of the house tabulation.
use Rattle.std.proofs.Common.{◌≡◌, length, take}
use Rattle.pinorange.proofs.pinorange_house.Given as goal

abbrev pub invariant-loop-i : goal.invariant-loop-i
invariant-loop-i l = (length l.tabulation ≡ 2560) × (length l.table ≡ 2560) × (take l.i l.tabulation ≡ take l.i l.table)
