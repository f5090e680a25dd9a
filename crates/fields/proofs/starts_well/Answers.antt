-- `fields::starts_well` meets its contract: the three cases of `no_leading_zero`.
use Rattle.std.proofs.Common.{sym, arith}
use Rattle.grammar.proofs.NumberLaws.{leading_none, leading_one, leading_more}
use Rattle.fields.proofs.starts_well.Goals as goal

pub returns-in-empty : goal.returns-in-empty
returns-in-empty c = sym (leading_none _ (omega arith))

pub returns-in-len1 : goal.returns-in-len1
returns-in-len1 c = sym (leading_one _ (omega arith))

pub returns-in-len1-up : goal.returns-in-len1-up
returns-in-len1-up c = sym (leading_more _ (omega arith))
