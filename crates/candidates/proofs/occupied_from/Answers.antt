use native.Mathlib.Omega.{arith}
use Rattle.candidates.specs.Candidates.{occupied_start, occupied_next, occupied_none}
use Rattle.candidates.proofs.occupied_from.Goals as goal

pub loop-i-preserved : goal.loop-i-preserved
loop-i-preserved c = grind (arith, occupied_next)

pub returns : goal.returns
returns c =
    let a = c.args in
    let start = occupied_start a.words.now a.from a.step a.count in
    let end = occupied_none a.words.now a.from a.step a.count c.loop-i.i (omega arith) in
    (omega (arith, start, end), omega arith)
