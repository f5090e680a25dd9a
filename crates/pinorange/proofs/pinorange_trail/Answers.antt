-- `pinorange::pinorange_trail` meets its contract: it hands on what `trail` answers.
use Rattle.std.proofs.Common.{◌∙◌}
use Rattle.pinorange.specs.Out.{handed_trail}
use borrow.Author.Rules.{rules}
use Rattle.pinorange.proofs.pinorange_trail.Goals as goal

pub returns-in-Ok : goal.returns-in-Ok
returns-in-Ok c =
    let a = c.args in
    let all = handed_trail a.tabulation.now a.words.now a.scratch.now a.key a.trail.now a.count.now c.in-Ok.is c.trail.ensures in
    record { numbered = all.0; cleared = all.1.0; traced = all.1.1.0; counted = all.1.1.1 }

pub returns-in-Err : goal.returns-in-Err
returns-in-Err c =
    let a = c.args in
    let all = handed_trail a.tabulation.now a.words.now a.scratch.now a.key a.trail.now a.count.now c.in-Err.is c.trail.ensures in
    record { numbered = c.into.ensures ∙ all.0; cleared = all.1.0; traced = all.1.1.0; counted = all.1.1.1 }
