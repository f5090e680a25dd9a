-- `pinorange::pinorange_salvage` meets its contract: it hands on what `salvage` answers.
use Rattle.std.proofs.Common.{◌∙◌}
use Rattle.pinorange.specs.Out.{handed_salvage}
use borrow.Author.Rules.{rules}
use Rattle.pinorange.proofs.pinorange_salvage.Goals as goal

pub returns-in-Ok : goal.returns-in-Ok
returns-in-Ok c =
    let a = c.args in
    let all = handed_salvage a.tabulation.now a.words.now a.target.now a.scratch.now a.lost.now
    c.in-Ok.is c.salvage.ensures in
    record { numbered = all.0; written_to = all.1.0; cleared = all.1.1.0; told = all.1.1.1 }

pub returns-in-Err : goal.returns-in-Err
returns-in-Err c =
    let a = c.args in
    let all = handed_salvage a.tabulation.now a.words.now a.target.now a.scratch.now a.lost.now
    c.in-Err.is c.salvage.ensures in
    record { numbered = c.into.ensures ∙ all.0; written_to = all.1.0; cleared = all.1.1.0; told = all.1.1.1 }
