-- `pinorange::pinorange_stolen_lookup` meets its contract: it hands on what `lookup` answers, yes as 1 and no as 0.
use Rattle.std.proofs.Common.{ℕ, ◌≡◌, ◌∙◌, refl, Bool, true, false, Ok, get_or}
use mir.Val.{bool_byte}
use Rattle.stolen.specs.Answers.{values}
use Rattle.pinorange.specs.Out.{handed_reported}
use Rattle.pinorange.proofs.pinorange_stolen_lookup.Goals as goal

told_as : (found : Bool) (old : ℕ) → bool_byte found ≡ get_or (values (Ok found)) 0 old
told_as true old = refl
told_as false old = refl

pub returns-in-Ok : goal.returns-in-Ok
returns-in-Ok c =
    let all = handed_reported _ _ _ _ c.args.reported.now c.in-Ok.is (c.lookup.ensures.numbered, c.lookup.ensures.valued) in
    record { numbered = all.0; told = c.from.ensures ∙ told_as c.in-Ok.found c.args.reported.now ∙ all.1 }

pub returns-in-Err : goal.returns-in-Err
returns-in-Err c =
    let all = handed_reported _ _ _ _ _ c.in-Err.is (c.lookup.ensures.numbered, c.lookup.ensures.valued) in
    record { numbered = c.into.ensures ∙ all.0; told = all.1 }
