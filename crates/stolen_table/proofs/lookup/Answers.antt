-- `stolen_table::lookup` meets its contract: past the refusals, what the walk found.
use Rattle.std.proofs.Common.{◌≡◌, refl, Bool, true, false, Ok, ap, sym, ◌∙◌, eq-eqb}
use Rattle.probing.specs.Rule.{look}
use Rattle.stolen.specs.Answers.{values, says, stolen_lookup_refusal}
use Rattle.stolen.proofs.Answers.{lookup_accepted}
use Rattle.stolen_table.proofs.lookup.Goals as goal

told : (found : Bool) → values (Ok found) ≡ says found
told true = refl
told false = refl

pub returns-clause-valued : goal.returns-clause-valued
unfolding stolen_lookup_refusal look
returns-clause-valued c =
    let a = c.args in
    let passed : stolen_lookup_refusal a.tabulation.now a.words.now a.station a.key ≡ 0 =
    rw (
      eq-eqb _ _ c.if-tabulation-ne-TABULATION_LENGTH.false,
      sym c.in_shape.ensures ∙ c.if-not-in_shape.false,
      sym c.is_blank.ensures ∙ c.if-is_blank.false,
    ) in
    told c.is_found.result ∙ ap says (rw c.start_of-start.ensures.at at c.is_found.ensures)
    ∙ sym (lookup_accepted a.tabulation.now a.words.now a.station a.key passed)
