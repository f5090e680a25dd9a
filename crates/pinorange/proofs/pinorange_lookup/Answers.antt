-- `pinorange::pinorange_lookup` meets its contract: it hands on what `lookup` answers.
use Prim.Native.Nat.{ℕ}
use mathlib.Core.Path.{◌≡◌, sym, ◌∙◌, ap}
use mathlib.Core.List.{List}
use lib.ListN.{get_or}
use Rattle.refusals.specs.declared.Refusal.{Refusal}
use Rattle.refusals.specs.Answer.{number}
use Rattle.std.proofs.Common.{Result, Ok, Option}
use Rattle.layout.specs.Answers.{values, lookup_refusal, lookup_values}
use Rattle.pinorange.specs.Out.{listed_out, tier_out, listed_value, tier_value}
use borrow.Author.Rules.{rules}
use Rattle.pinorange.proofs.pinorange_lookup.Goals as goal

-- what is handed on of an answer f, which was found to be g
handed : (tabulation ws : List ℕ) (key listed tier : ℕ) {f g : Result (Option ℕ) Refusal} → f ≡ g → (number f ≡ lookup_refusal tabulation ws key) × (values f ≡ lookup_values tabulation ws key) → (number g ≡ lookup_refusal tabulation ws key) × ((get_or (values g) 0 listed ≡ listed_out tabulation ws key listed) × (get_or (values g) 1 tier ≡ tier_out tabulation ws key tier))
handed tabulation ws key listed tier q e =
    let v = sym (ap values q) ∙ e.1 in
    (sym (ap number q) ∙ e.0, (listed_value tabulation ws key listed v, tier_value tabulation ws key tier v))

pub returns-in-Ok-Some : goal.returns-in-Ok-Some
returns-in-Ok-Some c =
    let a = c.args in
    let all = handed a.tabulation.now a.words.now a.key a.listed.now a.tier.now (c.in-Ok-Some.is ∙ ap Ok c.in-Ok-Some.field-0-is)
    (c.lookup.ensures.numbered, c.lookup.ensures.valued) in
    record { numbered = all.0; told = all.1.0; priced = all.1.1 }

pub returns-in-Ok-None : goal.returns-in-Ok-None
returns-in-Ok-None c =
    let a = c.args in
    let all = handed a.tabulation.now a.words.now a.key a.listed.now a.tier.now (c.in-Ok-None.is ∙ ap Ok c.in-Ok-None.field-0-is)
    (c.lookup.ensures.numbered, c.lookup.ensures.valued) in
    record { numbered = all.0; told = all.1.0; priced = all.1.1 }

pub returns-in-Err : goal.returns-in-Err
returns-in-Err c =
    let a = c.args in
    let all = handed a.tabulation.now a.words.now a.key a.listed.now a.tier.now c.in-Err.is (c.lookup.ensures.numbered, c.lookup.ensures.valued) in
    record { numbered = c.into.ensures ∙ all.0; told = all.1.0; priced = all.1.1 }
