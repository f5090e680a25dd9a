-- `lookup::lookup_within` meets its contract: each `return` is the first refusal whose test holds, or what is found.
use mathlib.Core.Path.{sym, ◌∙◌}
use borrow.Author.Tests.{eq-eqb, ne_eqb, not-true, not-false}
use Rattle.layout.proofs.Shape.{shape}
use Rattle.layout.specs.Answers.{lookup_refusal, lookup_values}
use borrow.Author.Rules.{rules}
use Rattle.lookup.proofs.lookup_within.Goals as goal

pub returns-then-tabulation-ne-TABULATION_LENGTH : goal.returns-then-tabulation-ne-TABULATION_LENGTH
unfolding lookup_refusal lookup_values
returns-then-tabulation-ne-TABULATION_LENGTH c = let t = ne_eqb _ _ c.if-tabulation-ne-TABULATION_LENGTH.true in record {
  numbered = simp t;
  valued = simp t;
}

pub returns-then-not-is_shaped : goal.returns-then-not-is_shaped
unfolding lookup_refusal lookup_values
returns-then-not-is_shaped c =
    let t = eq-eqb _ _ c.if-tabulation-ne-TABULATION_LENGTH.false in
    let u = sym c.is_shaped.ensures ∙ c.if-not-is_shaped.true in
    record {
      numbered = simp (t, u);
      valued = simp (t, u);
    }

pub returns-then-is_blank : goal.returns-then-is_blank
unfolding lookup_refusal lookup_values
returns-then-is_blank c =
    let t = eq-eqb _ _ c.if-tabulation-ne-TABULATION_LENGTH.false in
    let u = sym c.is_shaped.ensures ∙ c.if-not-is_shaped.false in
    let v = sym c.is_blank.ensures ∙ c.if-is_blank.true in
    record {
      numbered = simp (t, u, v);
      valued = simp (t, u, v);
    }

pub found_within-requires : goal.found_within-requires
found_within-requires c =
    (search rules, shape _ (sym c.is_shaped.ensures ∙ c.if-not-is_shaped.false))

pub returns : goal.returns
unfolding lookup_refusal lookup_values
returns c =
    let t = eq-eqb _ _ c.if-tabulation-ne-TABULATION_LENGTH.false in
    let u = sym c.is_shaped.ensures ∙ c.if-not-is_shaped.false in
    let v = sym c.is_blank.ensures ∙ c.if-is_blank.false in
    record {
      numbered = sym (simp (t, u, v));
      valued = c.found_within.ensures ∙ sym (simp (t, u, v));
    }
