-- `lookup::lookup` meets its contract: each `return` is the first refusal whose test holds, or where the key is found.
use mathlib.Core.Path.{◌≡◌, sym, ◌∙◌, ap}
use mathlib.Core.Bool.{true}
use mathlib.Core.Logic.{inl, inr}
use native.Mathlib.Omega.{arith}
use denote.Enum.Declared.{tag_of}
use borrow.Author.Tests.{eq-eqb, ne_eqb, not-true, not-false}
use Rattle.layout.specs.Layout.{shaped}
use Rattle.layout.proofs.Shape.{shape}
use Rattle.layout.specs.Answers.{lookup_refusal, lookup_values}
use Rattle.lookup.specs.Found.{slots_listed, slots_absent}
use borrow.Author.Rules.{rules}
use Rattle.lookup.proofs.lookup.Goals as goal

pub returns-then-tabulation-ne-TABULATION_LENGTH : goal.returns-then-tabulation-ne-TABULATION_LENGTH
unfolding lookup_refusal lookup_values
returns-then-tabulation-ne-TABULATION_LENGTH c = let t = ne_eqb _ _ c.if-tabulation-ne-TABULATION_LENGTH.true in record {
  numbered = simp t;
  valued = simp t;
}

pub returns-then-not-is_shaped : goal.returns-then-not-is_shaped
unfolding lookup_refusal lookup_values
returns-then-not-is_shaped c =
    let t = eq-eqb _ _ c.if-tabulation-ne-TABULATION_LENGTH.false in
    let u = sym c.is_shaped.ensures ∙ c.if-not-is_shaped.true in
    record {
      numbered = simp (t, u);
      valued = simp (t, u);
    }

pub returns-then-is_blank : goal.returns-then-is_blank
unfolding lookup_refusal lookup_values
returns-then-is_blank c =
    let t = eq-eqb _ _ c.if-tabulation-ne-TABULATION_LENGTH.false in
    let u = sym c.is_shaped.ensures ∙ c.if-not-is_shaped.false in
    let v = sym c.is_blank.ensures ∙ c.if-is_blank.true in
    record {
      numbered = simp (t, u, v);
      valued = simp (t, u, v);
    }

pub in_slots-requires : goal.in_slots-requires
in_slots-requires c =
    let formed : shaped c.args.words.now ≡ true = sym c.is_shaped.ensures ∙ c.if-not-is_shaped.false in
    (search rules, shape _ (formed))

pub returns-in-Some : goal.returns-in-Some
unfolding lookup_refusal lookup_values
returns-in-Some c =
    let formed : shaped c.args.words.now ≡ true = sym c.is_shaped.ensures ∙ c.if-not-is_shaped.false in
    let a = c.args in
    let t = eq-eqb _ _ c.if-tabulation-ne-TABULATION_LENGTH.false in
    let v = sym c.is_blank.ensures ∙ c.if-is_blank.false in
    let f = slots_listed a.tabulation.now a.words.now a.key c.in_slots.result c.in_slots.ensures c.in-Some.is in
    record {
      numbered = sym (simp (t, formed, v));
      valued = f ∙ sym (simp (t, formed, v));
    }

pub in_stash-requires : goal.in_stash-requires
in_stash-requires c =
    let formed : shaped c.args.words.now ≡ true = sym c.is_shaped.ensures ∙ c.if-not-is_shaped.false in
    shape _ (formed)

pub returns-in_default-in_stash : goal.returns-in_default-in_stash
unfolding lookup_refusal lookup_values
returns-in_default-in_stash c =
    let formed : shaped c.args.words.now ≡ true = sym c.is_shaped.ensures ∙ c.if-not-is_shaped.false in
    let a = c.args in
    let t = eq-eqb _ _ c.if-tabulation-ne-TABULATION_LENGTH.false in
    let v = sym c.is_blank.ensures ∙ c.if-is_blank.false in
    let f = slots_absent a.tabulation.now a.words.now a.key c.in_slots.result c.in_slots.ensures c.in_default.is in
    record {
      numbered = sym (simp (t, formed, v));
      valued = (rw c.in_default-in_stash.is at c.in_stash.ensures) ∙ f ∙ sym (simp (t, formed, v));
    }

pub returns : goal.returns
unfolding lookup_refusal lookup_values
returns c =
    let formed : shaped c.args.words.now ≡ true = sym c.is_shaped.ensures ∙ c.if-not-is_shaped.false in
    let a = c.args in
    let t = eq-eqb _ _ c.if-tabulation-ne-TABULATION_LENGTH.false in
    let v = sym c.is_blank.ensures ∙ c.if-is_blank.false in
    let f = slots_absent a.tabulation.now a.words.now a.key c.in_slots.result c.in_slots.ensures c.in_default.is in
    record {
      numbered = sym (simp (t, formed, v));
      valued = (rw c.in-Some-in_stash.is at c.in_stash.ensures) ∙ f ∙ sym (simp (t, formed, v));
    }
