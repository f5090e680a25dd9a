-- `trail::trace_listed` meets its contract: the key is blank, or not in the set, or its trail is looked for.
use mathlib.Core.Path.{◌≡◌, sym, ◌∙◌}
use mathlib.Core.Bool.{false}
use borrow.Author.Tests.{not-true, not-false}
use Rattle.hashing.specs.Hash.{blank}
use Rattle.gateway.specs.LoadedSet.{loaded_searchable, loaded_listed}
use Rattle.trail.specs.Traced.{loaded_traceable, told_blank, told_absent, told_listed}
use borrow.Author.Rules.{rules}
use Rattle.trail.proofs.trace_listed.Goals as goal

pub returns-then-is_blank : goal.returns-then-is_blank
returns-then-is_blank c = told_blank _ _ _ _ (sym c.is_blank.ensures ∙ c.if-is_blank.true)

pub place_of-at-requires : goal.place_of-at-requires
place_of-at-requires c = loaded_searchable c.requires.0 c.requires.1 c.wide-n.ensures

pub is_at-requires : goal.is_at-requires
is_at-requires c =
    (loaded_searchable c.requires.0 c.requires.1 c.wide-n.ensures, c.place_of-at.ensures)

pub returns-then-not-is_at : goal.returns-then-not-is_at
returns-then-not-is_at c =
    let some_key : blank c.args.key ≡ false = sym c.is_blank.ensures ∙ c.if-is_blank.false in
    told_absent _ _ _ _ (some_key)
    (sym (loaded_listed c.requires.0 c.requires.1 c.wide-n.ensures _ c.is_at.ensures)
    ∙ c.if-not-is_at.true)

pub trace-requires : goal.trace-requires
trace-requires c =
    let some_key : blank c.args.key ≡ false = sym c.is_blank.ensures ∙ c.if-is_blank.false in
    loaded_traceable c.requires.0
    c.requires.1 (some_key)

pub returns : goal.returns
returns c =
    let some_key : blank c.args.key ≡ false = sym c.is_blank.ensures ∙ c.if-is_blank.false in
    told_listed _ _ _ _ (some_key)
    (sym (loaded_listed c.requires.0 c.requires.1 c.wide-n.ensures _ c.is_at.ensures)
    ∙ c.if-not-is_at.false) c.trace.ensures
