-- `dictionary::change_set` meets its contract: 5, or what the set decides.
use mathlib.Core.Path.{◌≡◌, sym, ◌∙◌}
use Rattle.outcome.specs.declared.Change.TheVariants.{Insert, Remove}
use Rattle.dictionary.specs.Core.{Settable, after_blank, after_set}
use borrow.Author.Rules.{rules}
use Rattle.dictionary.proofs.change_set.Goals as goal

pub returns-then-is_blank : goal.returns-then-is_blank
returns-then-is_blank c =
    let a = c.args in
    after_blank a.tabulation.now a.words.now a.kind a.key c.is_blank.ensures c.if-is_blank.true

pub insert_key-requires : goal.insert_key-requires
insert_key-requires c =
    let set : let a = c.args in Settable a.tabulation.now a.words.now a.scratch.now a.heading c.wide-n.result a.key = let p = c.requires in
    record {
      loaded = p.0;
      heading = p.1;
      count = c.wide-n.ensures;
      not_blank = sym c.is_blank.ensures ∙ c.if-is_blank.false;
    } in
    set

pub remove_key-requires : goal.remove_key-requires
remove_key-requires c =
    let set : let a = c.args in Settable a.tabulation.now a.words.now a.scratch.now a.heading c.wide-n.result a.key = let p = c.requires in
    record {
      loaded = p.0;
      heading = p.1;
      count = c.wide-n.ensures;
      not_blank = sym c.is_blank.ensures ∙ c.if-is_blank.false;
    } in
    set

pub returns-in-Insert : goal.returns-in-Insert
returns-in-Insert c =
    let set : let a = c.args in Settable a.tabulation.now a.words.now a.scratch.now a.heading c.wide-n.result a.key = let p = c.requires in
    record {
      loaded = p.0;
      heading = p.1;
      count = c.wide-n.ensures;
      not_blank = sym c.is_blank.ensures ∙ c.if-is_blank.false;
    } in
    let a = c.args in
    rw c.in-Insert.is
    (after_set a.tabulation.now a.words.now (Insert c.in-Insert.tier) a.key (set).not_blank
    c.insert_key.ensures)

pub returns-in-Remove : goal.returns-in-Remove
returns-in-Remove c =
    let set : let a = c.args in Settable a.tabulation.now a.words.now a.scratch.now a.heading c.wide-n.result a.key = let p = c.requires in
    record {
      loaded = p.0;
      heading = p.1;
      count = c.wide-n.ensures;
      not_blank = sym c.is_blank.ensures ∙ c.if-is_blank.false;
    } in
    let a = c.args in
    rw c.in-Remove.is
    (after_set a.tabulation.now a.words.now Remove a.key (set).not_blank c.remove_key.ensures)
