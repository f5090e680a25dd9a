-- `lookup::tier_at` meets its contract: one of the two slots has the key, or it is looked for in the stash.
use borrow.Author.Rules.{rules}
use Rattle.lookup.specs.Found.{tier_chosen, tier_passed}
use Rattle.std.proofs.Common.{ℕ, ◌≡◌, ◌∙◌, refl, get_or, Option, Some, None}
use Rattle.std.specs.Option.{unwrap_or}
use Rattle.layout.specs.Answers.{found}
use Rattle.lookup.proofs.tier_at.Goals as goal

unwrapped : (f : Option ℕ) → unwrap_or f 0 ≡ get_or (found f) 1 0
unwrapped (Some tier) = refl
unwrapped None = refl

pub returns-then-in_first-in_second : goal.returns-then-in_first-in_second
returns-then-in_first-in_second c =
    let a = c.args in
    tier_chosen a.words.now a.first a.second a.key c.in_slot-in_first.ensures c.in_slot-in_second.ensures c.if-in_first-in_second.true
    c.slot_tier-tier_first.ensures c.slot_tier-tier_second.ensures c.chosen.ensures

pub returns : goal.returns
returns c =
    let a = c.args in
    tier_passed a.words.now a.first a.second a.key c.in_slot-in_first.ensures c.in_slot-in_second.ensures c.if-in_first-in_second.false
    c.in_stash.ensures (c.unwrap_or.ensures ∙ unwrapped c.in_stash.result)
