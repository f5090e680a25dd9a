-- `salvage::issue_at` meets its contract: its slot in table 0, else that in table 1, else the first place.
use mathlib.Core.Path.{◌≡◌, sym, ◌∙◌, ap}
use mathlib.Core.List.{List, ◌∷◌}
use Rattle.layout.specs.Entries.{Entry}
use Rattle.layout.specs.Layout.{stash_at, slot_entry, stash_entries}
use Rattle.layout.proofs.Shape.{same_header}
use Rattle.layout.proofs.Standing.{stash_lent}
use Rattle.survivors.specs.Looked.{sound_issue}
use Rattle.salvage.specs.Issue.{slot_here, slot_further}
use borrow.Author.Rules.{rules}
use Rattle.salvage.proofs.issue_at.Goals as goal

pub returns-then-is_issue : goal.returns-then-is_issue
returns-then-is_issue c =
    let a = c.args in
    slot_here a.words.now a.first a.key
    (slot_entry a.words.now a.second ∷ stash_entries a.words.now)
    c.key_in-c.ensures c.slot_tier-t.ensures c.first_part-part.ensures c.is_issue.ensures
    c.if-is_issue.true

pub returns-then-is_issue-2 : goal.returns-then-is_issue-2
returns-then-is_issue-2 c =
    let a = c.args in
    let ws = a.words.now in
    let rest = slot_entry ws a.second ∷ stash_entries ws in
    let missed : sound_issue (slot_entry ws a.first ∷ rest) a.key ≡ sound_issue rest a.key =
    slot_further ws a.first a.key rest c.key_in-c.ensures c.slot_tier-t.ensures c.first_part-part.ensures
    c.is_issue.ensures c.if-is_issue.false in
    slot_here ws a.second a.key (stash_entries ws) c.key_in-d.ensures
    c.slot_tier-u.ensures c.first_part-part.ensures c.is_issue-2.ensures c.if-is_issue-2.true
    ∙ sym missed

pub stash_start-start-requires : goal.stash_start-start-requires
stash_start-start-requires c = let h = same_header c.read_header-header.ensures in search rules

pub issue_in_places-requires : goal.issue_in_places-requires
issue_in_places-requires c = let h = same_header c.read_header-header.ensures in search rules

pub returns : goal.returns
returns c =
    let a = c.args in
    let ws = a.words.now in
    let rest = slot_entry ws a.second ∷ stash_entries ws in
    let missed : sound_issue (slot_entry ws a.first ∷ rest) a.key ≡ sound_issue rest a.key =
    slot_further ws a.first a.key rest c.key_in-c.ensures c.slot_tier-t.ensures c.first_part-part.ensures
    c.is_issue.ensures c.if-is_issue.false in
    let h = same_header c.read_header-header.ensures in
    let p = stash_lent ws (c.stash_start-start.ensures ∙ ap stash_at h.slots)
    (c.wide-count.ensures ∙ h.places) in
    c.issue_in_places.ensures ∙ ap (λ (L : List Entry). sound_issue L a.key) p
    ∙ sym (missed ∙ slot_further ws a.second a.key (stash_entries ws)
    c.key_in-d.ensures c.slot_tier-u.ensures c.first_part-part.ensures
    c.is_issue-2.ensures c.if-is_issue-2.false)
