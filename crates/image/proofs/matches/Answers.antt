-- `image::matches` meets its contract: the counts of the heading, then the slots, then the stash.
use mathlib.Core.Path.{◌≡◌, sym, ◌∙◌, ap}
use mathlib.Core.Bool.{true}
use native.Mathlib.Omega.{arith}
use borrow.Author.Tests.{eq-eqb, ne_eqb}
use borrow.Author.Rules.{rules}
use lib.Dec.{eqb}
use Rattle.layout.specs.Layout.{stash_at, slots_of, key_count, stash_count}
use Rattle.layout.proofs.Shape.{same_header}
use Rattle.image.specs.Ranks.{held_length, slot_ranks, place_ranks}
use Rattle.image.proofs.matches.Goals as goal

pub returns-then-wide-count : goal.returns-then-wide-count
returns-then-wide-count c =
    let h = same_header c.read_header-header.ensures in
    elim c.then-wide-count.branch [
      | goal.then-wide-count-via-then-wide-count w ↦ let e = c.wide.ensures ∙ h.keys in
          rw (ne_eqb (key_count c.args.words.now) c.args.count (λ q. w.if-wide-count.true (e ∙ q)))
      | goal.then-wide-count-via-else-wide-count+then-header-stashed w ↦ let e = eq-eqb _ _ (sym (c.wide.ensures ∙ h.keys) ∙ w.if-wide-count.false) in
          rw (e, ne_eqb (stash_count c.args.words.now) c.args.stashed (λ q. w.if-header-stashed.true (h.stashed ∙ q)))
    ]

pub stash_start-start-requires : goal.stash_start-start-requires
stash_start-start-requires c = let h = same_header c.read_header-header.ensures in search rules

pub slice_bounds-same_slots-end : goal.slice_bounds-same_slots-end
slice_bounds-same_slots-end c =
    let sized : c.wide-r.result ≡ slots_of c.args.words.now = c.wide-r.ensures ∙ (same_header c.read_header-header.ensures).slots in
    sym (held_length c.requires.1 c.wide-r.result (sized))

pub same_slots-requires : goal.same_slots-requires
same_slots-requires c =
    let sized : c.wide-r.result ≡ slots_of c.args.words.now = c.wide-r.ensures ∙ (same_header c.read_header-header.ensures).slots in
    let p = c.requires in
    slot_ranks p.1 c.wide-r.result (sized) _ (omega (arith, p.0.0.size))

pub returns-else-same_slots : goal.returns-else-same_slots
returns-else-same_slots c =
    let sized : c.wide-r.result ≡ slots_of c.args.words.now = c.wide-r.ensures ∙ (same_header c.read_header-header.ensures).slots in
    let keys-equal : let a = c.args in eqb (key_count a.words.now) a.count ≡ true = let h = same_header c.read_header-header.ensures in eq-eqb _ _ (sym (c.wide.ensures ∙ h.keys) ∙ c.if-wide-count.false) in
    let counts-equal : let a = c.args in eqb (stash_count a.words.now) a.stashed ≡ true = eq-eqb _ _ (sym (same_header c.read_header-header.ensures).stashed ∙ c.if-header-stashed.false) in
    rw (keys-equal, counts-equal, sym (rw (sized) at c.same_slots.ensures) ∙ c.if-same_slots.false) c.if-same_slots.false

pub same_places-requires : goal.same_places-requires
same_places-requires c =
    let sized : c.wide-r.result ≡ slots_of c.args.words.now = c.wide-r.ensures ∙ (same_header c.read_header-header.ensures).slots in
    let p = c.requires in
    place_ranks p.1 c.wide-r.result (sized) _ _
    (omega (arith, p.0.0.size, p.0.1, c.stash_start-start.ensures, (same_header c.read_header-header.ensures).slots))

pub returns-then-same_slots : goal.returns-then-same_slots
returns-then-same_slots c =
    let sized : c.wide-r.result ≡ slots_of c.args.words.now = c.wide-r.ensures ∙ (same_header c.read_header-header.ensures).slots in
    let keys-equal : let a = c.args in eqb (key_count a.words.now) a.count ≡ true = let h = same_header c.read_header-header.ensures in eq-eqb _ _ (sym (c.wide.ensures ∙ h.keys) ∙ c.if-wide-count.false) in
    let counts-equal : let a = c.args in eqb (stash_count a.words.now) a.stashed ≡ true = eq-eqb _ _ (sym (same_header c.read_header-header.ensures).stashed ∙ c.if-header-stashed.false) in
    let at = c.stash_start-start.ensures ∙ ap stash_at (same_header c.read_header-header.ensures).slots in
    rw (keys-equal, counts-equal, sym (rw (sized) at c.same_slots.ensures) ∙ c.if-same_slots.true)
    (rw (at, sized) at c.same_places.ensures)
