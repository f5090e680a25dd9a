-- `noting::note_rank` meets its contract: the tests are those of the definition.
use native.Mathlib.Omega.{arith}
use Prim.Native.Nat.{ℕ, ◌+◌, ◌-◌, ◌*◌, ◌≤◌}
use mathlib.Core.Path.{◌≡◌, refl, ◌∙◌}
use native.Mathlib.Numerals.{add-one}
use lib.ListN.{get_or, set}
use Rattle.build.specs.Scratch.{Parts, parts, with_stash, with_sets, with_next}
use Rattle.build.proofs.Access.{parts_fit}
use Rattle.build.specs.Notes.{pair_base, note_at, stash_rank}
use Rattle.build.specs.NotesCode.{noting_in, with_noting}
use Rattle.build.proofs.NotesCode.{rank_on, rank_first, rank_later, rank_full}
use Rattle.noting.proofs.note_rank.Goals as goal

-- the words of a note and a rank written, and those of a stash place and a rank
first : (P : Parts) {Q R : Parts} (label rank noted count : ℕ) → Q ≡ with_sets P (set P.sets label (noted + pair_base * rank)) → R ≡ with_next Q (set Q.next rank label) → noted ≡ get_or P.sets label 0 → R ≡ with_noting P (note_at label rank (noting_in P count))
first P label rank noted count e f n = f ∙ rw (e, n) refl

later : (P : Parts) {Q R : Parts} (m rank count : ℕ) → Q ≡ with_stash P (set P.stash count rank) → R ≡ with_next Q (set Q.next rank m) → R ≡ with_noting P (stash_rank m rank (noting_in P count))
later P m rank count e f = f ∙ rw e refl

-- the word of a rank that closes a cycle is 2r and its label
label_of : {m w x : ℕ} → w ≡ x → m ≤ w → x ≡ m + (w - m)
label_of e l = omega arith

pub returns-then-mark-m : goal.returns-then-mark-m
returns-then-mark-m c =
    let a = c.args in
    let e = rank_on a.r a.rank a.count (parts a.r a.s a.n a.scratch.now) (rw c.word-mark.ensures at c.if-mark-m.true) in
    record { noted = rw e; counted = rw e }

pub returns-then-noted-lt-PAIR_BASE : goal.returns-then-noted-lt-PAIR_BASE
returns-then-noted-lt-PAIR_BASE c =
    let a = c.args in
    let P = parts a.r a.s a.n a.scratch.now in
    let f = rank_first a.r a.rank a.count P _ (label_of c.word-mark.ensures c.if-mark-m.false) (rw c.note-noted.ensures at c.if-noted-lt-PAIR_BASE.true) in
    record {
      noted = first P _ _ _ a.count c.put_note.ensures c.put_word.ensures c.note-noted.ensures ∙ rw f;
      counted = rw f;
    }

pub returns-then-s-count : goal.returns-then-s-count
returns-then-s-count c =
    let a = c.args in
    let f = rank_full a.r a.rank a.count (parts a.r a.s a.n a.scratch.now) _ (label_of c.word-mark.ensures c.if-mark-m.false)
    (rw c.note-noted.ensures at c.if-noted-lt-PAIR_BASE.false) (omega (arith, c.if-s-count.true, (parts_fit c.requires.0).stash_size)) in
    record { noted = rw f; counted = rw f }

pub returns : goal.returns
returns c =
    let a = c.args in
    let P = parts a.r a.s a.n a.scratch.now in
    let f = rank_later a.r a.rank a.count P _ (label_of c.word-mark.ensures c.if-mark-m.false)
    (rw c.note-noted.ensures at c.if-noted-lt-PAIR_BASE.false) (omega (arith, c.if-s-count.false, (parts_fit c.requires.0).stash_size)) in
    record {
      noted = later P _ _ _ c.put_stashed.ensures c.put_word-2.ensures ∙ rw f;
      counted = rw (f, add-one);
    }
