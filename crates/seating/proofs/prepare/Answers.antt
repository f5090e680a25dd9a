-- `seating::prepare` meets its contract: the passes one after the other.
use Rattle.build.specs.Scratch.{parts}
use Rattle.build.proofs.Access.{enough_kept, parts_fit}
use Rattle.build.proofs.Whole.{enough, ranks_small, linked_able, linked_marks, smallest_labelled, after_four}
use borrow.Author.Rules.{rules}
use Rattle.seating.proofs.prepare.Goals as goal

pub label_ranks-requires : goal.label_ranks-requires
label_ranks-requires c =
    let P = parts c.args.r c.args.s c.args.n c.args.scratch.now in
    let B = c.requires in
    let e = c.link_ranks.ensures in (
      enough_kept (enough B) c.link_ranks.auto.scratch,
      rw e (linked_able P B.edges (parts_fit (enough B)) (ranks_small B)),
      rw e (linked_marks P B.edges (parts_fit (enough B)) (ranks_small B)),
    )

pub note_closing-requires : goal.note_closing-requires
note_closing-requires c =
    let a = c.args in
    let P = parts a.r a.s a.n a.scratch.now in
    let B = c.requires in
    let smallest = after_four a.r a.s a.n P c.note_smallest.ensures c.clear_notes.ensures c.label_ranks.ensures c.link_ranks.ensures in
    (enough_kept (enough B) (search rules), rw smallest (smallest_labelled P B.edges (parts_fit (enough B)) (ranks_small B)))
