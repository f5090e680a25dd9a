-- `lookup::stash` meets its contract: a view that is not refused lies inside the words.
use Rattle.std.proofs.Common.{◌≡◌, sym, ◌∙◌, ap, arith, eq-eqb, ne_eqb}
use native.Mathlib.Nat.{add-sub_cancel_left}
use Rattle.refusals.specs.Refusal.{done}
use Rattle.refusals.proofs.Answer.{ok_done, err_refused}
use Rattle.layout.specs.Answers.{view_refusal, view_of}
use Rattle.layout.proofs.Shape.{viewed, same_header}
use Rattle.lookup.proofs.stash.Goals as goal

pub returns-in_default : goal.returns-in_default
unfolding view_of
returns-in_default c = simp (ne_eqb _ done (err_refused c.in_default.is c.stash_refusal.ensures))

pub read_header-header-requires : goal.read_header-header-requires
read_header-header-requires c = omega (arith, viewed _ (ok_done c.in-Ok.is c.stash_refusal.ensures))

pub stash_start-start-requires : goal.stash_start-start-requires
stash_start-start-requires c =
    omega (arith, same_header c.read_header-header.ensures, viewed _ (ok_done c.in-Ok.is c.stash_refusal.ensures))

pub slice_bounds-result-end-2 : goal.slice_bounds-result-end-2
slice_bounds-result-end-2 c =
    let h = same_header c.read_header-header.ensures in
    omega (arith, h.slots, h.stashed, c.stash_start-start.ensures, c.wide.ensures, viewed _ (ok_done c.in-Ok.is c.stash_refusal.ensures))

pub returns : goal.returns
unfolding view_of
returns c =
    let h = same_header c.read_header-header.ensures in
    simp (
      eq-eqb _ done (ok_done c.in-Ok.is c.stash_refusal.ensures),
      add-sub_cancel_left,
      c.stash_start-start.ensures,
      c.wide.ensures,
      h.slots,
      h.stashed,
    )
