-- `pinorange::pinorange_stash` meets its contract: a view that is not refused has a small offset.
use Prim.Native.Nat.{ℕ, ◌*◌}
use mathlib.Core.Path.{◌≡◌, sym, ◌∙◌, ap}
use native.Mathlib.Omega.{arith}
use borrow.Author.Tests.{eq-eqb, ne_eqb}
use Rattle.refusals.specs.Refusal.{done}
use Rattle.refusals.proofs.Answer.{ok_done, err_refused}
use Rattle.layout.specs.Layout.{stash_at, stash_count, place_width}
use Rattle.layout.specs.Answers.{view_refusal}
use Rattle.layout.proofs.Shape.{viewed, same_header}
use Rattle.pinorange.specs.Out.{offset_out, length_out}
use borrow.Author.Rules.{rules}
use Rattle.pinorange.proofs.pinorange_stash.Goals as goal

pub returns-in-Err : goal.returns-in-Err
unfolding offset_out length_out
returns-in-Err c =
    let t = ne_eqb _ done (err_refused c.in-Err.is c.stash_refusal.ensures) in
    record { numbered = c.into.ensures ∙ c.in-Err.ensures; placed = simp t; measured = simp t }

pub read_header-header-requires : goal.read_header-header-requires
read_header-header-requires c =
    let accepted : view_refusal c.args.words.now ≡ 0 = ok_done c.in-Ok.is c.stash_refusal.ensures in
    omega (arith, viewed _ (accepted))

pub stash_start-requires : goal.stash_start-requires
stash_start-requires c =
    let accepted : view_refusal c.args.words.now ≡ 0 = ok_done c.in-Ok.is c.stash_refusal.ensures in
    omega (arith, same_header c.read_header-header.ensures, viewed _ (accepted))

pub overflow_cast-offset : goal.overflow_cast-offset
overflow_cast-offset c =
    let accepted : view_refusal c.args.words.now ≡ 0 = ok_done c.in-Ok.is c.stash_refusal.ensures in
    omega (arith, c.stash_start.ensures, same_header c.read_header-header.ensures, viewed _ (accepted))

pub overflow_mul-len : goal.overflow_mul-len
overflow_mul-len c =
    let filled : c.wide.result ≡ stash_count c.args.words.now = c.wide.ensures ∙ (same_header c.read_header-header.ensures).stashed in
    let accepted : view_refusal c.args.words.now ≡ 0 = ok_done c.in-Ok.is c.stash_refusal.ensures in
    omega (arith, filled, viewed _ (accepted))

pub overflow_cast-len : goal.overflow_cast-len
overflow_cast-len c =
    let filled : c.wide.result ≡ stash_count c.args.words.now = c.wide.ensures ∙ (same_header c.read_header-header.ensures).stashed in
    let accepted : view_refusal c.args.words.now ≡ 0 = ok_done c.in-Ok.is c.stash_refusal.ensures in
    omega (arith, filled, viewed _ (accepted))

pub returns-in-Ok : goal.returns-in-Ok
unfolding offset_out length_out
returns-in-Ok c =
    let filled : c.wide.result ≡ stash_count c.args.words.now = c.wide.ensures ∙ (same_header c.read_header-header.ensures).stashed in
    let accepted : view_refusal c.args.words.now ≡ 0 = ok_done c.in-Ok.is c.stash_refusal.ensures in
    let n = accepted in
    let h = same_header c.read_header-header.ensures in
    let t = eq-eqb _ 0 n in
    record {
      numbered = sym n;
      placed = simp t (c.stash_start.ensures ∙ ap stash_at h.slots);
      measured = simp t (ap (λ (k : ℕ). place_width * k) filled);
    }
