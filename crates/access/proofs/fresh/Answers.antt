-- `access::fresh` meets its contract: the test is the definition's, and a heading of no keys before zeros makes fresh
-- words.
use mathlib.Core.Path.{◌≡◌, sym, ◌∙◌}
use mathlib.Core.Bool.{true, ◌&&◌}
use native.Mathlib.Omega.{arith}
use borrow.Author.Tests.{not-true, not-false}
use lib.Dec.{eqb}
use lib.ListN.{length, length-replicate}
use Prim.Native.Nat.{◌≤◌}
use Rattle.layout.specs.Layout.{header_length, params_in_range, words_length}
use Rattle.layout.proofs.Fresh.{target_sizes, fresh_refused, fresh_accepted}
use borrow.Author.Rules.{rules}
use Rattle.access.proofs.fresh.Goals as goal

pub returns-then-not-is_target : goal.returns-then-not-is_target
returns-then-not-is_target c = let all = fresh_refused _ _ _ _ (sym c.is_target.ensures ∙ c.if-not-is_target.true) in record { numbered = all.0; laid = all.1 }

pub write_header-requires : goal.write_header-requires
write_header-requires c =
    let zeros-long : header_length ≤ length c.fill.new.words = let target : let a = c.args in (params_in_range a.r a.s a.station && eqb (length a.words.now) (words_length a.r a.s)) ≡ true = sym c.is_target.ensures ∙ c.if-not-is_target.false in
    rw (c.fill.ensures, length-replicate) (omega (arith, (target_sizes _ _ _ _ (target)).1)) in
    zeros-long

pub returns : goal.returns
returns c =
    let target : let a = c.args in (params_in_range a.r a.s a.station && eqb (length a.words.now) (words_length a.r a.s)) ≡ true = sym c.is_target.ensures ∙ c.if-not-is_target.false in
    let a = c.args in
    let s = fresh_accepted a.words.now a.r a.s a.station (target) in
    record {
      numbered = s.0;
      laid = c.write_header.ensures ∙ (rw (c.fresh_header.ensures, c.fill.ensures) s.1);
    }
