-- `pinorange::pinorange_house` meets its contract: a tabulation of another length is refused, another gets the table's entries.
use Rattle.std.proofs.Common.{◌≡◌, ◌<◌, sym, ◌∙◌, refl, arith, add-one, length, take, get_or, length-set, take-suc-set, take-suc}
use lib.Seq.{take_all}
use Rattle.house.proofs.Rule.{house, house_is}
use Rattle.pinorange.specs.House.{house_refused, house_accepted}
use Rattle.pinorange.proofs.pinorange_house.Goals as goal

pub returns-then-tabulation-ne-TABULATION_LENGTH : goal.returns-then-tabulation-ne-TABULATION_LENGTH
returns-then-tabulation-ne-TABULATION_LENGTH c =
    let e = house_refused _ c.if-tabulation-ne-TABULATION_LENGTH.true in
    record { answered = c.into.ensures ∙ sym e.0; filled = sym e.1 }

pub loop-i-init : goal.loop-i-init
loop-i-init c = (omega arith, (house _ c.house_tabulation-table.ensures).long, refl)

pub loop-i-preserved : goal.loop-i-preserved
loop-i-preserved c =
    let l = c.loop-i in
    let t = c.house_tabulation-table.result in
    let a : l.i < length l.tabulation = omega arith in
    let b : l.i < length t = omega arith in (
      simp length-set l.invariant.0,
      l.invariant.1,
      rw (add-one, take-suc-set l.tabulation l.i (get_or t l.i 0), take-suc t l.i 0, l.invariant.2),
    )

pub returns : goal.returns
returns c =
    let l = c.loop-i in
    let t = c.house_tabulation-table.result in
    let i : l.i ≡ 2560 = omega arith in
    let e : l.tabulation ≡ t =
    sym (take_all 2560 l.tabulation (omega arith)) ∙ (rw i at l.invariant.2) ∙ take_all 2560 t (omega arith) in
    let f = house_accepted _ c.if-tabulation-ne-TABULATION_LENGTH.false in
    record { answered = sym f.0; filled = e ∙ house_is t c.house_tabulation-table.ensures ∙ sym f.1 }
