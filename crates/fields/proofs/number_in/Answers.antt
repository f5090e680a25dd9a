use Rattle.std.proofs.Common.{◌≡◌, sym, ◌∙◌, ◌+◌, ◌*◌, ◌-◌, get_or, arith, inl, inr}
use Rattle.grammar.proofs.NumberLaws.{number_read, number_bad, read_low, read_high, read_over, read_step, read_done}
use Rattle.fields.proofs.number_in.Goals as goal

pub returns-then-not-starts_well : goal.returns-then-not-starts_well
returns-then-not-starts_well c = sym (number_bad _ (sym c.starts_well.ensures ∙ c.if-not-starts_well.true))

pub loop-b-init : goal.loop-b-init
loop-b-init c = number_read _ (sym c.starts_well.ensures ∙ c.if-not-starts_well.false)

pub returns-then-not-is_ascii_digit : goal.returns-then-not-is_ascii_digit
returns-then-not-is_ascii_digit c =
    let l = c.loop-b in
    elim (rw c.if-not-is_ascii_digit.true at c.is_ascii_digit.ensures.cases) [
      | inl h ↦ sym (l.invariant ∙ read_low _ l.b-index l.n (omega arith) (omega arith))
      | inr h ↦ sym (l.invariant ∙ read_high _ l.b-index l.n (omega arith) (omega arith) (omega arith))
    ]

pub returns-in_err-tens : goal.returns-in_err-tens
returns-in_err-tens c =
    let l = c.loop-b in
    let (d, e) = rw c.if-not-is_ascii_digit.false at c.is_ascii_digit.ensures.cases in
    let o = rw c.in_err-tens.was at c.checked_mul.ensures in
    c.from_residual.ensures ∙ sym (l.invariant ∙ read_over _ l.b-index l.n (omega arith) (omega arith) (omega arith) (omega arith))

pub returns-in_err-n : goal.returns-in_err-n
returns-in_err-n c =
    let l = c.loop-b in
    let (d, e) = rw c.if-not-is_ascii_digit.false at c.is_ascii_digit.ensures.cases in
    let m = rw c.in_ok-tens.was at c.checked_mul.ensures in
    let o = rw c.in_err-n.was at c.checked_add.ensures in
    c.from_residual-in_err-n.ensures ∙ sym (l.invariant ∙ read_over _ l.b-index l.n (omega arith) (omega arith) (omega arith) (omega arith))

pub loop-b-preserved : goal.loop-b-preserved
loop-b-preserved c =
    let l = c.loop-b in
    let (d, e) = rw c.if-not-is_ascii_digit.false at c.is_ascii_digit.ensures.cases in
    let m = rw c.in_ok-tens.was at c.checked_mul.ensures in
    let o = rw c.in_ok-n.was at c.checked_add.ensures in
    let v : c.in_ok-n.n ≡ 10 * l.n + (get_or c.args.text.now l.b-index 0 - 48) = omega arith in
    rw v (l.invariant ∙ read_step _ l.b-index l.n (omega arith) (omega arith) (omega arith) (omega arith))

pub returns : goal.returns
returns c = let l = c.loop-b in sym (l.invariant ∙ read_done _ l.b-index l.n c.loop-b-test.false)
