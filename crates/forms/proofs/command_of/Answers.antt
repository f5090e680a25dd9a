-- `forms::command_of` meets its contract: the tests of the laws `command_add` and `command_key`.
use Rattle.std.proofs.Common.{◌≡◌, ◌-◌, sym, ◌∙◌, arith, length, take, drop}
use Rattle.basics.proofs.Parts.{to_end}
use Rattle.grammar.specs.Number.{number_of}
use Rattle.grammar.specs.Command.{pair_of}
use Rattle.grammar.proofs.CommandLaws.{command_short, command_none, command_add, command_key, command_lettered}
use Rattle.forms.proofs.command_of.Goals as goal

pub returns-in_default : goal.returns-in_default
returns-in_default c = sym (command_short _ (omega arith))

pub returns-in_default-2 : goal.returns-in_default-2
returns-in_default-2 c = sym (command_none _ (omega arith) (λ e. omega arith))

pub returns-in_err-key-in-65 : goal.returns-in_err-key-in-65
returns-in_err-key-in-65 c =
    let l = c.args.line.now in
    let a : c.pair_of.result ≡ pair_of (take (length l - 2) (drop 2 l)) = c.pair_of.ensures in
    c.from_residual.ensures ∙ sym (command_add l (omega arith) (omega arith) (omega arith) ∙ rw (← rw to_end at a, c.in_err-key-in-65.was))

pub returns-in_ok-key-in-65 : goal.returns-in_ok-key-in-65
returns-in_ok-key-in-65 c =
    let l = c.args.line.now in
    let a : c.pair_of.result ≡ pair_of (take (length l - 2) (drop 2 l)) = c.pair_of.ensures in
    sym (command_add l (omega arith) (omega arith) (omega arith) ∙ rw (← rw to_end at a, c.in_ok-key-in-65.was))

pub returns-in_err-number_in-in-87 : goal.returns-in_err-number_in-in-87
returns-in_err-number_in-in-87 c =
    let l = c.args.line.now in
    let a : c.number_in.result ≡ number_of (take (length l - 2) (drop 2 l)) = c.number_in.ensures in
    c.from_residual-in_err-number_in-in-87.ensures
    ∙ sym (command_key l (omega arith) (omega arith) (λ e. omega arith) ∙ rw (← rw to_end at a, c.in_err-number_in-in-87.was))

pub returns-in_ok-number_in-in-87 : goal.returns-in_ok-number_in-in-87
returns-in_ok-number_in-in-87 c =
    let l = c.args.line.now in
    let a : c.number_in.result ≡ number_of (take (length l - 2) (drop 2 l)) = c.number_in.ensures in
    sym (command_key l (omega arith) (omega arith) (λ e. omega arith) ∙ rw (← rw to_end at a, c.in-87.is, c.in_ok-number_in-in-87.was))

pub returns-in_err-number_in-in-76 : goal.returns-in_err-number_in-in-76
returns-in_err-number_in-in-76 c =
    let l = c.args.line.now in
    let a : c.number_in-in-76.result ≡ number_of (take (length l - 2) (drop 2 l)) = c.number_in-in-76.ensures in
    c.from_residual-in_err-number_in-in-76.ensures
    ∙ sym (command_key l (omega arith) (omega arith) (λ e. omega arith) ∙ rw (← rw to_end at a, c.in_err-number_in-in-76.was))

pub returns-in_ok-number_in-in-76 : goal.returns-in_ok-number_in-in-76
returns-in_ok-number_in-in-76 c =
    let l = c.args.line.now in
    let a : c.number_in-in-76.result ≡ number_of (take (length l - 2) (drop 2 l)) = c.number_in-in-76.ensures in
    sym (command_key l (omega arith) (omega arith) (λ e. omega arith) ∙ rw (← rw to_end at a, c.in-76.is, c.in_ok-number_in-in-76.was))

pub returns-in_default-letter : goal.returns-in_default-letter
returns-in_default-letter c =
    sym (command_lettered _ (omega arith) (omega arith) (λ e. omega arith) (λ e. omega arith) (λ e. omega arith))
