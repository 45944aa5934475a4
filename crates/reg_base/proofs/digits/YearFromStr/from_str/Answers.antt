use Rattle.std.proofs.Common.{sym, ap, ◌∙◌, ℕ, arith}
use Rattle.reg_base.specs.declared.limits.TheConstants.{FIRST_YEAR, LAST_YEAR}
use Rattle.reg_base.specs.Digits.{number_read}
use Rattle.reg_base.proofs.Spelled.{made}
use Rattle.reg_base.proofs.digits.YearFromStr.from_str.Goals as goal

pub returns : goal.returns
returns c =
    let text = c.args.text.now in
    let low = ap (λ (n : ℕ). number_read n LAST_YEAR text) (sym c.from.ensures) in
    let high = ap (λ (n : ℕ). number_read c.from.result n text) (sym c.from-2.ensures) in
    let read = low ∙ high ∙ sym c.in_ok-number.ensures in
    rw c.ok_or.ensures.value (made FIRST_YEAR LAST_YEAR text c.in_ok-number.number c.new.result _ (omega arith)
    (omega arith) read c.new.ensures.valid.1 c.new.ensures.value)
