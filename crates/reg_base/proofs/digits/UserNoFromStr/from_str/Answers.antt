use Rattle.std.proofs.Common.{sym, ap, ◌∙◌, ℕ, arith}
use Rattle.reg_base.specs.declared.limits.TheConstants.{MOST_NUMBER}
use Rattle.reg_base.specs.Digits.{number_read}
use Rattle.reg_base.proofs.Spelled.{made}
use Rattle.reg_base.proofs.digits.UserNoFromStr.from_str.Goals as goal

pub returns : goal.returns
returns c =
    let high = ap (λ (n : ℕ). number_read 1 n c.args.text.now) (sym c.from.ensures) in
    let read = high ∙ sym c.in_ok-number.ensures in
    rw c.ok_or.ensures.value (made 1 MOST_NUMBER c.args.text.now c.in_ok-number.number c.new.result _ (omega arith)
    (omega arith) read c.new.ensures.valid.1 c.new.ensures.value)
