use Rattle.std.proofs.Common.{sym, arith}
use Rattle.reg_base.specs.declared.limits.TheConstants.{MOST_RECORD}
use Rattle.reg_base.proofs.Spelled.{made}
use Rattle.reg_base.proofs.digits.RecordNoFromStr.from_str.Goals as goal

pub returns : goal.returns
returns c =
    rw c.ok_or.ensures.value (made 1 MOST_RECORD c.args.text.now c.in_ok-number.number c.new.result _ (omega arith)
    (omega arith) (sym c.in_ok-number.ensures) c.new.ensures.valid.1 c.new.ensures.value)
