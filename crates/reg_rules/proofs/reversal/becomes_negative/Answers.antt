use Rattle.reg_rules.proofs.Reversals.{becomes-answer}
use Rattle.reg_rules.proofs.reversal.becomes_negative.Goals as goal

pub returns : goal.returns
returns c =
    becomes-answer c.figure_laws.ensures c.args.rules.now c.args.account.now c.args._number c.args.year
    c.is_within_limits.ensures
    c.args.row c.figure.result c.counted_amount-lost.result c.falls_below_zero.result c.requires c.figure.ensures.value
    c.counted_amount-lost.ensures c.falls_below_zero.ensures
