use Rattle.std.proofs.Common.{sym, ◌∙◌}
use Rattle.reg_account.proofs.Figures.{surrendered_of_none}
use Rattle.reg_account.proofs.figure.surrendered_for_year.Goals as goal

pub returns-in-None-clause-value : goal.returns-in-None-clause-value
returns-in-None-clause-value c =
    sym (surrendered_of_none c.args.rules.now c.args.account.now c.args.year (sym c.period_of.ensures.value
    ∙ c.in-None.is))
