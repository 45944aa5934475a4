use Rattle.std.proofs.Common.{◌∙◌, ap, Some}
use Rattle.std.specs.List.{list_all}
use Rattle.reg_account.specs.Account.{trusts}
use Rattle.reg_rules.specs.State.{Setting}
use Rattle.reg_rules.specs.Cases.{figure_asked}
use Rattle.reg_rules.specs.Indexed.{accounts_at}
use Rattle.reg_rules.proofs.Standing.{found-answer}
use Rattle.reg_rules.proofs.found.Found.of.Goals as goal

pub returns-clause-value : goal.returns-clause-value
returns-clause-value c =
    let a = c.args in
    found-answer a.setting.now a.instruction.now a.movement.now a.first.now (accounts_at a.accounts.now a.receivers.now)
    _ _ _ _ _ _
    c.requires.movement c.requires.in_order c.rule_of-rule.ensures
    (c.trusts_each-trusted.ensures
    ∙ ap (λ (s : Setting). list_all (λ w. trusts a.first.now w.number w.holder s.day)
    (accounts_at a.accounts.now a.receivers.now))
    c.setting.view_is)
    c.due_day.ensures c.row_to_reverse.ensures c.effect_day.ensures
    (c.figure_asked.ensures.value
    ∙ ap (λ (s : Setting). figure_asked s.rules a.movement.now.change (Some a.first.now)) c.setting.view_is)
