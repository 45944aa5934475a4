use Rattle.std.proofs.Common.{◌∙◌}
use Rattle.reg_rules.proofs.ByIndex.{first-done, all-done}
use Rattle.reg_rules.proofs.step.apply.Goals as goal

pub give_shares-requires : goal.give_shares-requires
give_shares-requires c =
    let a = c.args in
    first-done a.setting.now a.number a.act.now a.movement.now a.accounts.now a.indexes.now c.in-Some.first.now
    c.in-Some.receivers.now c.index-accounts-first.result c.requires.movement c.requires.once c.requires.there
    c.requires.apart c.requires.can c.in-Some.ensures.cases.0 c.as_slice.result.now c.change_first.new.account
    c.as_slice.ensures.value c.in_ok-change_first-in-Some.ensures.ok

pub returns-in_ok-change_first-in-Some-clause-ok : goal.returns-in_ok-change_first-in-Some-clause-ok
returns-in_ok-change_first-in-Some-clause-ok c =
    let a = c.args in
    c.give_shares.ensures
    ∙ all-done a.setting.now a.number a.act.now a.movement.now a.accounts.now a.indexes.now c.in-Some.first.now
    c.in-Some.receivers.now c.index-accounts-first.result c.requires.movement c.requires.once c.requires.there
    c.requires.apart c.requires.can c.in-Some.ensures.cases.0 c.as_slice.result.now c.change_first.new.account
    c.as_slice.ensures.value c.in_ok-change_first-in-Some.ensures.ok
