use Rattle.std.proofs.Common.{ap, sym, subst, refl, ◌∙◌, ◌++◌, eqb, List, map}
use Rattle.std.specs.List.{IsDistinct}
use Rattle.reg_base.specs.declared.movement.Movement.{Movement}
use Rattle.reg_rules.specs.declared.reply.HeldNow.{HeldNow}
use Rattle.reg_rules.specs.State.{numbers}
use Rattle.reg_rules.specs.Indexed.{StandAt, accounts_at}
use Rattle.reg_rules.specs.Step.{holdings_of, figure_made}
use Rattle.reg_rules.proofs.Applied.{footprint-passed}
use Rattle.reg_rules.proofs.StepAt.{own-at, refused-at, unchanged-at, can-at, step-at}
use Rattle.reg_rules.proofs.step.execute_at.Goals as goal

pub judge-requires-clause-own : goal.judge-requires-clause-own
judge-requires-clause-own c =
    let a = c.args in
    own-at a.setting.now a.accounts.now a.number a.instruction.now a.indexes.now c.requires.once c.requires.there
    (c.each_footprint_is_sound.ensures a.setting.now.directory a.instruction.now.act).once

pub returns-in-Err-clause-ok : goal.returns-in-Err-clause-ok
returns-in-Err-clause-ok c =
    let a = c.args in
    refused-at a.setting.now a.accounts.now a.number a.instruction.now a.indexes.now c.requires.once c.requires.there
    (c.each_footprint_is_sound.ensures a.setting.now.directory a.instruction.now.act).once
    c.in-Err.refusal c.in-Err.ensures.fails

pub returns-in_err-room-clause-err : goal.returns-in_err-room-clause-err
returns-in_err-room-clause-err c =
    let a = c.args in
    unchanged-at a.setting.now a.accounts.now a.number a.instruction.now a.indexes.now c.requires.once
    c.requires.there
    (c.each_footprint_is_sound.ensures a.setting.now.directory a.instruction.now.act).once
    c.from_residual.result a.accounts.now refl c.in-Ok.ensures.fails

pub apply-requires-clause-there : goal.apply-requires-clause-there
apply-requires-clause-there c =
    let a = c.args in
    subst (StandAt (numbers a.accounts.now) a.indexes.now)
    (footprint-passed a.setting.now (accounts_at a.accounts.now a.indexes.now) a.instruction.now
    (sym c.in-Ok.ensures.fails)) c.requires.there

pub apply-requires-clause-apart : goal.apply-requires-clause-apart
apply-requires-clause-apart c =
    let a = c.args in
    subst (IsDistinct eqb)
    (footprint-passed a.setting.now (accounts_at a.accounts.now a.indexes.now) a.instruction.now
    (sym c.in-Ok.ensures.fails))
    (c.each_footprint_is_sound.ensures a.setting.now.directory a.instruction.now.act).once

pub apply-requires-clause-can : goal.apply-requires-clause-can
apply-requires-clause-can c =
    let a = c.args in
    can-at a.setting.now a.accounts.now a.number a.instruction.now a.indexes.now c.requires.once c.requires.there
    (c.each_footprint_is_sound.ensures a.setting.now.directory a.instruction.now.act).once
    c.in-Ok.ensures.fails c.requires.behind

pub returns-in_err-apply-clause-err : goal.returns-in_err-apply-clause-err
returns-in_err-apply-clause-err c =
    let a = c.args in
    unchanged-at a.setting.now a.accounts.now a.number a.instruction.now a.indexes.now c.requires.once
    c.requires.there
    (c.each_footprint_is_sound.ensures a.setting.now.directory a.instruction.now.act).once
    c.from_residual-in_err-apply.result c.apply.new.accounts c.in_err-apply.ensures.err c.in-Ok.ensures.fails

pub returns-clause-ok : goal.returns-clause-ok
returns-clause-ok c =
    let a = c.args in
    step-at a.setting.now a.accounts.now a.number a.instruction.now a.indexes.now c.requires.once c.requires.there
    (c.each_footprint_is_sound.ensures a.setting.now.directory a.instruction.now.act).once
    c.apply.new.accounts c.new.result c.figure_made.result c.in-Ok.ensures.fails c.in_ok-apply.ensures.ok
    (c.new.ensures ∙ c.put_each.ensures
    ∙ ap (λ (xs : List HeldNow). xs ++ map holdings_of (accounts_at c.apply.new.accounts a.indexes.now))
    c.in_ok-room.ensures.items)
    (c.figure_made.ensures
    ∙ ap (λ (m : Movement). figure_made (accounts_at c.apply.new.accounts a.indexes.now) m.first m.change)
    c.requires.movement)
