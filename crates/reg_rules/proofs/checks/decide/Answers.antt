use Rattle.std.proofs.Common.{◌∙◌, ap}
use Rattle.reg_rules.specs.State.{State, Setting, numbers}
use Rattle.reg_rules.specs.Checks.{refusal}
use Rattle.reg_rules.proofs.StepAt.{few-own}
use Rattle.reg_rules.proofs.checks.decide.Goals as goal

pub front-indexes-requires : goal.front-indexes-requires
front-indexes-requires c =
    let a = c.args in
    let setting : Setting = record { rules = a.rules.now; day = a.day; directory = a.directory.now } in
    few-own setting a.accounts.now a.instruction.now c.movement-movement.result c.requires
    c.movement-movement.ensures (c.each_footprint_is_sound.ensures a.directory.now a.instruction.now.act)

pub judge-requires-clause-own : goal.judge-requires-clause-own
judge-requires-clause-own c = ap numbers c.front-indexes.ensures.all ∙ c.requires

pub returns-in-Ok : goal.returns-in-Ok
returns-in-Ok c =
    let a = c.args in
    let setting : Setting = record { rules = a.rules.now; day = a.day; directory = a.directory.now } in
    c.in-Ok.ensures.fails ∙ ap (λ (s : State). refusal setting s a.instruction.now) c.front-indexes.ensures.all

pub returns-in-Err : goal.returns-in-Err
returns-in-Err c =
    let a = c.args in
    let setting : Setting = record { rules = a.rules.now; day = a.day; directory = a.directory.now } in
    c.in-Err.ensures.fails ∙ ap (λ (s : State). refusal setting s a.instruction.now) c.front-indexes.ensures.all
