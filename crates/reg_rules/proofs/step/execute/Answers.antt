use Rattle.std.proofs.Common.{eqb, sym, subst}
use Rattle.std.specs.List.{IsDistinct}
use Rattle.reg_rules.specs.State.{Setting, numbers}
use Rattle.reg_rules.specs.Indexed.{StandAt}
use Rattle.reg_rules.proofs.StepAt.{few-own}
use Rattle.reg_rules.proofs.step.execute.Goals as goal

pub front-indexes-requires : goal.front-indexes-requires
front-indexes-requires c =
    let a = c.args in
    let setting : Setting = record { rules = a.rules.now; day = a.day; directory = a.directory.now } in
    few-own setting a.accounts.now a.instruction.now c.movement-movement.result c.requires.own
    c.movement-movement.ensures (c.each_footprint_is_sound.ensures a.directory.now a.instruction.now.act)

pub execute_at-requires-clause-once : goal.execute_at-requires-clause-once
execute_at-requires-clause-once c =
    let a = c.args in
    subst (IsDistinct eqb) (sym c.requires.own)
    (c.each_footprint_is_sound.ensures a.directory.now a.instruction.now.act).once

pub execute_at-requires-clause-there : goal.execute_at-requires-clause-there
execute_at-requires-clause-there c =
    subst (StandAt (numbers c.args.accounts.now) c.front-indexes.result.now) c.requires.own
    c.front-indexes.ensures.stand
