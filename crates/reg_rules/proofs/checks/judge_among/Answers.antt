use Rattle.std.proofs.Common.{◌≡◌, false, subst}
use Rattle.std.specs.Prelude.{IfOk}
use Rattle.std.specs.Result.{result_err}
use Rattle.reg_rules.specs.State.{Seen}
use Rattle.reg_rules.specs.Cases.{found_of}
use Rattle.reg_rules.specs.Indexed.{accounts_at}
use Rattle.reg_rules.proofs.Standing.{repeat-of, is-known, in-order, as-seen, case-answer}
use Rattle.reg_rules.proofs.checks.judge_among.Goals as goal

pub of-found-requires-clause-in_order : goal.of-found-requires-clause-in_order
of-found-requires-clause-in_order c =
    let a = c.args in
    in-order a.setting.now a.instruction.now a.first.now (accounts_at a.accounts.now a.receivers.now) c.requires.own
    (repeat-of a.instruction.now a.movement.now c.names_one_twice.result false c.requires.movement
    c.names_one_twice.ensures c.if-names_one_twice.false)
    (c.each_footprint_is_sound.ensures a.setting.now.directory a.instruction.now.act).once

pub invariant_of-case : goal.invariant_of-case
invariant_of-case c =
    let a = c.args in
    let apart = repeat-of a.instruction.now a.movement.now c.names_one_twice.result false c.requires.movement
    c.names_one_twice.ensures c.if-names_one_twice.false in record {
      known = is-known a.setting.now a.instruction.now a.first.now (accounts_at a.accounts.now a.receivers.now)
          c.requires.own;
      apart = apart;
      in_order = in-order a.setting.now a.instruction.now a.first.now (accounts_at a.accounts.now a.receivers.now)
          c.requires.own apart
          (c.each_footprint_is_sound.ensures a.setting.now.directory a.instruction.now.act).once;
      moved = c.requires.movement;
      is_found = c.of-found.ensures.value;
      figure_fits = c.of-found.ensures.fits;
    }

pub returns-clause-fails : goal.returns-clause-fails
returns-clause-fails c =
    let a = c.args in
    case-answer a.setting.now a.instruction.now a.first.now (accounts_at a.accounts.now a.receivers.now) c.requires.own
    (repeat-of a.instruction.now a.movement.now c.names_one_twice.result false c.requires.movement
    c.names_one_twice.ensures c.if-names_one_twice.false)
    (c.each_footprint_is_sound.ensures a.setting.now.directory a.instruction.now.act).once
    (result_err c.judge_in.result) c.judge_in.ensures.fails

pub returns-clause-found : goal.returns-clause-found
returns-clause-found c =
    let a = c.args in
    subst (λ (e : Seen). IfOk c.judge_in.result (λ found. found ≡ found_of a.setting.now a.instruction.now e))
    (as-seen a.setting.now a.instruction.now a.first.now (accounts_at a.accounts.now a.receivers.now) c.requires.own
    (repeat-of a.instruction.now a.movement.now c.names_one_twice.result false c.requires.movement
    c.names_one_twice.ensures c.if-names_one_twice.false)
    (c.each_footprint_is_sound.ensures a.setting.now.directory a.instruction.now.act).once)
    c.judge_in.ensures.found
