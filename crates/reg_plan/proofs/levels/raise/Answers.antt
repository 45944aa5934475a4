use Rattle.std.proofs.Common.{◌+◌, ◌-◌, length, set, take, subst, sym}
use Rattle.std.specs.Prelude.{All}
use Rattle.reg_plan.specs.Plans.{IsBetween}
use Rattle.reg_plan.proofs.Raising.{AreRaised, raised_none, raised_more}
use Rattle.reg_plan.proofs.levels.raise.Goals as goal

pub loop-arrow-init : goal.loop-arrow-init
loop-arrow-init c = raised_none c.args.levels.now c.requires.one

pub loop-arrow-preserved : goal.loop-arrow-preserved
loop-arrow-preserved c =
    let levels = c.loop-arrow.levels in
    let k = c.loop-arrow.arrow-index in
    let w = c.arrow-item.result in
    let between : All (IsBetween (length levels)) c.args.arrows.now =
    subst (λ n. All (IsBetween n) c.args.arrows.now) (sym c.loop-arrow.auto.levels) c.requires.between in
    subst (λ v. AreRaised (take (k + 1) c.args.arrows.now) (set levels (w.to - 1) v)) (sym c.max.ensures)
    (raised_more c.args.arrows.now k w levels c.loop-arrow-test.true c.arrow-item.is c.requires.by_head between
    c.loop-arrow.invariant)
