use Rattle.std.proofs.Common.{◌≡◌, get_or, sym, ap, ◌∙◌}
use Rattle.reg_plan.specs.Plans.{level_at}
use Rattle.reg_levels.proofs.Ordered.{one_first, one_more}
use Rattle.reg_levels.proofs.order.level_end.Goals as goal

pub loop-index-init : goal.loop-index-init
loop-index-init c = one_first c.args.plan.now c.args.order.now c.args.from

pub loop-index-preserved : goal.loop-index-preserved
loop-index-preserved c =
    let same : level_at c.args.plan.now.levels (get_or c.args.order.now c.loop-index.index 0)
    ≡ level_at c.args.plan.now.levels (get_or c.args.order.now c.args.from 0) =
    ap (λ ls. level_at ls (get_or c.args.order.now c.loop-index.index 0)) (sym c.levels-levels.ensures)
    ∙ sym c.level_of.ensures ∙ c.if-level_of-level.false ∙ c.level_of-level.ensures
    ∙ ap (λ ls. level_at ls (get_or c.args.order.now c.args.from 0)) c.levels-levels.ensures in
    one_more c.args.plan.now c.args.order.now c.args.from c.loop-index.index c.loop-index.invariant same
