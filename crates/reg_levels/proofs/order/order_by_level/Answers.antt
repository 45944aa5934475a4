use Rattle.std.proofs.Common.{◌≡◌, ℕ, List, length, ap, subst, ◌∙◌}
use Rattle.std.specs.Prelude.{IsPermutation}
use Rattle.std.specs.List.Sorted.{IsNonDecreasingBy}
use Rattle.reg_base.specs.Rising.{count_up}
use Rattle.reg_plan.specs.Plans.{PlanValue, level_at}
use Rattle.std.proofs.Props.{props}
use mathlib.Core.Logic.{∥∥₁_elim}
use Rattle.reg_tasks.specs.Contexts.{the_day}
use Rattle.reg_schedules.specs.Pool.{directory}
use Rattle.reg_levels.specs.Levels.{with_level_of}
use Rattle.reg_levels.proofs.Ordered.{legal_by_level}
use Rattle.reg_levels.proofs.order.order_by_level.Goals as goal

pub returns : goal.returns
returns g c =
    let context = c.args.context.now in
    let order : List ℕ = c.sort_by_level.new.places.items in
    let plan : c.plan-plan.result.now ≡ context.plan = c.plan-plan.ensures.value in
    let count : c.len.result ≡ length context.plan.levels =
    c.len.ensures.value ∙ ap (λ (p : PlanValue). length p.levels) plan in
    let levels : c.levels.result.now ≡ context.plan.levels = c.levels.ensures ∙ ap (λ (p : PlanValue). p.levels) plan in
    let places : c.in_ok-order.order.items ≡ count_up 1 (length context.plan.levels) =
    c.in_ok-order.ensures ∙ ap (count_up 1) count in
    let rising : IsNonDecreasingBy (λ place. level_at context.plan.levels place) order =
    subst (λ ls. IsNonDecreasingBy (level_at ls) order) levels c.in_ok-sort_by_level.ensures.sorted in
    record {
      legal = ∥∥₁_elim context.planned (Prim.hlevel props)
          (λ made. legal_by_level c.levels_rise_along_arrows.ensures c.no_fault_is_a_legal_order.ensures
          (directory (the_day context)) context.batch.now.instructions context.plan made
          order
          (subst (λ xs. IsPermutation xs order) places c.in_ok-sort_by_level.ensures.same)
          rising);
      by_level = record {
        rising = rising;
        within = λ place. subst (λ xs. with_level_of context.plan.levels place order
            ≡ with_level_of context.plan.levels place xs) places
            (subst (λ ls. with_level_of ls place order ≡ with_level_of ls place c.in_ok-order.order.items) levels
            (c.in_ok-sort_by_level.ensures.kept place));
      };
    }
