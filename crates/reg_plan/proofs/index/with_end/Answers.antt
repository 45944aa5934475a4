use Rattle.std.proofs.Common.{◌+◌, ◌-◌, ◌≤◌, take, sym, ap, subst, ◌∙◌}
use Rattle.reg_plan.specs.Ends.{end_at, AreBefore}
use Rattle.reg_plan.proofs.Slices.{with_key, fewer, rest_is}
use Rattle.reg_plan.proofs.index.with_end.Goals as goal

pub slice_bounds-result-count : goal.slice_bounds-result-count
slice_bounds-result-count c =
    let arrows = c.args.arrows.now in
    let lower = subst (λ v. AreBefore c.args.end v arrows c.count_before-first.result) c.from.ensures
    c.count_before-first.ensures.before in
    let upper = subst (λ v. AreBefore c.args.end (v + 1) arrows c.count_before-next.result) c.from-2.ensures
    c.count_before-next.ensures.before in
    fewer (end_at c.args.end) c.args.place arrows _ _ c.count_before-first.ensures.within lower upper

pub returns : goal.returns
returns c =
    let n = end_at c.args.end in
    let arrows = c.args.arrows.now in
    let place = c.args.place in
    let first = c.count_before-first.result in
    let next = c.count_before-next.result in
    let lower = subst (λ v. AreBefore c.args.end v arrows first) c.from.ensures c.count_before-first.ensures.before in
    let upper = subst (λ v. AreBefore c.args.end (v + 1) arrows next) c.from-2.ensures
    c.count_before-next.ensures.before in
    let le : first ≤ next = fewer n place arrows first next c.count_before-first.ensures.within lower upper in
    ap (take (next - first)) (rest_is arrows first c.count_before-first.ensures.within)
    ∙ sym (with_key n place arrows first next le c.count_before-next.ensures.within lower upper)
