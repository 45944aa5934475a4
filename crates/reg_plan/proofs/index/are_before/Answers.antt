use Rattle.std.proofs.Common.{get_or, arith, subst, ◌∙◌, ◌-◌, ◌≤◌, ◌<◌}
use Rattle.std.proofs.lemmas.Bool.{leb-true}
use Rattle.reg_plan.specs.declared.arrow.Arrow.{Arrow}
use Rattle.reg_plan.specs.Ends.{end_at, AreBefore}
use Rattle.reg_plan.proofs.Slices.{split_at, low_at, high_at}
use Rattle.reg_plan.proofs.index.are_before.Goals as goal
use Rattle.reg_plan.proofs.index.are_before.Goals.{else-count-gt0-via-then-count-gt0+else-from-place}
use Rattle.reg_plan.proofs.index.are_before.Goals.{else-count-gt0-via-else-count-gt0}

pub returns-else-count-arrows-2-clause-before : goal.returns-else-count-arrows-2-clause-before
returns-else-count-arrows-2-clause-before c h =
    let n = end_at c.args.end in
    let arrows = c.args.arrows.now in
    let place = c.args.place in
    let count = c.args.count in
    let x = c.index-arrows-count-else-count-arrows-2.result in
    let high : place ≤ n x = subst (λ m. place ≤ m) (c.from-else-count-arrows-2.ensures
    ∙ c.of-else-count-arrows-2.ensures) (leb-true place c.from-else-count-arrows-2.result h) in
    let split : ((d : Arrow) → 0 < count → n (get_or arrows (count - 1) d) < place)
    → AreBefore c.args.end place arrows count = λ low.
    split_at n place arrows count c.requires low
    (λ d lt. high_at n place arrows count x d c.index-arrows-count-else-count-arrows-2.is lt high)
    c.if-count-arrows.false in
    elim c.else-count-gt0.branch [
      | else-count-gt0-via-then-count-gt0+else-from-place w ↦ (
          let low : n w.index-arrows-count.result < place =
          subst (λ m. m < place) (w.from.ensures ∙ w.of.ensures) w.if-from-place.false in
          split (λ d lt. low_at n place arrows (count - 1) w.index-arrows-count.result d w.index-arrows-count.is
          (omega (arith, lt, c.if-count-arrows.false)) low))
      | else-count-gt0-via-else-count-gt0 w ↦ split (λ d lt. absurd (omega (arith, lt, w.if-count-gt0.false)))
    ]
