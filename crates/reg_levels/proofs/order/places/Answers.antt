use Rattle.std.proofs.Common.{◌≡◌, ◌++◌, ◌∷◌, ◌+◌, [], sym, ap, ◌∙◌, arith}
use Rattle.reg_base.specs.Rising.{count_up}
use Rattle.reg_levels.proofs.Ordered.{count_more}
use Rattle.reg_levels.proofs.order.places.Goals as goal

pub loop-before-preserved : goal.loop-before-preserved
loop-before-preserved c =
    let next : c.loop-before.before + 1 ≡ 1 + c.loop-before.before = omega arith in
    c.in_ok-push.ensures.items ∙ ap (λ xs. xs ++ (c.loop-before.before + 1) ∷ []) c.loop-before.invariant
    ∙ ap (λ x. count_up 1 c.loop-before.before ++ x ∷ []) next ∙ sym (count_more 1 c.loop-before.before)
