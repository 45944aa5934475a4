use Rattle.std.proofs.Common.{◌≡◌, suc, ◌+◌, ◌++◌, ◌∷◌, [], sym, ap, ◌∙◌, arith}
use Rattle.reg_base.specs.Rising.{count_up}
use Rattle.reg_base.proofs.lemmas.Rising.{count_up-more}
use Rattle.reg_advice.proofs.dealing.all_places.Goals as goal

pub loop-before-preserved : goal.loop-before-preserved
loop-before-preserved c =
    let before : _ = c.loop-before.before in
    let same : 1 + before ≡ before + 1 = omega arith in
    let next : before + 1 ≡ suc before = omega arith in
    c.in_ok-push.ensures.items ∙ ap (λ ps. ps ++ (before + 1) ∷ []) c.loop-before.invariant
    ∙ ap (λ p. count_up 1 before ++ p ∷ []) (sym same) ∙ sym (ap (count_up 1) next ∙ count_up-more 1 before)
