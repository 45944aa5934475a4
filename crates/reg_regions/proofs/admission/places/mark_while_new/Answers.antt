use Rattle.std.proofs.Common.{◌≡◌, ◌<◌, ◌++◌, ◌∷◌, [], true, length, take, get_or, sym, ap, subst, ◌∙◌, arith}
use Rattle.std.proofs.Common.{append_assoc}
use Rattle.std.proofs.lemmas.List.{take_more, take_all}
use Rattle.reg_regions.specs.Homes.{AreMarked}
use Rattle.reg_regions.proofs.admission.places.mark_while_new.Goals as goal

pub loop-place-preserved : goal.loop-place-preserved
loop-place-preserved c =
    let places = c.args.places.now in
    let k = c.loop-place.place-index in
    let before = c.loop-place.invariant in
    let within : k < length places = c.loop-place-test.true in
    let place = get_or places k 0 in
    let truth : c.mark_if_new.result ≡ true = c.if-not-mark_if_new.false in
    record {
      size = c.mark_if_new.ensures.size ∙ before.size;
      marked = λ done marked. subst (λ ps. AreMarked ps c.mark_if_new.new.marks)
          (append_assoc done (take k places) (place ∷ []) ∙ ap (λ ps. done ++ ps) (sym (take_more places k 0 within)))
          (c.mark_if_new.ensures.marked truth (done ++ take k places) (before.marked done marked));
    }

pub returns-clause-marked : goal.returns-clause-marked
returns-clause-marked c truth done marked =
    subst (λ ps. AreMarked (done ++ ps) c.loop-place.marks)
    (take_all c.loop-place.place-index c.args.places.now (omega arith)) (c.loop-place.invariant.marked done marked)
