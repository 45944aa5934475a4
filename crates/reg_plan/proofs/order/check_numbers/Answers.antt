use Rattle.std.proofs.Common.{◌≡◌, ◌+◌, ◌-◌, ◌≤◌, true, length, get_or, take, drop, Some, None, refl, sym, ap, subst}
use Rattle.std.proofs.Common.{◌∙◌}
use Rattle.std.specs.Prelude.{All}
use Rattle.std.specs.Option.{option_or}
use Rattle.std.proofs.lemmas.List.{length-set}
use Rattle.reg_base.specs.Footprint.{is_among}
use Rattle.reg_plan.specs.Plans.{IsBetween}
use Rattle.reg_plan.specs.Orders.{fault_at, first_fault_after, marked}
use Rattle.reg_plan.proofs.Marking.{same_fault, faults_more, marks_more, no_fault_place}
use Rattle.reg_plan.proofs.order.check_numbers.Goals as goal

pub returns-in-Some : goal.returns-in-Some
returns-in-Some c =
    let arrows = c.args.arrows.now in
    let order = c.args.order.now in
    let came = c.loop-index.came in
    let k = c.loop-index.index in
    let x = get_or order k 0 in
    let rest = first_fault_after arrows (length came) (take (k + 1) order) (drop (k + 1) order) in
    let between : All (IsBetween (length came)) arrows =
    subst (λ n. All (IsBetween n) arrows) (sym c.loop-index.auto.came) c.requires.between in
    let found : Some c.in-Some.fault ≡ fault_at arrows (length came) (is_among (take k order)) (k + 1) x =
    sym c.in-Some.is ∙ c.find_fault.ensures
    ∙ same_fault arrows (take k order) came (k + 1) x between c.loop-index.invariant.marks in
    ap (λ o. option_or o rest) found
    ∙ sym (faults_more arrows (length came) order k x c.loop-index-test.true refl)
    ∙ c.loop-index.invariant.left

pub loop-index-preserved : goal.loop-index-preserved
loop-index-preserved c =
    let arrows = c.args.arrows.now in
    let order = c.args.order.now in
    let came = c.loop-index.came in
    let k = c.loop-index.index in
    let x = get_or order k 0 in
    let rest = first_fault_after arrows (length came) (take (k + 1) order) (drop (k + 1) order) in
    let between : All (IsBetween (length came)) arrows =
    subst (λ n. All (IsBetween n) arrows) (sym c.loop-index.auto.came) c.requires.between in
    let none : fault_at arrows (length came) (marked came) (k + 1) x ≡ None =
    sym c.find_fault.ensures ∙ c.in_default.is in
    let place : (1 ≤ x) × (x ≤ length came) = no_fault_place arrows (length came) (marked came) (k + 1) x none in
    let passed : fault_at arrows (length came) (is_among (take k order)) (k + 1) x ≡ None =
    sym (same_fault arrows (take k order) came (k + 1) x between c.loop-index.invariant.marks) ∙ none in
    record {
      marks = marks_more order k x came c.loop-index-test.true refl place.0 place.1 c.loop-index.invariant.marks;
      left =
          ap (λ n. first_fault_after arrows n (take (k + 1) order) (drop (k + 1) order)) (length-set came (x - 1) true)
          ∙ sym (faults_more arrows (length came) order k x c.loop-index-test.true refl
          ∙ ap (λ o. option_or o rest) passed)
          ∙ c.loop-index.invariant.left;
    }
