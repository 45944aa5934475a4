use Rattle.std.proofs.Common.{◌≡◌, length, arith, sym, ap, subst, ◌∙◌}
use Rattle.std.specs.Prelude.{All}
use Rattle.std.specs.List.Sorted.{IsNonDecreasingBy}
use Rattle.std.proofs.lemmas.List.{length-map}
use Rattle.reg_plan.specs.declared.arrow.Arrow.{Arrow}
use Rattle.reg_plan.specs.TouchList.{AreSorted, openings_of}
use Rattle.reg_plan.proofs.SortedTouches.{AreTouches}
use Rattle.reg_plan.specs.Plans.{outward, IsBetween, AreLevels}
use Rattle.reg_base.specs.Footprints.{footprints}
use Rattle.reg_plan.proofs.Behind.{are_touches}
use Rattle.reg_plan.proofs.Results.{are_arrows, are_openings, all_between}
use Rattle.reg_plan.proofs.Slices.{heads_rise}
use Rattle.reg_plan.proofs.plan.Plan.of_found.Goals as goal

pub find_levels-requires-clause-by_head : goal.find_levels-requires-clause-by_head
find_levels-requires-clause-by_head c =
    subst (λ xs. IsNonDecreasingBy (λ (w : Arrow). w.to) xs) (sym c.deref-4.ensures.value)
    (heads_rise c.in_ok-arrows.arrows.items c.in_ok-arrows.ensures.sorted)

pub find_levels-requires-clause-between : goal.find_levels-requires-clause-between
find_levels-requires-clause-between c =
    let d = c.args.directory.now in
    let is = c.args.batch.now.instructions in
    let ts = c.in_ok-touches.touches.items in
    let arrows = c.in_ok-arrows.arrows.items in
    let touches : AreTouches (footprints d is) ts =
    are_touches d is c.args.found ts c.requires c.in_ok-touches.ensures.each c.in_ok-touches.ensures.sorted in
    let made : AreSorted ts arrows = subst (λ xs. AreSorted xs arrows) c.deref-2.ensures.value c.in_ok-arrows.ensures in
    subst (λ xs. All (IsBetween c.len-places.result) xs) (sym c.deref-4.ensures.value)
    (subst (λ n. All (IsBetween n) arrows) (sym c.len-places.ensures.value)
    (all_between c.each_footprint_is_sound.ensures d is ts touches arrows made))

pub invariant_of-result : goal.invariant_of-result
invariant_of-result c =
    let d = c.args.directory.now in
    let is = c.args.batch.now.instructions in
    let ts = c.in_ok-touches.touches.items in
    let arrows = c.in_ok-arrows.arrows.items in
    let touches : AreTouches (footprints d is) ts =
    are_touches d is c.args.found ts c.requires c.in_ok-touches.ensures.each c.in_ok-touches.ensures.sorted in
    let made : AreSorted ts arrows = subst (λ xs. AreSorted xs arrows) c.deref-2.ensures.value c.in_ok-arrows.ensures in
    let size : length c.in_ok-levels.levels.items ≡ length is =
    c.in_ok-levels.ensures.size ∙ c.len-places.ensures.value in
    let count : length c.args.found.touched ≡ length is = ap length c.requires.lists ∙ length-map is _ in
    record {
      by_head = heads_rise arrows c.in_ok-arrows.ensures.sorted;
      tails = c.in_ok-by_tail.ensures.sorted;
      same = λ place. c.in_ok-by_tail.ensures.same place ∙ ap (λ xs. outward xs place) c.deref-3.ensures.value;
      between = subst (λ n. All (IsBetween n) arrows) (sym size)
          (all_between c.each_footprint_is_sound.ensures d is ts touches arrows made);
      few = omega (arith, size, c.len-places.ensures.room.few);
      places = count ∙ sym size;
      few_each = c.requires.few;
    }

pub returns : goal.returns
returns c =
    let d = c.args.directory.now in
    let is = c.args.batch.now.instructions in
    let ts = c.in_ok-touches.touches.items in
    let arrows = c.in_ok-arrows.arrows.items in
    let touches : AreTouches (footprints d is) ts =
    are_touches d is c.args.found ts c.requires c.in_ok-touches.ensures.each c.in_ok-touches.ensures.sorted in
    let made : AreSorted ts arrows = subst (λ xs. AreSorted xs arrows) c.deref-2.ensures.value c.in_ok-arrows.ensures in
    record {
      arrows = are_arrows c.each_footprint_is_sound.ensures d is ts touches arrows made;
      openings = are_openings c.each_footprint_is_sound.ensures d is ts touches c.in_ok-openings.openings.items
          (c.in_ok-openings.ensures ∙ ap openings_of c.deref.ensures.value);
      places = c.in_ok-levels.ensures.size ∙ c.len-places.ensures.value;
      levels = subst (λ xs. AreLevels xs c.in_ok-levels.levels.items) c.deref-4.ensures.value
          c.in_ok-levels.ensures.levels;
      footprints = c.requires.lists;
    }
