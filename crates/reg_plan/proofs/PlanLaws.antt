-- Each batch has a plan: what `Plan::of` computes, without memory.
use Rattle.std.proofs.Common.{◌≡◌, ℕ, zero, suc, ◌+◌, ◌-◌, ◌≤◌, max, List, length, get_or, set, take, arith, refl, sym}
use Rattle.std.proofs.Common.{subst, ◌∙◌}
use Rattle.std.specs.Prelude.{All}
use Rattle.std.specs.Ordering.{is_lt}
use Rattle.std.specs.List.Sorted.{IsNonDecreasingBy}
use Rattle.std.specs.Cmp.{IsTotalOrder}
use Rattle.std.proofs.Math.ListN.{replicate}
use Rattle.std.proofs.lemmas.Cmp.{then_total, on_total, nat_cmp_total}
use Rattle.std.proofs.lemmas.List.{length-set, length-replicate, get_or_default, take_all}
use Rattle.std.proofs.lemmas.List.Elements.{All-replicate}
use Rattle.std.proofs.lemmas.List.Sorted.{ranks_by}
use Rattle.reg_base.specs.Footprint.{EachFootprintIsSound}
use Rattle.reg_plan.specs.declared.arrow.Arrow.{Arrow}
use Rattle.reg_plan.specs.Arrows.{arrow_order}
use Rattle.reg_plan.specs.TouchList.{arrows_of, openings_of, touch_cmp, AreSorted}
use Rattle.reg_plan.proofs.SortedTouches.{touches_from, AreTouches}
use Rattle.reg_base.specs.Footprints.{footprints}
use Rattle.reg_plan.specs.Plans.{level_at, IsBetween}
use Rattle.reg_plan.specs.Laws.{EachBatchHasAPlan}
use Rattle.reg_plan.proofs.Links.{touch_cmp-total}
use Rattle.reg_plan.proofs.Raising.{AreRaised, raised_none, raised_more}
use Rattle.reg_plan.proofs.Results.{are_arrows, are_openings, all_between}
use Rattle.reg_plan.proofs.Slices.{heads_rise}
use Rattle.reg_plan.proofs.Sorting.{InOrder, in_order}

arrow_order-total : IsTotalOrder arrow_order
arrow_order-total = then_total (on_total (λ (w : Arrow). w.to) nat_cmp_total)
    (then_total (on_total (λ (w : Arrow). w.from) nat_cmp_total) (on_total (λ (w : Arrow). w.account) nat_cmp_total))

-- the levels after one more arrow
abbrev raised_by : List ℕ → Arrow → List ℕ
raised_by levels w = set levels (w.to - 1) (max (level_at levels w.to) (level_at levels w.from + 1))

-- levels of so many places by these arrows
record Raised (arrows : List Arrow) (places : ℕ) : Type 0 where
  pub levels : List ℕ
  pub size : length levels ≡ places
  pub raised : AreRaised arrows levels

module _ (arrows : List Arrow) (places : ℕ) (by_head : IsNonDecreasingBy (λ (w : Arrow). w.to) arrows)
    (between : All (IsBetween places) arrows) where
  raise : (k : ℕ) → k ≤ length arrows → Raised (take k arrows) places
  raise zero le = record {
    levels = replicate places 1;
    size = length-replicate places 1;
    raised = raised_none (replicate places 1) (All-replicate (λ level. level ≡ 1) places 1 refl);
  }
  raise (suc k) le =
      let old : Raised (take k arrows) places = raise k (omega arith) in
      let none : Arrow = record { to = 0; from = 0; account = 0 } in
      let w : Arrow = get_or arrows k none in
      let fits : All (IsBetween (length old.levels)) arrows =
      subst (λ n. All (IsBetween n) arrows) (sym old.size) between in
      let more : AreRaised (take (k + 1) arrows) (raised_by old.levels w) =
      raised_more arrows k w old.levels (omega arith) (get_or_default arrows k none w (omega arith)) by_head fits
      old.raised in
      let next : k + 1 ≡ suc k = omega arith in
      record {
        levels = raised_by old.levels w;
        size = length-set old.levels (w.to - 1) (max (level_at old.levels w.to) (level_at old.levels w.from + 1))
            ∙ old.size;
        raised = subst (λ n. AreRaised (take n arrows) (raised_by old.levels w)) next more;
      }

  all_raised : Raised arrows places
  all_raised =
      let made : Raised (take (length arrows) arrows) places = raise (length arrows) (omega arith) in
      subst (λ xs. Raised xs places) (take_all (length arrows) arrows (omega arith)) made

pub each_has_a_plan : EachFootprintIsSound → EachBatchHasAPlan
each_has_a_plan sound d is =
    let sorted : InOrder (λ x y. is_lt (touch_cmp x y)) (touches_from d 1 is) =
    in_order (λ x y. is_lt (touch_cmp x y)) (ranks_by touch_cmp-total (λ t. t)).one_way (touches_from d 1 is) in
    let touches : AreTouches (footprints d is) sorted.list = record { each = sorted.each; sorted = sorted.sorted } in
    let arrows : InOrder (λ x y. is_lt (arrow_order x y)) (arrows_of sorted.list) =
    in_order (λ x y. is_lt (arrow_order x y)) (ranks_by arrow_order-total (λ w. w)).one_way
    (arrows_of sorted.list) in
    let made : AreSorted sorted.list arrows.list = record { each = arrows.each; sorted = arrows.sorted } in
    let levels : Raised arrows.list (length is) =
    all_raised arrows.list (length is) (heads_rise arrows.list arrows.sorted)
    (all_between sound d is sorted.list touches arrows.list made) in (
      record {
        arrows = arrows.list;
        openings = openings_of sorted.list;
        levels = levels.levels;
        footprints = footprints d is;
      },
      record {
        arrows = are_arrows sound d is sorted.list touches arrows.list made;
        openings = are_openings sound d is sorted.list touches (openings_of sorted.list) refl;
        places = levels.size;
        levels = levels.raised.levels_are;
        footprints = refl;
      },
    )
