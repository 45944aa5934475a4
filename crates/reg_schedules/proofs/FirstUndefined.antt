-- The first position that has a fault is the first at which an order is undefined.
use Rattle.std.proofs.Common.{◌≡◌, ℕ, ◌-◌, true, false, List, [], length, Option, Some, None, refl, sym, ap, ◌∙◌}
use Rattle.std.specs.Prelude.{take}
use Rattle.std.specs.Option.{is_none, is_some}
use Rattle.reg_plan.specs.declared.order.OrderFault.{OrderFault}
use Rattle.reg_plan.specs.Plans.{PlanValue}
use Rattle.reg_plan.specs.Orders.{first_fault_after}
use Rattle.reg_plan.specs.Laws.{IsAtPosition}
use Rattle.reg_book.specs.Day.{DayValue}
use Rattle.reg_schedules.specs.Pool.{meaning_of}
use Rattle.reg_schedules.specs.Laws.{IsPlanOf, UndefinedAtFirstFault, IsFirstUndefined}

is-defined : {X : Type 0} (o : Option X) → is_none o ≡ false → is_some o ≡ true
is-defined None e = absurd cc
is-defined (Some x) e = refl

is-undefined : {X : Type 0} (o : Option X) → is_none o ≡ true → o ≡ None
is-undefined None e = refl
is-undefined (Some x) e = absurd cc

pub first-undefined : UndefinedAtFirstFault → (day : DayValue) (plan : PlanValue) (order : List ℕ) (fault : OrderFault)
    → IsPlanOf day plan → (position : ℕ)
    → IsAtPosition plan order fault position → IsFirstUndefined day plan order fault position
first-undefined undefined day plan order fault made position at = record {
  is_at = at;
  defined_before = is-defined (meaning_of day plan before) (undefined day plan before made ∙ ap is_some (places before)
      ∙ ap is_some at.none_before);
  undefined_with_it = is-undefined (meaning_of day plan with_it) (undefined day plan with_it made
      ∙ ap is_some (places with_it) ∙ ap is_some at.with_it);
}
  where
    before : List ℕ
    before = take (position - 1) order

    with_it : List ℕ
    with_it = take position order

    places : (xs : List ℕ) → first_fault_after plan.arrows (length day.batch.instructions) [] xs
        ≡ first_fault_after plan.arrows (length plan.levels) [] xs
    places xs = ap (λ n. first_fault_after plan.arrows n [] xs) (sym made.places)
