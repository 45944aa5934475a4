-- What is true of every order of a day's instructions.
use Rattle.std.specs.Prelude.{◌≡◌, ℕ, ◌-◌, true, List, [], length, take, Some, None, MatchOption}
use Rattle.std.specs.Option.{is_none, is_some}
use Rattle.reg_plan.specs.declared.order.OrderFault.{OrderFault}
use Rattle.reg_plan.specs.declared.order.OrderFault.TheVariants.{Length}
use Rattle.reg_plan.specs.Plans.{PlanValue, IsPlan}
use Rattle.reg_plan.specs.Orders.{IsLegalOrder, first_fault_after, first_order_fault}
use Rattle.reg_plan.specs.Laws.{IsAtPosition}
use Rattle.reg_book.specs.Day.{DayValue}
use Rattle.reg_schedules.specs.Pool.{directory, meaning_of, IsSettledDay}

-- this is the plan of the day's instructions
abbrev pub IsPlanOf : DayValue → PlanValue → Type 0
IsPlanOf day plan = IsPlan (directory day) day.batch.instructions plan

-- law: each day has a plan, so what is said of every plan of a day is said of at least one
abbrev pub EachDayHasAPlan : Type 0
EachDayHasAPlan = (day : DayValue) → (plan : PlanValue) × IsPlanOf day plan

-- law: a legal order is defined to its end and gives the settled day; any other list of as many numbers is undefined
pub record OrderDecides (day : DayValue) (plan : PlanValue) (order : List ℕ) : Type 0 where
  pub legal : IsLegalOrder plan order → MatchOption (meaning_of day plan order) ⊥ (IsSettledDay day)
  pub other : length order ≡ length day.batch.instructions → ¬ (IsLegalOrder plan order)
      → meaning_of day plan order ≡ None

abbrev pub EveryOrder : Type 0
EveryOrder = (day : DayValue) (plan : PlanValue) (order : List ℕ) → IsPlanOf day plan → OrderDecides day plan order

-- law: any list of numbers is undefined exactly if one of them has a fault. So the first number that is undefined is
-- the first that has a fault: it is no place, it has come already, or an instruction before it has not come
abbrev pub UndefinedAtFirstFault : Type 0
UndefinedAtFirstFault = (day : DayValue) (plan : PlanValue) (order : List ℕ) → IsPlanOf day plan
    → is_none (meaning_of day plan order)
    ≡ is_some (first_fault_after plan.arrows (length day.batch.instructions) [] order)

-- the fault is that of this position, counted from 1. The numbers before it are all defined; with the number at it the
-- list is undefined
pub record IsFirstUndefined (day : DayValue) (plan : PlanValue) (order : List ℕ) (fault : OrderFault)
    (position : ℕ) : Type 0 where
  pub is_at : IsAtPosition plan order fault position
  pub defined_before : is_some (meaning_of day plan (take (position - 1) order)) ≡ true
  pub undefined_with_it : meaning_of day plan (take position order) ≡ None

-- law: the fault of an order, unless it is a wrong length, is that of the first position at which the order is
-- undefined
abbrev pub FaultIsFirstUndefined : Type 0
FaultIsFirstUndefined = (day : DayValue) (plan : PlanValue) (order : List ℕ) (fault : OrderFault) → IsPlanOf day plan
    → first_order_fault plan order ≡ Some fault → ¬ (fault ≡ Length)
    → (position : ℕ) × IsFirstUndefined day plan order fault position
