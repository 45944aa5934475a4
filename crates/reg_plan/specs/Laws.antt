-- What follows for plans and orders, in the words of their definitions.
use Rattle.std.specs.Prelude.{◌≡◌, ℕ, ◌-◌, ◌<◌, ◌≤◌, true, List, [], length, slice_index, take, Contains, Some, None}
use Rattle.std.specs.Prelude.{◌↔◌}
use Rattle.reg_base.specs.declared.instruction.Instruction.{Instruction}
use Rattle.reg_base.specs.Directory.{DirectoryValue}
use Rattle.reg_base.specs.Touches.{last_toucher}
use Rattle.reg_plan.specs.declared.arrow.Arrow.{Arrow}
use Rattle.reg_plan.specs.declared.order.OrderFault.{OrderFault}
use Rattle.reg_plan.specs.declared.order.OrderFault.TheVariants.{Length, NoMemory, Number, Repeated, Arrow as Waits}
use Rattle.reg_plan.specs.Arrows.{IsArrow, touches_place}
use Rattle.reg_plan.specs.Plans.{PlanValue, IsPlan, level_at}
use Rattle.reg_plan.specs.Orders.{IsLegalOrder, first_fault_after, first_order_fault}

-- law: each batch has a plan, whatever the directory
abbrev pub EachBatchHasAPlan : Type 0
EachBatchHasAPlan = (directory : DirectoryValue) (is : List Instruction) → (plan : PlanValue) × IsPlan directory is plan

-- law: a list of numbers has no fault exactly where it is a legal order
abbrev pub NoFaultIsALegalOrder : Type 0
NoFaultIsALegalOrder = (directory : DirectoryValue) (is : List Instruction) (plan : PlanValue) (order : List ℕ)
    → IsPlan directory is plan → (first_order_fault plan order ≡ None) ↔ IsLegalOrder plan order

-- the fault names this position, and its number is no place
pub record IsNoPlace (plan : PlanValue) (position number at : ℕ) : Type 0 where
  pub named : at ≡ position
  pub outside : 1 ≤ number → length plan.levels < number

-- the fault names this position, and its number has come before
pub record HasCome (before : List ℕ) (position number at : ℕ) : Type 0 where
  pub named : at ≡ position
  pub come : Contains before number

-- the fault names an arrow to the number, and the arrow's tail has not come before
pub record IsEarly (plan : PlanValue) (before : List ℕ) (number from to : ℕ) : Type 0 where
  pub named : to ≡ number
  pub arrow : (account : ℕ) × Contains plan.arrows (record { to = to; from = from; account = account })
  pub missing : ¬ (Contains before from)

-- what a fault says of the number at this position, after the numbers before it
abbrev pub Says : PlanValue → List ℕ → ℕ → ℕ → OrderFault → Type 0
Says plan before position number Length = ⊥
Says plan before position number NoMemory = ⊥
Says plan before position number (Number at) = IsNoPlace plan position number at
Says plan before position number (Repeated at) = HasCome before position number at
Says plan before position number (Waits from to) = IsEarly plan before number from to

-- the numbers before this position, counted from 1, have no fault; with the number at it they have exactly this one;
-- and what the fault says of that number is so
pub record IsAtPosition (plan : PlanValue) (order : List ℕ) (fault : OrderFault) (position : ℕ) : Type 0 where
  pub from_one : 1 ≤ position
  pub within : position ≤ length order
  pub none_before : first_fault_after plan.arrows (length plan.levels) [] (take (position - 1) order) ≡ None
  pub with_it : first_fault_after plan.arrows (length plan.levels) [] (take position order) ≡ Some fault
  pub says : Says plan (take (position - 1) order) position (slice_index order (position - 1)) fault

-- law: a fault, unless it is a wrong length, is that of the first position that has one
abbrev pub FaultIsAtFirstPosition : Type 0
FaultIsAtFirstPosition = (plan : PlanValue) (order : List ℕ) (fault : OrderFault)
    → first_order_fault plan order ≡ Some fault → ¬ (fault ≡ Length)
    → (position : ℕ) × IsAtPosition plan order fault position

-- law: every tail's level is below its head's
abbrev pub LevelsRiseAlongArrows : Type 0
LevelsRiseAlongArrows = (directory : DirectoryValue) (is : List Instruction) (plan : PlanValue) (arrow : Arrow)
    → IsPlan directory is plan → Contains plan.arrows arrow
    → level_at plan.levels arrow.from < level_at plan.levels arrow.to

-- the arrow's head touches its account, and its tail is the last toucher before the head
pub record LeadsFromLastToucher (directory : DirectoryValue) (is : List Instruction) (arrow : Arrow) : Type 0 where
  pub head : touches_place directory is arrow.account arrow.to ≡ true
  pub tail : arrow.from ≡ last_toucher directory is arrow.account (arrow.to - 1)
  pub is_one : 1 ≤ arrow.from

-- law: just these are the arrows
abbrev pub TailsAreLastTouchers : Type 0
TailsAreLastTouchers = (directory : DirectoryValue) (is : List Instruction) (arrow : Arrow) → IsArrow directory is arrow
    ↔ LeadsFromLastToucher directory is arrow
