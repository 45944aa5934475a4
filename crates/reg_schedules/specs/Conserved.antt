-- The number of allowances after a day's instructions: one after another, in every legal order and by every schedule
-- that ends.
use Rattle.std.specs.Prelude.{◌≡◌, ℕ, ◌+◌, ◌≤◌, true, List, length, map, unwrap_or, Option, Some}
use Rattle.reg_base.specs.declared.kinds.AllowanceKind.{AllowanceKind}
use Rattle.reg_account.specs.Account.{AccountValue}
use Rattle.reg_rules.specs.State.{State, account}
use Rattle.reg_rules.specs.Conservation.{number_of}
use Rattle.reg_plan.specs.Plans.{PlanValue}
use Rattle.reg_plan.specs.Orders.{IsLegalOrder}
use Rattle.reg_book.specs.Day.{DayValue, IsDay, state_at}
use Rattle.reg_book.specs.Conservation.{created, deleted, undeleted}
use Rattle.reg_schedules.specs.Laws.{IsPlanOf}
use Rattle.reg_schedules.specs.Pool.{Progress, meaning_of}
use Rattle.reg_schedules.specs.declared.event.Event.{Event}
use Rattle.reg_schedules.specs.World.{WorldValue, world_after, is_over}

-- the accounts of the book, each as it is at the end of the day: the touched ones are closing, the others are as before
abbrev pub closing_book : DayValue → (ℕ → Option AccountValue) → State
closing_book day closing = map (λ v. unwrap_or (closing v.number) v) day.book.accounts

-- the number of allowances that these accounts hold or have surrendered differs from the opening number only by
-- accepted creations, deletions and reversals of deletions
abbrev pub IsConserved : DayValue → State → Type 0
IsConserved day after = (kind : AllowanceKind)
    → number_of kind after + deleted day kind ≡ number_of kind day.book.accounts + created day kind + undeleted day kind

-- law: no allowance appears or vanishes otherwise, whether the instructions are executed one after another, in any
-- legal order, or by any schedule that ends
pub record ConservedByAll (day : DayValue) (plan : PlanValue) : Type 0 where
  pub one_by_one : IsConserved day (state_at day (length day.batch.instructions))
  pub orders : (order : List ℕ) (end : Progress) → IsLegalOrder plan order → meaning_of day plan order ≡ Some end
      → IsConserved day (closing_book day end.closing)
  pub schedules : (workers : ℕ) (events : List Event) (world : WorldValue) → 1 ≤ workers
      → world_after day plan workers events ≡ Some world → is_over world ≡ true
      → IsConserved day (closing_book day (account world.closing))

abbrev pub Conserved : Type 0
Conserved = (day : DayValue) (plan : PlanValue) → IsDay day → IsPlanOf day plan → ConservedByAll day plan
