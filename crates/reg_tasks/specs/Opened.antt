-- Opening values of accounts, as parcels.
use Rattle.std.specs.Prelude.{◌≡◌, ℕ, ◌==◌, slice_index, Option, Some, is_some, IfSome}
use Rattle.reg_rules.specs.State.{State, account}
use Rattle.reg_plan.specs.Plans.{PlanValue}
use Rattle.reg_book.specs.Day.{DayValue}
use Rattle.reg_schedules.specs.Pool.{footprint_at, tail_of}
use Rattle.reg_tasks.specs.declared.naming.Naming.{Ghosts}
use Rattle.reg_tasks.specs.declared.parcel.Parcel.{Parcel}

module _ {N : Type 0} {b : Ghosts N} where
  -- the opening value of an account: as it stands among these, after no instruction
  pub record IsOpeningValue (accounts : State) (a : ℕ) (parcel : Parcel N b) : Type 0 where
    pub value : account accounts a ≡ Some parcel.value
    pub after : parcel.after ≡ 0

  -- the opening value of the account at this index of the footprint of a place, exactly if no arrow leads to the place
  -- at that account
  pub record IsOpeningAt (day : DayValue) (plan : PlanValue) (place index : ℕ) (opened : Option (Parcel N b)) : Type 0
    where
      pub first : is_some opened ≡ (tail_of plan place (slice_index (footprint_at day place) index) == 0)
      pub opening : IfSome opened (IsOpeningValue day.book.accounts (slice_index (footprint_at day place) index))
