-- What stands in the slots of a day.
use Rattle.std.specs.Prelude.{ℕ, Option}
use Rattle.reg_tasks.specs.declared.naming.Naming.{Ghosts}
use Rattle.reg_tasks.specs.declared.slots.Slots.{Slots}
use Rattle.reg_tasks.specs.Slots.{standing_in}

module _ {N : Type 0} {b : Ghosts N} where
  -- the name of the parcel that stands for an account, if there is one
  abbrev pub stands : Slots N b → ℕ → Option (ℕ × ℕ)
  stands s = standing_in s.context.now.plan.openings s.slots.items
