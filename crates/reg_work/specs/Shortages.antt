-- What workers lacked, as a fault.
use Rattle.std.specs.Prelude.{ℕ, ◌≤◌}
use Rattle.reg_book.specs.declared.settle.SettleFault.{SettleFault}
use Rattle.reg_book.specs.declared.settle.SettleFault.TheVariants as plain
use Rattle.reg_work.specs.declared.fault.Shortage.{Shortage}
use Rattle.reg_work.specs.declared.fault.Shortage.TheVariants.{Thread, Day}
use Rattle.reg_work.specs.declared.fault.WorkFault.{WorkFault}
use Rattle.reg_work.specs.declared.fault.WorkFault.TheVariants as fault

-- the fault for what was lacking
abbrev pub fault_of_shortage : Shortage → WorkFault
fault_of_shortage Thread = fault.NoThread
fault_of_shortage (Day lack) = fault.NoMemory

-- the fault for that of a context
abbrev pub fault_of_context : SettleFault → WorkFault
fault_of_context (plain.WrongBase next) = fault.WrongBase next
fault_of_context plain.NoMemory = fault.NoMemory

-- so many workers may lack this: a single one is the calling thread, so it lacks no thread
abbrev pub IsShortage : ℕ → Shortage → Type 0
IsShortage workers Thread = 2 ≤ workers
IsShortage workers (Day lack) = Unit {0}
