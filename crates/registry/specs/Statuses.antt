-- The exit status of each fault.
use Rattle.std.specs.Prelude.{ℕ}
use Rattle.reg_front.specs.declared.fault.FrontFault.{FrontFault}
use Rattle.reg_front.specs.declared.fault.FrontFault.TheVariants.{Row, Read, Workers, NoAccount, NoThread, NoMemory}
use Rattle.reg_front.specs.declared.fault.FrontFault.TheVariants.{WriteFailed}

-- 2 for the arguments, 3 for the day text, 4 for threads and memory, 5 for a reader or writer
abbrev pub exit_status_of : FrontFault → ℕ
exit_status_of Workers = 2
exit_status_of NoAccount = 2
exit_status_of (Row row cause) = 3
exit_status_of NoThread = 4
exit_status_of NoMemory = 4
exit_status_of Read = 5
exit_status_of WriteFailed = 5
