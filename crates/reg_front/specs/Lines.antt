-- The lines that tell of faults.
use Rattle.std.specs.Prelude.{ℕ, List, [], ◌∷◌, ◌++◌, ◌⊎◌, codes, decimal}
use Rattle.reg_text.specs.Causes.{cause_name}
use Rattle.reg_text.specs.declared.cause.Cause.{Cause}
use Rattle.reg_front.specs.declared.fault.FrontFault.{FrontFault}
use Rattle.reg_front.specs.declared.fault.FrontFault.TheVariants.{Row, Read, Workers, NoAccount, NoThread, NoMemory}
use Rattle.reg_front.specs.declared.fault.FrontFault.TheVariants.{WriteFailed}
use Rattle.reg_front.specs.Streams.{Stream}
use Rattle.reg_front.specs.Devices.{FailsToWrite, HandsOn}

-- what the line of a faulty row says
abbrev pub faulty_row_text : ℕ → Cause → List ℕ
faulty_row_text row cause = codes "row " ++ decimal row ++ codes ": " ++ cause_name cause

-- what the line of a fault says
abbrev pub fault_text : FrontFault → List ℕ
fault_text (Row row cause) = faulty_row_text row cause
fault_text Read = codes "read failed"
fault_text Workers = codes "workers must be 1 to 8"
fault_text NoAccount = codes "no such account"
fault_text NoThread = codes "no thread"
fault_text NoMemory = codes "out of memory"
fault_text WriteFailed = codes "write failed"

-- the line of a fault, with its end
abbrev pub fault_line : FrontFault → List ℕ
fault_line fault = fault_text fault ++ 10 ∷ []

-- the writer has got the line of the fault, whole and handed on if none of its calls failed, else a prefix of it
abbrev pub IsTold : FrontFault → Stream → Stream → Type 0
IsTold fault old new = HandsOn (fault_line fault) old new ⊎ FailsToWrite (fault_line fault) old new
