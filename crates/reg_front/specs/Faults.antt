-- The faults of the engine's parts.
use Rattle.reg_text.specs.declared.cause.DayFault.{DayFault}
use Rattle.reg_text.specs.declared.cause.DayFault.TheVariants as day
use Rattle.reg_front.specs.declared.device.ReadFault.{ReadFault}
use Rattle.reg_front.specs.declared.device.ReadFault.TheVariants as read
use Rattle.reg_front.specs.declared.fault.FrontFault.{FrontFault}
use Rattle.reg_front.specs.declared.fault.FrontFault.TheVariants as front
use Rattle.reg_front.specs.Streams.{Stream}
use Rattle.reg_front.specs.Devices.{FailsToRead, IsPartlyRead, IsTooLong}

-- the fault of `run` for each fault of the reader
abbrev pub fault_of_read : ReadFault → FrontFault
fault_of_read read.Failed = front.Read
fault_of_read read.TooLong = front.Read
fault_of_read read.NoMemory = front.NoMemory

-- why an input was not read to its end, and what was read of it
abbrev pub IsReadFault : Stream → Stream → ReadFault → Type 0
IsReadFault input rest read.Failed = FailsToRead input rest
IsReadFault input rest read.TooLong = IsPartlyRead input rest × IsTooLong input
IsReadFault input rest read.NoMemory = IsPartlyRead input rest

-- the fault of `run` for each fault of the text
abbrev pub fault_of_day : DayFault → FrontFault
fault_of_day (day.Row row cause) = front.Row row cause
fault_of_day day.NoMemory = front.NoMemory
