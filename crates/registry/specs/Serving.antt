-- What `serve` does, and the status that it answers.
use Rattle.std.specs.Prelude.{◌≡◌, ◌≢◌, ◌⊎◌, ℕ, List, [], ◌∷◌, Option, Some, None, Contains, String}
use Rattle.std.specs.Prelude.{drop, map, string_bytes}
use Rattle.std.specs.Global.{Global}
use Rattle.std.specs.declared.io.ErrorKind.{ErrorKind}
use Rattle.std.specs.declared.io.ErrorKind.TheVariants.{OutOfMemory}
use Rattle.clap.specs.Words.{Text}
use Rattle.reg_front.specs.declared.command.Command.{Command}
use Rattle.reg_front.specs.declared.counted.Counted.{Counted}
use Rattle.reg_front.specs.declared.fault.FrontFault.{FrontFault}
use Rattle.reg_front.specs.declared.fault.FrontFault.TheVariants.{NoMemory}
use Rattle.reg_front.specs.Counting.{counted_stream}
use Rattle.reg_front.specs.Streams.{Stream}
use Rattle.reg_front.specs.Lines.{IsTold}
use Rattle.reg_front.specs.Runs.{CarriesOut}
use Rattle.registry.specs.Statuses.{exit_status_of}
use Rattle.registry.specs.Words.{AsksFor, AsksForHelp, WordsAreTaken}

-- the reader, the writer and the writer of faults at one moment
pub record Streams : Type 0 where
  pub reader : Stream
  pub writer : Stream
  pub faults : Stream

abbrev pub streams : Stream → Stream → Stream → Streams
streams r w f = record { reader = r; writer = w; faults = f }

-- the same of a reader, and of two writers whose calls are counted, and whose bytes these functions tell
abbrev pub streams_of : {W F : Type 0} → (W → Option (List ℕ)) → (F → Option (List ℕ)) → Stream → Counted W
    → Counted F → Streams
streams_of contents told r w f = streams r (counted_stream contents w) (counted_stream told f)

-- 0 after a command without a fault, or the status of its fault
abbrev pub status_after : Option FrontFault → ℕ
status_after None = 0
status_after (Some fault) = exit_status_of fault

-- the writer of faults has got the line of the fault, or nothing if there is none
abbrev pub IsToldAfter : Option FrontFault → Stream → Stream → Type 0
IsToldAfter None old new = new ≡ old
IsToldAfter (Some fault) old new = IsTold fault old new

-- the command is carried out, and its end decides the status and the line of the fault
pub record Obeys (command : Command) (status : ℕ) (old new : Streams) : Type 0 where
  pub fault : Option FrontFault
  pub carried_out : CarriesOut command fault old.reader new.reader old.writer new.writer
  pub answered : status ≡ status_after fault
  pub told : IsToldAfter fault old.faults new.faults

-- a status in place of a command's: help or the version was shown (0), the words were not taken (2), or memory ran out
-- (4), of which the line tells; only help or the version is written to the writer
pub record IsEnded (status : ℕ) (old new before after : Stream) : Type 0 where
  pub answered : Contains (0 ∷ 2 ∷ 4 ∷ []) status
  pub kept : status ≢ 0 → new ≡ old
  pub quiet : status ≡ 0 → after ≡ before
  pub told : status ≡ 4 → IsTold NoMemory before after

-- no input is read, and no command is carried out: help or the version was shown because the words ask for it, the
-- words were not taken, or memory ran out, which alone keeps words that are taken from being carried out
pub record IsShown (words : List Text) (status : ℕ) (old new : Streams) : Type 0 where
  pub unread : new.reader ≡ old.reader
  pub ended : IsEnded status old.writer new.writer old.faults new.faults
  pub help : status ≡ 0 → AsksForHelp words
  pub taken : (command : Command) → WordsAreTaken words command → status ≡ 4

-- the command that the words ask for is obeyed, or none is carried out
abbrev pub Serves : List Text → ℕ → Streams → Streams → Type 0
Serves words status old new =
    ((command : Command) × AsksFor words command × Obeys command status old new) ⊎ IsShown words status old new

-- the program has these arguments, and serves the words behind the first one, its name
abbrev pub ServesArguments : List (String Global) → ℕ → Streams → Streams → Type 0
ServesArguments arguments status old new = Serves (map string_bytes (drop 1 arguments)) status old new

-- the system gave no arguments: status 4 if memory ran out, of which the line tells, else 2, as a word is no UTF-8; no
-- input is read, and nothing is written to the writer
pub record IsUnread (kind : ErrorKind) (status : ℕ) (old new : Streams) : Type 0 where
  pub memory : kind ≡ OutOfMemory → status ≡ 4
  pub word : kind ≢ OutOfMemory → status ≡ 2
  pub unread : new.reader ≡ old.reader
  pub kept : new.writer ≡ old.writer
  pub told : status ≡ 4 → IsTold NoMemory old.faults new.faults
