-- What the words ask for, by what `clap` finds among them.
use Rattle.std.specs.Prelude.{◌≡◌, ◌<◌, ◌^◌, ◌⊎◌, ⊤, ℕ, List, Option, Some, None, true, codes}
use Rattle.std.specs.Str.Parse.{IsNumeral, without_leading_plus}
use Rattle.clap.specs.Words.{IsAmong, Row, Text, fault_of, one_of, subcommand_of, takes}
use Rattle.clap.specs.declared.error.kind.ErrorKind.{ErrorKind}
use Rattle.clap.specs.declared.error.kind.ErrorKind.TheVariants.{DisplayHelp, DisplayVersion, OutOfMemory}
use Rattle.reg_base.specs.Numbers.{IsAccountNo}
use Rattle.reg_front.specs.Ranges.{word_number}
use Rattle.reg_front.specs.declared.command.Command.{Command}
use Rattle.reg_front.specs.declared.command.Command.TheVariants.{Settle, Plan, Statement, Figures, Totals}
use Rattle.registry.specs.Program.{program}

-- the word that asks for a command
abbrev pub command_name : Command → Text
command_name (Settle workers) = codes "settle"
command_name Plan = codes "plan"
command_name (Statement account) = codes "statement"
command_name Figures = codes "figures"
command_name Totals = codes "totals"

-- the word spells a number of 32 bits in decimal digits, with or without a plus sign
abbrev pub IsNumberWord : Text → Type 0
IsNumberWord word = IsNumeral 10 (without_leading_plus word) × (word_number word < 2 ^ 32)

-- this word was found for the argument, and spells the number
pub record IsSpelled (rows : List Row) (argument : Text) (number : ℕ) : Type 0 where
  pub word : Text
  pub found : one_of argument rows ≡ Some word
  pub numeral : IsNumberWord word
  pub value : number ≡ word_number word

-- a command that takes a number has the one that was found
abbrev pub HasNumber : List Row → Command → Type 0
HasNumber rows (Settle workers) = IsSpelled rows (codes "workers") workers
HasNumber rows (Statement account) = IsSpelled rows (codes "account") account × IsAccountNo account
HasNumber rows command = ⊤

-- a command of this name was found with these values, and is this one
pub record IsCommandOf (found : Text) (rows : List Row) (command : Command) : Type 0 where
  pub name : found ≡ command_name command
  pub number : HasNumber rows command

-- the same, if a name was found at all
abbrev pub IsCommandIn : Option (Text × List Row) → Command → Type 0
IsCommandIn None command = ⊥
IsCommandIn (Some found) command = IsCommandOf found.0 found.1 command

-- the words, which stand without the program's name, ask for this command
abbrev pub AsksFor : List Text → Command → Type 0
AsksFor words command = IsCommandIn (subcommand_of program words) command

-- the words ask for the help or the version
abbrev pub AsksForHelp : List Text → Type 0
AsksForHelp words = IsAmong DisplayHelp (fault_of program words) ⊎ IsAmong DisplayVersion (fault_of program words)

-- the program takes the words, and they ask for this command
abbrev pub WordsAreTaken : List Text → Command → Type 0
WordsAreTaken words command = (takes program words ≡ true) × AsksFor words command

-- no command is carried out for an error of this kind: help or the version only if the words ask for it; and if they
-- ask for a command that the program takes, memory ran out
pub record IsAnError (words : List Text) (kind : ErrorKind) : Type 0 where
  pub help : (kind ≡ DisplayHelp) ⊎ (kind ≡ DisplayVersion) → AsksForHelp words
  pub taken : (command : Command) → WordsAreTaken words command → kind ≡ OutOfMemory
