-- What is found among words that are written out.
use Rattle.std.proofs.Common.{◌≡◌, ◌∷◌, [], List, Option, Some, None, ap, arith, codes, option_map, refl, true}
use Rattle.clap.specs.Words.{Row, Text, one_of, subcommand_of, takes}
use Rattle.clap.proofs.OnLiterals.{clap_on_literals}
use Rattle.reg_front.specs.declared.command.Command.{Command}
use Rattle.reg_front.specs.declared.command.Command.TheVariants.{Settle, Plan, Statement, Figures, Totals}
use Rattle.registry.specs.Program.{program}
use Rattle.registry.specs.Words.{HasNumber, IsCommandIn, IsNumberWord, WordsAreTaken, command_name}

-- the name that was found, and the word that was found for an argument
abbrev Seen : Type 0
Seen = Text × Option Text

abbrev seen : Text → Option (Text × List Row) → Option Seen
seen argument = option_map (λ found. (found.0, one_of argument found.1))

-- a command whose name was found, with the number that its word spells
found_in : (found : Option (Text × List Row)) (argument : Text) (word : Option Text) (command : Command)
    → seen argument found ≡ Some (command_name command, word)
    → ((rows : List Row) → one_of argument rows ≡ word → HasNumber rows command) → IsCommandIn found command
found_in None argument word command is number = cc
found_in (Some found) argument word command is number = record {
  name = ap (λ (s : Seen). s.0) same;
  number = number found.1 (ap (λ (s : Seen). s.1) same);
} where
  some : {a b : Seen} → Some a ≡ Some b → a ≡ b
  some {a} {b} e = cc

  same : ◌≡◌ {A = Seen} (found.0, one_of argument found.1) (command_name command, word)
  same = some is

abbrev settle_words : List Text
settle_words = codes "settle" ∷ []

settle_takes : takes program settle_words ≡ true
unfolding clap_on_literals
settle_takes = refl

settle_seen : seen (codes "workers") (subcommand_of program settle_words) ≡ Some (codes "settle", Some (codes "4"))
unfolding clap_on_literals
settle_seen = refl

settle_number : IsNumberWord (codes "4")
settle_number = ((omega arith, (omega arith, tt)), omega arith)

pub settle_taken : WordsAreTaken settle_words (Settle 4)
settle_taken = (
  settle_takes,
  found_in _ (codes "workers") (Some (codes "4")) (Settle 4) settle_seen
      (λ rows e. record { word = codes "4"; found = e; numeral = settle_number; value = refl }),
)

abbrev workers_words : List Text
workers_words = codes "settle" ∷ codes "--workers" ∷ codes "8" ∷ []

workers_takes : takes program workers_words ≡ true
unfolding clap_on_literals
workers_takes = refl

workers_seen : seen (codes "workers") (subcommand_of program workers_words) ≡ Some (codes "settle", Some (codes "8"))
unfolding clap_on_literals
workers_seen = refl

workers_number : IsNumberWord (codes "8")
workers_number = ((omega arith, (omega arith, tt)), omega arith)

pub workers_taken : WordsAreTaken workers_words (Settle 8)
workers_taken = (
  workers_takes,
  found_in _ (codes "workers") (Some (codes "8")) (Settle 8) workers_seen
      (λ rows e. record { word = codes "8"; found = e; numeral = workers_number; value = refl }),
)

abbrev plan_words : List Text
plan_words = codes "plan" ∷ []

plan_takes : takes program plan_words ≡ true
unfolding clap_on_literals
plan_takes = refl

plan_seen : seen (codes "workers") (subcommand_of program plan_words) ≡ Some (codes "plan", None)
unfolding clap_on_literals
plan_seen = refl

pub plan_taken : WordsAreTaken plan_words Plan
plan_taken = (
  plan_takes,
  found_in _ (codes "workers") (None) Plan plan_seen
      (λ rows e. tt),
)

abbrev statement_words : List Text
statement_words = codes "statement" ∷ codes "12" ∷ []

statement_takes : takes program statement_words ≡ true
unfolding clap_on_literals
statement_takes = refl

statement_seen : seen (codes "account") (subcommand_of program statement_words)
    ≡ Some (codes "statement", Some (codes "12"))
unfolding clap_on_literals
statement_seen = refl

statement_number : IsNumberWord (codes "12")
statement_number = ((omega arith, (omega arith, (omega arith, tt))), omega arith)

pub statement_taken : WordsAreTaken statement_words (Statement 12)
statement_taken = (
  statement_takes,
  found_in _ (codes "account") (Some (codes "12")) (Statement 12) statement_seen
      (λ rows e. (
        record { word = codes "12"; found = e; numeral = statement_number; value = refl },
        record { low = omega arith; high = omega arith },
      )),
)

abbrev figures_words : List Text
figures_words = codes "figures" ∷ []

figures_takes : takes program figures_words ≡ true
unfolding clap_on_literals
figures_takes = refl

figures_seen : seen (codes "workers") (subcommand_of program figures_words) ≡ Some (codes "figures", None)
unfolding clap_on_literals
figures_seen = refl

pub figures_taken : WordsAreTaken figures_words Figures
figures_taken = (
  figures_takes,
  found_in _ (codes "workers") (None) Figures figures_seen
      (λ rows e. tt),
)

abbrev totals_words : List Text
totals_words = codes "totals" ∷ []

totals_takes : takes program totals_words ≡ true
unfolding clap_on_literals
totals_takes = refl

totals_seen : seen (codes "workers") (subcommand_of program totals_words) ≡ Some (codes "totals", None)
unfolding clap_on_literals
totals_seen = refl

pub totals_taken : WordsAreTaken totals_words Totals
totals_taken = (
  totals_takes,
  found_in _ (codes "workers") (None) Totals totals_seen
      (λ rows e. tt),
)
