-- The program by its parts, and what a parse of it gives.
use Rattle.std.proofs.Common.{◌≡◌, ◌⊎◌, ◌∙◌, Err, IfErr, List, Ok, Result, ap, ap₂, inl, inr, refl, subst, sym, true}
use Rattle.clap.specs.Words.{App, FailsBy, HasKind, IsAmong, Shape, Text, app_of, fault_of, is_simple_and_free}
use Rattle.clap.specs.Words.{kind_of, takes, with_subcommand}
use Rattle.clap.specs.Built.{AddsSubcommand}
use Rattle.clap.specs.declared.builder.command.Command.{Command as Described}
use Rattle.clap.specs.declared.error.Error.{Error}
use Rattle.clap.specs.declared.error.kind.ErrorKind.{ErrorKind}
use Rattle.clap.specs.declared.error.kind.ErrorKind.TheVariants.{DisplayHelp, DisplayVersion, MissingSubcommand}
use Rattle.clap.specs.declared.error.kind.ErrorKind.TheVariants.{OutOfMemory}
use Rattle.clap.proofs.OnLiterals.{clap_on_literals}
use Rattle.reg_front.specs.declared.command.Command.{Command}
use Rattle.registry.specs.Program.{IsDescribed, program}
use Rattle.registry.specs.Words.{AsksFor, AsksForHelp, IsAnError}

-- the program with one more command
pub added : (old sub new : Described) (app : App) (shape : Shape) → app_of old ≡ app → IsDescribed shape sub
    → AddsSubcommand old sub new → app_of new ≡ with_subcommand app shape
added old sub new app shape is described adds =
    adds.shape described.local ∙ ap₂ with_subcommand is (ap (λ (a : App). a.top) described.app)

-- `clap` reads its words as functions tell, and tells the kind of an error
pub program_is_free : is_simple_and_free program ≡ true
unfolding clap_on_literals
program_is_free = refl

-- an error of a parse of the program's words has one of the kinds of these words, and if they are taken, memory ran out
is_an_error : (words : List Text) (kind : ErrorKind) → (takes program words ≡ true → kind ≡ OutOfMemory)
    → (kind ≡ OutOfMemory) ⊎ IsAmong kind (fault_of program words) → IsAnError words kind
is_an_error words kind passes kinds = record {
  help = λ help. among help kinds;
  taken = λ command taken. passes taken.0;
} where
  among : (kind ≡ DisplayHelp) ⊎ (kind ≡ DisplayVersion)
      → (kind ≡ OutOfMemory) ⊎ IsAmong kind (fault_of program words) → AsksForHelp words
  among (inl e) (inl memory) = let bad : DisplayHelp ≡ OutOfMemory = sym e ∙ memory in cc
  among (inr e) (inl memory) = let bad : DisplayVersion ≡ OutOfMemory = sym e ∙ memory in cc
  among (inl e) (inr one) = inl (subst (λ k. IsAmong k (fault_of program words)) e one)
  among (inr e) (inr one) = inr (subst (λ k. IsAmong k (fault_of program words)) e one)

-- the same of what a parse by this description answers
pub error_of_parse : {T : Type 0} (app : App) (words : List Text) (r : Result T Error) → app ≡ program
    → IfErr r (λ e. takes app words ≡ true → kind_of e ≡ OutOfMemory)
    → (is_simple_and_free app ≡ true → FailsBy (fault_of app words) r)
    → IfErr r (λ e. IsAnError words (kind_of e))
error_of_parse app words (Ok x) is passes kinds = tt
error_of_parse app words (Err e) is passes kinds = is_an_error words (kind_of e)
    (λ taken. passes (ap (λ (a : App). takes a words) is ∙ taken))
    (subst (λ (a : App). HasKind (fault_of a words) e) is (kinds (ap is_simple_and_free is ∙ program_is_free)))

-- an error of another kind is no help, and no words are taken that name no command
pub missing : (words : List Text) (kind : ErrorKind) → kind ≡ MissingSubcommand
    → ((command : Command) → AsksFor words command → ⊥) → IsAnError words kind
missing words kind is none = record {
  help = λ help. absurd (no_help help);
  taken = λ command taken. absurd (none command taken.1);
} where
  no_help : (kind ≡ DisplayHelp) ⊎ (kind ≡ DisplayVersion) → ⊥
  no_help (inl e) = let bad : MissingSubcommand ≡ DisplayHelp = sym is ∙ e in cc
  no_help (inr e) = let bad : MissingSubcommand ≡ DisplayVersion = sym is ∙ e in cc
