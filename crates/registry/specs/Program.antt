-- The program's words, as `clap` reads them: its commands, and the argument that two of them take.
use Rattle.std.specs.Prelude.{◌≡◌, [], ◌∷◌, Some, true, false, codes, pos}
use Rattle.clap.specs.Simple.{new_rule, new_shape}
use Rattle.clap.specs.Words.{App, Rule, Shape, app_of}
use Rattle.clap.specs.declared.builder.command.Command.{Command}
use Rattle.clap.specs.declared.builder.command.Command.TheViews.{out-Command}
use Rattle.clap.specs.declared.builder.value_parser.ValueParser.TheVariants.{Signed, Unsigned}
use Rattle.reg_base.specs.declared.limits.TheConstants.{MOST_NUMBER}

-- `--workers N`: a number of 32 bits, 4 if it is not given
abbrev pub workers_rule : Rule
workers_rule = record (new_rule (codes "workers")) {
  long = Some (codes "workers");
  value_names = 1;
  parser = Some (Signed (pos 0) (pos 4294967295));
  defaults = codes "4" ∷ [];
}

-- `ACCOUNT`: the number of an account, which must be given
abbrev pub account_rule : Rule
account_rule = record (new_rule (codes "account")) {
  required = true;
  value_names = 1;
  parser = Some (Unsigned 1 MOST_NUMBER);
}

abbrev pub settle_shape : Shape
settle_shape = record (new_shape (codes "settle")) { rules = workers_rule ∷ [] }

abbrev pub plan_shape : Shape
plan_shape = new_shape (codes "plan")

abbrev pub statement_shape : Shape
statement_shape = record (new_shape (codes "statement")) { rules = account_rule ∷ [] }

abbrev pub figures_shape : Shape
figures_shape = new_shape (codes "figures")

abbrev pub totals_shape : Shape
totals_shape = new_shape (codes "totals")

-- the program without its commands: its words stand without its name, and name a command
abbrev pub program_shape : Shape
program_shape = record (new_shape (codes "registry")) {
  no_binary_name = true;
  has_version = true;
  subcommand_required = true;
  arg_required_else_help = true;
}

abbrev pub program : App
program = record {
  top = record program_shape { is_leaf = false };
  subs = settle_shape ∷ plan_shape ∷ statement_shape ∷ figures_shape ∷ totals_shape ∷ [];
}

-- the command is described so, without subcommands, and no argument of it holds for others
pub record IsDescribed (shape : Shape) (command : Command) : Type 0 where
  pub app : app_of command ≡ record { top = shape; subs = [] }
  pub local : (out-Command command).has_globals ≡ false
