-- A state is the list of its accounts' values. What the rules read of it are maps from account numbers.
use Rattle.std.specs.Prelude.{ℕ, ℤ, Bool, false, ◌==◌, List, [], map, find, Option, None}
use Rattle.std.specs.Option.{option_map, option_map_or}
use Rattle.reg_base.specs.declared.kinds.AllowanceKind.{AllowanceKind}
use Rattle.reg_base.specs.declared.kinds.Status.{Status}
use Rattle.reg_base.specs.declared.act.Act.{Act}
use Rattle.reg_base.specs.declared.movement.Movement.{Movement}
use Rattle.reg_base.specs.Acts.{movement_of}
use Rattle.reg_base.specs.Rules.{RulesValue}
use Rattle.reg_base.specs.Directory.{DirectoryValue}
use Rattle.reg_base.specs.declared.kinds.Retirement.{Retirement}
use Rattle.reg_account.specs.declared.rows.RetirementRow.{RetirementRow}
use Rattle.reg_account.specs.Rows.{row_in, retired_in}
use Rattle.reg_account.specs.Years.{emissions_in, figure_in}
use Rattle.reg_account.specs.Trusted.{effective_in}
use Rattle.reg_account.specs.Account.{AccountValue, held_by}

abbrev pub State : Type 0
State = List AccountValue

-- what stays the same throughout the day
pub record Setting : Type 0 where
  pub rules : RulesValue
  pub day : ℕ
  pub directory : DirectoryValue

-- the numbers of the accounts, in the order of the list
abbrev pub numbers : State → List ℕ
numbers s = map (λ v. v.number) s

-- the account with this number
abbrev pub account : State → ℕ → Option AccountValue
account s a = find (λ v. v.number == a) s

-- how many allowances of a kind the account holds, 0 if it is not there
abbrev pub held : State → ℕ → AllowanceKind → ℕ
held s a kind = option_map_or (λ v. held_by v kind) (account s a) 0

-- the surrenders and deletions of the account, none if it is not there
abbrev pub rows : State → ℕ → List RetirementRow
rows s a = option_map_or (λ v. v.rows) (account s a) []

-- the surrender or deletion of the account with this record number
abbrev pub retirement_row : State → ℕ → ℕ → Option RetirementRow
retirement_row s a number = row_in (rows s a) number

-- how many allowances of a kind the account has surrendered (or deleted), without what was reversed
abbrev pub retired_at : State → ℕ → Retirement → AllowanceKind → ℕ
retired_at s a way kind = retired_in way kind (rows s a)

-- the emissions of the account in a year, in tonnes, if they were entered
abbrev pub emitted : State → ℕ → ℕ → Option ℕ
emitted s a year = option_map_or (λ v. emissions_in v.emissions year) (account s a) None

-- the compliance figure of the account that was determined for a year, in tonnes, if there is one
abbrev pub determined : State → ℕ → ℕ → Option ℤ
determined s a year = option_map_or (λ v. figure_in v.figures year) (account s a) None

-- the status of the account, if it is there
abbrev pub status : State → ℕ → Option Status
status s a = option_map (λ v. v.status) (account s a)

-- the day from which the account's trusted list has the other account, if it has it
abbrev pub listed : State → ℕ → ℕ → Option ℕ
listed s a other = option_map_or (λ v. effective_in v.trusted other) (account s a) None

-- an account that is to receive, and how many allowances
pub record Receiver : Type 0 where
  pub account : Option AccountValue
  pub amount : ℕ

-- all that an act may look at: its first account, and those that receive
pub record Seen : Type 0 where
  pub first : Option AccountValue
  pub receivers : List Receiver

-- the accounts of a movement in a state
abbrev pub seen_by : Movement → State → Seen
seen_by m s = record {
  first = account s m.first;
  receivers = map (λ share. record { account = account s share.to; amount = share.amount }) m.shares;
}

-- what an act sees of a state
abbrev pub seen : State → Act → Seen
seen s act = seen_by (movement_of act) s

-- the account is there and passes the test
abbrev pub passes : (AccountValue → Bool) → Option AccountValue → Bool
passes test found = option_map_or test found false
