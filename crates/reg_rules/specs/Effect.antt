-- What an accepted act makes of the accounts.
use Rattle.std.specs.Prelude.{◌≡◌, ℕ, ◌+◌, ◌≤◌, ℤ, false, ◌==◌, List, [], ◌∷◌, map, find, Option, Some, None}
use Rattle.std.specs.Prelude.{MatchOption, Result, Ok, Err, if◌then◌else◌}
use Rattle.std.specs.Option.{option_map_or}
use Rattle.reg_base.specs.declared.limits.TheConstants.{MOST_HELD, MOST_EMISSIONS}
use Rattle.reg_base.specs.declared.kinds.AllowanceKind.{AllowanceKind}
use Rattle.reg_base.specs.declared.shares.Share.{Share}
use Rattle.reg_base.specs.declared.movement.Change.{Change}
use Rattle.reg_base.specs.declared.movement.Change.TheVariants.{Debit, Credit, Retire, Unretire, Trust, Untrust}
use Rattle.reg_base.specs.declared.movement.Change.TheVariants.{SetStatus, SetEmissions, Determine}
use Rattle.reg_base.specs.declared.act.Act.{Act}
use Rattle.reg_base.specs.declared.instruction.Instruction.{Instruction}
use Rattle.reg_base.specs.Acts.{movement_of, change_of, first, shares}
use Rattle.reg_base.specs.declared.kinds.Retirement.{Retirement}
use Rattle.reg_base.specs.declared.kinds.Retirement.TheVariants.{Surrendered, Deleted}
use Rattle.reg_base.specs.Rules.{RulesValue}
use Rattle.reg_account.specs.declared.rows.Fate.{Fate}
use Rattle.reg_account.specs.declared.rows.Fate.TheVariants as fate
use Rattle.reg_account.specs.declared.rows.RetirementRow.{RetirementRow}
use Rattle.reg_account.specs.declared.figure.FigureFault.{FigureFault}
use Rattle.reg_account.specs.Rows.{row_numbers, AreBelow}
use Rattle.reg_account.specs.Account.{AccountValue, held_by, credited, debited, retired, unretired, with_emissions}
use Rattle.reg_account.specs.Account.{with_determined, with_trusted, without_trusted, with_status, CanRetire}
use Rattle.reg_account.specs.Account.{CanUnretire, CanTrust}
use Rattle.reg_account.specs.Figure.{figure_of}
use Rattle.reg_rules.specs.State.{State, Setting}
use Rattle.reg_rules.specs.Trust.{effective_day}

-- what becomes today of allowances that are surrendered, for the current period, or deleted
abbrev pub fate_of : RulesValue → Retirement → Fate
fate_of rules Surrendered = fate.Surrendered rules.current
fate_of rules Deleted = fate.Deleted

-- the row of a surrender or deletion that is carried out today under this record number
abbrev pub new_row : Setting → ℕ → Retirement → AllowanceKind → ℕ → RetirementRow
new_row c number way kind amount =
    record { number = number; fate = fate_of c.rules way; kind = kind; amount = amount; day = c.day; reversed = false }

-- an account with this figure as the determined one of the year, if there is a figure
abbrev pub assessed : AccountValue → ℕ → Result ℤ FigureFault → AccountValue
assessed v year (Ok figure) = with_determined v (record { year = year; tonnes = figure })
assessed v year (Err fault) = v

-- an account whose trusted list has the other one from this day on, if there is such a day
abbrev pub listed_from : AccountValue → ℕ → Option ℕ → AccountValue
listed_from v other (Some day) = with_trusted v (record { account = other; effective = day })
listed_from v other None = v

-- an account after this change, in an act that is carried out under this record number
abbrev pub made_by : Setting → ℕ → Change → AccountValue → AccountValue
made_by c number (Debit kind amount) v = debited v kind amount
made_by c number (Credit kind amount) v = credited v kind amount
made_by c number (Retire way kind amount) v = retired v (new_row c number way kind amount)
made_by c number (Unretire reversed) v = unretired v reversed
made_by c number (Trust other) v = listed_from v other (effective_day c)
made_by c number (Untrust other) v = without_trusted v other
made_by c number (SetStatus status) v = with_status v status
made_by c number (SetEmissions year tonnes) v = with_emissions v (record { year = year; tonnes = tonnes })
made_by c number (Determine year) v = assessed v year (figure_of c.rules v year)

-- the act's first account after it
abbrev pub first_after : Setting → ℕ → Act → AccountValue → AccountValue
first_after c number act v = made_by c number (change_of act) v

-- the share of an account, if it has one
abbrev pub share_of : List Share → ℕ → Option Share
share_of shares a = find (λ share. share.to == a) shares

-- an account with its share, if it has one
abbrev pub given : AllowanceKind → List Share → AccountValue → AccountValue
given kind shares v = option_map_or (λ share. credited v kind share.amount) (share_of shares v.number) v

-- an account after the act: the first after its own change, and each other one with its share
abbrev pub after_act : Setting → ℕ → Act → AccountValue → AccountValue
after_act c number act v =
    if v.number == first act then first_after c number act v else given (movement_of act).kind (shares act) v

-- the first account, with all that acts change taken from the second: no act changes more of an account than this
abbrev pub with_changes : AccountValue → AccountValue → AccountValue
with_changes v w = record v {
  status = w.status;
  held = w.held;
  trusted = w.trusted;
  rows = w.rows;
  emissions = w.emissions;
  figures = w.figures;
}

-- an account after the act, which is carried out under this record number
abbrev pub changed_by : Setting → ℕ → Act → AccountValue → AccountValue
changed_by c number act v = with_changes v (after_act c number act v)

-- the state after the instruction
abbrev pub effect : Setting → State → ℕ → Instruction → State
effect c s number i = map (changed_by c number i.act) s

-- what this change needs of the account
abbrev pub CanMake : Setting → ℕ → Change → AccountValue → Type 0
CanMake c number (Debit kind amount) v = amount ≤ held_by v kind
CanMake c number (Credit kind amount) v = held_by v kind + amount ≤ MOST_HELD
CanMake c number (Retire way kind amount) v = CanRetire v (new_row c number way kind amount)
CanMake c number (Unretire reversed) v = CanUnretire v reversed
CanMake c number (Trust other) v = CanTrust v
CanMake c number (Untrust other) v = Unit {0}
CanMake c number (SetStatus status) v = Unit {0}
CanMake c number (SetEmissions year tonnes) v = tonnes ≤ MOST_EMISSIONS
CanMake c number (Determine year) v = Unit {0}

-- what the change of the act's first account needs of it
abbrev pub CanFirst : Setting → ℕ → Act → AccountValue → Type 0
CanFirst c number act v = CanMake c number (change_of act) v

-- the account has space for its share
abbrev pub CanReceive : AllowanceKind → List Share → AccountValue → Type 0
CanReceive kind shares v =
    MatchOption (share_of shares v.number) (Unit {0}) (λ share. held_by v kind + share.amount ≤ MOST_HELD)

-- each of these accounts has space for its share
abbrev pub HasSpaceEach : AllowanceKind → State → List Share → Type 0
HasSpaceEach kind [] shares = Unit {0}
HasSpaceEach kind (v ∷ vs) [] = Unit {0}
HasSpaceEach kind (v ∷ vs) (share ∷ rest) = (held_by v kind + share.amount ≤ MOST_HELD) × HasSpaceEach kind vs rest

-- what the act needs of an account
pub record CanChange (c : Setting) (number : ℕ) (act : Act) (v : AccountValue) : Type 0 where
  pub as_first : v.number ≡ first act → CanFirst c number act v
  pub space : CanReceive (movement_of act).kind (shares act) v

-- the record number is above those of the account's surrenders and deletions
abbrev pub IsBehind : ℕ → AccountValue → Type 0
IsBehind number v = AreBelow number (row_numbers v.rows)
