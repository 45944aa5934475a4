-- The value of one account, what is read of it, and the changes to it.
use Rattle.std.specs.Prelude.{◌≡◌, ℕ, ◌+◌, ◌-◌, ◌<◌, ◌≤◌, ℤ, Bool, false, ◌==◌, ◌||◌, nat_lt, if◌then◌else◌, List, []}
use Rattle.std.specs.Prelude.{◌∷◌, ◌++◌, find, length, Option, None, MatchOption}
use Rattle.std.specs.Option.{option_map_or}
use Rattle.reg_base.specs.declared.limits.TheConstants.{MOST_HELD, MOST_RETIRED, MOST_TRUSTED, MOST_ROWS}
use Rattle.reg_base.specs.declared.kinds.AccountKind.{AccountKind}
use Rattle.reg_base.specs.declared.kinds.AllowanceKind.{AllowanceKind}
use Rattle.reg_base.specs.declared.kinds.AllowanceKind.TheVariants.{General, Aviation}
use Rattle.reg_base.specs.declared.kinds.Status.{Status}
use Rattle.reg_base.specs.Numbers.{IsAccountNo, IsHolderNo}
use Rattle.reg_account.specs.declared.account_parts.Holdings.{Holdings}
use Rattle.reg_account.specs.declared.account_parts.AccountParts.{AccountParts}
use Rattle.reg_account.specs.declared.account_parts.AccountFault.{AccountFault}
use Rattle.reg_account.specs.declared.account_parts.AccountFault.TheVariants as fault
use Rattle.reg_account.specs.declared.account_parts.AccountFault.TheVariants.{Holding, Users, Trusted, Rows, Retired}
use Rattle.reg_account.specs.declared.account_parts.AccountFault.TheVariants.{Emissions, Figures}
use Rattle.reg_account.specs.declared.corrections.Correction.{Correction}
use Rattle.reg_account.specs.declared.users.Representative.{Representative}
use Rattle.reg_account.specs.declared.trusted.TrustedEntry.{TrustedEntry}
use Rattle.reg_base.specs.declared.kinds.Retirement.{Retirement}
use Rattle.reg_account.specs.declared.rows.RetirementRow.{RetirementRow}
use Rattle.reg_account.specs.declared.years.Emission.{Emission}
use Rattle.reg_account.specs.declared.years.Figure.{Figure}
pub use Rattle.reg_account.specs.Corrections.{CorrectionFits}
use Rattle.reg_account.specs.Corrections.{factor_in, CorrectionsFit, is_factor_unfit, are_corrections_unfit}
use Rattle.reg_account.specs.Users.{UsersFit, are_users_unfit}
use Rattle.reg_account.specs.Trusted.{is_in_effect, with_entry, without_entry, TrustedFit, are_trusted_unfit}
use Rattle.reg_account.specs.Rows.{retired_in, row_numbers, row_in, with_mark, retirement_of, AreBelow, RowsFit}
use Rattle.reg_account.specs.Rows.{RetiredFits, are_rows_unfit, is_too_much_retired}
use Rattle.reg_account.specs.Years.{with_emission, with_figure, EmissionsFit, FiguresFit, are_emissions_unfit}
use Rattle.reg_account.specs.Years.{are_figures_unfit}

-- an account as plain data; its correction is that of period 1, and its corrections are those of later periods
pub record AccountValue : Type 0 where
  pub number : ℕ
  pub kind : AccountKind
  pub holder : ℕ
  pub status : Status
  pub outside : Bool
  pub waiver : Bool
  pub correction : ℤ
  pub corrections : List Correction
  pub held : Holdings
  pub users : List Representative
  pub trusted : List TrustedEntry
  pub rows : List RetirementRow
  pub emissions : List Emission
  pub figures : List Figure

-- the account with these parts
abbrev pub account_of : AccountParts → AccountValue
account_of p = record {
  number = p.number;
  kind = p.kind;
  holder = p.holder;
  status = p.status;
  outside = p.outside;
  waiver = p.waiver;
  correction = p.correction;
  corrections = p.lists.corrections;
  held = p.held;
  users = p.lists.users;
  trusted = p.lists.trusted;
  rows = p.lists.rows;
  emissions = p.lists.emissions;
  figures = p.lists.figures;
}

-- the correction factor of this period in tonnes, 0 if none was given
abbrev pub correction_of : AccountValue → ℕ → ℤ
correction_of a period = if period == 1 then a.correction else factor_in a.corrections period

-- how many allowances of this kind there are
abbrev pub amount_of : Holdings → AllowanceKind → ℕ
amount_of h General = h.general
amount_of h Aviation = h.aviation

-- holdings with another number of one kind
abbrev pub with_amount : Holdings → AllowanceKind → ℕ → Holdings
with_amount h General n = record h { general = n }
with_amount h Aviation n = record h { aviation = n }

-- what an account holds of this kind
abbrev pub held_by : AccountValue → AllowanceKind → ℕ
held_by a kind = amount_of a.held kind

-- how many allowances of this kind the account has surrendered (or deleted)
abbrev pub retired_by : AccountValue → Retirement → AllowanceKind → ℕ
retired_by a way kind = retired_in way kind a.rows

-- the account trusts the other, which this holder holds, on this date: they have the same holder, or its list has the
-- other with an entry that is in effect
abbrev pub trusts : AccountValue → ℕ → ℕ → ℕ → Bool
trusts a other holder day = (a.holder == holder) || is_in_effect a.trusted other day

-- the account with this entry on its trusted account list
abbrev pub with_trusted : AccountValue → TrustedEntry → AccountValue
with_trusted a new = record a { trusted = with_entry new a.trusted }

-- the account without this other one on its trusted account list
abbrev pub without_trusted : AccountValue → ℕ → AccountValue
without_trusted a other = record a { trusted = without_entry other a.trusted }

-- the account with this status
abbrev pub with_status : AccountValue → Status → AccountValue
with_status a status = record a { status = status }

-- the account with this many more allowances of the kind
abbrev pub credited : AccountValue → AllowanceKind → ℕ → AccountValue
credited a kind amount = record a { held = with_amount a.held kind (held_by a kind + amount) }

-- the account with this many fewer allowances of the kind
abbrev pub debited : AccountValue → AllowanceKind → ℕ → AccountValue
debited a kind amount = record a { held = with_amount a.held kind (held_by a kind - amount) }

-- the account after a surrender or a deletion: the allowances have left, and the row is its last one
abbrev pub retired : AccountValue → RetirementRow → AccountValue
retired a row = record a {
  held = with_amount a.held row.kind (held_by a row.kind - row.amount);
  rows = a.rows ++ row ∷ [];
}

-- the account after this row of it was reversed: the allowances are back, and the row is marked
abbrev pub unretired_row : ℕ → AccountValue → RetirementRow → AccountValue
unretired_row number a row =
    record a { held = with_amount a.held row.kind (held_by a row.kind + row.amount); rows = with_mark number a.rows }

-- the account after its row with this number was reversed
abbrev pub unretired : AccountValue → ℕ → AccountValue
unretired a number = option_map_or (unretired_row number a) (row_in a.rows number) a

-- the account with these emissions for their year
abbrev pub with_emissions : AccountValue → Emission → AccountValue
with_emissions a new = record a { emissions = with_emission new a.emissions }

-- the account with this determined figure for its year
abbrev pub with_determined : AccountValue → Figure → AccountValue
with_determined a new = record a { figures = with_figure new a.figures }

-- the row can be the account's next one
pub record CanRetire (a : AccountValue) (row : RetirementRow) : Type 0 where
  pub fresh : row.reversed ≡ false
  pub some : 1 ≤ row.amount
  pub later : AreBelow row.number (row_numbers a.rows)
  pub space : length a.rows < MOST_ROWS
  pub enough : row.amount ≤ held_by a row.kind
  pub fits : retired_by a (retirement_of row.fate) row.kind + row.amount ≤ MOST_RETIRED

-- the row can be reversed
pub record CanUnretireRow (a : AccountValue) (row : RetirementRow) : Type 0 where
  pub stands : row.reversed ≡ false
  pub fits : held_by a row.kind + row.amount ≤ MOST_HELD

-- the account has a row with this number, and it can be reversed
abbrev pub CanUnretire : AccountValue → ℕ → Type 0
CanUnretire a number = MatchOption (row_in a.rows number) ⊥ (CanUnretireRow a)

-- there is space for one more entry on the trusted account list
abbrev pub CanTrust : AccountValue → Type 0
CanTrust a = length a.trusted < MOST_TRUSTED

-- both holdings are within their limit
pub record HoldingsFit (h : Holdings) : Type 0 where
  pub general : h.general ≤ MOST_HELD
  pub aviation : h.aviation ≤ MOST_HELD

-- what holds of every account
pub record IsAccount (a : AccountValue) : Type 0 where
  pub own_number : IsAccountNo a.number
  pub own_holder : IsHolderNo a.holder
  pub correction_fits : CorrectionFits a.correction
  pub corrections_fit : CorrectionsFit a.corrections
  pub holdings_fit : HoldingsFit a.held
  pub users_fit : UsersFit a.users
  pub trusted_fit : TrustedFit a.trusted
  pub rows_fit : RowsFit a.rows
  pub retired_fits : RetiredFits a.rows
  pub emissions_fit : EmissionsFit a.emissions
  pub figures_fit : FiguresFit a.figures

-- the account has this fault
abbrev pub account_has : AccountValue → AccountFault → Bool
account_has a fault.Correction = is_factor_unfit a.correction || are_corrections_unfit a.corrections
account_has a Holding = nat_lt MOST_HELD a.held.general || nat_lt MOST_HELD a.held.aviation
account_has a Users = are_users_unfit a.users
account_has a Trusted = are_trusted_unfit a.trusted
account_has a Rows = are_rows_unfit a.rows
account_has a Retired = is_too_much_retired a.rows
account_has a Emissions = are_emissions_unfit a.emissions
account_has a Figures = are_figures_unfit a.figures

-- the faults that an account can have, in the order in which they are named
abbrev pub account_faults : List AccountFault
account_faults = fault.Correction ∷ Holding ∷ Users ∷ Trusted ∷ Rows ∷ Retired ∷ Emissions ∷ Figures ∷ []

-- the first fault that the account has
abbrev pub first_account_fault : AccountValue → Option AccountFault
first_account_fault a = find (account_has a) account_faults

-- law: an account within its limits has no fault
abbrev pub FitAccountsHaveNoFault : Type 0
FitAccountsHaveNoFault = (a : AccountValue) → IsAccount a → first_account_fault a ≡ None
