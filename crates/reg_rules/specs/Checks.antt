-- The table of checks. The first that fails names the refusal.
use Rattle.std.specs.Prelude.{ℕ, ◌+◌, ◌≤◌, ℤ, pos, Bool, IsTrue, true, false, not, ◌==◌, ◌&&◌, ◌||◌, nat_le, nat_lt}
use Rattle.std.specs.Prelude.{int_lt, List, [], ◌∷◌, find, reverse, length, Contains, Option, None, is_none}
use Rattle.std.specs.Prelude.{MatchOption, Result, Ok, Err, if◌then◌else◌}
use Rattle.std.specs.Option.{option_map_or}
use Rattle.std.specs.List.{list_all, list_any}
use Rattle.reg_base.specs.declared.limits.TheConstants.{MOST_HELD, MOST_RETIRED, MOST_ROWS, MOST_EMISSIONS}
use Rattle.reg_base.specs.declared.kinds.AccountKind.{AccountKind}
use Rattle.reg_base.specs.declared.kinds.AllowanceKind.{AllowanceKind}
use Rattle.reg_base.specs.declared.refusals.Refusal.{Refusal}
use Rattle.reg_base.specs.declared.refusals.Refusal.TheVariants as check
use Rattle.reg_base.specs.declared.movement.Movement.{Movement}
use Rattle.reg_base.specs.declared.movement.Change.{Change}
use Rattle.reg_base.specs.declared.movement.Change.TheVariants.{Credit, Retire, Unretire, Determine}
use Rattle.reg_base.specs.declared.instruction.Instruction.{Instruction}
use Rattle.reg_base.specs.Acts.{movement_of, change_of, amounts, tonnes_named, years_named}
use Rattle.reg_base.specs.Calendar.{due}
use Rattle.reg_base.specs.Rules.{RulesValue, may_surrender, is_year_of, is_in_period}
use Rattle.reg_base.specs.Footprint.{must_be_known, all_known}
use Rattle.reg_base.specs.Refusals.{checks}
use Rattle.reg_base.specs.Rising.{IsRising}
use Rattle.reg_base.specs.declared.kinds.Retirement.{Retirement}
use Rattle.reg_base.specs.declared.kinds.Retirement.TheVariants.{Surrendered}
use Rattle.reg_account.specs.declared.rows.Fate.{Fate}
use Rattle.reg_account.specs.declared.rows.Fate.TheVariants as fate
use Rattle.reg_account.specs.declared.rows.RetirementRow.{RetirementRow}
use Rattle.reg_account.specs.declared.years.Figure.{Figure}
use Rattle.reg_account.specs.declared.figure.FigureFault.{FigureFault}
use Rattle.reg_account.specs.declared.figure.FigureFault.TheVariants.{YearOutsidePeriod as OutsidePeriod, Missing}
use Rattle.reg_account.specs.Rows.{row_in}
use Rattle.reg_account.specs.Years.{figure_years}
use Rattle.reg_account.specs.Account.{AccountValue, held_by, retired_by, unretired}
use Rattle.reg_account.specs.Figure.{is_row_counted, figure_of}
use Rattle.reg_rules.specs.declared.rule.KindRule.{KindRule}
use Rattle.reg_rules.specs.declared.rule.ActRule.{ActRule}
use Rattle.reg_rules.specs.ActRules.{rule_of, fits_first, fits_receiver, fits_source, fits_first_receiver}
use Rattle.reg_rules.specs.ActRules.{is_not_closed}
use Rattle.reg_rules.specs.State.{State, Setting, Receiver, Seen, seen, passes}
use Rattle.reg_rules.specs.Entitlements.{is_not_proposer, is_same_representative, is_not_approver}
use Rattle.reg_rules.specs.Trust.{due_day, lacks_approval, is_not_trusted, has_no_effective_day, is_already_trusted}
use Rattle.reg_rules.specs.Trust.{is_not_on_list, is_list_full}

-- some number occurs twice
abbrev pub has_repeat : List ℕ → Bool
has_repeat [] = false
has_repeat (x ∷ xs) = list_any (λ y. y == x) xs || has_repeat xs

-- each account that receives is of a kind that the row of the act allows after a first account of this kind
abbrev pub receivers_fit : KindRule → AccountKind → Seen → Bool
receivers_fit rule first e = list_all (λ r. passes (λ v. fits_receiver rule first v.kind) r.account) e.receivers

-- the accounts are of kinds that the row of the act allows
abbrev pub has_right_kinds : ActRule → Seen → Bool
has_right_kinds rule e = passes (λ v. fits_first rule.kinds v.kind && receivers_fit rule.kinds v.kind e) e.first

-- the first account has the status that the row of the act needs of a source
abbrev pub source_allows : ActRule → Seen → Bool
source_allows rule e = passes (λ v. fits_source rule.status v.status) e.first

-- no account that receives is closed; the first receives what is created
abbrev pub destination_allows : ActRule → Seen → Bool
destination_allows rule e =
    passes (λ v. fits_first_receiver rule.status v.status) e.first
    && list_all (λ r. passes (λ v. is_not_closed v.status) r.account) e.receivers

-- the surrender table lacks the first account's kind together with the kind of the allowances
abbrev pub is_kind_not_allowed : RulesValue → Change → Seen → Bool
is_kind_not_allowed rules (Retire Surrendered kind amount) e =
    passes (λ v. not (may_surrender rules v.kind kind)) e.first
is_kind_not_allowed rules made e = false

-- a surrender or a deletion is to be reversed
abbrev pub is_reversal : Change → Bool
is_reversal (Unretire number) = true
is_reversal made = false

-- the surrender or deletion that is to be reversed, if the first account has it
abbrev pub row_to_reverse : Change → Seen → Option RetirementRow
row_to_reverse (Unretire number) e = option_map_or (λ v. row_in v.rows number) e.first None
row_to_reverse made e = None

-- the first account has no surrender or deletion with the record number that is to be reversed
abbrev pub is_unknown_transaction : Change → Seen → Bool
is_unknown_transaction made e = is_reversal made && is_none (row_to_reverse made e)

-- what is to be reversed was reversed before
abbrev pub is_already_reversed : Change → Seen → Bool
is_already_reversed made e = option_map_or (λ row. row.reversed) (row_to_reverse made e) false

-- the last day on which the row could be reversed is over; without such a day in the calendar, it is not over
abbrev pub is_past_window : Setting → RetirementRow → Bool
is_past_window c row = option_map_or (λ last. nat_lt last c.day)
    (due c.rules.calendar row.day c.rules.reversal_window) false

-- the window for the reversal is over
abbrev pub is_window_over : Setting → Change → Seen → Bool
is_window_over c made e = option_map_or (is_past_window c) (row_to_reverse made e) false

-- the first account holds fewer allowances of the kind than leave it
abbrev pub is_short : Movement → Seen → Bool
is_short m e = nat_lt (option_map_or (λ v. held_by v m.kind) e.first 0) m.leaves

-- the account would hold more allowances of the kind than it may
abbrev pub overfills : AllowanceKind → Receiver → Bool
overfills kind r = nat_lt MOST_HELD (option_map_or (λ v. held_by v kind) r.account 0 + r.amount)

-- the first account would hold more than it may with what is created on it, or comes back to it
abbrev pub overfills_first : Change → Seen → Bool
overfills_first (Credit kind amount) e = overfills kind (record { account = e.first; amount = amount })
overfills_first (Unretire number) e =
    option_map_or (λ row. overfills row.kind (record { account = e.first; amount = row.amount }))
    (row_to_reverse (Unretire number) e) false
overfills_first made e = false

-- some account that receives would hold more than it may
abbrev pub overfills_some : Movement → Seen → Bool
overfills_some m e = list_any (overfills m.kind) e.receivers

-- the account would have surrendered (or deleted) more allowances of the kind than it may
abbrev pub retires_too_much : Retirement → AllowanceKind → ℕ → Seen → Bool
retires_too_much way kind amount e = passes (λ v. nat_lt MOST_RETIRED (retired_by v way kind + amount)) e.first

-- more would be surrendered, or deleted, than may be
abbrev pub is_retired_too_large : Change → Seen → Bool
is_retired_too_large (Retire way kind amount) e = retires_too_much way kind amount e
is_retired_too_large made e = false

-- the first account has as many surrenders and deletions as it may have
abbrev pub has_all_rows : Seen → Bool
has_all_rows e = passes (λ v. nat_le MOST_ROWS (length v.rows)) e.first

-- something is surrendered, or deleted, and the account has as many rows as it may have
abbrev pub are_rows_full : Change → Seen → Bool
are_rows_full (Retire way kind amount) e = has_all_rows e
are_rows_full made e = false

-- the determined figure of the latest year of this period that has one; the figures of an account rise by year
abbrev pub latest_determined : RulesValue → ℕ → AccountValue → Option Figure
latest_determined rules period v = find (λ f. is_year_of rules period f.year) (reverse v.figures)

-- the figure is one of the account's determined ones, of a year of this period, and no other such figure is of a later
-- year
pub record IsLatestDetermined (rules : RulesValue) (period : ℕ) (v : AccountValue) (latest : Figure) : Type 0 where
  pub determined : Contains v.figures latest
  pub of_period : IsTrue (is_year_of rules period latest.year)
  pub last : (f : Figure) → Contains v.figures f → IsTrue (is_year_of rules period f.year) → f.year ≤ latest.year

-- law: if the figures rise by year, the one that is found is that of the latest year of the period; if none is found,
-- none is of the period
abbrev pub LatestIsOfTheLatestYear : Type 0
LatestIsOfTheLatestYear = (rules : RulesValue) (period : ℕ) (v : AccountValue) → IsRising (figure_years v.figures)
    → MatchOption (latest_determined rules period v)
    ((f : Figure) → Contains v.figures f → ¬ (IsTrue (is_year_of rules period f.year)))
    (IsLatestDetermined rules period v)

-- there is a figure, and it is below 0
abbrev pub is_negative : Result ℤ FigureFault → Bool
is_negative (Ok figure) = int_lt figure (pos 0)
is_negative (Err fault) = false

-- there is a figure, and it is 0 or more
abbrev pub is_compliant : Result ℤ FigureFault → Bool
is_compliant (Ok figure) = not (int_lt figure (pos 0))
is_compliant (Err fault) = false

-- how many allowances of the row count for the figure of the year
abbrev pub counted_amount : RulesValue → ℕ → RetirementRow → ℕ
counted_amount rules year row = if is_row_counted rules year row then row.amount else 0

-- the figure of the year is 0 or more, and would be below 0 after the reversal
abbrev pub becomes_negative : RulesValue → ℕ → AccountValue → ℕ → Bool
becomes_negative rules number v year =
    is_compliant (figure_of rules v year) && is_negative (figure_of rules (unretired v number) year)

-- so it is for the latest year of this period that has a determined figure
abbrev pub becomes_negative_in : RulesValue → ℕ → AccountValue → ℕ → Bool
becomes_negative_in rules number v period =
    option_map_or (λ latest. becomes_negative rules number v latest.year) (latest_determined rules period v) false

-- so it is for the period that allowances with this fate were surrendered for; deleted ones count for no figure
abbrev pub becomes_negative_by : RulesValue → ℕ → AccountValue → Fate → Bool
becomes_negative_by rules number v (fate.Surrendered period) = becomes_negative_in rules number v period
becomes_negative_by rules number v fate.Deleted = false

-- the reversal of the row with this number would make the account non-compliant
abbrev pub loses_compliance : RulesValue → ℕ → AccountValue → Bool
loses_compliance rules number v =
    option_map_or (λ row. becomes_negative_by rules number v row.fate) (row_in v.rows number) false

-- the reversal would make the first account non-compliant
abbrev pub would_become_non_compliant : RulesValue → Change → Seen → Bool
would_become_non_compliant rules (Unretire number) e = passes (loses_compliance rules number) e.first
would_become_non_compliant rules made e = false

-- a year that the act names is outside every period
abbrev pub names_year_outside : RulesValue → Change → Bool
names_year_outside rules made = list_any (λ year. not (is_in_period rules year)) (years_named made)

-- emissions that the act enters are too large
abbrev pub enters_too_much : Change → Bool
enters_too_much made = list_any (λ n. nat_lt MOST_EMISSIONS n) (tonnes_named made)

-- there is no figure because a year has no emissions
abbrev pub is_missing : Result ℤ FigureFault → Bool
is_missing (Ok figure) = false
is_missing (Err OutsidePeriod) = false
is_missing (Err (Missing year)) = true

-- the figure that is to be determined lacks the emissions of a year
abbrev pub lacks_emissions : RulesValue → Change → Seen → Bool
lacks_emissions rules (Determine year) e = passes (λ v. is_missing (figure_of rules v year)) e.first
lacks_emissions rules made e = false

-- the check of this name fails on what the act sees
abbrev pub fails : Setting → Seen → Instruction → Refusal → Bool
fails c e i check.UnknownAccount = not (all_known c.directory i.act)
fails c e i check.SameAccount = has_repeat (must_be_known i.act)
fails c e i check.WrongAccountKind = not (has_right_kinds (rule_of i.act) e)
fails c e i check.SourceStatus = not (source_allows (rule_of i.act) e)
fails c e i check.DestinationStatus = not (destination_allows (rule_of i.act) e)
fails c e i check.NotProposer = is_not_proposer c.rules i e
fails c e i check.ApprovalMissing = lacks_approval c i e
fails c e i check.SameRepresentative = is_same_representative i
fails c e i check.NotApprover = is_not_approver c.rules i e
fails c e i check.NotTrusted = is_not_trusted c (rule_of i.act).lag e
fails c e i check.OutsideCalendar = is_none (due_day c e i) || has_no_effective_day c (change_of i.act)
fails c e i check.NotDue = option_map_or (λ w. nat_lt c.day w) (due_day c e i) false
fails c e i check.KindNotAllowed = is_kind_not_allowed c.rules (change_of i.act) e
fails c e i check.ZeroAmount = list_any (λ n. n == 0) (amounts i.act)
fails c e i check.UnknownTransaction = is_unknown_transaction (change_of i.act) e
fails c e i check.AlreadyReversed = is_already_reversed (change_of i.act) e
fails c e i check.WindowClosed = is_window_over c (change_of i.act) e
fails c e i check.NotEnough = is_short (movement_of i.act) e
fails c e i check.HoldingTooLarge = overfills_first (change_of i.act) e || overfills_some (movement_of i.act) e
fails c e i check.RetiredTooLarge = is_retired_too_large (change_of i.act) e
fails c e i check.RowsFull = are_rows_full (change_of i.act) e
fails c e i check.WouldBecomeNonCompliant = would_become_non_compliant c.rules (change_of i.act) e
fails c e i check.AlreadyTrusted = is_already_trusted (change_of i.act) e
fails c e i check.NotOnList = is_not_on_list (change_of i.act) e
fails c e i check.ListFull = is_list_full (change_of i.act) e
fails c e i check.YearOutsidePeriod = names_year_outside c.rules (change_of i.act)
fails c e i check.AmountTooLarge = enters_too_much (change_of i.act)
fails c e i check.EmissionsMissing = lacks_emissions c.rules (change_of i.act) e

-- the first check that fails, or none
abbrev pub refusal : Setting → State → Instruction → Option Refusal
refusal c s i = find (fails c (seen s i.act) i) checks
