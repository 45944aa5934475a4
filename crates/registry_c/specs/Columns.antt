-- The columns of the rows of a day text: the number of each, its name in docs/FORMATS.md, what is wanted in it, and the
-- sentences of faults.
use Rattle.std.specs.Prelude.{ℕ, List, [], ◌∷◌, Option, Some, None, ◌==◌, find, codes}
use Rattle.reg_text.specs.declared.cause.Cause.{Cause}
use Rattle.reg_text.specs.declared.cause.Cause.TheVariants as cause
use Rattle.registry_c.specs.declared.columns.Column.{Column}
use Rattle.registry_c.specs.declared.columns.Column.TheVariants as column
use Rattle.registry_c.specs.declared.wanted.Wanted.{Wanted}
use Rattle.registry_c.specs.declared.wanted.Wanted.TheVariants as wanted

-- the columns, in the order of their numbers
abbrev pub columns : List Column
columns = column.Tag ∷ column.Version ∷ column.Date ∷ column.NextRecord ∷ column.FirstYear ∷ column.LastYear ∷
    column.CurrentPeriod ∷ column.TrustedLag ∷ column.OtherLag ∷ column.ListLag ∷ column.ReversalWindow ∷
    column.SurrenderingKind ∷ column.AllowanceKind ∷ column.User ∷ column.AccountNumber ∷ column.AccountKind ∷
    column.Holder ∷ column.Status ∷ column.Outside ∷ column.Waiver ∷ column.FirstFactor ∷ column.HeldGeneral ∷
    column.HeldAviation ∷ column.LaterPeriod ∷ column.LaterFactor ∷ column.Right ∷ column.RecordNumber ∷
    column.Retirement ∷ column.RetiredAmount ∷ column.Reversed ∷ column.Year ∷ column.Tonnes ∷ column.Figure ∷
    column.Proposed ∷ column.Proposer ∷ column.Approver ∷ column.Act ∷ column.From ∷ column.To ∷ column.Amount ∷
    column.Account ∷ column.OtherAccount ∷ column.EnteredTonnes ∷ []

-- the number of a column, from 1 on
abbrev pub column_number : Column → ℕ
column_number column.Tag = 1
column_number column.Version = 2
column_number column.Date = 3
column_number column.NextRecord = 4
column_number column.FirstYear = 5
column_number column.LastYear = 6
column_number column.CurrentPeriod = 7
column_number column.TrustedLag = 8
column_number column.OtherLag = 9
column_number column.ListLag = 10
column_number column.ReversalWindow = 11
column_number column.SurrenderingKind = 12
column_number column.AllowanceKind = 13
column_number column.User = 14
column_number column.AccountNumber = 15
column_number column.AccountKind = 16
column_number column.Holder = 17
column_number column.Status = 18
column_number column.Outside = 19
column_number column.Waiver = 20
column_number column.FirstFactor = 21
column_number column.HeldGeneral = 22
column_number column.HeldAviation = 23
column_number column.LaterPeriod = 24
column_number column.LaterFactor = 25
column_number column.Right = 26
column_number column.RecordNumber = 27
column_number column.Retirement = 28
column_number column.RetiredAmount = 29
column_number column.Reversed = 30
column_number column.Year = 31
column_number column.Tonnes = 32
column_number column.Figure = 33
column_number column.Proposed = 34
column_number column.Proposer = 35
column_number column.Approver = 36
column_number column.Act = 37
column_number column.From = 38
column_number column.To = 39
column_number column.Amount = 40
column_number column.Account = 41
column_number column.OtherAccount = 42
column_number column.EnteredTonnes = 43

-- its name
abbrev pub column_name : Column → List ℕ
column_name column.Tag = codes "tag"
column_name column.Version = codes "VERSION"
column_name column.Date = codes "DATE"
column_name column.NextRecord = codes "NEXT"
column_name column.FirstYear = codes "FIRST"
column_name column.LastYear = codes "LAST"
column_name column.CurrentPeriod = codes "PERIOD"
column_name column.TrustedLag = codes "TRUSTED"
column_name column.OtherLag = codes "OTHER"
column_name column.ListLag = codes "LIST"
column_name column.ReversalWindow = codes "REVERSAL"
column_name column.SurrenderingKind = codes "ACCOUNTKIND"
column_name column.AllowanceKind = codes "KIND"
column_name column.User = codes "USER"
column_name column.AccountNumber = codes "NO"
column_name column.AccountKind = codes "KIND"
column_name column.Holder = codes "HOLDER"
column_name column.Status = codes "STATUS"
column_name column.Outside = codes "OUTSIDE"
column_name column.Waiver = codes "WAIVER"
column_name column.FirstFactor = codes "CORRECTION"
column_name column.HeldGeneral = codes "GENERAL"
column_name column.HeldAviation = codes "AVIATION"
column_name column.LaterPeriod = codes "PERIOD"
column_name column.LaterFactor = codes "FACTOR"
column_name column.Right = codes "RIGHT"
column_name column.RecordNumber = codes "NUMBER"
column_name column.Retirement = codes "WHAT"
column_name column.RetiredAmount = codes "AMOUNT"
column_name column.Reversed = codes "REVERSED"
column_name column.Year = codes "YEAR"
column_name column.Tonnes = codes "TONNES"
column_name column.Figure = codes "FIGURE"
column_name column.Proposed = codes "PROPOSED"
column_name column.Proposer = codes "PROPOSER"
column_name column.Approver = codes "APPROVER"
column_name column.Act = codes "ACT"
column_name column.From = codes "FROM"
column_name column.To = codes "TO"
column_name column.Amount = codes "AMOUNT"
column_name column.Account = codes "ACCOUNT"
column_name column.OtherAccount = codes "OTHER"
column_name column.EnteredTonnes = codes "TONNES"

-- what is wanted in it
abbrev pub wanted_in : Column → Wanted
wanted_in column.Tag = wanted.Tag
wanted_in column.Version = wanted.Version
wanted_in column.Date = wanted.Date
wanted_in column.NextRecord = wanted.NextRecord
wanted_in column.FirstYear = wanted.Year
wanted_in column.LastYear = wanted.Year
wanted_in column.CurrentPeriod = wanted.Period
wanted_in column.TrustedLag = wanted.Lag
wanted_in column.OtherLag = wanted.Lag
wanted_in column.ListLag = wanted.Lag
wanted_in column.ReversalWindow = wanted.Lag
wanted_in column.SurrenderingKind = wanted.SurrenderingKind
wanted_in column.AllowanceKind = wanted.AllowanceKind
wanted_in column.User = wanted.Number
wanted_in column.AccountNumber = wanted.Number
wanted_in column.AccountKind = wanted.AccountKind
wanted_in column.Holder = wanted.Number
wanted_in column.Status = wanted.Status
wanted_in column.Outside = wanted.YesOrNo
wanted_in column.Waiver = wanted.YesOrNo
wanted_in column.FirstFactor = wanted.Factor
wanted_in column.HeldGeneral = wanted.Holding
wanted_in column.HeldAviation = wanted.Holding
wanted_in column.LaterPeriod = wanted.LaterPeriod
wanted_in column.LaterFactor = wanted.LaterFactor
wanted_in column.Right = wanted.Right
wanted_in column.RecordNumber = wanted.Record
wanted_in column.Retirement = wanted.Retirement
wanted_in column.RetiredAmount = wanted.RetiredAmount
wanted_in column.Reversed = wanted.YesOrNo
wanted_in column.Year = wanted.Year
wanted_in column.Tonnes = wanted.Tonnes
wanted_in column.Figure = wanted.Figure
wanted_in column.Proposed = wanted.Date
wanted_in column.Proposer = wanted.Number
wanted_in column.Approver = wanted.Approver
wanted_in column.Act = wanted.Act
wanted_in column.From = wanted.Number
wanted_in column.To = wanted.Number
wanted_in column.Amount = wanted.AnyNumber
wanted_in column.Account = wanted.Number
wanted_in column.OtherAccount = wanted.Number
wanted_in column.EnteredTonnes = wanted.AnyNumber

-- what is wanted, in a sentence
abbrev pub wanted_sentence : Wanted → List ℕ
wanted_sentence wanted.Tag = codes "A row with another tag is wanted."
wanted_sentence wanted.Version = codes "The version of the format is 1 or 2."
wanted_sentence wanted.Date = codes "A date YYYY-MM-DD is wanted that the calendar has, from 2021-01-01 to 2100-12-31."
wanted_sentence wanted.NextRecord = codes "A number is wanted, in plain digits, from 1 to 1000000000000001."
wanted_sentence wanted.Year = codes "A year is wanted, from 2021 to 2100."
wanted_sentence wanted.Period = codes "The number of a period of this text is wanted, from 1 on."
wanted_sentence wanted.LaterPeriod =
    codes "The number of a later period of this text is wanted, from 2 on. A deletion has none."
wanted_sentence wanted.Lag = codes "A number of working days is wanted, in plain digits, from 0 to 1000."
wanted_sentence wanted.SurrenderingKind = codes "One of these words is wanted: operator, aircraft."
wanted_sentence wanted.AllowanceKind = codes "One of these words is wanted: general, aviation."
wanted_sentence wanted.Number = codes "A number is wanted, in plain digits, from 1 to 999999999."
wanted_sentence wanted.AccountKind =
    codes "One of these words is wanted: total, allocation, operator, aircraft, trading."
wanted_sentence wanted.Status = codes "One of these words is wanted: open, blocked, excluded, closed."
wanted_sentence wanted.YesOrNo = codes "One of these words is wanted: yes, no."
wanted_sentence wanted.Factor =
    codes "A number of tonnes is wanted, in plain digits, from -1000000000000000 to 1000000000000000."
wanted_sentence wanted.LaterFactor =
    codes "A number of tonnes is wanted, not 0, from -1000000000000000 to 1000000000000000."
wanted_sentence wanted.Holding = codes "A number of allowances is wanted, in plain digits, from 0 to 1000000000000000."
wanted_sentence wanted.Right = codes "One of these words is wanted: propose, approve, both."
wanted_sentence wanted.Record =
    codes "A record number is wanted, in plain digits, from 1 to 1000000000000000, below the next."
wanted_sentence wanted.Retirement = codes "One of these words is wanted: surrender, deletion."
wanted_sentence wanted.RetiredAmount =
    codes "A number of allowances is wanted, from 1 on, all together at most 1000000000000000."
wanted_sentence wanted.Tonnes = codes "A number of tonnes is wanted, in plain digits, from 0 to 1000000000000."
wanted_sentence wanted.Figure =
    codes "A number of tonnes is wanted, in plain digits, from -4000000000000000 to 4000000000000000."
wanted_sentence wanted.Approver = codes "Nothing is wanted, or a number in plain digits from 1 to 999999999."
wanted_sentence wanted.Act = codes "The word of an act is wanted, such as transfer."
wanted_sentence wanted.AnyNumber = codes "A number is wanted, in plain digits, from 0 to 18446744073709551615."

-- what is wrong with a row as a whole, in a sentence
abbrev pub cause_sentence : Cause → List ℕ
cause_sentence cause.End = codes "The text ends before its row end, or a row stands behind it."
cause_sentence cause.Tag = codes "The tag is unknown, or no row with it may stand here."
cause_sentence cause.Fields = codes "The row has too few or too many fields."
cause_sentence cause.Number = codes "A field is no number in plain digits."
cause_sentence cause.Date = codes "A field is no date."
cause_sentence cause.Word = codes "A field is none of the words that may stand there."
cause_sentence cause.Version = codes "The version of the format is 1 or 2."
cause_sentence cause.Limit = codes "There are more such rows than there may be, or no record number is left."
cause_sentence cause.Order = codes "The row does not come after the one before it: such rows rise, and stand once."

-- a period ends before it begins, or the rows of a list do not rise
abbrev pub order_sentence : Option Column → List ℕ
order_sentence (Some column.LastYear) = codes "A period may not end before it begins."
order_sentence found = cause_sentence cause.Order

-- what is wanted in a column, or what is wrong with the row as a whole
abbrev pub field_sentence : Cause → Option Column → List ℕ
field_sentence c (Some column) = wanted_sentence (wanted_in column)
field_sentence c None = cause_sentence c

-- the sentence of a fault in this column, if it is one's
abbrev pub sentence_of_fault : Cause → Option Column → List ℕ
sentence_of_fault cause.End found = cause_sentence cause.End
sentence_of_fault cause.Tag found = cause_sentence cause.Tag
sentence_of_fault cause.Fields found = cause_sentence cause.Fields
sentence_of_fault cause.Number found = field_sentence cause.Number found
sentence_of_fault cause.Date found = field_sentence cause.Date found
sentence_of_fault cause.Word found = field_sentence cause.Word found
sentence_of_fault cause.Version found = cause_sentence cause.Version
sentence_of_fault cause.Limit found = field_sentence cause.Limit found
sentence_of_fault cause.Order found = order_sentence found

-- the column with this number
abbrev pub column_with : ℕ → Option Column
column_with number = find (λ column. column_number column == number) columns

-- the name of a column, if there is one
abbrev pub name_of_column : Option Column → List ℕ
name_of_column None = []
name_of_column (Some column) = column_name column

-- the sentence of a fault with this cause, if there is one
abbrev pub sentence_with : Option Cause → Option Column → List ℕ
sentence_with None found = []
sentence_with (Some c) found = sentence_of_fault c found
