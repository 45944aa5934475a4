-- The statement of an account over a day: what it held before, the log rows that concern it, and what it holds after.
use Rattle.std.specs.Prelude.{◌≡◌, ℕ, Bool, true, false, ◌==◌, List, [], ◌∷◌, ◌++◌, filter, filter_map, find, Option}
use Rattle.std.specs.Prelude.{None, unwrap_or, is_some, codes, map, Vec}
use Rattle.std.specs.Option.{option_map_or}
use Rattle.std.specs.List.{flat_map, last_or}
use Rattle.std.specs.Borrow.{Bor}
use Rattle.std.specs.Global.{Global}
use Rattle.std.specs.Ordering.{nat_cmp}
use Rattle.std.specs.BTreeMap as tree
use Rattle.std.specs.BTreeMap.{BTreeMap}
use Rattle.reg_base.specs.Directory.{DirectoryValue}
use Rattle.reg_base.specs.Footprint.{footprint, is_among}
use Rattle.reg_rules.specs.declared.reply.HeldNow.{HeldNow}
use Rattle.reg_rules.specs.declared.reply.Reply.{Reply}
use Rattle.reg_rules.specs.declared.reply.Reply.TheVariants.{Done, Refused}
use Rattle.reg_rules.specs.declared.reply.LogRow.{LogRow}
use Rattle.reg_rules.specs.State.{account}
use Rattle.reg_rules.specs.Step.{held_now}
use Rattle.reg_book.specs.Book.{BookValue, directory_of}
use Rattle.reg_text.specs.declared.writing.statements.StatementFault.{StatementFault}
use Rattle.reg_text.specs.declared.writing.statements.StatementFault.TheVariants.{UnknownAccount, NoMemory}
use Rattle.reg_text.specs.TextRows.{TextRow}
use Rattle.reg_text.specs.Spelling.{end_row}
use Rattle.reg_text.specs.Log.{holding_fields}
use Rattle.reg_text.specs.Report.{log_rows, text_of}

-- the accounts that the row's instruction reads or changes
abbrev pub footprint_of_row : DirectoryValue → LogRow → List ℕ
footprint_of_row directory row = footprint directory row.instruction.act

-- the account is in the footprint of the row's instruction
abbrev pub concerns : DirectoryValue → ℕ → LogRow → Bool
concerns directory a row = is_among (footprint_of_row directory row) a

-- the log rows in whose footprint the account is, in order
abbrev pub rows_about : DirectoryValue → ℕ → List LogRow → List LogRow
rows_about directory a rows = filter (concerns directory a) rows

-- what a reply says that accounts then hold; a refusal says nothing of it
abbrev pub closing_list : Reply → List HeldNow
closing_list (Done closing figure) = closing
closing_list (Refused refusal) = []

-- what the account holds after a row, if the row's reply says it
abbrev pub told_by : ℕ → LogRow → Option HeldNow
told_by a row = find (λ held. held.account == a) (closing_list row.reply)

-- what the last of these rows that tells of the account says of it, if one does
abbrev pub last_told : ℕ → List LogRow → Option HeldNow
last_told a rows = last_or None (filter_map (told_by a) rows)

-- what the account holds after the day: what the last of the rows about it tells of it, else what it held before
abbrev pub closing_held : HeldNow → List LogRow → HeldNow
closing_held opening about = unwrap_or (last_told opening.account about) opening

-- opening,NO,GENERAL,AVIATION and closing,NO,GENERAL,AVIATION
abbrev pub opening_row : HeldNow → TextRow
opening_row held = codes "opening" ∷ holding_fields held

abbrev pub closing_row : HeldNow → TextRow
closing_row held = codes "closing" ∷ holding_fields held

-- the statement of an account that held this before the day, with the log rows about it, and the row end
abbrev pub statement_rows : HeldNow → List LogRow → List TextRow
statement_rows opening about =
    opening_row opening ∷ log_rows about ++ closing_row (closing_held opening about) ∷ end_row ∷ []

-- the statement of an account of the book before the day
abbrev pub statement_of : BookValue → List LogRow → ℕ → List TextRow
statement_of book rows a = statement_rows (held_now book.accounts a) (rows_about (directory_of book.accounts) a rows)

-- the statements of all accounts of the book, in their order, as one text
abbrev pub statements_of : BookValue → List LogRow → List ℕ
statements_of book rows = flat_map (λ v. text_of (statement_of book rows v.number)) book.accounts

-- whether the account is in the book
abbrev pub has_account : BookValue → ℕ → Bool
has_account book a = is_some (account book.accounts a)

-- why there is no statement: the account is not in the book, or it is there and memory ran out
abbrev pub IsStatementFault : BookValue → ℕ → StatementFault → Type 0
IsStatementFault book a UnknownAccount = has_account book a ≡ false
IsStatementFault book a NoMemory = has_account book a ≡ true

-- log rows that are lent
abbrev pub lent_rows : List (Bor LogRow) → List LogRow
lent_rows lent = map (λ row. row.now) lent

-- the rows that are noted at an account
abbrev pub noted_at : BTreeMap ℕ (Vec (Bor LogRow) Global) → ℕ → List LogRow
noted_at noted a = option_map_or (λ list. lent_rows list.items) (tree.get nat_cmp noted a) []
