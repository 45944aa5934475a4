-- A text in pieces, and what is spelled run by run.
use Rattle.std.specs.Prelude.{◌≡◌, ℕ, ◌+◌, List, drop, Vec}
use Rattle.std.specs.Global.{Global}
use Rattle.std.specs.List.{flat_map}
use Rattle.reg_base.specs.Batch.{BatchValue}
use Rattle.reg_account.specs.Account.{AccountValue}
use Rattle.reg_rules.specs.declared.reply.LogRow.{LogRow}
use Rattle.reg_rules.specs.declared.reply.Reply.{Reply}
use Rattle.reg_book.specs.Fold.{rows_from}
use Rattle.reg_facts.specs.Lists.{joined_lists}
use Rattle.reg_book.specs.Totals.{totals_of}
use Rattle.reg_text.specs.declared.writing.pieces.Blocks.{Blocks}
use Rattle.reg_text.specs.Report.{text_of, log_rows}
use Rattle.reg_text.specs.Sections.{account_block}

-- the bytes of pieces one after another
abbrev pub text_of_pieces : List (Vec ℕ Global) → List ℕ
text_of_pieces pieces = flat_map (λ piece. piece.items) pieces

-- the log rows of instructions from this index on, counted from 0, with these replies
abbrev pub rows_after : BatchValue → ℕ → List Reply → List LogRow
rows_after batch first replies = rows_from batch.day (batch.base + first + 1) (drop first batch.instructions) replies

-- the text is that of these rows
abbrev pub IsLogOf : BatchValue → ℕ → List Reply → Vec ℕ Global → Type 0
IsLogOf batch first replies text = text.items ≡ text_of (log_rows (rows_after batch first replies))

-- what was spelled of accounts is the text of their blocks, with their totals
abbrev pub AreBlocksOf : ℕ → List AccountValue → Blocks → Type 0
AreBlocksOf first accounts blocks =
    (blocks.text.items ≡ text_of (flat_map account_block accounts)) × (blocks.totals ≡ totals_of accounts)

-- the same of the accounts of lists
abbrev pub AreBlocksOfLists : ℕ → List (Vec AccountValue Global) → Blocks → Type 0
AreBlocksOfLists first lists blocks = AreBlocksOf first (joined_lists lists) blocks
