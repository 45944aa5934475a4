use Rattle.std.proofs.Common.{sym, ◌∙◌}
use Rattle.reg_book.proofs.Directories.{found-at, repeated_fault, ahead_fault, full_fault}
use Rattle.reg_book.proofs.draft.find_fault.Goals as goal

pub returns-then-is_some : goal.returns-then-is_some
returns-then-is_some c =
    repeated_fault (record { accounts = c.args.accounts.now; next = c.args.next }) c.args.account.now
    (sym (found-at c.args.accounts.now c.args.directory.now c.args.account.now.number c.number.result c.find.result
    c.is_some.result c.requires.listed c.number.ensures c.find.ensures c.is_some.ensures) ∙ c.if-is_some.true)

pub returns-then-has_row_ahead : goal.returns-then-has_row_ahead
returns-then-has_row_ahead c =
    ahead_fault (record { accounts = c.args.accounts.now; next = c.args.next }) c.args.account.now
    (sym (found-at c.args.accounts.now c.args.directory.now c.args.account.now.number c.number.result c.find.result
    c.is_some.result c.requires.listed c.number.ensures c.find.ensures c.is_some.ensures) ∙ c.if-is_some.false)
    (sym c.has_row_ahead.ensures ∙ c.if-has_row_ahead.true)

pub returns : goal.returns
returns c =
    c.then_some.ensures
    ∙ full_fault (record { accounts = c.args.accounts.now; next = c.args.next }) c.args.account.now
    (sym (found-at c.args.accounts.now c.args.directory.now c.args.account.now.number c.number.result c.find.result
    c.is_some.result c.requires.listed c.number.ensures c.find.ensures c.is_some.ensures) ∙ c.if-is_some.false)
    (sym c.has_row_ahead.ensures ∙ c.if-has_row_ahead.false)
