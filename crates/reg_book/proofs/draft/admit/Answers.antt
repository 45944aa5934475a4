use Rattle.std.proofs.Common.{sym, ap, ◌∙◌, List}
use Rattle.reg_account.specs.Account.{AccountValue}
use Rattle.reg_book.specs.Book.{first_fault}
use Rattle.reg_book.proofs.Directories.{can_take}
use Rattle.reg_book.proofs.draft.admit.Goals as goal

pub returns-in-Ok-clause-behind : goal.returns-in-Ok-clause-behind
returns-in-Ok-clause-behind c =
    (can_take (record { accounts = c.args.accounts.now.items; next = c.args.next }) c.args.account.now
    (ap (λ (xs : List AccountValue). first_fault (record { accounts = xs; next = c.args.next }) c.args.account.now)
    (sym c.deref.ensures.value) ∙ sym c.find_fault.ensures ∙ c.in_default.is)).behind
