use Rattle.std.proofs.Common.{◌≡◌, List, ap, refl, ◌∙◌}
use Rattle.reg_base.specs.declared.kinds.AllowanceKind.{AllowanceKind}
use Rattle.reg_base.specs.declared.kinds.AllowanceKind.TheVariants.{General, Aviation}
use Rattle.reg_account.specs.Account.{AccountValue}
use Rattle.reg_book.specs.declared.totals.BothTotals.{BothTotals}
use Rattle.reg_book.specs.Totals.{totals_in, totals_of, totals_for}
use Rattle.reg_book.proofs.book.Book.totals.Goals as goal

each-kind : (accounts : List AccountValue) (kind : AllowanceKind) → totals_for (totals_of accounts) kind
    ≡ totals_in accounts kind
each-kind accounts General = refl
each-kind accounts Aviation = refl

pub returns : goal.returns
returns c =
    c.of_kind.ensures ∙ ap (λ (both : BothTotals). totals_for both c.args.kind) c.both_totals.ensures
    ∙ each-kind c.args.self.now.accounts c.args.kind
