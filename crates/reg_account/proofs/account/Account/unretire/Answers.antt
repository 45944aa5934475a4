use Rattle.std.proofs.Common.{◌≡◌, sym, ◌∙◌, Some, subst}
use Rattle.reg_account.specs.Rows.{row_in}
use Rattle.reg_account.specs.Account.{AccountValue, account_of, CanUnretire, CanUnretireRow}
use Rattle.reg_account.proofs.Changes.{unretired_row_is_account, of_found}
use Rattle.reg_account.proofs.account.Account.unretire.Goals as goal

pub invariant_of-self : goal.invariant_of-self
invariant_of-self c =
    let a = account_of c.self.inside.parts in
    let row = c.in-Some.row in
    let found : row_in a.rows c.args.number ≡ Some row = sym c.reverse.ensures.row ∙ c.in-Some.is in
    let can = subst (λ (v : AccountValue). CanUnretire v c.args.number) (sym c.self.view_is) c.requires in
    let own = of_found (CanUnretireRow a) (row_in a.rows c.args.number) row found can in
    rw (c.raise.ensures, c.reverse.ensures.marked)
    (unretired_row_is_account a c.args.number row found own c.self.invariant)
