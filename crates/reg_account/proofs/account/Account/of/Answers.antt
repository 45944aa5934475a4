use Rattle.std.proofs.Common.{sym, ◌∙◌, refl, subst}
use Rattle.std.specs.Prelude.{All}
use Rattle.std.proofs.lemmas.Option.{none-some}
use Rattle.reg_base.specs.Numbers.{IsAccountNo, IsHolderNo}
use Rattle.reg_account.specs.Users.{UserIsInRange}
use Rattle.reg_account.specs.Trusted.{EntryIsInRange}
use Rattle.reg_account.specs.Rows.{RowIsInRange}
use Rattle.reg_account.specs.Years.{EmissionIsInRange, FigureIsInRange}
use Rattle.reg_account.specs.Account.{IsAccount, account_of}
use Rattle.reg_account.proofs.NoFaults.{fit-no_fault, fit_of_no_fault}
use Rattle.reg_account.proofs.account.Account.of.Goals as goal
use Rattle.reg_account.proofs.account.Account.of.Goals.{After-know_figures}

-- without a fault, and with numbers of their types, the parts are an account
fits : (c : After-know_figures) → IsAccount (account_of c.args.parts)
fits c =
    fit_of_no_fault (account_of c.args.parts) (subst IsAccountNo c.get.ensures.value c.get.ensures.range)
    (subst IsHolderNo c.get-2.ensures.value c.get-2.ensures.range)
    (subst (All UserIsInRange) c.users.ensures c.know_users.ensures)
    (subst (All EntryIsInRange) c.trusted.ensures c.know_entries.ensures)
    (subst (All RowIsInRange) c.rows.ensures c.know_rows.ensures)
    (subst (All EmissionIsInRange) c.emissions.ensures c.know_emissions.ensures)
    (subst (All FigureIsInRange) c.figures.ensures c.know_figures.ensures) (sym c.find_fault.ensures ∙ c.in_default.is)

pub invariant_of-result : goal.invariant_of-result
invariant_of-result c = fits c

pub returns-clause-value : goal.returns-clause-value
returns-clause-value c = (refl, fits c)

pub returns-clause-accepts : goal.returns-clause-accepts
returns-clause-accepts c = ((λ _. fits c), (λ _. refl))

-- parts with a fault are no account
pub returns-in-Some-clause-accepts : goal.returns-in-Some-clause-accepts
returns-in-Some-clause-accepts c = (
  (λ no. absurd cc),
  (λ is. absurd (none-some c.in-Some.fault (sym (fit-no_fault (account_of c.args.parts) is)
      ∙ sym c.find_fault.ensures ∙ c.in-Some.is))),
)
