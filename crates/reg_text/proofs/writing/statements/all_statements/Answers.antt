-- Each account of the book has a statement.
use Rattle.std.proofs.Common.{◌≡◌, ℕ, true, subst, sym}
use Rattle.std.specs.Prelude.{is_some}
use Rattle.reg_rules.specs.State.{State, account}
use Rattle.reg_base.specs.Directory.{DirectoryValue}
use Rattle.reg_text.specs.Statement.{noted_at, rows_about}
use Rattle.reg_text.proofs.StatementFacts.{own-found, statements-more}
use Rattle.reg_text.proofs.writing.statements.all_statements.Goals as goal

pub put_noted-requires : goal.put_noted-requires
put_noted-requires c =
    let own = c.account-item.result in
    let found = own-found c.accounts-accounts.result.now c.loop-account.account-index own c.loop-account-test.true
    c.account-item.is in
    subst (λ (n : ℕ). is_some (account c.args.book.now.accounts n) ≡ true) (sym c.number.ensures)
    (subst (λ (s : State). is_some (account s own.number) ≡ true) c.accounts-accounts.ensures.value found)

pub loop-account-preserved : goal.loop-account-preserved
loop-account-preserved c =
    let noted = c.in_ok-noted.noted in
    let n = c.number.result in
    let about = subst (λ (d : DirectoryValue). noted_at noted n ≡ rows_about d n c.args.rows.now) c.directory.ensures
    (c.in_ok-noted.ensures n) in
    statements-more c.args.book.now c.args.rows.now (noted_at noted n) c.loop-account.text c.put_noted.new.text
    c.accounts-accounts.result.now c.loop-account.account-index n c.account-item.result c.loop-account-test.true
    c.account-item.is c.number.ensures about c.loop-account.invariant c.in_ok-put_noted.ensures
