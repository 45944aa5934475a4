use Rattle.std.proofs.Common.{◌≡◌, rules, arith, sym, ◌∙◌, ap, Some}
use Rattle.std.proofs.lemmas.Fn.{always_returns_same}
use Rattle.reg_base.proofs.lemmas.RisesFrom.{rises_from}
use Rattle.reg_rules.specs.State.{numbers}
use Rattle.reg_book.proofs.Accounts.{searched_ok, searched_err}
use Rattle.reg_book.proofs.book.get_account.Goals as goal

pub returns-in-Ok : goal.returns-in-Ok
returns-in-Ok c =
    let rises = rises_from 0 (numbers c.args.accounts.now) c.requires (λ some. omega arith) in
    let searched = c.binary_search_by_key.ensures.position (λ v. v.number)
    (always_returns_same _ (λ a r. r ≡ a.0.now.number) _ (λ a r q k. search rules)) in
    let found = rw c.in-Ok.is at searched in
    let within = rw c.in-Ok.is at c.binary_search_by_key.ensures.bound in
    ap Some c.index-accounts-index.is
    ∙ sym (searched_ok c.args.accounts.now c.args.number c.in-Ok.index c.index-accounts-index.result rises within
    found)

pub returns-in-Err : goal.returns-in-Err
returns-in-Err c =
    let rises = rises_from 0 (numbers c.args.accounts.now) c.requires (λ some. omega arith) in
    let searched = c.binary_search_by_key.ensures.position (λ v. v.number)
    (always_returns_same _ (λ a r. r ≡ a.0.now.number) _ (λ a r q k. search rules)) in
    let absent = rw c.in-Err.is at searched in
    sym (searched_err c.args.accounts.now c.args.number _ rises absent)
