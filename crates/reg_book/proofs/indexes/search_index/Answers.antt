use Rattle.std.proofs.Common.{◌≡◌, rules, arith}
use Rattle.std.proofs.lemmas.Fn.{always_returns_same}
use Rattle.reg_base.proofs.lemmas.RisesFrom.{rises_from}
use Rattle.reg_rules.specs.State.{numbers}
use Rattle.reg_book.proofs.Accounts.{number_found, searched_err}
use Rattle.reg_book.proofs.indexes.search_index.Goals as goal

pub returns-in-Ok : goal.returns-in-Ok
returns-in-Ok c =
    let searched = c.binary_search_by_key.ensures.position (λ v. v.number)
    (always_returns_same _ (λ a r. r ≡ a.0.now.number) _ (λ a r q k. search rules)) in
    let found = rw c.in-Ok.is at searched in
    λ d. number_found c.args.accounts.now c.args.number c.in-Ok.index d found

pub returns-in-Err : goal.returns-in-Err
returns-in-Err c =
    let rises = rises_from 0 (numbers c.args.accounts.now) c.requires (λ some. omega arith) in
    let searched = c.binary_search_by_key.ensures.position (λ v. v.number)
    (always_returns_same _ (λ a r. r ≡ a.0.now.number) _ (λ a r q k. search rules)) in
    let absent = rw c.in-Err.is at searched in
    searched_err c.args.accounts.now c.args.number _ rises absent
