use Rattle.std.proofs.Common.{◌≡◌, rules}
use Rattle.std.proofs.lemmas.Fn.{always_returns_same}
use Rattle.reg_account.proofs.Keyed.{from_zero, none_found}
use Rattle.reg_account.proofs.RowFacts.{searched_index}
use Rattle.reg_account.proofs.rows.index_of.Goals as goal

pub returns-in-Ok : goal.returns-in-Ok
returns-in-Ok c =
    let searched = c.binary_search_by_key.ensures.position (λ v. v.number)
    (always_returns_same _ (λ a r. r ≡ a.0.now.number) _ (λ a r q k. search rules)) in
    let found = rw c.in-Ok.is at searched in
    let within = rw c.in-Ok.is at c.binary_search_by_key.ensures.bound in
    searched_index c.args.rows.now c.args.number c.in-Ok.index within found

pub returns-in-Err : goal.returns-in-Err
returns-in-Err c =
    let searched = c.binary_search_by_key.ensures.position (λ v. v.number)
    (always_returns_same _ (λ a r. r ≡ a.0.now.number) _ (λ a r q k. search rules)) in
    let absent = rw c.in-Err.is at searched in
    none_found (λ v. v.number) c.args.rows.now c.args.number _ (from_zero _ c.requires) absent
