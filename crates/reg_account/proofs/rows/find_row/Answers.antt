use Rattle.std.proofs.Common.{◌≡◌, rules, sym, ◌∙◌, ap, Some}
use Rattle.std.proofs.lemmas.Fn.{always_returns_same}
use Rattle.reg_account.proofs.Keyed.{from_zero, none_found, number_found, item_at}
use Rattle.reg_account.proofs.rows.find_row.Goals as goal

pub returns-in-Ok : goal.returns-in-Ok
returns-in-Ok c =
    let searched = c.binary_search_by_key.ensures.position (λ v. v.number)
    (always_returns_same _ (λ a r. r ≡ a.0.now.number) _ (λ a r q k. search rules)) in
    let found = rw c.in-Ok.is at searched in
    let within = rw c.in-Ok.is at c.binary_search_by_key.ensures.bound in
    ap Some c.index-rows-index.is
    ∙ sym (item_at (λ v. v.number) 0 c.args.rows.now (from_zero _ c.requires) c.in-Ok.index c.args.number
    c.index-rows-index.result within
    (number_found (λ v. v.number) c.args.rows.now c.args.number c.in-Ok.index c.index-rows-index.result found))

pub returns-in-Err : goal.returns-in-Err
returns-in-Err c =
    let searched = c.binary_search_by_key.ensures.position (λ v. v.number)
    (always_returns_same _ (λ a r. r ≡ a.0.now.number) _ (λ a r q k. search rules)) in
    let absent = rw c.in-Err.is at searched in
    sym (none_found (λ v. v.number) c.args.rows.now c.args.number _ (from_zero _ c.requires) absent)
