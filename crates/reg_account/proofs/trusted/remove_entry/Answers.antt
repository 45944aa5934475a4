use Rattle.std.proofs.Common.{◌≡◌, ◌<◌, rules, sym, ◌∙◌, subst, List, length, get_or, Err}
use Rattle.std.proofs.lemmas.Fn.{always_returns_same}
use Rattle.std.specs.Ordering.{nat_cmp}
use Rattle.std.specs.List.Sorted.{IsBinarySearchResult}
use Rattle.reg_account.specs.declared.trusted.TrustedEntry.{TrustedEntry}
use Rattle.reg_account.proofs.Keyed.{from_zero, number_found, none_found, removed, without_none}
use Rattle.reg_account.proofs.trusted.remove_entry.Goals as goal

pub returns-in-Ok : goal.returns-in-Ok
returns-in-Ok c =
    let searched = c.binary_search_by_key.ensures.position (λ v. v.account)
    (always_returns_same _ (λ a r. r ≡ a.0.now.account) _ (λ a r q k. search rules)) in
    let found = rw c.in-Ok.is at searched in
    let within = rw c.in-Ok.is at c.binary_search_by_key.ensures.bound in
    let index = c.in-Ok.index in
    let d = c.remove.result in
    c.remove.ensures.items
    ∙ removed (λ (v : TrustedEntry). v.account) 0 c.args.entries.now.items (from_zero _ c.requires) index c.args.account
    d
    (subst (λ (xs : List TrustedEntry). index < length xs) c.as_slice.ensures within)
    (subst (λ (xs : List TrustedEntry). (get_or xs index d).account ≡ c.args.account) c.as_slice.ensures
    (number_found (λ (v : TrustedEntry). v.account) c.as_slice.result.now c.args.account index d found))

pub returns-in-Err : goal.returns-in-Err
returns-in-Err c =
    let searched = c.binary_search_by_key.ensures.position (λ v. v.account)
    (always_returns_same _ (λ a r. r ≡ a.0.now.account) _ (λ a r q k. search rules)) in
    let absent = rw c.in-Err.is at searched in
    sym (without_none (λ (v : TrustedEntry). v.account) c.args.account c.args.entries.now.items
    (none_found (λ (v : TrustedEntry). v.account) c.args.entries.now.items c.args.account _ (from_zero _ c.requires)
    (subst (λ (xs : List TrustedEntry). IsBinarySearchResult (λ y. nat_cmp y.account c.args.account) xs
    (Err c.in-Err.field-0)) c.as_slice.ensures absent)))
