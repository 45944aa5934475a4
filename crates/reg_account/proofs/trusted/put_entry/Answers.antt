use Rattle.std.proofs.Common.{◌≡◌, ◌<◌, ◌≤◌, rules, ap, ◌∙◌, subst, List, length, get_or, set, drop, Err}
use Rattle.std.proofs.lemmas.Fn.{always_returns_same}
use Rattle.std.proofs.lemmas.List.{length-set}
use Rattle.std.specs.Ordering.{nat_cmp}
use Rattle.std.specs.List.Sorted.{IsBinarySearchResult}
use Rattle.reg_account.specs.declared.trusted.TrustedEntry.{TrustedEntry}
use Rattle.reg_account.proofs.Changes.{written_back}
use Rattle.reg_account.proofs.Keyed.{from_zero, number_found, put_found, put_absent}
use Rattle.reg_account.proofs.trusted.put_entry.Goals as goal

pub returns-in-Ok-clause-ok : goal.returns-in-Ok-clause-ok
returns-in-Ok-clause-ok c =
    let searched = c.binary_search_by_key.ensures.position (λ v. v.account)
    (always_returns_same _ (λ a r. r ≡ a.0.now.account) _ (λ a r q k. search rules)) in
    let found = rw c.in-Ok.is at searched in
    let within = rw c.in-Ok.is at c.binary_search_by_key.ensures.bound in
    let new = c.args.new in
    let index = c.in-Ok.index in
    let xs = c.args.entries.now.items in
    let ys = c.deref_mut.result.now in
    let size : length (set ys index new) ≡ length xs = length-set ys index new ∙ ap length c.deref_mut.ensures.value in
    written_back (set ys index new) (drop (length (set ys index new)) xs) (length xs) size
    ∙ ap (λ zs. set zs index new) c.deref_mut.ensures.value
    ∙ put_found (λ (v : TrustedEntry). v.account) 0 xs (from_zero _ c.requires) index new new
    (subst (λ (zs : List TrustedEntry). index < length zs) c.as_slice.ensures within)
    (subst (λ (zs : List TrustedEntry). (get_or zs index new).account ≡ new.account) c.as_slice.ensures
    (number_found (λ (v : TrustedEntry). v.account) c.as_slice.result.now new.account index new found))

pub returns-in_ok-insert-in-Err-clause-ok : goal.returns-in_ok-insert-in-Err-clause-ok
returns-in_ok-insert-in-Err-clause-ok c =
    let searched = c.binary_search_by_key.ensures.position (λ v. v.account)
    (always_returns_same _ (λ a r. r ≡ a.0.now.account) _ (λ a r q k. search rules)) in
    let absent = rw c.in-Err.is at searched in
    let within = rw c.in-Err.is at c.binary_search_by_key.ensures.bound in
    let new = c.args.new in
    let index = c.in-Err.index in
    c.in_ok-insert-in-Err.ensures.ok
    ∙ put_absent (λ (v : TrustedEntry). v.account) c.args.entries.now.items (from_zero _ c.requires) index new
    (subst (λ (xs : List TrustedEntry). index ≤ length xs) c.as_slice.ensures within)
    (subst (λ (xs : List TrustedEntry). IsBinarySearchResult (λ y. nat_cmp y.account new.account) xs (Err index))
    c.as_slice.ensures absent)
