use Rattle.std.proofs.Common.{◌≡◌, ◌<◌, ◌≤◌, rules, ◌∙◌, subst, List, length, get_or, Err}
use Rattle.std.proofs.lemmas.Fn.{always_returns_same}
use Rattle.std.specs.Ordering.{nat_cmp}
use Rattle.std.specs.List.Sorted.{IsBinarySearchResult}
use Rattle.reg_account.specs.declared.years.Figure.{Figure}
use Rattle.reg_account.proofs.Keyed.{from_zero, number_found, put_found, put_absent}
use Rattle.reg_account.proofs.years.put_figure.Goals as goal

pub returns-in-Ok-clause-ok : goal.returns-in-Ok-clause-ok
returns-in-Ok-clause-ok c =
    let searched = c.binary_search_by_key.ensures.position (λ v. v.year)
    (always_returns_same _ (λ a r. r ≡ a.0.now.year) _ (λ a r q k. search rules)) in
    let found = rw c.in-Ok.is at searched in
    let within = rw c.in-Ok.is at c.binary_search_by_key.ensures.bound in
    let new = c.args.new in
    let index = c.in-Ok.index in
    put_found (λ (v : Figure). v.year) 0 c.args.figures.now.items (from_zero _ c.requires) index new new
    (subst (λ (xs : List Figure). index < length xs) c.deref.ensures.value within)
    (subst (λ (xs : List Figure). (get_or xs index new).year ≡ new.year) c.deref.ensures.value
    (number_found (λ (v : Figure). v.year) c.deref.result.now new.year index new found))

pub returns-in_ok-insert-in-Err-clause-ok : goal.returns-in_ok-insert-in-Err-clause-ok
returns-in_ok-insert-in-Err-clause-ok c =
    let searched = c.binary_search_by_key.ensures.position (λ v. v.year)
    (always_returns_same _ (λ a r. r ≡ a.0.now.year) _ (λ a r q k. search rules)) in
    let absent = rw c.in-Err.is at searched in
    let within = rw c.in-Err.is at c.binary_search_by_key.ensures.bound in
    let new = c.args.new in
    let index = c.in-Err.index in
    c.in_ok-insert-in-Err.ensures.items
    ∙ put_absent (λ (v : Figure). v.year) c.args.figures.now.items (from_zero _ c.requires) index new
    (subst (λ (xs : List Figure). index ≤ length xs) c.deref.ensures.value within)
    (subst (λ (xs : List Figure). IsBinarySearchResult (λ y. nat_cmp y.year new.year) xs (Err index))
    c.deref.ensures.value absent)
