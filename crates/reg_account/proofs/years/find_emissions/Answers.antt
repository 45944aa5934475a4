use Rattle.std.proofs.Common.{◌≡◌, rules, sym, ap}
use Rattle.std.specs.Option.{option_map}
use Rattle.std.proofs.lemmas.Fn.{always_returns_same}
use Rattle.reg_account.specs.declared.years.Emission.{Emission}
use Rattle.reg_account.proofs.Keyed.{from_zero, none_found, number_found, item_at}
use Rattle.reg_account.proofs.years.find_emissions.Goals as goal

pub returns-in-Ok : goal.returns-in-Ok
returns-in-Ok c =
    let searched = c.binary_search_by_key.ensures.position (λ v. v.year)
    (always_returns_same _ (λ a r. r ≡ a.0.now.year) _ (λ a r q k. search rules)) in
    let found = rw c.in-Ok.is at searched in
    let within = rw c.in-Ok.is at c.binary_search_by_key.ensures.bound in
    let xs = c.args.emissions.now in
    let d = c.index-emissions-index.result in
    sym (ap (option_map (λ (e : Emission). e.tonnes))
    (item_at (λ (v : Emission). v.year) 0 xs (from_zero _ c.requires) c.in-Ok.index c.args.year d within
    (number_found (λ (v : Emission). v.year) xs c.args.year c.in-Ok.index d found)))

pub returns-in-Err : goal.returns-in-Err
returns-in-Err c =
    let searched = c.binary_search_by_key.ensures.position (λ v. v.year)
    (always_returns_same _ (λ a r. r ≡ a.0.now.year) _ (λ a r q k. search rules)) in
    let absent = rw c.in-Err.is at searched in
    sym (ap (option_map (λ (e : Emission). e.tonnes))
    (none_found (λ (v : Emission). v.year) c.args.emissions.now c.args.year _ (from_zero _ c.requires) absent))
