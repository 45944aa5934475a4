use Rattle.std.proofs.Common.{◌≡◌, rules, sym, ap}
use Rattle.std.specs.Option.{option_map}
use Rattle.std.proofs.lemmas.Fn.{always_returns_same}
use Rattle.reg_account.specs.declared.trusted.TrustedEntry.{TrustedEntry}
use Rattle.reg_account.proofs.Keyed.{from_zero, none_found, number_found, item_at}
use Rattle.reg_account.proofs.trusted.find_effective.Goals as goal

pub returns-in-Ok : goal.returns-in-Ok
returns-in-Ok c =
    let searched = c.binary_search_by_key.ensures.position (λ v. v.account)
    (always_returns_same _ (λ a r. r ≡ a.0.now.account) _ (λ a r q k. search rules)) in
    let found = rw c.in-Ok.is at searched in
    let within = rw c.in-Ok.is at c.binary_search_by_key.ensures.bound in
    let xs = c.args.entries.now in
    let d = c.index-entries-index.result in
    sym (ap (option_map (λ (t : TrustedEntry). t.effective))
    (item_at (λ (v : TrustedEntry). v.account) 0 xs (from_zero _ c.requires) c.in-Ok.index c.args.account d
    within (number_found (λ (v : TrustedEntry). v.account) xs c.args.account c.in-Ok.index d found)))

pub returns-in-Err : goal.returns-in-Err
returns-in-Err c =
    let searched = c.binary_search_by_key.ensures.position (λ v. v.account)
    (always_returns_same _ (λ a r. r ≡ a.0.now.account) _ (λ a r q k. search rules)) in
    let absent = rw c.in-Err.is at searched in
    sym (ap (option_map (λ (t : TrustedEntry). t.effective))
    (none_found (λ (v : TrustedEntry). v.account) c.args.entries.now c.args.account _
    (from_zero _ c.requires) absent))
