use Rattle.std.proofs.Common.{◌≡◌, rules}
use Rattle.std.proofs.lemmas.Fn.{always_returns_same}
use Rattle.reg_tasks.proofs.lemmas.Slotting.{search_found, search_missed}
use Rattle.reg_tasks.proofs.likely.search_slot.Goals as goal

pub returns-in-Ok : goal.returns-in-Ok
returns-in-Ok c =
    let searched = c.binary_search_by_key.ensures.position (λ opening. opening.account)
    (always_returns_same _ (λ a r. r ≡ a.0.now.account) _ (λ a r q k. search rules)) in
    let found = rw c.in-Ok.is at searched in
    let within = rw c.in-Ok.is at c.binary_search_by_key.ensures.bound in
    (within, search_found c.args.openings.now c.args.account c.in-Ok.slot within found)

pub returns-in-Err : goal.returns-in-Err
returns-in-Err c =
    let searched = c.binary_search_by_key.ensures.position (λ opening. opening.account)
    (always_returns_same _ (λ a r. r ≡ a.0.now.account) _ (λ a r q k. search rules)) in
    let absent = rw c.in-Err.is at searched in
    search_missed c.args.openings.now c.args.account _ c.requires absent
