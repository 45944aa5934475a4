use Rattle.std.proofs.Common.{◌≡◌, ◌++◌, ◌∷◌, ◌+◌, [], Some, take, map, sym, ap, ◌∙◌, rules}
use Rattle.std.proofs.lemmas.List.{take_more, map-append}
use Rattle.reg_rules.specs.State.{account}
use Rattle.reg_rules.proofs.lemmas.Accounts.{account-number}
use Rattle.reg_tasks.specs.Parcels.{names_of}
use Rattle.reg_tasks.proofs.opened.open_all.Goals as goal

pub loop-account-preserved : goal.loop-account-preserved
loop-account-preserved g c =
    let k = c.loop-account.account-index in
    let accounts = c.args.accounts.now in
    let book = c.args.context.now.book.now.accounts in
    let a = c.account-item.result in
    let p = c.in_ok-parcel.parcel in
    let pushed : c.push.new.self.items ≡ c.loop-account.parcels.items ++ p ∷ [] = search rules in
    let more : take (k + 1) accounts ≡ take k accounts ++ a ∷ [] =
    take_more accounts k a c.loop-account-test.true ∙ ap (λ x. take k accounts ++ x ∷ []) (sym c.account-item.is) in
    let number : p.value.number ≡ a = account-number book a p.value c.in_ok-parcel.ensures.value in
    let after : p.after ≡ 0 = c.in_ok-parcel.ensures.after in
    record {
      names =
          ap names_of pushed
          ∙ map-append _ c.loop-account.parcels.items (p ∷ [])
          ∙ ap (λ ns. ns ++ (p.value.number, p.after) ∷ []) c.loop-account.invariant.names
          ∙ (λ i. map (λ b. (b, 0)) (take k accounts) ++ (number i, after i) ∷ [])
          ∙ sym (map-append _ (take k accounts) (a ∷ []))
          ∙ ap (map (λ b. (b, 0))) (sym more);
      values =
          ap (map (λ q. Some q.value)) pushed
          ∙ map-append _ c.loop-account.parcels.items (p ∷ [])
          ∙ ap (λ vs. vs ++ Some p.value ∷ []) c.loop-account.invariant.values
          ∙ ap (λ v. map (λ b. account book b) (take k accounts) ++ v ∷ []) (sym c.in_ok-parcel.ensures.value)
          ∙ sym (map-append _ (take k accounts) (a ∷ []))
          ∙ ap (map (λ b. account book b)) (sym more);
    }
