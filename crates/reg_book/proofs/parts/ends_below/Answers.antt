use Rattle.std.proofs.Common.{◌≡◌, rules, ◌<◌, ◌-◌, length, get_or, sym, ap, ◌∙◌, subst, arith}
use Rattle.std.proofs.lemmas.Bool.{ltb-true}
use Rattle.reg_account.specs.Account.{AccountValue}
use Rattle.reg_book.proofs.Joined.{none_by_last}
use Rattle.reg_book.proofs.parts.ends_below.Goals as goal

pub returns-in-Some : goal.returns-in-Some
returns-in-Some c lower =
    let list = c.args.list.now in
    let last = c.in-Some.last.now in
    let some : 0 < length list = ltb-true _ _ (sym c.in-Some.ensures.item.0) in
    let there : last ≡ get_or list (length list - 1) last = c.in-Some.ensures.item.1 in
    let low : c.number.result < c.args.number = search rules in
    let is : c.number.result ≡ (get_or list (length list - 1) last).number =
    c.number.ensures ∙ ap (λ (v : AccountValue). v.number) there in
    none_by_last list c.args.number last c.requires some (omega (arith, low, is))
