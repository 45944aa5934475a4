-- Accounts in lists, one list after another.
use Rattle.std.proofs.Common.{◌≡◌, ℕ, suc, eqb, ◌+◌, ◌-◌, ◌<◌, ◌≤◌, List, [], ◌∷◌, ◌++◌, length, get_or, drop, Vec}
use Rattle.std.proofs.Common.{Some, None, refl, sym, ap, subst, ◌∙◌, arith, add-one, length-append}
use Rattle.std.specs.Option.{option_or}
use Rattle.std.specs.Global.{Global}
use Rattle.std.proofs.lemmas.List.{drop_more, get_or_append_left, get_or_default}
use Rattle.std.proofs.lemmas.List.Folds.{find-append}
use Rattle.std.proofs.lemmas.List.{map-append}
use Rattle.reg_base.specs.Rising.{IsRising}
use Rattle.reg_base.proofs.lemmas.RisesFrom.{rises_from}
use Rattle.reg_base.proofs.lemmas.Rising.{rising-tail, rising-right, rising-left}
use Rattle.reg_account.specs.Account.{AccountValue}
use Rattle.reg_rules.specs.State.{State, account, numbers}
use Rattle.reg_facts.specs.Lists.{joined_lists}
use Rattle.reg_book.proofs.Accounts.{account_none, ascending}

-- from an index on: the list that stands there, and those behind it
pub joined-at : (lists : List (Vec AccountValue Global)) (i : ℕ) (d : Vec AccountValue Global) → i < length lists
    → joined_lists (drop i lists) ≡ (get_or lists i d).items ++ joined_lists (drop (i + 1) lists)
joined-at lists i d lt = ap joined_lists (drop_more lists i d lt)

-- if accounts rise, those of the first list do, and those behind it
pub first_rise : (xs ys : State) → IsRising (numbers (xs ++ ys)) → IsRising (numbers xs)
first_rise xs ys rising =
    rising-left (numbers xs) (numbers ys) (subst IsRising (map-append (λ (v : AccountValue). v.number) xs ys) rising)

pub others_rise : (xs ys : State) → IsRising (numbers (xs ++ ys)) → IsRising (numbers ys)
others_rise xs ys rising =
    rising-right (numbers xs) (numbers ys) (subst IsRising (map-append (λ (v : AccountValue). v.number) xs ys) rising)

-- an account that the first list does not have is found among those behind it
pub found_behind : (xs ys : State) (a : ℕ) → account xs a ≡ None → account (xs ++ ys) a ≡ account ys a
found_behind xs ys a none =
    find-append (λ v. eqb v.number a) xs ys ∙ ap (λ o. option_or o (account ys a)) none

-- one that the first list has is found there
pub found_here : (xs ys : State) (a : ℕ) (v : AccountValue) → account xs a ≡ Some v → account (xs ++ ys) a ≡ Some v
found_here xs ys a v some =
    find-append (λ w. eqb w.number a) xs ys ∙ ap (λ o. option_or o (account ys a)) some

-- if the last account has a lower number, all have
pub none_by_last : (xs : State) (a : ℕ) (d : AccountValue) → IsRising (numbers xs) → 0 < length xs
    → (get_or xs (length xs - 1) d).number < a → account xs a ≡ None
none_by_last xs a d rising some lower =
    let rises = rises_from 0 (numbers xs) rising (λ s. omega arith) in
    account_none xs a (λ p e lt is.
    let last : get_or xs (length xs - 1) e ≡ get_or xs (length xs - 1) d = get_or_default xs (length xs - 1) e d
    (omega (arith, some)) in
    let up = ascending 0 xs rises p (length xs - 1) e (omega (arith, lt)) (omega (arith, some)) in
    omega (arith, up, is, lower, ap (λ (v : AccountValue). v.number) last))
