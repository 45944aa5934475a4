-- A number that is no account number is that of no account of a book.
use Rattle.std.proofs.Common.{◌≡◌, ℕ, false, cond, [], ◌∷◌, Option, Some, None, refl, ap, subst, ◌∙◌}
use Rattle.std.specs.Prelude.{All, is_some}
use Rattle.std.proofs.lemmas.Bool.{ne_eqb}
use Rattle.std.proofs.lemmas.List.Elements.{All-head, All-tail}
use Rattle.reg_base.specs.Numbers.{IsAccountNo}
use Rattle.reg_account.specs.Account.{AccountValue, IsAccount}
use Rattle.reg_rules.specs.State.{State, account}
use Rattle.reg_book.specs.Book.{BookValue, IsBook}
use Rattle.reg_text.specs.Statement.{has_account}

nobody_found : (s : State) (a : ℕ) → All IsAccount s → ¬ (IsAccountNo a) → account s a ≡ None
nobody_found [] a each wrong = refl
nobody_found (v ∷ s) a each wrong =
    let own = All-head IsAccount v s each in
    ap (λ b. cond b (Some v) (account s a)) (ne_eqb v.number a (λ same. wrong (subst IsAccountNo same own.own_number)))
    ∙ nobody_found s a (All-tail IsAccount v s each) wrong

pub has_nobody : (book : BookValue) (a : ℕ) → IsBook book → ¬ (IsAccountNo a) → has_account book a ≡ false
has_nobody book a kept wrong =
    ap (λ (found : Option AccountValue). is_some found) (nobody_found book.accounts a kept.within_limits wrong)
