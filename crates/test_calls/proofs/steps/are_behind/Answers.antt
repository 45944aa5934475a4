use Rattle.std.proofs.Common.{◌≡◌, ℕ, true, nat_lt, List, [], ◌∷◌, sym, ◌∙◌}
use Rattle.std.specs.List.{AllByRecursion, list_all}
use Rattle.std.proofs.lemmas.Bool.{and_parts}
use Rattle.std.proofs.lemmas.List.Elements.{All-from_recursion}
use Rattle.reg_account.specs.declared.rows.RetirementRow.{RetirementRow}
use Rattle.reg_account.specs.Account.{AccountValue}
use Rattle.reg_rules.specs.Effect.{IsBehind}
use Rattle.test_calls.proofs.Behind.{below}
use Rattle.test_calls.proofs.steps.are_behind.Goals as goal

behind : (n : ℕ) (accounts : List AccountValue)
    → list_all (λ (v : AccountValue). list_all (λ (row : RetirementRow). nat_lt row.number n) v.rows) accounts ≡ true
    → AllByRecursion (IsBehind n) accounts
behind n [] e = tt
behind n (a ∷ accounts) e =
    let both = and_parts (list_all (λ (row : RetirementRow). nat_lt row.number n) a.rows)
    (list_all (λ (v : AccountValue). list_all (λ (row : RetirementRow). nat_lt row.number n) v.rows) accounts) e in
    (below n a.rows both.0, behind n accounts both.1)

pub returns : goal.returns
returns c same = All-from_recursion (IsBehind c.args.number) c.args.accounts.now
    (behind c.args.number c.args.accounts.now (sym c.have_rows_below.ensures ∙ same))
