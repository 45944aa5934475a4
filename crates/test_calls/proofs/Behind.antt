-- Surrenders and deletions whose numbers are below another one, found by a test of each.
use Rattle.std.proofs.Common.{◌≡◌, ℕ, true, nat_lt, List, [], ◌∷◌}
use Rattle.std.specs.List.{list_all}
use Rattle.std.proofs.lemmas.Bool.{and_parts, ltb-true}
use Rattle.reg_account.specs.declared.rows.RetirementRow.{RetirementRow}
use Rattle.reg_account.specs.Rows.{AreBelow, row_numbers}

pub below : (n : ℕ) (rows : List RetirementRow) → list_all (λ (row : RetirementRow). nat_lt row.number n) rows ≡ true
    → AreBelow n (row_numbers rows)
below n [] e = tt
below n (r ∷ rows) e = let both =
    and_parts (nat_lt r.number n) (list_all (λ (row : RetirementRow). nat_lt row.number n) rows) e in
    (ltb-true _ _ both.0, below n rows both.1)
