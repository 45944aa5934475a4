-- The first instruction that touches an account.
use Rattle.std.specs.Prelude.{ℕ, ◌==◌, List, find, Option}
use Rattle.std.specs.Option.{option_map}
use Rattle.reg_plan.specs.declared.arrow.Opening.{Opening}
use Rattle.reg_plan.specs.Plans.{PlanValue}

-- the place of it in these openings, if the account is among them
abbrev pub first_in : List Opening → ℕ → Option ℕ
first_in openings a = option_map (λ opening. opening.first) (find (λ opening. opening.account == a) openings)

-- the place of it in a plan
abbrev pub first_at : PlanValue → ℕ → Option ℕ
first_at plan a = first_in plan.openings a
