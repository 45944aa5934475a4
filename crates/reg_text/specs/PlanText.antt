-- The text of a plan: each place with its level, and the arrows that lead to it.
use Rattle.std.specs.Prelude.{◌≡◌, ℕ, List, [], ◌∷◌, ◌++◌, length, map, codes}
use Rattle.std.specs.List.{flat_map}
use Rattle.reg_base.specs.Rising.{count_up}
use Rattle.reg_plan.specs.declared.arrow.Arrow.{Arrow}
use Rattle.reg_plan.specs.Plans.{PlanValue, IsPlan, inward, level_at}
use Rattle.reg_book.specs.Book.{directory_of}
use Rattle.reg_book.specs.Day.{DayValue}
use Rattle.reg_text.specs.Report.{text_of}
use Rattle.reg_text.specs.TextRows.{TextRow}
use Rattle.reg_text.specs.Numbers.{number}
use Rattle.reg_text.specs.Spelling.{end_row}

-- task,PLACE,LEVEL
abbrev pub task_row : ℕ → ℕ → TextRow
task_row place level = codes "task" ∷ number place ∷ number level ∷ []

-- arrow,FROM,TO,ACCOUNT
abbrev pub arrow_row : Arrow → TextRow
arrow_row arrow = codes "arrow" ∷ number arrow.from ∷ number arrow.to ∷ number arrow.account ∷ []

-- a place with its level, and the arrows that lead to it
abbrev pub place_rows : PlanValue → ℕ → List TextRow
place_rows plan place = task_row place (level_at plan.levels place) ∷ map arrow_row (inward plan.arrows place)

-- so many places, in order
abbrev pub places_rows : PlanValue → ℕ → List TextRow
places_rows plan count = flat_map (place_rows plan) (count_up 1 count)

-- all places of the plan, and the row end
abbrev pub plan_rows : PlanValue → List TextRow
plan_rows plan = places_rows plan (length plan.levels) ++ end_row ∷ []

-- this is the text of the plan of the day's instructions
abbrev pub IsPlanText : DayValue → List ℕ → Type 0
IsPlanText day text = (plan : PlanValue) × IsPlan (directory_of day.book.accounts) day.batch.instructions plan
    × (text ≡ text_of (plan_rows plan))
