-- How many allowances there are, and what a step makes of that number.
use Rattle.std.specs.Prelude.{◌≡◌, ℕ, ◌+◌, None}
use Rattle.std.specs.Option.{option_map_or}
use Rattle.std.specs.List.{sum_by}
use Rattle.reg_base.specs.declared.kinds.AllowanceKind.{AllowanceKind}
use Rattle.reg_base.specs.declared.act.Act.{Act}
use Rattle.reg_base.specs.declared.movement.Change.{Change}
use Rattle.reg_base.specs.declared.movement.Change.TheVariants.{Credit, Retire, Unretire}
use Rattle.reg_base.specs.Acts.{first, change_of}
use Rattle.reg_base.specs.declared.instruction.Instruction.{Instruction}
use Rattle.reg_base.specs.declared.kinds.Retirement.TheVariants.{Deleted}
use Rattle.reg_account.specs.Rows.{amount_in}
use Rattle.reg_account.specs.Laws.{counted, of_kind}
use Rattle.reg_rules.specs.State.{State, Setting, retirement_row}
use Rattle.reg_rules.specs.Checks.{refusal}
use Rattle.reg_rules.specs.Laws.{after_step, IsReady}

-- how many allowances of a kind there are: those that accounts hold, and those that they have surrendered
abbrev pub number_of : AllowanceKind → State → ℕ
number_of kind s = sum_by (counted kind) s

-- how many allowances of the kind the change of an account creates
abbrev pub credits : AllowanceKind → Change → ℕ
credits kind (Credit own amount) = of_kind kind own amount
credits kind made = 0

-- how many allowances of the kind the act creates
abbrev pub created_by : AllowanceKind → Act → ℕ
created_by kind act = credits kind (change_of act)

-- how many allowances of the kind the change of an account deletes
abbrev pub deletes : AllowanceKind → Change → ℕ
deletes kind (Retire Deleted own amount) = of_kind kind own amount
deletes kind made = 0

-- how many allowances of the kind the act deletes
abbrev pub deleted_by : AllowanceKind → Act → ℕ
deleted_by kind act = deletes kind (change_of act)

-- how many deleted allowances of the kind the change of this account brings back: the amount of the deletion that it
-- reverses
abbrev pub undeletes : AllowanceKind → State → ℕ → Change → ℕ
undeletes kind s a (Unretire number) = option_map_or (amount_in Deleted kind) (retirement_row s a number) 0
undeletes kind s a made = 0

-- how many deleted allowances of the kind the act brings back
abbrev pub undeleted_by : AllowanceKind → State → Act → ℕ
undeleted_by kind s act = undeletes kind s (first act) (change_of act)

-- law: an accepted instruction changes the number of allowances by what it creates, deletes and brings back, and by
-- nothing else
abbrev pub StepConserves : Type 0
StepConserves = (c : Setting) (s : State) (number : ℕ) (i : Instruction) (kind : AllowanceKind)
    → IsReady number s → refusal c s i ≡ None
    → number_of kind (after_step c s number i) + deleted_by kind i.act
    ≡ number_of kind s + created_by kind i.act + undeleted_by kind s i.act
