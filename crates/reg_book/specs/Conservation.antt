-- What a day's accepted instructions make of the number of allowances.
use Rattle.std.specs.Prelude.{◌≡◌, ℕ, ◌+◌, List, [], ◌∷◌, Option, Some, None}
use Rattle.reg_base.specs.declared.kinds.AllowanceKind.{AllowanceKind}
use Rattle.reg_base.specs.declared.refusals.Refusal.{Refusal}
use Rattle.reg_base.specs.declared.act.Act.{Act}
use Rattle.reg_base.specs.declared.instruction.Instruction.{Instruction}
use Rattle.reg_rules.specs.State.{State, Setting}
use Rattle.reg_rules.specs.Checks.{refusal}
use Rattle.reg_rules.specs.Step.{step}
use Rattle.reg_rules.specs.Conservation.{number_of, created_by, deleted_by, undeleted_by}
use Rattle.reg_book.specs.Day.{DayValue, IsDay, setting, closing_state}

-- an amount, if the instruction is not refused
abbrev pub if_accepted : Option Refusal → ℕ → ℕ
if_accepted None amount = amount
if_accepted (Some q) amount = 0

-- what the accepted ones of these instructions add up to, where each adds what it reads in the state before it
abbrev pub added : (State → Act → ℕ) → Setting → State → ℕ → List Instruction → ℕ
added amount c s number [] = 0
added amount c s number (i ∷ is) =
    if_accepted (refusal c s i) (amount s i.act) + added amount c (step c s number i).0 (number + 1) is

-- what the accepted instructions of a day add up to
abbrev pub added_by : (State → Act → ℕ) → DayValue → ℕ
added_by amount day = added amount (setting day) day.book.accounts (day.batch.base + 1) day.batch.instructions

-- how many allowances of a kind the accepted creations of the day create
abbrev pub created : DayValue → AllowanceKind → ℕ
created day kind = added_by (λ s act. created_by kind act) day

-- how many its accepted deletions delete
abbrev pub deleted : DayValue → AllowanceKind → ℕ
deleted day kind = added_by (λ s act. deleted_by kind act) day

-- how many deleted ones its accepted reversals bring back
abbrev pub undeleted : DayValue → AllowanceKind → ℕ
undeleted day kind = added_by (undeleted_by kind) day

-- law: the number of allowances that all accounts hold or have surrendered changes only by accepted creations,
-- deletions and reversals of deletions
abbrev pub FoldConserves : Type 0
FoldConserves = (day : DayValue) → IsDay day → (kind : AllowanceKind)
    → number_of kind (closing_state day) + deleted day kind
    ≡ number_of kind day.book.accounts + created day kind + undeleted day kind
