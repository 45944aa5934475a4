-- One instruction on a book, as the first and only one of a day.
use Rattle.std.specs.Prelude.{◌≡◌, ℕ, ◌+◌, ◌-◌, ◌≤◌, [], ◌∷◌, None}
use Rattle.reg_base.specs.declared.limits.TheConstants.{MOST_RECORD}
use Rattle.reg_base.specs.declared.instruction.Instruction.{Instruction}
use Rattle.reg_base.specs.Rules.{RulesValue}
use Rattle.reg_rules.specs.declared.reply.LogRow.{LogRow}
use Rattle.reg_rules.specs.State.{Setting}
use Rattle.reg_rules.specs.Checks.{refusal}
use Rattle.reg_rules.specs.Step.{step, row_of}
use Rattle.reg_book.specs.declared.apply.ApplyFault.{ApplyFault}
use Rattle.reg_book.specs.declared.apply.ApplyFault.TheVariants.{NumbersSpent, NoMemory}
use Rattle.reg_book.specs.Book.{BookValue, directory_of}
use Rattle.reg_book.specs.Settled.{committed}
use Rattle.reg_book.specs.Day.{DayValue, day_of, settled_day, log_of}

-- what is fixed on a settlement day on which this book is settled by these rules
abbrev pub setting_on : BookValue → RulesValue → ℕ → Setting
setting_on book rules day = record { rules = rules; day = day; directory = directory_of book.accounts }

-- the book after the instruction: its accounts are those after the step, and one record number is used up
abbrev pub applied : BookValue → RulesValue → ℕ → Instruction → BookValue
applied book rules day i = record {
  accounts = (step (setting_on book rules day) book.accounts book.next i).0;
  next = book.next + 1;
}

-- the log row of the instruction
abbrev pub row_applied : BookValue → RulesValue → ℕ → Instruction → LogRow
row_applied book rules day i =
    let c = setting_on book rules day in row_of c book.next i (step c book.accounts book.next i).1

-- the day whose batch is this one instruction
abbrev pub day_of_one : BookValue → RulesValue → ℕ → Instruction → DayValue
day_of_one book rules day i = day_of book rules (record { day = day; base = book.next - 1; instructions = i ∷ [] })

-- why the instruction was not applied: no record number is left, or there is one, no check fails, and memory ran out
abbrev pub IsApplyFault : BookValue → RulesValue → ℕ → Instruction → ApplyFault → Type 0
IsApplyFault book rules day i NumbersSpent = book.next ≡ MOST_RECORD + 1
IsApplyFault book rules day i NoMemory =
    (book.next ≤ MOST_RECORD) × (refusal (setting_on book rules day) book.accounts i ≡ None)

-- the instruction is applied: a record number was left, and the new book and the log row are those after its step. They
-- are also those of the day whose batch is this one instruction, if that is settled and committed
pub record IsApplied (rules : RulesValue) (day : ℕ) (i : Instruction) (old new : BookValue)
    (logged : LogRow) : Type 0 where
  pub numbered : old.next ≤ MOST_RECORD
  pub book : new ≡ applied old rules day i
  pub row : logged ≡ row_applied old rules day i
  pub settled : new ≡ committed old (settled_day (day_of_one old rules day i))
  pub log : log_of (day_of_one old rules day i) ≡ logged ∷ []

-- the instruction is not applied: the fault says why, and the book stays as it was
pub record IsNotApplied (rules : RulesValue) (day : ℕ) (i : Instruction) (old new : BookValue)
    (fault : ApplyFault) : Type 0 where
  pub why : IsApplyFault old rules day i fault
  pub unchanged : new ≡ old
