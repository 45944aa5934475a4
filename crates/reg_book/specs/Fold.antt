-- Executing the instructions one after another.
use Rattle.std.specs.Prelude.{ℕ, ◌+◌, List, [], ◌∷◌, filter, map}
use Rattle.reg_base.specs.declared.instruction.Instruction.{Instruction}
use Rattle.reg_base.specs.Directory.{DirectoryValue}
use Rattle.reg_base.specs.Touches.{is_touched}
use Rattle.reg_rules.specs.declared.reply.LogRow.{LogRow}
use Rattle.reg_rules.specs.declared.reply.Reply.{Reply}
use Rattle.reg_rules.specs.State.{State, Setting}
use Rattle.reg_rules.specs.Step.{step, row_of}

-- the state after these instructions; the first of them has this record number
abbrev pub state_after : Setting → State → ℕ → List Instruction → State
state_after c s number [] = s
state_after c s number (i ∷ is) = state_after c (step c s number i).0 (number + 1) is

-- the log rows of these instructions, in order
abbrev pub rows_of : Setting → State → ℕ → List Instruction → List LogRow
rows_of c s number [] = []
rows_of c s number (i ∷ is) = row_of c number i (step c s number i).1 ∷ rows_of c (step c s number i).0 (number + 1) is

-- the replies in log rows, in order
abbrev pub replies_in : List LogRow → List Reply
replies_in rows = map (λ row. row.reply) rows

-- the log rows of a settlement day's instructions with these replies, up to the end of the shorter list; the first of
-- them has this record number
abbrev pub rows_from : ℕ → ℕ → List Instruction → List Reply → List LogRow
rows_from day number [] replies = []
rows_from day number (i ∷ is) [] = []
rows_from day number (i ∷ is) (reply ∷ replies) =
    record { number = number; day = day; instruction = i; reply = reply } ∷ rows_from day (number + 1) is replies

-- the accounts that some instruction touches, in their order
abbrev pub touched_of : DirectoryValue → List Instruction → State → State
touched_of directory is s = filter (λ v. is_touched directory is v.number) s
