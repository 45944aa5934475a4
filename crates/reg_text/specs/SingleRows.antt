-- Single rows: the instruction that a text of one row says, the version that the first row of a text says, and the text
-- of one row of a log.
use Rattle.std.specs.Prelude.{◌≡◌, ◌↔◌, ℕ, List, [], ◌∷◌, Option, None, Result, Ok, Err, if◌then◌else◌}
use Rattle.std.specs.List.{AllByRecursion, flat_map}
use Rattle.std.specs.Result.{result_ok}
use Rattle.std.specs.Str.{bytes_eq}
use Rattle.csv.specs.Writing.{default_writer, row_text as text_of_row}
use Rattle.reg_base.specs.declared.instruction.Instruction.{Instruction}
use Rattle.reg_base.specs.Instructions.{IsInstruction}
use Rattle.reg_rules.specs.declared.reply.LogRow.{LogRow}
use Rattle.reg_cuts.specs.Rows.{rows_in_text}
use Rattle.reg_text.specs.declared.cause.Cause.{Cause}
use Rattle.reg_text.specs.declared.cause.Cause.TheVariants as cause
use Rattle.reg_text.specs.declared.reading.scope.Version.{Version}
use Rattle.reg_text.specs.declared.reading.tag.Tag.TheVariants as tag
use Rattle.reg_text.specs.TextRows.{TextRow, field}
use Rattle.reg_text.specs.Scopes.{widest}
use Rattle.reg_text.specs.Acts.{IsShared}
use Rattle.reg_text.specs.Grammar.{row_read, row_text, tag_word}
use Rattle.reg_text.specs.Faults.{at_row}
use Rattle.reg_text.specs.Plain.{IsPlain}
use Rattle.reg_text.specs.Log.{log_row}
use Rattle.reg_text.specs.Report.{text_of, log_rows}

-- ---- an instruction

-- the instruction that a row says, whose tag is `do`
abbrev pub instruction_in : TextRow → Result Instruction Cause
instruction_in r = if bytes_eq (field r 0) (tag_word tag.Do) then row_read widest tag.Do r else Err cause.Tag

-- an instruction behind whose row there are no others
abbrev pub if_alone : List TextRow → Instruction → Result Instruction (ℕ × Cause)
if_alone [] i = Ok i
if_alone (r ∷ rows) i = Err (2, cause.End)

-- the instruction that rows say, of which there is one, or the first faulty row and its cause
abbrev pub instruction_of_rows : List TextRow → Result Instruction (ℕ × Cause)
instruction_of_rows [] = Err (1, cause.End)
instruction_of_rows (r ∷ rows) = at_row 1 (instruction_in r) (if_alone rows)

-- law: rows are read as an instruction exactly if they are its row, and it is within the limits of a day
abbrev pub OneRowOfAnInstruction : Type 0
OneRowOfAnInstruction = (rows : List TextRow) (i : Instruction) → (instruction_of_rows rows ≡ Ok i)
    ↔ ((rows ≡ row_text tag.Do i ∷ []) × IsInstruction i × IsShared i.act)

-- ---- a version

-- the version that a row says, whose tag is `format`
abbrev pub version_of_row : TextRow → Result Version Cause
version_of_row r = if bytes_eq (field r 0) (tag_word tag.Format) then row_read widest tag.Format r else Err cause.Tag

-- the version that the first of these rows says, if it says one
abbrev pub version_told : List TextRow → Option Version
version_told [] = None
version_told (r ∷ rows) = result_ok (version_of_row r)

-- ---- a row of a log

-- the bytes of a row of a log, with its line feed
abbrev pub log_row_text : LogRow → List ℕ
log_row_text r = text_of_row default_writer (log_row r)

-- law: the text of a log is that of its rows, one behind another; no field of such a row needs quotes, and csv splits
-- its text into that row again
pub record LogsAreTheirRows : Type 0 where
  pub whole : (rows : List LogRow) → text_of (log_rows rows) ≡ flat_map log_row_text rows
  pub plain : (r : LogRow) → AllByRecursion IsPlain (log_row r)
  pub split : (r : LogRow) → rows_in_text (log_row_text r) ≡ log_row r ∷ []
