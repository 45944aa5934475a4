use Rattle.std.proofs.Common.{◌≡◌, ℕ, take}
use Rattle.reg_text.specs.Statement.{rows_about, noted_at}
use Rattle.reg_text.proofs.writing.statements.note_all.Given as goal

-- the rows so far are noted
abbrev pub invariant-loop-log : goal.invariant-loop-log
invariant-loop-log l = (a : ℕ) → noted_at l.noted a ≡ rows_about l.directory a (take l.log-index l.rows)
