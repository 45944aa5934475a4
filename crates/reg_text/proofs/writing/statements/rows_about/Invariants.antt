use Rattle.std.proofs.Common.{◌≡◌, take}
use Rattle.reg_text.specs.Statement.{rows_about, lent_rows}
use Rattle.reg_text.proofs.writing.statements.rows_about.Given as goal

-- the rows so far that are about the account
abbrev pub invariant-loop-log : goal.invariant-loop-log
invariant-loop-log l = lent_rows l.about.items ≡ rows_about l.directory l.number (take l.log-index l.rows)
