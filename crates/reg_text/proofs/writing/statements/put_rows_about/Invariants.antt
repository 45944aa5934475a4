use Rattle.std.proofs.Common.{◌≡◌, ◌++◌, take}
use Rattle.reg_text.specs.Report.{text_of, log_rows}
use Rattle.reg_text.specs.Statement.{last_told, lent_rows}
use Rattle.reg_text.proofs.writing.statements.put_rows_about.Given as goal

-- the rows so far have been added, and this is what they tell of the account
abbrev pub invariant-loop-log : goal.invariant-loop-log
invariant-loop-log l = (l.text ≡ l.initial.text ++ text_of (log_rows (lent_rows (take l.log-index l.about))))
    × (l.told ≡ last_told l.number (lent_rows (take l.log-index l.about)))
