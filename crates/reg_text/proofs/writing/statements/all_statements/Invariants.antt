use Rattle.std.proofs.Common.{◌≡◌, take}
use Rattle.std.specs.List.{flat_map}
use Rattle.reg_text.specs.Report.{text_of}
use Rattle.reg_text.specs.Statement.{statement_of}
use Rattle.reg_text.proofs.writing.statements.all_statements.Given as goal

-- the statements so far have been added
abbrev pub invariant-loop-account : goal.invariant-loop-account
invariant-loop-account l =
    l.text ≡ flat_map (λ v. text_of (statement_of l.book l.rows v.number)) (take l.account-index l.accounts)
