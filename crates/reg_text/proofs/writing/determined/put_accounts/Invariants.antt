use Rattle.std.proofs.Common.{◌≡◌, ◌++◌, take}
use Rattle.std.specs.List.{flat_map}
use Rattle.reg_text.specs.Report.{text_of}
use Rattle.reg_text.specs.Determined.{determined_rows}
use Rattle.reg_text.proofs.writing.determined.put_accounts.Given as goal

-- the rows so far have been added
abbrev pub invariant-loop-account : goal.invariant-loop-account
invariant-loop-account l =
    l.text ≡ l.initial.text ++ text_of (flat_map determined_rows (take l.account-index l.accounts))
