use Rattle.std.proofs.Common.{◌≡◌, ◌++◌, take}
use Rattle.std.specs.List.{flat_map}
use Rattle.reg_facts.specs.Lists.{joined_lists}
use Rattle.reg_text.specs.Sections.{account_block}
use Rattle.reg_text.specs.Report.{text_of}
use Rattle.reg_text.proofs.writing.report.put_lists.Given as goal

-- the blocks of the lists so far have been added
abbrev pub invariant-loop-list : goal.invariant-loop-list
invariant-loop-list l =
    l.text ≡ l.initial.text ++ text_of (flat_map account_block (joined_lists (take l.list-index l.lists)))
