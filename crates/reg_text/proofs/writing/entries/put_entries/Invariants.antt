use Rattle.std.proofs.Common.{◌≡◌, ◌+◌, ◌++◌, drop}
use Rattle.reg_book.specs.Fold.{rows_from}
use Rattle.reg_text.proofs.EntryFacts.{log_text}
use Rattle.reg_text.proofs.writing.entries.put_entries.Given as goal

-- what was written, and the text of what is left, are the whole
abbrev pub invariant-loop-index : goal.invariant-loop-index
invariant-loop-index l = record {
  counted : l.entry ≡ l.last + l.index;
  whole : l.text ++ log_text (rows_from l.day (l.entry + 1) (drop l.index l.instructions) (drop l.index l.replies))
      ≡ l.initial.text ++ log_text (rows_from l.day (l.last + 1) l.instructions l.replies);
}
