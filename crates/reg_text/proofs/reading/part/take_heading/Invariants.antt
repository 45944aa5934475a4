use Rattle.std.proofs.Common.{◌≡◌, length}
use Rattle.reg_text.proofs.Names.{IsBetweenRows, rows_left, draft_of, IsDraft, drafted}
use Rattle.reg_text.proofs.reading.part.take_heading.Given as goal

-- what the rows that are left make of the draft is what all of them make of the first one
abbrev pub invariant-rows : goal.invariant-rows
invariant-rows l = record {
  ready : IsBetweenRows l.reader;
  fits : IsDraft (draft_of l.draft);
  so_far : drafted (draft_of l.draft) (rows_left l.reader) ≡ drafted (draft_of l.fn.draft) (rows_left l.fn.reader);
}

abbrev pub decreases-rows : goal.decreases-rows
decreases-rows l = length (rows_left l.reader)
