use Rattle.std.proofs.Common.{◌≡◌, length}
use Rattle.reg_text.proofs.Names.{IsBetweenRows, rows_left, read_behind, IsDraft, drafted}
use Rattle.reg_text.proofs.reading.part.take_rows.Given as goal

-- what the rows that are left make of the draft is what all of them make of the first one
abbrev pub invariant-rows : goal.invariant-rows
invariant-rows l = record {
  ready : IsBetweenRows l.reader;
  fits : IsDraft (read_behind l.heading l.body);
  so_far : drafted (read_behind l.heading l.body) (rows_left l.reader) ≡ drafted (read_behind l.heading l.fn.body)
      (rows_left l.fn.reader);
}

abbrev pub decreases-rows : goal.decreases-rows
decreases-rows l = length (rows_left l.reader)
