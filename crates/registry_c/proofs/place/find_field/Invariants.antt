use Rattle.std.proofs.Common.{length}
use Rattle.reg_cuts.specs.Rows.{IsBetweenRows, rows_left}
use Rattle.registry_c.proofs.place.find_field.Given as goal

-- the reader stands between two rows
abbrev pub invariant-rows : goal.invariant-rows
invariant-rows l = IsBetweenRows l.reader

abbrev pub decreases-rows : goal.decreases-rows
decreases-rows l = length (rows_left l.reader)
