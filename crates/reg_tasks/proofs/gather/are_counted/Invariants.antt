use Rattle.std.proofs.Common.{◌≡◌, ◌+◌, drop}
use Rattle.reg_tasks.specs.Gathering.{are_counted}
use Rattle.reg_tasks.proofs.gather.are_counted.Given as goal

-- what is left answers as all do
abbrev pub invariant-loop-row : goal.invariant-loop-row
invariant-loop-row l = record {
  next_is : l.next ≡ l.first + l.row-index;
  answer : are_counted l.next (drop l.row-index l.rows) ≡ are_counted l.first l.rows;
}
