use Rattle.std.proofs.Common.{◌≡◌, ◌+◌, drop}
use Rattle.reg_tasks.specs.Gathering.{counts_up, places_of}
use Rattle.reg_tasks.proofs.collect.count_up.Given as goal

-- what is left answers as all do
abbrev pub invariant-loop-done : goal.invariant-loop-done
invariant-loop-done g l = record {
  next_is : l.next ≡ 1 + l.done-index;
  answer : counts_up l.next (places_of (drop l.done-index l.rows)) ≡ counts_up 1 (places_of l.rows);
}
