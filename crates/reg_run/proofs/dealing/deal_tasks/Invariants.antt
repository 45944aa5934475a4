use Rattle.std.proofs.Common.{◌≡◌, ◌+◌, ◌<◌, ℕ, map, vec_len}
use Rattle.std.specs.Prelude.{All}
use Rattle.reg_deques.specs.Yards.{deques_of_owners, each_owned}
use Rattle.reg_facts.specs.Counting.{times}
use Rattle.reg_run.specs.Taking.{HasOnlyPut, all_put}
use Rattle.reg_run.proofs.dealing.deal_tasks.Given as goal

-- what was put, and what is left, are the whole
abbrev pub invariant-loop-task : goal.invariant-loop-task
invariant-loop-task g l = record {
  can_go : (goal.iterator-loop-task g).can_next l.task-iterator;
  ends : (goal.iterator-loop-task g).is_finite l.task-iterator;
  within : l.next < vec_len l.owners;
  same : deques_of_owners l.owners.items ≡ deques_of_owners l.initial.owners.items;
  fresh : All HasOnlyPut (each_owned l.owners.items);
  put : (p : ℕ) → times p (all_put (each_owned l.owners.items))
      + times p (map g.T.Numbered.number l.task-iterator.rest.items)
      ≡ times p (all_put (each_owned l.initial.owners.items)) + times p (map g.T.Numbered.number l.fn.tasks.items);
}
