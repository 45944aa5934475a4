use Rattle.std.proofs.Common.{◌≡◌, ◌⊎◌, ◌+◌, ◌++◌, ℕ, true, length, vec_len}
use Rattle.reg_facts.specs.Counting.{times}
use Rattle.reg_claim.specs.Seats.{known, seat_table}
use Rattle.reg_tasks.specs.Gathering.{places_of}
use Rattle.reg_work.specs.Ends.{sees_end}
use Rattle.reg_facts.specs.Lists.{joined_lists}
use Rattle.reg_work.specs.Shifts.{times_in, workers_of}
use Rattle.reg_work.specs.EndedWorkers.{ended_numbers, all_done, all_closing}
use Rattle.reg_work.proofs.tally.count_up.Given as goal

-- what was counted, and what is left, are the whole
abbrev pub invariant-loop-ended_worker : goal.invariant-loop-ended_worker
invariant-loop-ended_worker g l = record {
  can_go : (goal.iterator-loop-ended_worker g).can_next l.ended_worker-iterator;
  ends : (goal.iterator-loop-ended_worker g).is_finite l.ended_worker-iterator;
  table : seat_table l.rest ≡ g.S.Sharing.table;
  stake : (known l.rest).stake + length l.ended_worker-iterator.rest.items ≡ 16;
  seen : ((length l.ended_worker-iterator.rest.items ≡ vec_len l.fn.ended_workers) × ((known l.rest).seen ≡ 0))
      ⊎ (sees_end g.S.Sharing.count (known l.rest) ≡ true);
  rows : (p : ℕ) → times p (known l.rest).finished ≡ times p (places_of l.work.done.items);
  times : (p : ℕ) → times p (known l.rest).finished ≡ times_in p l.work.shifts.items;
  workers : workers_of l.work.shifts.items ++ ended_numbers l.ended_worker-iterator.rest.items
      ≡ ended_numbers l.fn.ended_workers.items;
  done : l.work.done.items ++ all_done l.ended_worker-iterator.rest.items ≡ all_done l.fn.ended_workers.items;
  closing : joined_lists l.work.closing.items ++ all_closing l.ended_worker-iterator.rest.items
      ≡ all_closing l.fn.ended_workers.items;
}
