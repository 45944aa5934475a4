use Rattle.std.proofs.Common.{◌≡◌, ◌+◌, ◌++◌, map, length}
use Rattle.std.specs.List.{flat_map}
use Rattle.reg_claim.specs.Seats.{known, seat_table}
use Rattle.reg_run.specs.Running.{numbers_ran}
use Rattle.reg_run.proofs.tally.count_tasks.Given as goal

-- what was counted, and what is left, are the whole
abbrev pub invariant-loop-worker : goal.invariant-loop-worker
invariant-loop-worker g l = record {
  can_go : (goal.iterator-loop-worker g).can_next l.worker-iterator;
  ends : (goal.iterator-loop-worker g).is_finite l.worker-iterator;
  table : seat_table l.rest ≡ g.S.Sharing.table;
  stake : (known l.rest).stake + length l.worker-iterator.rest.items ≡ 16;
  numbers : (known l.rest).finished ≡ numbers_ran l.answers.items;
  ran : l.answers.items ++ flat_map (λ w. w.ran.items) l.worker-iterator.rest.items
      ≡ flat_map (λ w. w.ran.items) l.fn.workers.items;
  notes : l.all.items ++ map (λ w. w.notes) l.worker-iterator.rest.items ≡ map (λ w. w.notes) l.fn.workers.items;
}
