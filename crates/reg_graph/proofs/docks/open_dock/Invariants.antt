use Rattle.std.proofs.Common.{◌≡◌, ◌==◌, ◌≤◌, ◌+◌, ◌++◌, drop, length, map, vec_len, vec_capacity}
use Rattle.std.specs.Prelude.{filter}
use Rattle.reg_book.specs.Day.{day_of}
use Rattle.reg_schedules.specs.Pool.{tail_of}
use Rattle.reg_schedules.specs.World.{opening_of, known_of, opened_at}
use Rattle.reg_tasks.specs.Parcels.{parcels_of}
use Rattle.reg_graph.proofs.docks.open_dock.Given as goal

-- what came, and what still comes, are the whole, and there is room for what still comes
abbrev pub invariant-loop-account : goal.invariant-loop-account
invariant-loop-account g l = record {
  came : parcels_of l.came.items
      ++ known_of (map (opening_of (day_of l.context.book.now l.context.rules.now l.context.batch.now))
      (filter (λ a. tail_of l.context.plan l.place a == 0) (drop l.account-index l.accounts)))
      ≡ opened_at (day_of l.context.book.now l.context.rules.now l.context.batch.now) l.context.plan l.place;
  fits : vec_len l.came + length (drop l.account-index l.accounts) ≤ vec_capacity l.came;
  room : vec_capacity l.came ≡ length l.accounts;
}
