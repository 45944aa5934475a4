use Rattle.std.proofs.Common.{◌≡◌, suc, ◌-◌, ◌<◌, ◌++◌, [], length, None}
use Rattle.std.specs.Prelude.{replicate}
use Rattle.reg_book.specs.Day.{day_of}
use Rattle.reg_schedules.specs.World.{empty, docks_from, ready_from, dealt}
use Rattle.reg_graph.specs.WorldParts.{docks_of, DocksHaveRoom, task_lists, world_of}
use Rattle.reg_graph.proofs.world_parts.Parts.at_start.Given as goal

-- the docks so far and those that come are all; what is dealt so far, and the tasks that come, are all that is dealt
abbrev pub invariant-loop-before : goal.invariant-loop-before
invariant-loop-before g l = record {
  there : l.worker < length l.parts.lists.items;
  count : length l.parts.docks.items ≡ l.before;
  rooms : DocksHaveRoom (day_of l.context.book.now l.context.rules.now l.context.batch.now) l.parts.docks.items;
  docks : docks_of l.parts.docks.items
      ++ docks_from (day_of l.context.book.now l.context.rules.now l.context.batch.now) l.context.plan (suc l.before)
      (l.places - l.before)
      ≡ docks_from (day_of l.context.book.now l.context.rules.now l.context.batch.now) l.context.plan 1 l.places;
  lists : dealt l.worker (ready_from (day_of l.context.book.now l.context.rules.now l.context.batch.now) l.context.plan
      (suc l.before) (l.places - l.before)) (task_lists l.parts.lists.items)
      ≡ dealt 0 (ready_from (day_of l.context.book.now l.context.rules.now l.context.batch.now) l.context.plan 1
      l.places) (replicate l.workers []);
  others : world_of l.parts ≡ record {
    docks = docks_of l.parts.docks.items;
    lists = task_lists l.parts.lists.items;
    hands = replicate l.workers empty;
    rows = replicate l.places None;
    closing = [];
  };
}
