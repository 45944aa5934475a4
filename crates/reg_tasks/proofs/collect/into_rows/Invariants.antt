use Rattle.std.proofs.Common.{◌≡◌, ◌++◌, length, map, Some}
use Rattle.reg_tasks.specs.Contexts.{the_day}
use Rattle.reg_tasks.specs.Gathering.{AreWithin, rows_in}
use Rattle.reg_tasks.proofs.collect.into_rows.Given as goal

-- each that is left is at a place; what was made, and what is left, are the whole
abbrev pub invariant-loop-one : goal.invariant-loop-one
invariant-loop-one g l = record {
  next : (goal.iterator-loop-one g).can_next l.one-iterator;
  ends : (goal.iterator-loop-one g).is_finite l.one-iterator;
  within : AreWithin (length l.context.batch.now.instructions) l.one-iterator.rest.items;
  rows : map Some l.rows.items ++ rows_in (the_day l.context) l.one-iterator.rest.items
      ≡ rows_in (the_day l.context) l.fn.done.items;
}
