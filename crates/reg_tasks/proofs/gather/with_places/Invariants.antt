use Rattle.std.proofs.Common.{◌≡◌, ◌+◌, ◌≤◌, ◌++◌, length, vec_len, vec_capacity, Some}
use Rattle.std.specs.List.{AllByRecursion}
use Rattle.reg_book.specs.Day.{DayValue}
use Rattle.reg_tasks.specs.Gathering.{replies_by_number, replies_from}
use Rattle.reg_tasks.proofs.Collecting.{IsLogged}
use Rattle.reg_tasks.proofs.gather.with_places.Given as goal

-- each row that is left is the day's, if one is named; what was kept, and what is left, are the whole
abbrev pub invariant-loop-row : goal.invariant-loop-row
invariant-loop-row g l = record {
  next : (goal.iterator-loop-row g).can_next l.row-iterator;
  ends : (goal.iterator-loop-row g).is_finite l.row-iterator;
  right : (d : DayValue) → g.N.Naming.day ≡ Some d
      → AllByRecursion (λ row. ∥ IsLogged d row ∥₁) l.row-iterator.rest.items;
  room : vec_len l.done + length l.row-iterator.rest.items ≤ vec_capacity l.done;
  rows : replies_from l.context.batch.now.base l.done.items ++ replies_by_number l.row-iterator.rest.items
      ≡ replies_by_number l.fn.rows.items;
}
