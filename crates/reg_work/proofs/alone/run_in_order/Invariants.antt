use Rattle.std.proofs.Common.{◌≡◌, ◌≤◌, ℕ}
use Rattle.reg_facts.specs.Counting.{times, once}
use Rattle.reg_tasks.specs.Gathering.{AreFirstRows}
use Rattle.reg_work.specs.Shifts.{places_ran}
use Rattle.reg_work.proofs.alone.run_in_order.Given as goal

-- each place so far was run, once, and the log has its row
abbrev pub invariant-loop-before : goal.invariant-loop-before
invariant-loop-before g l = record {
  few : l.before ≤ l.places;
  context : l.slots.context.now ≡ l.initial.slots.context.now;
  each_once : (p : ℕ) → times p (places_ran l.ran.items) ≡ once l.before p;
  log : AreFirstRows g.N.Naming.day l.before l.log.items;
}
