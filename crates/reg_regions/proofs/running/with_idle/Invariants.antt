use Rattle.std.proofs.Common.{◌≡◌, ℕ, map}
use Rattle.reg_facts.specs.Lists.{first_numbers}
use Rattle.reg_regions.specs.Stealing.{times_noted}
use Rattle.reg_regions.proofs.running.with_idle.Given as goal

-- there are notes of the workers so far, and no place more
abbrev pub invariant-loop-worker : goal.invariant-loop-worker
invariant-loop-worker g l = record {
  workers : map g.N.Notes.worker l.all.items ≡ first_numbers l.worker;
  times : (p : ℕ) → times_noted g.N.Notes.places p l.all.items ≡ times_noted g.N.Notes.places p l.fn.notes.items;
}
