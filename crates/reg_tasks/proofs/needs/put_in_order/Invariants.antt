use Rattle.std.proofs.Common.{◌≡◌, ◌<◌, ℕ, get_or}
use Rattle.std.specs.Prelude.{IsPermutation}
use Rattle.reg_schedules.specs.Docks.{names_needed}
use Rattle.reg_tasks.specs.Parcels.{names_of}
use Rattle.reg_tasks.proofs.needs.put_in_order.Given as goal

-- the first ones are in order, and all are still there
abbrev pub invariant-loop-index : goal.invariant-loop-index
invariant-loop-index g l = record {
  moved : IsPermutation l.initial.parcels l.parcels;
  first : (m : ℕ) → m < l.index → get_or (names_of l.parcels) m (0, 0)
      ≡ get_or (names_needed l.arrows l.accounts) m (0, 0);
}
