-- Shifts: which workers they are of, and how often a place stands in them.
use Rattle.std.specs.Prelude.{◌≡◌, ℕ, List, map}
use Rattle.reg_facts.specs.Counting.{total, times, once}
use Rattle.reg_facts.specs.Lists.{first_numbers}
use Rattle.reg_tasks.specs.declared.outcome.Ran.{Ran}
use Rattle.reg_work.specs.declared.shift.Shift.{Shift}

module _ {N : Type 0} where
  -- the places that were run, in the order in which they were
  abbrev pub places_ran : List (Ran N) → List ℕ
  places_ran ran = map (λ r. r.place) ran

  -- the workers of these shifts
  abbrev pub workers_of : List (Shift N) → List ℕ
  workers_of shifts = map (λ s. s.worker) shifts

  -- how often a place stands in these shifts, taken together
  abbrev pub times_in : ℕ → List (Shift N) → ℕ
  times_in place shifts = total (λ s. times place (places_ran s.ran.items)) shifts

module _ {N : Type 0} where
  -- one shift a worker, in rising order, and each place from 1 to `count` stands in them once, and no other number does
  pub record AreShifts (workers : ℕ) (count : ℕ) (shifts : List (Shift N)) : Type 0 where
    pub workers_are : workers_of shifts ≡ first_numbers workers
    pub each_once : (place : ℕ) → times_in place shifts ≡ once count place
