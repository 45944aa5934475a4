-- A day that is settled by regions: who carried out what, and why it was not settled.
use Rattle.std.specs.Prelude.{◌≡◌, ◌≢◌, ℕ, ◌+◌, true, false, List, Option, Some, None}
use Rattle.reg_base.specs.Batch.{BatchValue}
pub use Rattle.reg_base.specs.Workers.{may_work}
use Rattle.reg_book.specs.Book.{BookValue}
use Rattle.reg_facts.specs.Counting.{once}
use Rattle.reg_facts.specs.Lists.{first_numbers}
use Rattle.reg_regions.specs.declared.not_settled.RegionsFault.{RegionsFault}
use Rattle.reg_regions.specs.declared.not_settled.RegionsFault.TheVariants.{Workers, WrongBase, NoMemory}
use Rattle.reg_regions.specs.declared.running.shift.WorkShift.{WorkShift}
use Rattle.reg_regions.specs.Stealing.{shift_workers, times_in_shifts}

-- one shift a worker, in rising order, and each of the places 1 to n stands in them once, and no other number does
pub record AreShiftsOf (workers : ℕ) (count : ℕ) (shifts : List WorkShift) : Type 0 where
  pub workers_are : shift_workers shifts ≡ first_numbers workers
  pub each_once : (place : ℕ) → times_in_shifts place shifts ≡ once count place

-- the number of workers is not within its limits; or it is, and the batch does not begin with the book's next record
-- number; or it does, and memory ran out
abbrev pub IsRegionsFault : ℕ → BookValue → BatchValue → RegionsFault → Type 0
IsRegionsFault workers book batch Workers = may_work workers ≡ false
IsRegionsFault workers book batch (WrongBase next) =
    (may_work workers ≡ true) × (next ≡ book.next) × (batch.base + 1 ≢ book.next)
IsRegionsFault workers book batch NoMemory = (may_work workers ≡ true) × (batch.base + 1 ≡ book.next)

-- what comes back of a book that was not settled: nothing if memory ran out, and otherwise the whole book
abbrev pub handed_back : RegionsFault → BookValue → Option BookValue
handed_back Workers book = Some book
handed_back (WrongBase next) book = Some book
handed_back NoMemory book = None
