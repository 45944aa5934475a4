-- Why workers did not settle a batch.
use Rattle.std.specs.Prelude.{◌≡◌, ◌≢◌, ℕ, ◌+◌, ◌≤◌, true, false}
use Rattle.reg_base.specs.Batch.{BatchValue}
use Rattle.reg_base.specs.Workers.{may_work}
use Rattle.reg_book.specs.Book.{BookValue}
use Rattle.reg_work.specs.declared.fault.WorkFault.{WorkFault}
use Rattle.reg_work.specs.declared.fault.WorkFault.TheVariants.{Workers, WrongBase, NoThread, NoMemory}

-- the number of workers is not within its limits; or it is, and the batch does not begin with the book's next record
-- number; or it does, and a thread could not be started, which only several workers need, or memory ran out
abbrev pub IsWorkFault : ℕ → BookValue → BatchValue → WorkFault → Type 0
IsWorkFault workers book batch Workers = may_work workers ≡ false
IsWorkFault workers book batch (WrongBase next) =
    (may_work workers ≡ true) × (next ≡ book.next) × (batch.base + 1 ≢ book.next)
IsWorkFault workers book batch NoThread = (2 ≤ workers) × (may_work workers ≡ true) × (batch.base + 1 ≡ book.next)
IsWorkFault workers book batch NoMemory = (may_work workers ≡ true) × (batch.base + 1 ≡ book.next)
