-- Why a batch was not settled.
use Rattle.std.specs.Prelude.{◌≡◌, ◌≢◌, ◌+◌}
use Rattle.reg_base.specs.Batch.{BatchValue}
use Rattle.reg_book.specs.declared.settle.SettleFault.{SettleFault}
use Rattle.reg_book.specs.declared.settle.SettleFault.TheVariants.{WrongBase, NoMemory}
use Rattle.reg_book.specs.Book.{BookValue}

-- it does not begin with the book's next record number, or it does and memory ran out
abbrev pub IsSettleFault : BookValue → BatchValue → SettleFault → Type 0
IsSettleFault book batch (WrongBase next) = (next ≡ book.next) × (batch.base + 1 ≢ book.next)
IsSettleFault book batch NoMemory = batch.base + 1 ≡ book.next
