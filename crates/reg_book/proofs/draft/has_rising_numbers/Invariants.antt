use Rattle.std.proofs.Common.{ℕ, ◌+◌, ◌<◌, get_or}
use Rattle.reg_rules.specs.State.{numbers}
use Rattle.reg_book.proofs.draft.has_rising_numbers.Given as goal

abbrev pub invariant-loop-next : goal.invariant-loop-next
invariant-loop-next l = (k : ℕ) → k + 1 < l.next
    → get_or (numbers l.accounts) k 0 < get_or (numbers l.accounts) (k + 1) 0
