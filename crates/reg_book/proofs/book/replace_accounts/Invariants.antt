use Rattle.std.proofs.Common.{◌≡◌, ◌≤◌, length, take, drop, vec_len}
use Rattle.std.specs.Prelude.{All}
use Rattle.reg_account.specs.Account.{IsAccount}
use Rattle.reg_rules.specs.State.{numbers}
use Rattle.reg_book.specs.Book.{overlay}
use Rattle.reg_book.proofs.Overlays.{HigherThanEach}
use Rattle.reg_book.proofs.book.replace_accounts.Given as goal

abbrev pub invariant-loop-account : goal.invariant-loop-account
invariant-loop-account l = record {
  rest : l.settled.items ≡ take (length l.settled.items) l.fn.settled.items;
  done : l.accounts.items ≡ overlay l.fn.accounts.items (drop (length l.settled.items) l.fn.settled.items);
  fit : All IsAccount l.accounts.items;
  within : l.until ≤ length l.fn.accounts.items;
  higher : HigherThanEach (numbers l.fn.accounts.items) l.until l.settled.items;
}

abbrev pub decreases-loop-account : goal.decreases-loop-account
decreases-loop-account l = vec_len l.settled
