use Rattle.std.proofs.Common.{◌≡◌, rules}
use Rattle.std.proofs.lemmas.Fn.{always_returns_same}
use Rattle.reg_book.proofs.Orders.{sorted_rise}
use Rattle.reg_book.proofs.draft.put_in_order.Goals as goal

pub returns-then-not-has_rising_numbers-clause-rising : goal.returns-then-not-has_rising_numbers-clause-rising
returns-then-not-has_rising_numbers-clause-rising c =
    let sorted = c.sort_unstable_by_key.ensures.sorted (λ v. v.number)
    (always_returns_same _ (λ a r. r ≡ a.0.now.number) _ (λ a r q k. search rules)) in
    sorted_rise c.args.accounts.now.items c.sort_unstable_by_key.new.self.items c.requires
    c.sort_unstable_by_key.ensures.permutation sorted
