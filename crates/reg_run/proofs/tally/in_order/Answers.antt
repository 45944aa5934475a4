use Rattle.std.proofs.Common.{rules}
use Rattle.std.proofs.lemmas.List.Sorted.{IsNonDecreasingBy-from_sort, answers_always}
use Rattle.reg_run.proofs.Counted.{sorted-counts, times-permuted}
use Rattle.reg_run.proofs.tally.in_order.Goals as goal

pub returns-clause-numbers : goal.returns-clause-numbers
returns-clause-numbers g c count each =
    let old = c.args.ran.items in
    let new = c.sort_unstable_by_key.new.self.items in
    sorted-counts (λ r. r.number) old new (λ p. times-permuted (λ r. r.number) p old new
    c.sort_unstable_by_key.ensures.permutation)
    (IsNonDecreasingBy-from_sort (λ r. r.number) new (c.sort_unstable_by_key.ensures.sorted (λ r. r.number)
    (answers_always _ _ _ (λ f a r g h. search rules)))) count each
