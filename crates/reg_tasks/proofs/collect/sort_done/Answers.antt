use Rattle.std.proofs.Common.{◌≡◌, rules}
use Rattle.std.proofs.lemmas.Fn.{always_returns_same}
use Rattle.std.proofs.lemmas.List.Sorted.{IsNonDecreasingBy-from_sort, IsPermutation-trans}
use Rattle.reg_tasks.proofs.collect.sort_done.Goals as goal

pub returns-clause-sorted : goal.returns-clause-sorted
returns-clause-sorted g c =
    IsNonDecreasingBy-from_sort (λ d. d.place) c.sort_unstable_by_key.new.self
    (c.sort_unstable_by_key.ensures.sorted (λ d. d.place)
    (always_returns_same _ (λ a r. r ≡ a.0.now.place) _ (λ a r q k. search rules)))

pub returns-clause-same : goal.returns-clause-same
returns-clause-same g c = IsPermutation-trans _ _ _ c.bring_near.ensures c.sort_unstable_by_key.ensures.permutation
