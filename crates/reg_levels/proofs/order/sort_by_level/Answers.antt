use Rattle.std.proofs.Common.{◌≡◌, rules, sym, ◌∙◌, nat_eq}
use Rattle.std.proofs.lemmas.Fn.{always_returns_same}
use Rattle.std.proofs.lemmas.List.Elements.{filter_agree}
use Rattle.std.proofs.lemmas.List.Sorted.{IsNonDecreasingBy-from_sort}
use Rattle.reg_plan.specs.Plans.{level_at}
use Rattle.reg_levels.proofs.Ordered.{ties_are}
use Rattle.reg_levels.proofs.order.sort_by_level.Goals as goal

pub returns-clause-sorted : goal.returns-clause-sorted
returns-clause-sorted c =
    IsNonDecreasingBy-from_sort (level_at c.args.levels.now) c.sort_by_key.new.self.items
    (c.in_ok-sort_by_key.ensures.sorted (level_at c.args.levels.now)
    (always_returns_same _ (λ a r. r ≡ level_at c.args.levels.now a.0.now) _ (λ a r q k. search rules)))

pub returns-clause-kept : goal.returns-clause-kept
returns-clause-kept c = λ place.
    let level = level_at c.args.levels.now in
    let stable = c.in_ok-sort_by_key.ensures.stable level
    (always_returns_same _ (λ a r. r ≡ level a.0.now) _ (λ a r q k. search rules)) place in
    sym (filter_agree _ (λ other. nat_eq (level other) (level place)) (λ other. ties_are (level place) (level other))
    c.sort_by_key.new.self.items)
    ∙ stable
    ∙ filter_agree _ (λ other. nat_eq (level other) (level place)) (λ other. ties_are (level place) (level other))
    c.args.places.now.items
