use Rattle.std.proofs.Common.{◌≡◌, rules, ap, ◌∙◌, sym, nat_eq}
use Rattle.std.proofs.lemmas.Fn.{always_returns_same}
use Rattle.std.proofs.lemmas.List.Elements.{filter_agree}
use Rattle.std.proofs.lemmas.List.Sorted.{IsNonDecreasingBy-from_sort}
use Rattle.reg_plan.specs.declared.arrow.Arrow.{Arrow}
use Rattle.reg_plan.specs.Plans.{outward}
use Rattle.reg_plan.proofs.Slices.{ties_are}
use Rattle.reg_plan.proofs.arrows.sorted_by_tail.Goals as goal

pub returns-clause-sorted : goal.returns-clause-sorted
returns-clause-sorted c =
    IsNonDecreasingBy-from_sort (λ (w : Arrow). w.from) c.sort_by_key.new.self.items
    (c.in_ok-sort_by_key.ensures.sorted (λ w. w.from)
    (always_returns_same _ (λ a r. r ≡ a.0.now.from) _ (λ a r q k. search rules)))

pub returns-clause-same : goal.returns-clause-same
returns-clause-same c = λ place.
    let stable = c.in_ok-sort_by_key.ensures.stable (λ w. w.from)
    (always_returns_same _ (λ a r. r ≡ a.0.now.from) _ (λ a r q k. search rules))
    (record { to = 0; from = place; account = 0 }) in
    let copied : c.in_ok-by_tail.by_tail.items ≡ c.args.arrows.now = search rules in
    sym (filter_agree _ (λ (w : Arrow). nat_eq w.from place) (λ w. ties_are place w.from) c.sort_by_key.new.self.items)
    ∙ stable
    ∙ filter_agree _ (λ (w : Arrow). nat_eq w.from place) (λ w. ties_are place w.from) c.in_ok-by_tail.by_tail.items
    ∙ ap (λ xs. outward xs place) copied
