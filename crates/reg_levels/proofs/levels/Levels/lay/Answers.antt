use Rattle.std.proofs.Common.{◌≡◌, ◌∷◌, [], length, sym, ap, ◌∙◌, rules}
use Rattle.std.proofs.lemmas.List.{nil_from_length}
use Rattle.reg_levels.specs.Levels.{places_between, places_run}
use Rattle.reg_levels.proofs.Between.{next_is, none_left}
use Rattle.reg_levels.proofs.levels.Levels.lay.Goals as goal

pub lay_one-requires-clause-place : goal.lay_one-requires-clause-place
lay_one-requires-clause-place g c =
    let l = c.loop-outcome.self in
    let split : c.loop-outcome.outcome-iterator.rest.items ≡ c.in-Some.outcome ∷ c.next.new.self.rest.items =
    search rules in
    (next_is l.order.items l.laid l.taken c.in-Some.outcome.place (places_run c.next.new.self.rest.items) l.within
    (sym (ap places_run split) ∙ c.loop-outcome.invariant.places)).1

pub loop-outcome-preserved : goal.loop-outcome-preserved
loop-outcome-preserved g c =
    let l = c.loop-outcome.self in
    let i = c.loop-outcome.invariant in
    let split : c.loop-outcome.outcome-iterator.rest.items ≡ c.in-Some.outcome ∷ c.next.new.self.rest.items =
    search rules in
    let next = next_is l.order.items l.laid l.taken c.in-Some.outcome.place (places_run c.next.new.self.rest.items)
    l.within (sym (ap places_run split) ∙ i.places) in
    let new = c.lay_one.new.self in
    record {
      next = tt;
      ends = tt;
      context = c.in_ok-lay_one.ensures.context ∙ i.context;
      order = c.in_ok-lay_one.ensures.order ∙ i.order;
      taken = c.in_ok-lay_one.ensures.taken ∙ i.taken;
      places = next.2 ∙ ap (λ n. places_between l.order.items n l.taken) (sym c.in_ok-lay_one.ensures.laid)
          ∙ ap (λ n. places_between l.order.items new.laid n) (sym c.in_ok-lay_one.ensures.taken)
          ∙ ap (λ o. places_between o.items new.laid new.taken) (sym c.in_ok-lay_one.ensures.order);
    }

pub returns : goal.returns
returns g c =
    let l = c.loop-outcome.self in
    let i = c.loop-outcome.invariant in
    let ended : length c.loop-outcome.outcome-iterator.rest.items ≡ 0 = search rules in
    let none : c.loop-outcome.outcome-iterator.rest.items ≡ [] =
    nil_from_length c.loop-outcome.outcome-iterator.rest.items ended in
    record {
      context = i.context;
      order = i.order;
      taken = i.taken;
      laid = none_left l.order.items l.laid l.taken l.ahead l.within (sym (ap places_run none) ∙ i.places);
    }
