use Rattle.std.proofs.Common.{◌≡◌, ◌+◌, ◌<◌, ◌++◌, ◌∷◌, [], length, rules, sym, ap, ◌∙◌}
use Rattle.std.proofs.lemmas.List.{map-append}
use Rattle.reg_levels.specs.Levels.{places_between, places_of}
use Rattle.reg_levels.proofs.Between.{between_more}
use Rattle.reg_levels.proofs.levels.Levels.take.Goals as goal

pub loop-preserved : goal.loop-preserved
loop-preserved g c =
    let l = c.loop.self in
    let i = c.loop.invariant in
    let new = c.take_one.new.self in
    let left : l.taken < length l.order.items = search rules in
    let pushed : c.push_reserved.new.self.items ≡ c.loop.tasks.items ++ c.in_ok-task.task ∷ [] = search rules in
    record {
      context = c.in_ok-task.ensures.context ∙ i.context;
      order = c.in_ok-task.ensures.order ∙ i.order;
      laid = c.in_ok-task.ensures.laid ∙ i.laid;
      taken = c.in_ok-task.ensures.taken ∙ ap (λ n. n + 1) i.taken;
      room = search rules;
      places = ap places_of pushed ∙ map-append _ c.loop.tasks.items (c.in_ok-task.task ∷ [])
          ∙ ap (λ xs. xs ++ c.in_ok-task.task.place ∷ []) i.places
          ∙ ap (λ p. places_between l.order.items l.laid l.taken ++ p ∷ []) c.in_ok-task.ensures.place
          ∙ sym (between_more l.order.items l.laid l.taken l.ahead left)
          ∙ ap (places_between l.order.items l.laid) (sym c.in_ok-task.ensures.taken)
          ∙ ap (λ n. places_between l.order.items n new.taken) (sym c.in_ok-task.ensures.laid)
          ∙ ap (λ o. places_between o.items new.laid new.taken) (sym c.in_ok-task.ensures.order);
    }
