use Rattle.std.proofs.Common.{◌≡◌, ◌∷◌, ap, sym, ◌∙◌, subst, drop, ◌+◌, ◌++◌}
use Rattle.reg_base.specs.Rising.{IsRising}
use Rattle.reg_rules.specs.State.{account, numbers}
use Rattle.reg_facts.specs.Lists.{joined_lists}
use Rattle.reg_book.proofs.Joined.{joined-at, first_rise, others_rise, found_here, found_behind}
use Rattle.reg_book.proofs.parts.get_in_lists.Goals as goal

pub get_up_to-requires : goal.get_up_to-requires
get_up_to-requires c =
    let list = c.list-item.result in
    let behind = joined_lists (drop (c.loop-list.list-index + 1) c.args.lists.now) in
    let here : joined_lists (drop c.loop-list.list-index c.args.lists.now) ≡ list.items ++ behind =
    joined-at c.args.lists.now c.loop-list.list-index list c.loop-list-test.true
    ∙ ap (λ l. l.items ++ behind) (sym c.list-item.is) in
    subst (λ xs. IsRising (numbers xs)) (sym c.deref.ensures.value)
    (first_rise list.items behind (subst (λ xs. IsRising (numbers xs)) here c.loop-list.invariant.rising))

pub returns-in-Some : goal.returns-in-Some
returns-in-Some c =
    let list = c.list-item.result in
    let behind = joined_lists (drop (c.loop-list.list-index + 1) c.args.lists.now) in
    let here : joined_lists (drop c.loop-list.list-index c.args.lists.now) ≡ list.items ++ behind =
    joined-at c.args.lists.now c.loop-list.list-index list c.loop-list-test.true
    ∙ ap (λ l. l.items ++ behind) (sym c.list-item.is) in
    sym (found_here list.items behind c.args.number c.in-Some.found.now
    (ap (λ xs. account xs c.args.number) (sym c.deref.ensures.value) ∙ sym c.in-Some.ensures))
    ∙ ap (λ xs. account xs c.args.number) (sym here) ∙ c.loop-list.invariant.same

pub loop-list-preserved : goal.loop-list-preserved
loop-list-preserved c =
    let list = c.list-item.result in
    let behind = joined_lists (drop (c.loop-list.list-index + 1) c.args.lists.now) in
    let here : joined_lists (drop c.loop-list.list-index c.args.lists.now) ≡ list.items ++ behind =
    joined-at c.args.lists.now c.loop-list.list-index list c.loop-list-test.true
    ∙ ap (λ l. l.items ++ behind) (sym c.list-item.is) in
    record {
      rising = others_rise list.items behind
          (subst (λ xs. IsRising (numbers xs)) here c.loop-list.invariant.rising);
      same = sym (found_behind list.items behind c.args.number
          (ap (λ xs. account xs c.args.number) (sym c.deref.ensures.value) ∙ sym c.in_default.ensures))
          ∙ ap (λ xs. account xs c.args.number) (sym here) ∙ c.loop-list.invariant.same;
    }
