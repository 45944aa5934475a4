use Rattle.std.proofs.Common.{◌≡◌, ap, sym, ◌∙◌, subst, drop, ◌+◌, ◌++◌}
use Rattle.reg_book.specs.declared.totals.BothTotals.{BothTotals}
use Rattle.reg_facts.specs.Lists.{joined_lists}
use Rattle.reg_book.specs.Totals.{totals_of, both_added, BothTotalsFit}
use Rattle.reg_book.proofs.Joined.{joined-at}
use Rattle.reg_book.proofs.lemmas.TotalFacts.{AddUpWith, add-none, add-list, have_space}
use Rattle.reg_book.proofs.parts.add_up_lists.Goals as goal

pub loop-list-init : goal.loop-list-init
loop-list-init c = record {
  left = subst (λ (t : BothTotals). AddUpWith t (joined_lists c.args.lists.now) (joined_lists c.args.lists.now))
      (sym c.none-totals.ensures) (add-none (joined_lists c.args.lists.now));
}

pub plus-totals-requires : goal.plus-totals-requires
plus-totals-requires c =
    let all = joined_lists c.args.lists.now in
    let list = c.list-item.result in
    let behind = joined_lists (drop (c.loop-list.list-index + 1) c.args.lists.now) in
    let here : joined_lists (drop c.loop-list.list-index c.args.lists.now) ≡ list.items ++ behind =
    joined-at c.args.lists.now c.loop-list.list-index list c.loop-list-test.true
    ∙ ap (λ l. l.items ++ behind) (sym c.list-item.is) in
    let more : AddUpWith (both_added c.loop-list.totals (totals_of list.items)) all behind =
    add-list c.loop-list.totals all list.items behind
    (subst (AddUpWith c.loop-list.totals all) here c.loop-list.invariant.left) in
    subst (λ (t : BothTotals). BothTotalsFit (both_added c.loop-list.totals t))
    (ap totals_of (sym c.deref.ensures.value) ∙ sym c.add_up.ensures)
    (have_space (both_added c.loop-list.totals (totals_of list.items)) all behind c.requires.fit c.requires.few more)

pub loop-list-preserved : goal.loop-list-preserved
loop-list-preserved c =
    let all = joined_lists c.args.lists.now in
    let list = c.list-item.result in
    let behind = joined_lists (drop (c.loop-list.list-index + 1) c.args.lists.now) in
    let here : joined_lists (drop c.loop-list.list-index c.args.lists.now) ≡ list.items ++ behind =
    joined-at c.args.lists.now c.loop-list.list-index list c.loop-list-test.true
    ∙ ap (λ l. l.items ++ behind) (sym c.list-item.is) in
    let more : AddUpWith (both_added c.loop-list.totals (totals_of list.items)) all behind =
    add-list c.loop-list.totals all list.items behind
    (subst (AddUpWith c.loop-list.totals all) here c.loop-list.invariant.left) in
    record {
      left = subst (λ (t : BothTotals). AddUpWith t all behind)
          (ap (both_added c.loop-list.totals) (ap totals_of (sym c.deref.ensures.value) ∙ sym c.add_up.ensures)
          ∙ sym c.plus-totals.ensures) more;
    }
