use Rattle.std.proofs.Common.{◌≡◌, ◌∷◌, [], List, Vec, Global, length, sym, ap, subst, ◌∙◌, append-nil}
use Rattle.reg_facts.specs.Counting.{times}
use Rattle.reg_account.specs.Account.{AccountValue}
use Rattle.reg_regions.specs.Dealing.{AreDealtOnce}
use Rattle.reg_rules.specs.State.{State, numbers}
use Rattle.reg_book.specs.Indexes.{index_lists}
use Rattle.reg_regions.specs.Homes.{AreHome, AreAllHome}
use Rattle.reg_regions.specs.Lists.{joined_lists}
use Rattle.reg_regions.proofs.Placing.{whole-turned, times-count}
use Rattle.reg_regions.proofs.running.whole.settle_whole.Goals as goal

pub settle_lists-requires-clause-home : goal.settle_lists-requires-clause-home
settle_lists-requires-clause-home g c κs within =
    let setting = c.args.setting.now in
    let batch = c.args.batch.now in
    let deal = c.in_ok-deal.deal in
    let home =
    subst (λ (s : State). AreHome setting batch (numbers s) deal.places.items (index_lists deal.indexes.items))
    c.deref.ensures.value c.in_ok-deal.ensures.home in
    subst (AreAllHome setting batch c.in_ok-lists.lists.items) (sym c.in_ok-deals.ensures)
    (subst (λ (ls : List (Vec AccountValue Global)). AreAllHome setting batch ls (c.in_ok-deal.deal ∷ []))
    (sym c.in_ok-lists.ensures) (home, tt))

pub settle_lists-requires-clause-each_once : goal.settle_lists-requires-clause-each_once
settle_lists-requires-clause-each_once g c κs within =
    let n = length c.args.batch.now.instructions in
    subst (AreDealtOnce c.args.batch.now) (sym c.in_ok-deals.ensures)
    (λ p. ap (times p) (append-nil c.in_ok-deal.deal.places.items ∙ c.in_ok-deal.ensures.places) ∙ times-count n p)

pub returns-clause-turned : goal.returns-clause-turned
returns-clause-turned g c =
    let same : joined_lists c.in_ok-lists.lists.items ≡ joined_lists c.args.lists.items =
    ap joined_lists c.in_ok-lists.ensures ∙ append-nil c.in_ok-accounts.accounts.items ∙ c.in_ok-accounts.ensures in
    whole-turned c.args.setting.now c.args.batch.now c.settle_lists.result (λ s. joined_lists s.lists.items)
    (λ s. s.replies.items) (joined_lists c.args.lists.items) (joined_lists c.in_ok-lists.lists.items) same
    c.settle_lists.ensures.settled
