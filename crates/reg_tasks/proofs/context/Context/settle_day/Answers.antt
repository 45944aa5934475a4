use Rattle.std.proofs.Common.{◌≡◌, rules, ap, sym, subst, ◌∙◌, length, take, drop, ◌++◌, ◌+◌}
use Rattle.std.specs.Prelude.{IsPermutation}
use Rattle.std.proofs.lemmas.List.Sorted.{length_permutation}
use Rattle.reg_facts.proofs.lemmas.Lists.{written_whole}
use Rattle.reg_base.specs.Rising.{IsRising, count_up}
use Rattle.reg_rules.specs.State.{State, numbers}
use Rattle.reg_book.specs.Settled.{IsOfBook, record_numbers}
use Rattle.reg_book.specs.Day.{day_of, settled_day}
use Rattle.reg_tasks.specs.Gathering.{gathered}
use Rattle.reg_tasks.proofs.lemmas.Gathering.{accounts_are, day_gathered}
use Rattle.reg_tasks.proofs.context.Context.settle_day.Goals as goal
use Rattle.reg_tasks.proofs.context.Context.settle_day.Goals.{After-base}
use Rattle.reg_tasks.proofs.context.Context.settle_day.Given.{Over}

-- the sorted accounts are the settled ones
accounts-now : (g : Over) (c : After-base g)
    → c.sort_accounts.new.accounts
    ≡ (settled_day (day_of c.args.self.now.book.now c.args.self.now.rules.now c.args.self.now.batch.now)).accounts
accounts-now g c =
    accounts_are c.settled_is_closing.ensures.settled
    (day_of c.args.self.now.book.now c.args.self.now.rules.now c.args.self.now.batch.now)
    c.settled_is_of_book.ensures.in_order c.is_day.ensures
    c.args.accounts.items c.sort_accounts.new.accounts c.requires.accounts
    (subst (λ (vs : State). IsPermutation vs c.sort_accounts.new.accounts) c.deref_mut.ensures.value
    c.sort_accounts.ensures.same) c.sort_accounts.ensures.sorted

-- the list that was sorted in place
written : (g : Over) (c : After-base g)
    → take c.args.accounts.len
    (c.sort_accounts.new.accounts ++ drop (length c.sort_accounts.new.accounts) c.args.accounts.items)
    ≡ c.sort_accounts.new.accounts
written g c =
    let size : c.args.accounts.len ≡ length c.args.accounts.items = search rules in
    written_whole c.args.accounts.items c.sort_accounts.new.accounts c.args.accounts.len size
    (length_permutation c.deref_mut.result.now c.sort_accounts.new.accounts c.sort_accounts.ensures.same
    ∙ ap length c.deref_mut.ensures.value)

in-order : (g : Over) (c : After-base g)
    → record_numbers c.args.log.items ≡ count_up (c.base.result + 1) (length c.args.log.items)
in-order g c =
    let base : c.base.result ≡ c.args.self.now.batch.now.base = search rules in
    let settled = c.settled_is_of_book.ensures.in_order
    (day_of c.args.self.now.book.now c.args.self.now.rules.now c.args.self.now.batch.now) c.is_day.ensures in
    subst (λ b. record_numbers c.args.log.items ≡ count_up (b + 1) (length c.args.log.items)) (sym base)
    (subst (λ rows. record_numbers rows ≡ count_up (c.args.self.now.batch.now.base + 1) (length rows))
    (sym c.requires.log) settled.in_order)

is-settled : (g : Over) (c : After-base g)
    → gathered c.args.self.now.batch.now c.args.log.items c.sort_accounts.new.accounts
    ≡ settled_day (day_of c.args.self.now.book.now c.args.self.now.rules.now c.args.self.now.batch.now)
is-settled g c =
    day_gathered c.settled_is_closing.ensures.settled
    (day_of c.args.self.now.book.now c.args.self.now.rules.now c.args.self.now.batch.now) c.args.log.items
    c.sort_accounts.new.accounts c.requires.log (accounts-now g c)

pub of-requires-clause-numbered : goal.of-requires-clause-numbered
of-requires-clause-numbered g c = in-order g c

pub of-requires-clause-rising : goal.of-requires-clause-rising
of-requires-clause-rising g c =
    let settled = c.settled_is_of_book.ensures.in_order
    (day_of c.args.self.now.book.now c.args.self.now.rules.now c.args.self.now.batch.now) c.is_day.ensures in
    subst (λ (vs : State). IsRising (numbers vs)) (sym (written g c ∙ accounts-now g c)) settled.rising

pub returns-clause-settled : goal.returns-clause-settled
returns-clause-settled g c =
    let before = (goal.at.returns-clause-settled g c).After-base in
    let base : c.base.result ≡ c.args.self.now.batch.now.base = search rules in
    c.of.ensures ∙ (λ i. record { base = base i; rows = c.args.log.items; accounts = written g before i })
    ∙ is-settled g before

pub returns-clause-of_book : goal.returns-clause-of_book
returns-clause-of_book g c =
    let before = (goal.at.returns-clause-of_book g c).After-base in
    let base : c.base.result ≡ c.args.self.now.batch.now.base = search rules in
    let is = c.of.ensures ∙ (λ i. record { base = base i; rows = c.args.log.items; accounts = written g before i })
    ∙ is-settled g before in
    subst (IsOfBook c.args.self.now.book.now) (sym is)
    (c.settled_is_of_book.ensures.of_book
    (day_of c.args.self.now.book.now c.args.self.now.rules.now c.args.self.now.batch.now) c.is_day.ensures)
