use Rattle.std.proofs.Common.{◌≡◌, rules, ◌∙◌}
use Rattle.reg_tasks.specs.Contexts.{the_day}
use Rattle.reg_tasks.specs.Gathering.{gathered, IsGathered, IsWhole}
use Rattle.reg_tasks.proofs.lemmas.Gathering.{named_whole, named_settled, if_named, no_name}
use Rattle.reg_tasks.proofs.gather.settle.Goals as goal

pub returns-then-not-are_whole-clause-settled : goal.returns-then-not-are_whole-clause-settled
returns-then-not-are_whole-clause-settled g c =
    no_name g.N.Naming.day (λ d e.
    let day = the_day c.args.context.now in
    let are : IsGathered g.N.Naming.day c.deref.result.now c.deref-2.result.now = record {
      rows_are = λ x f. c.deref.ensures.value ∙ c.requires.gathered.rows_are x f;
      accounts_are = λ x f. c.deref-2.ensures.value ∙ c.requires.gathered.accounts_are x f;
    } in
    let is : IsWhole day.book day.batch c.deref.result.now c.deref-2.result.now =
    named_whole c.settled_is_closing.ensures.settled c.settled_is_of_book.ensures.in_order
    c.settled_is_of_book.ensures.of_book g.N.Naming.day day c.is_day.ensures c.args.context.now.named
    c.deref.result.now c.deref-2.result.now are d e in
    let whole = c.are_whole.ensures.1 is in
    let no = c.if-not-are_whole.true in absurd cc)

pub returns-clause-settled : goal.returns-clause-settled
returns-clause-settled g c =
    let base : c.base.result ≡ c.args.context.now.batch.now.base = search rules in
    let is : c.of.result ≡ gathered c.args.context.now.batch.now c.args.rows.items c.args.accounts.items =
    c.of.ensures ∙ (λ i. record { base = base i; rows = c.args.rows.items; accounts = c.args.accounts.items }) in
    if_named g.N.Naming.day _ (λ d e.
    is ∙ named_settled c.settled_is_closing.ensures.settled g.N.Naming.day
    (the_day c.args.context.now) c.args.context.now.named c.args.rows.items c.args.accounts.items
    c.requires.gathered d e)
