use Rattle.std.proofs.Common.{◌≡◌, ◌+◌, ◌++◌, rules, arith, Some, ap, sym, ◌∙◌, subst}
use Rattle.std.specs.List.{AllByRecursion}
use Rattle.std.proofs.Props.{props}
use mathlib.Core.Logic.{∥∥₁_elim, ∥∥₁_map}
use Rattle.reg_facts.proofs.lemmas.Members.{of_each_member, In}
use Rattle.reg_book.specs.Day.{DayValue, row_at}
use Rattle.reg_tasks.specs.Gathering.{replies_by_number, replies_from}
use Rattle.reg_tasks.proofs.Collecting.{IsLogged, rows_logged, reply_more}
use Rattle.reg_tasks.proofs.gather.with_places.Goals as goal

pub loop-row-init : goal.loop-row-init
loop-row-init g c = record {
  next = search rules;
  ends = search rules;
  right = λ d e. of_each_member (λ row. ∥ IsLogged d row ∥₁) _ (λ row m. ∥∥₁_map (c.requires.rows d e) (λ same.
      rows_logged d c.args.rows.items same row (subst (In row) c.into_iter-row-iterator.ensures.into_iter_gives.0 m)));
  room = search rules;
  rows = search rules;
}

pub new-requires : goal.new-requires
new-requires g c = λ d e.
    let left = subst (AllByRecursion (λ row. ∥ IsLogged d row ∥₁)) c.in-Some.ensures.steps.0
    (c.loop-row.invariant.right d e) in
    ∥∥₁_elim left.0 (Prim.hlevel props) (λ is.
    let base : c.args.context.now.batch.now.base ≡ d.batch.base =
    ap (λ (x : DayValue). x.batch.base) (c.args.context.now.named d e) in
    let same : is.place ≡ c.in-Some-place_of.place = omega (arith, is.number, base, c.in-Some-place_of.ensures) in
    subst (λ q. row_at d q ≡ Some c.in-Some.row) same is.at)

pub loop-row-preserved : goal.loop-row-preserved
loop-row-preserved g c = record {
  next = search rules;
  ends = search rules;
  right = λ d e. (subst (AllByRecursion (λ row. ∥ IsLogged d row ∥₁)) c.in-Some.ensures.steps.0
      (c.loop-row.invariant.right d e)).1;
  room = search rules;
  rows =
      let base = c.args.context.now.batch.now.base in
      let number : c.new.result.place + base ≡ c.in-Some.row.number =
      omega (arith, c.new.ensures.place, c.in-Some-place_of.ensures) in
      reply_more base c.loop-row.done.items c.push_reserved.new.self.items c.new.result c.in-Some.row
      c.next.new.self.rest.items c.args.rows.items c.push_reserved.ensures.items number c.new.ensures.reply
      (ap (λ rs. replies_from base c.loop-row.done.items ++ replies_by_number rs) (sym c.in-Some.ensures.steps.0)
      ∙ c.loop-row.invariant.rows);
}
