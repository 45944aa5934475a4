use Rattle.std.proofs.Common.{◌≡◌, ◌+◌, [], map, ap, sym, ◌∙◌, arith}
use Rattle.std.proofs.lemmas.Nat.{mod_below}
use Rattle.std.proofs.lemmas.List.{nil_from_length}
use Rattle.reg_facts.specs.Counting.{times}
use Rattle.reg_run.proofs.dealing.deal_tasks.Goals as goal

pub loop-task-preserved : goal.loop-task-preserved
loop-task-preserved g c =
    let i = c.loop-task.invariant in
    let number = g.T.Numbered.number in
    let items = c.in-Some.ensures.steps.0 in
    record {
      can_go = record {};
      ends = record {};
      within =
          let many = c.len.ensures in
          let len = c.in_ok-put_at.ensures.len in
          let some = i.within in
          let below = mod_below (c.loop-task.next + 1) c.len.result (omega (arith, many, len, some)) in
          omega (arith, below, many);
      same = c.put_at.ensures.same ∙ i.same;
      fresh = c.in_ok-put_at.ensures.fresh;
      put = λ p.
          let before = i.put p in
          let more = c.in_ok-put_at.ensures.put p in
          let left = ap (λ ts. times p (map number ts)) items in
          omega (arith, before, more, left);
    }

pub returns : goal.returns
returns g c =
    let i = c.loop-task.invariant in
    let none : c.loop-task.task-iterator.rest.items ≡ [] =
    nil_from_length _ (sym c.loop-task.task-iterator.rest.ok.0 ∙ c.in-None.ensures.steps.0) in
    record {
      same = i.same;
      fresh = i.fresh;
      put = λ p.
          let whole = i.put p in
          let left = ap (λ ts. times p (map g.T.Numbered.number ts)) none in
          omega (arith, whole, left);
    }
