use Rattle.std.proofs.Common.{arith, ◌≡◌, ◌++◌, ◌∷◌, [], map, append-nil, append_assoc, length, ap, sym, ◌∙◌}
use Rattle.std.specs.List.{flat_map}
use Rattle.std.proofs.lemmas.List.{map-append, nil_from_length}
use Rattle.reg_facts.specs.Counting.{times, once}
use Rattle.reg_claim.specs.declared.views.SeatView.{SeatView}
use Rattle.reg_claim.specs.Seats.{known}
use Rattle.reg_run.specs.Running.{numbers_ran}
use Rattle.reg_run.proofs.tally.count_tasks.Goals as goal

pub loop-worker-preserved : goal.loop-worker-preserved
loop-worker-preserved g c =
    let i = c.loop-worker.invariant in
    let view = c.join-rest.ensures.view in
    let worker = c.in-Some.worker in
    let own = worker.ran.items in
    let left = c.next.new.self.rest.items in
    let items = c.in-Some.ensures.steps.0 in
    let fewer = ap length items in
    let part = ap (λ (v : SeatView). v.stake) view in
    let one = worker.one_stake in
    let stake = i.stake in
    let answers = c.loop-worker.answers.items in
    let all = c.loop-worker.all.items in
    let pushed = c.in_ok-push.ensures.items in
    let grown = c.in_ok-append.ensures in
    record {
      can_go = record {};
      ends = record {};
      table = c.join-rest.ensures.same ∙ i.table;
      stake = omega arith;
      numbers = ap (λ (v : SeatView). v.finished) view
          ∙ ap (λ ns. ns ++ (known worker.seat).finished) i.numbers
          ∙ ap (λ ns. numbers_ran answers ++ ns) (sym worker.finished)
          ∙ sym (map-append (λ r. r.number) answers own) ∙ ap numbers_ran (sym grown);
      ran = ap (λ rs. rs ++ flat_map (λ w. w.ran.items) left) grown
          ∙ append_assoc answers own (flat_map (λ w. w.ran.items) left)
          ∙ ap (λ ws. answers ++ flat_map (λ w. w.ran.items) ws) (sym items) ∙ i.ran;
      notes = ap (λ ns. ns ++ map (λ w. w.notes) left) pushed
          ∙ append_assoc all (worker.notes ∷ []) (map (λ w. w.notes) left)
          ∙ ap (λ ws. all ++ map (λ w. w.notes) ws) (sym items) ∙ i.notes;
    }

pub returns : goal.returns
returns g c =
    let i = c.loop-worker.invariant in
    let none : c.loop-worker.worker-iterator.rest.items ≡ [] =
    nil_from_length _ (sym c.loop-worker.worker-iterator.rest.ok.0 ∙ c.in-None.ensures.steps.0) in
    let answers = c.loop-worker.answers.items in
    let all = c.loop-worker.all.items in
    record {
      ran = sym (append-nil answers) ∙ ap (λ ws. answers ++ flat_map (λ w. w.ran.items) ws) (sym none) ∙ i.ran;
      each = λ p. ap (times p) (sym i.numbers)
          ∙ c.close-tally.ensures.all (c.if-tally-count.false ∙ sym c.requires.table.1) p
          ∙ ap (λ n. once n p) c.requires.table.1;
      notes = sym (append-nil all) ∙ ap (λ ws. all ++ map (λ w. w.notes) ws) (sym none) ∙ i.notes;
    }
