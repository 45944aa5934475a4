use Rattle.std.proofs.Common.{arith, ◌≡◌, ◌++◌, ◌∷◌, [], append-nil, append_assoc, length, ap, sym, ◌∙◌, inr}
use Rattle.std.proofs.lemmas.List.{nil_from_length}
use Rattle.reg_facts.specs.Counting.{times, once}
use Rattle.reg_facts.proofs.lemmas.Times.{times-append}
use Rattle.reg_claim.specs.declared.views.SeatView.{SeatView}
use Rattle.reg_claim.specs.Seats.{known}
use Rattle.reg_facts.specs.Lists.{joined_lists}
use Rattle.reg_work.specs.Shifts.{workers_of}
use Rattle.reg_work.specs.EndedWorkers.{ended_numbers, all_done, all_closing}
use Rattle.reg_work.proofs.Counting.{times-mapped}
use Rattle.reg_work.proofs.Ending.{joined-sees, all-finished, was-there}
use Rattle.reg_work.proofs.tally.count_up.Goals as goal

pub loop-ended_worker-preserved : goal.loop-ended_worker-preserved
loop-ended_worker-preserved g c =
    let i = c.loop-ended_worker.invariant in
    let view = c.join-rest.ensures.view in
    let worker = c.in-Some.ended_worker.worker in
    let items = c.in-Some.ensures.steps.0 in
    let left = ap length items in
    let part = ap (λ (v : SeatView). v.stake) view in
    let one = worker.one_stake in
    let stake = i.stake in
    record {
      can_go = record {};
      ends = record {};
      table = c.join-rest.ensures.same ∙ i.table;
      stake = omega arith;
      seen = inr (rw view (joined-sees g.S.Sharing.count _ (known c.loop-ended_worker.rest)
          (known worker.seat) i.seen c.in-Some.ended_worker.over));
      times = λ p.
          ap (λ (v : SeatView). times p v.finished) view
          ∙ times-append p (known c.loop-ended_worker.rest).finished (known worker.seat).finished
          ∙ (let old = i.times p in let new = c.in_ok-add.ensures.times p in let same = ap (times p) worker.finished in
          omega arith);
      rows = λ p.
          ap (λ (v : SeatView). times p v.finished) view
          ∙ times-append p (known c.loop-ended_worker.rest).finished (known worker.seat).finished
          ∙ (let old = i.rows p in let new = times-mapped (λ d. d.place) p c.add.new.self.done.items
          c.loop-ended_worker.work.done.items worker.done.items c.in_ok-add.ensures.done in
          let same = ap (times p) worker.rows in omega arith);
      workers = ap (λ ws. ws ++ ended_numbers c.next.new.self.rest.items) c.in_ok-add.ensures.workers
          ∙ append_assoc (workers_of c.loop-ended_worker.work.shifts.items) (c.in-Some.ended_worker.number ∷ [])
          (ended_numbers c.next.new.self.rest.items)
          ∙ ap (λ ss. workers_of c.loop-ended_worker.work.shifts.items ++ ended_numbers ss) (sym items)
          ∙ i.workers;
      done = ap (λ ds. ds ++ all_done c.next.new.self.rest.items) c.in_ok-add.ensures.done
          ∙ append_assoc c.loop-ended_worker.work.done.items worker.done.items (all_done c.next.new.self.rest.items)
          ∙ ap (λ ss. c.loop-ended_worker.work.done.items ++ all_done ss) (sym items)
          ∙ i.done;
      closing = ap (λ ps. ps ++ all_closing c.next.new.self.rest.items) c.in_ok-add.ensures.closing
          ∙ append_assoc (joined_lists c.loop-ended_worker.work.closing.items) worker.closing.items
          (all_closing c.next.new.self.rest.items)
          ∙ ap (λ ss. joined_lists c.loop-ended_worker.work.closing.items ++ all_closing ss) (sym items)
          ∙ i.closing;
    }

pub returns : goal.returns
returns g c =
    let i = c.loop-ended_worker.invariant in
    let none : c.loop-ended_worker.ended_worker-iterator.rest.items ≡ [] =
    nil_from_length _ (sym c.loop-ended_worker.ended_worker-iterator.rest.ok.0 ∙ c.in-None.ensures.steps.0) in
    let all = c.close-tally.ensures in
    let ends = was-there g.S.Sharing.count _ _ (known c.loop-ended_worker.rest)
    (ap length none) c.requires.some i.seen in
    let places_are = c.requires.table.1 in
    let whole = all-finished g.S.Sharing.count (known c.loop-ended_worker.rest) c.close-tally.result.done
    c.close-tally.result.stopped ends all.stopped c.if-tally.false all.seen (let most = all.most in omega arith)
    ∙ sym places_are in
    record {
      shifts = record {
        workers_are = sym (append-nil (workers_of c.loop-ended_worker.work.shifts.items))
            ∙ ap (λ ss. workers_of c.loop-ended_worker.work.shifts.items ++ ended_numbers ss) (sym none) ∙ i.workers
            ∙ c.requires.workers;
        each_once = λ p. sym (i.times p) ∙ all.all whole p ∙ ap (λ n. once n p) places_are;
      };
      done = sym (append-nil c.loop-ended_worker.work.done.items)
          ∙ ap (λ ss. c.loop-ended_worker.work.done.items ++ all_done ss) (sym none) ∙ i.done;
      closing = sym (append-nil (joined_lists c.loop-ended_worker.work.closing.items))
          ∙ ap (λ ss. joined_lists c.loop-ended_worker.work.closing.items ++ all_closing ss) (sym none) ∙ i.closing;
      each_done = λ p. sym (i.rows p) ∙ all.all whole p ∙ ap (λ n. once n p) places_are;
    }
