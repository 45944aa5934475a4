use Rattle.std.proofs.Common.{◌≡◌, ℕ, map, length, sym, ap, subst, ◌∙◌, arith}
use Rattle.std.specs.Prelude.{All, IsPermutation}
use Rattle.std.specs.List.{flat_map}
use Rattle.std.proofs.lemmas.List.{length-map}
use Rattle.std.proofs.lemmas.List.Elements.{All-map, All-weaker}
use Rattle.std.proofs.lemmas.List.Folds.{flat_map-map}
use Rattle.std.proofs.lemmas.List.Sorted.{All-permutation}
use Rattle.reg_deques.specs.Passes.{owned, ticket_view_of}
use Rattle.reg_deques.specs.Tickets.{empty_ticket_view}
use Rattle.reg_deques.specs.Yards.{each_owned, views, worker_of, IsBlank}
use Rattle.reg_facts.specs.Counting.{times, once}
use Rattle.reg_run.specs.declared.ran.Ran.{Ran}
use Rattle.reg_run.specs.Running.{AreEnds, numbers_ran}
use Rattle.reg_run.specs.Taking.{HasOnlyPut, all_put, known_by}
use Rattle.reg_run.proofs.Counted.{once-permuted, range-first}
use Rattle.reg_run.proofs.Dealt.{none-put}
use Rattle.reg_run.proofs.Ended.{all-promised, ends-many, map-view, unbegun-each}
use Rattle.reg_run.proofs.running.run_dealt.Goals as goal

pub count_tasks-requires-clause-stake : goal.count_tasks-requires-clause-stake
count_tasks-requires-clause-stake g c =
    let ready = c.in_ok-begun.begun.workers.items in
    let ended = c.in_ok-ended.ended.items in
    let as_many = ends-many (g.D.Do.promises c.args.doing.now) g.D.Do.noted _ _ _ c.in_ok-ended.ensures in
    let all = length-map ended (λ w. w.ran.items) in
    let known = length-map ready (λ w. known_by w.taker) in
    let numbers = ap length c.in_ok-begun.ensures.numbers in
    let each = length-map ready (λ w. worker_of w.taker.pass) in
    let count = length-map c.args.passes.items worker_of in
    let stake = c.in_ok-begun.ensures.stake in
    let len = c.in_ok-ended.ended.ok.0 in
    let size = c.args.passes.ok.0 in
    omega (arith, as_many, all, known, numbers, each, count, stake, len, size)

pub returns : goal.returns
returns g c =
    let promises = g.D.Do.promises c.args.doing.now in
    let says = g.D.Do.noted in
    let n = g.D.Do.count c.args.doing.now in
    let ready = c.in_ok-begun.begun.workers.items in
    let ended = c.in_ok-ended.ended.items in
    let ends = c.in_ok-ended.ensures in
    let answers = c.in_ok-counted.counted.answers.items in
    let promised = λ (r : Ran g.row.A.Denot). promises r.number r.answer in
    let joined : flat_map (λ r. r) (map (λ w. w.ran.items) ended) ≡ answers =
    flat_map-map (λ r. r) (λ w. w.ran.items) ended ∙ sym c.in_ok-counted.ensures.ran in
    let each : (p : ℕ) → times p (numbers_ran answers) ≡ once n p =
    λ p. c.in_ok-counted.ensures.each p ∙ ap (λ m. once m p) c.count.ensures in
    record {
      numbers = c.in_order.ensures.numbers n each;
      promised = All-permutation promised answers c.in_order.result.items c.in_order.ensures.same
          (subst (All promised) joined (all-promised promises says _ _ _ ends));
      ran = record {
        began = map (λ w. known_by w.taker) ready;
        ran = map (λ w. w.ran.items) ended;
        workers_are = map-view (λ k. k.worker) (λ w. known_by w.taker) ready ∙ c.in_ok-begun.ensures.numbers
            ∙ c.requires.workers ∙ range-first c.args.passes.len;
        unbegun = unbegun-each (λ w. known_by w.taker) ready
            (subst (All HasOnlyPut) (sym c.in_ok-begun.ensures.owned) c.in_ok-deal_tasks.ensures.fresh)
            (All-weaker (λ w. IsBlank w.taker.pass) (λ w. All (λ v. v ≡ empty_ticket_view) (views w.taker.pass))
            (λ w blank. All-map (λ v. v ≡ empty_ticket_view) ticket_view_of w.taker.pass.deque_passes.items blank)
            ready c.in_ok-begun.ensures.blank);
        put_once = λ p.
            let put = c.in_ok-deal_tasks.ensures.put p in
            let none = ap (times p) (none-put (each_owned c.args.owners.items) c.requires.new) in
            let all = once-permuted n p (map g.T.Numbered.number c.args.tasks.items) c.requires.numbers in
            ap (times p) (flat_map-map (λ k. k.own.put) (λ w. known_by w.taker) ready
            ∙ sym (flat_map-map (λ v. v.put) (λ w. owned w.taker.owner) ready)
            ∙ ap all_put c.in_ok-begun.ensures.owned) ∙ omega (arith, put, none, all);
        ends = subst (AreEnds promises says (map (λ w. known_by w.taker) ready) (map (λ w. w.ran.items) ended))
            (sym c.in_ok-counted.ensures.notes) ends;
        ran_once = λ p. ap (λ rs. times p (numbers_ran rs)) joined ∙ each p;
        answered = subst (λ rs. IsPermutation rs c.in_order.result.items) (sym joined) c.in_order.ensures.same;
      };
    }
