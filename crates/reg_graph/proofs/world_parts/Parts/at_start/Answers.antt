use Rattle.std.proofs.Common.{◌≡◌, suc, ◌+◌, [], length, arith, rules, ap, ◌∙◌}
use Rattle.std.specs.Prelude.{replicate}
use Rattle.reg_book.specs.Day.{day_of}
use Rattle.reg_schedules.specs.World.{WorldValue, docks_from, ready_from, dealt}
use Rattle.reg_graph.specs.WorldParts.{docks_of, task_lists, world_of}
use Rattle.reg_graph.proofs.Dealing.{docks-more, lists-more, all-docks, all-lists, starts-so}
use Rattle.reg_graph.proofs.world_parts.Parts.at_start.Goals as goal

pub loop-before-preserved : goal.loop-before-preserved
loop-before-preserved g c =
    let day = day_of c.args.context.now.book.now c.args.context.now.rules.now c.args.context.now.batch.now in
    let plan = c.args.context.now.plan in
    let n = c.len-places.result in
    let k = c.loop-before.before in
    let next : k + 1 ≡ suc k = omega arith in
    record {
      there = c.in_ok-worker.ensures.there;
      count = omega (arith, c.in_ok-worker.ensures.count, c.loop-before.invariant.count);
      rooms = c.in_ok-worker.ensures.rooms;
      docks = docks-more day plan n k (k + 1) (docks_of c.loop-before.parts.docks.items)
          (docks_of c.open_place.new.self.docks.items) (docks_from day plan 1 n) next c.loop-before-test.true
          c.in_ok-worker.ensures.docks c.loop-before.invariant.docks;
      lists = lists-more day plan n k (k + 1) c.loop-before.worker c.in_ok-worker.worker
          (task_lists c.loop-before.parts.lists.items) (task_lists c.open_place.new.self.lists.items)
          (dealt 0 (ready_from day plan 1 n) (replicate c.args.workers []))
          next c.loop-before-test.true c.in_ok-worker.ensures.lists c.loop-before.invariant.lists;
      others = c.in_ok-worker.ensures.others
          ∙ ap (λ (w : WorldValue). record w {
            docks = docks_of c.open_place.new.self.docks.items;
            lists = task_lists c.open_place.new.self.lists.items;
          }) c.loop-before.invariant.others;
    }

pub returns-clause-start : goal.returns-clause-start
returns-clause-start g c =
    let day = day_of c.args.context.now.book.now c.args.context.now.rules.now c.args.context.now.batch.now in
    let plan = c.args.context.now.plan in
    let n = c.len-places.result in
    let k = c.loop-before.before in
    let size : n ≡ length c.args.context.now.batch.now.instructions = search rules in
    starts-so day plan n c.args.workers (world_of c.loop-before.parts) (docks_of c.loop-before.parts.docks.items)
    (task_lists c.loop-before.parts.lists.items) size c.loop-before.invariant.others
    (all-docks day plan n k (docks_of c.loop-before.parts.docks.items)
    (docks_from day plan 1 n) c.loop-before-test.false c.loop-before.invariant.docks)
    (all-lists day plan n k c.loop-before.worker (task_lists c.loop-before.parts.lists.items)
    (dealt 0 (ready_from day plan 1 n) (replicate c.args.workers [])) c.loop-before-test.false
    c.loop-before.invariant.lists)
