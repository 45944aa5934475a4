use Rattle.std.proofs.Common.{arith, ◌≡◌, ◌+◌, length, ap}
use Rattle.reg_work.proofs.Counting.{one-numbered}
use Rattle.reg_work.proofs.threads.start_all.Goals as goal

pub loop-worker-preserved : goal.loop-worker-preserved
loop-worker-preserved g c =
    let i = c.loop-worker.invariant in
    let left = ap length c.in-Some.ensures.steps.0 in
    let pushed = c.push_reserved.ensures in
    let longer = pushed.len in
    let wide = pushed.capacity in
    let room = i.room in
    let counted = i.counted in
    let whole = i.whole in
    let few = c.requires.few in
    let most = c.saturating_add-next.ensures in
    let next : c.saturating_add-next.result ≡ c.loop-worker.next + 1 = omega arith in
    record {
      can_go = record {};
      ends = record {};
      room = omega arith;
      counted = omega arith;
      whole = omega arith;
      workers = one-numbered (λ handle. handle.promise.number) c.push_reserved.new.self.items
          c.loop-worker.handles.items c.in-Ok.handle c.loop-worker.next c.saturating_add-next.result pushed.items
          i.workers (ap (λ p. p.number) c.in-Ok.ensures.ok) next;
    }
