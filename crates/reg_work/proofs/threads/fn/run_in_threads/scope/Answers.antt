use Rattle.std.proofs.Common.{arith, refl, ◌∙◌, vec_len}
use Rattle.reg_work.proofs.Counting.{one-numbered}
use Rattle.reg_work.proofs.threads.fn.run_in_threads.scope.Goals as goal

pub returns : goal.returns
returns g c =
    let pushed = c.push_reserved.ensures in
    let longer = pushed.len in
    let joined = c.join_all.ensures in
    let all = joined.each in
    let each = c.in-Ok.ensures.each in
    record {
      workers = one-numbered (λ s. s.number) c.push_reserved.new.self.items c.join_all.new.ended_workers.items
          c.work-ended_worker.result (vec_len c.captures.unstarted) _ pushed.items (joined.all ∙ c.in-Ok.ensures.all)
          (c.work-ended_worker.ensures ∙ c.requires.number) refl;
      each = omega arith;
    }
