use Rattle.std.proofs.Common.{◌≡◌, Ok, length, arith}
use Rattle.reg_run.specs.Running.{IsEnd}
use Rattle.reg_run.specs.Taking.{known_by}
use Rattle.reg_run.proofs.Ended.{as-many, answered, ends-each}
use Rattle.reg_run.proofs.threads.run_all.Goals as goal

pub returns : goal.returns
returns g c =
    let jobs = c.args.workers.items in
    let ws = c.in_ok-all.all.items in
    let rs = c.in_ok-ended.ended.items in
    let is = c.in_ok-all.ensures in
    let each = c.in_ok-ended.ensures.each in
    let both = c.in_ok-ended.ensures.len in
    let answers = c.in_ok-ended.ended.ok.0 in
    let ready = c.args.workers.ok.0 in
    let good = as-many ws rs is in
    let len : length ws ≡ length jobs = omega (arith, both, answers, ready, good) in
    let promises = g.D.Do.promises c.args.doing.now in
    let says = g.D.Do.noted in
    ends-each promises says (λ w. known_by w.taker) (λ w. w.ran.items) (λ w. w.notes) jobs ws len (λ i w lt.
    let k = (each i (Ok w) (omega (arith, lt, len))).1 in (
      k.job,
      (
        k.job_is,
        answered ws rs (λ v. IsEnd promises says (known_by k.job.taker) v.ran.items v.notes) is i w lt k.call.met,
      ),
    ))
