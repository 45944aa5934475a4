use Rattle.std.proofs.Common.{◌+◌, ◌++◌, ◌∷◌, [], map, arith, sym, ap, ◌∙◌}
use Rattle.std.proofs.lemmas.List.{map-append}
use Rattle.reg_facts.specs.Counting.{times}
use Rattle.reg_regions.specs.Stealing.{times_noted}
use Rattle.reg_regions.proofs.Tallied.{noted-times, numbers-next}
use Rattle.reg_regions.proofs.running.with_idle.Goals as goal

pub loop-worker-preserved : goal.loop-worker-preserved
loop-worker-preserved g c =
    let i = c.loop-worker.invariant in
    let worker = g.N.Notes.worker in
    let places = g.N.Notes.places in
    let all = c.loop-worker.all.items in
    let pushed = c.in_ok-push.ensures.items in
    record {
      workers = ap (map worker) pushed ∙ map-append worker all _
          ∙ ap (λ n. map worker all ++ n ∷ []) c.begin.ensures.worker
          ∙ ap (λ ns. ns ++ c.loop-worker.worker ∷ []) i.workers ∙ sym (numbers-next c.loop-worker.worker);
      times = λ p.
          let more = noted-times places p all _ in
          let none = ap (times p) c.begin.ensures.empty in
          let before = i.times p in
          ap (times_noted places p) pushed ∙ more ∙ ap (λ n. times_noted places p all + n) none
          ∙ omega (arith, before);
    }
