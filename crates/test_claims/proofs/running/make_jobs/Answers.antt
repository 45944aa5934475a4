use Rattle.std.proofs.Common.{◌≡◌, ◌+◌, ◌++◌, ◌∷◌, [], map, sym, ap, ◌∙◌}
use Rattle.std.proofs.lemmas.List.{map-append}
use Rattle.test_claims.specs.declared.running.Job.{Job}
use Rattle.test_claims.proofs.Jobs.{count-next}
use Rattle.test_claims.proofs.running.make_jobs.Goals as goal

pub loop-before-preserved : goal.loop-before-preserved
loop-before-preserved c = record {
  jobs = ap (map (λ (j : Job). j.number)) c.in_ok-push.ensures.items
      ∙ map-append (λ (j : Job). j.number) c.loop-before.jobs.items _
      ∙ ap (λ ns. ns ++ (c.loop-before.before + 1) ∷ []) c.loop-before.invariant.jobs
      ∙ sym (count-next c.loop-before.before);
}
