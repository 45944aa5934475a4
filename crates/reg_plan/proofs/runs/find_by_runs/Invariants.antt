use Rattle.reg_plan.proofs.Behind.{IsFoundSoFar}
use Rattle.reg_plan.proofs.runs.find_by_runs.Given as goal

-- what was found so far, and the runs that are left
abbrev pub invariant-loop-found : goal.invariant-loop-found
invariant-loop-found g l = record {
  next : (goal.iterator-loop-found g).can_next l.found-iterator;
  ends : (goal.iterator-loop-found g).is_finite l.found-iterator;
  so_far : IsFoundSoFar l.fn.directory l.fn.instructions l.size l.all l.found-iterator.rest.items;
}
