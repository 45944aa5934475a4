use Rattle.reg_regions.proofs.Sized.{AreHomeSoFar}
use Rattle.reg_regions.proofs.admission.accounts.are_all_home.Given as goal

-- the lists so far are home, and the runs of lists that are left
abbrev pub invariant-loop-home : goal.invariant-loop-home
invariant-loop-home g l = record {
  next : (goal.iterator-loop-home g).can_next l.home-iterator;
  ends : (goal.iterator-loop-home g).is_finite l.home-iterator;
  so_far : AreHomeSoFar l.fn.setting l.fn.batch l.fn.lists l.fn.deals l.size l.home-iterator.rest.items;
}
