-- A worker that takes one task more.
use Rattle.std.proofs.Common.{List, [], ◌∷◌, ◌++◌, refl, subst}
use Rattle.reg_run.specs.declared.ran.Ran.{Ran}
use Rattle.reg_run.specs.Taking.{WorkerView, TakesNext, TakesTasks}

pub takes-more : {A : Type 0} (k : WorkerView) (ran : List (Ran A)) (l : WorkerView) (r : Ran A) (m : WorkerView)
    → TakesTasks k ran l → TakesNext l r.stolen r.number m → TakesTasks k (ran ++ r ∷ []) m
takes-more k [] l r m taken one = (m, subst (λ s. TakesNext s r.stolen r.number m) taken one, refl)
takes-more k (x ∷ ran) l r m taken one = (taken.0, taken.1, takes-more taken.0 ran l r m taken.2 one)
