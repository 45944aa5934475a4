-- Tasks that workers ran, whatever they noted.
use Rattle.std.proofs.Common.{ℕ, List, [], ◌∷◌}
use Rattle.reg_run.specs.declared.ran.Ran.{Ran}
use Rattle.reg_run.specs.Running.{AreEnds, WereRun}
use Rattle.reg_run.specs.Taking.{WorkerView}

-- as many values that say nothing
abbrev pub forgotten : {N : Type 0} → List N → List (Unit {0})
forgotten [] = []
forgotten (n ∷ ns) = tt ∷ forgotten ns

module _ {A N : Type 0} (promises : ℕ → A → Type 0) (says : ℕ → List A → N → Type 0) where
  forget-ends : (ks : List WorkerView) (rans : List (List (Ran A))) (ns : List N) → AreEnds promises says ks rans ns
      → AreEnds promises (λ _ _ _. Unit {0}) ks rans (forgotten ns)
  forget-ends [] [] [] ends = tt
  forget-ends [] [] (n ∷ ns) ends = absurd ends
  forget-ends [] (r ∷ rs) ns ends = absurd ends
  forget-ends (k ∷ ks) [] ns ends = absurd ends
  forget-ends (k ∷ ks) (r ∷ rs) [] ends = absurd ends
  forget-ends (k ∷ ks) (r ∷ rs) (n ∷ ns) ends = (
    record { took = ends.0.took; own = ends.0.own; promised = ends.0.promised; noted = tt },
    forget-ends ks rs ns ends.1,
  )

  -- the notes are forgotten
  pub without-notes : (workers count : ℕ) (answers : List (Ran A)) (notes : List N)
      → WereRun promises says workers count answers notes
      → WereRun promises (λ _ _ _. Unit {0}) workers count answers (forgotten notes)
  without-notes workers count answers notes ran = record {
    began = ran.began;
    ran = ran.ran;
    workers_are = ran.workers_are;
    unbegun = ran.unbegun;
    put_once = ran.put_once;
    ends = forget-ends ran.began ran.ran notes ran.ends;
    ran_once = ran.ran_once;
    answered = ran.answered;
  }
