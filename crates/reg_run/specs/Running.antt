-- Tasks that were run: by whom, how often, and what came of them.
use Rattle.std.specs.Prelude.{◌≡◌, ℕ, List, [], ◌∷◌, ◌++◌, All, map, Bool, IsPermutation}
use Rattle.std.specs.List.{flat_map}
use Rattle.reg_facts.specs.Counting.{times, once}
use Rattle.reg_facts.specs.Lists.{first_numbers}
use Rattle.reg_run.specs.declared.ran.Ran.{Ran}
use Rattle.reg_run.specs.Taking.{WorkerView, IsUnbegun, TookJust}

-- the numbers of tasks that were run
abbrev pub numbers_ran : {A : Type 0} → List (Ran A) → List ℕ
numbers_ran ran = map (λ r. r.number) ran

-- their answers
abbrev pub answers_of : {A : Type 0} → List (Ran A) → List A
answers_of ran = map (λ r. r.answer) ran

-- one task more was run, and what is promised holds of its answer
pub record RunsOne {A : Type 0} (promises : ℕ → A → Type 0) (worker : ℕ) (stolen : Bool) (number : ℕ)
    (old new : List (Ran A)) : Type 0 where
  pub answer : A
  pub more : new ≡ old ++ record { number = number; worker = worker; stolen = stolen; answer = answer } ∷ []
  pub promised : promises number answer

-- what came of a worker that knew this at first: it took just the tasks that it ran, in this order, all of them name
-- it, what is promised holds of their answers, and it noted them
pub record IsEnd {A N : Type 0} (promises : ℕ → A → Type 0) (says : ℕ → List A → N → Type 0) (k : WorkerView)
    (ran : List (Ran A)) (notes : N) : Type 0 where
  pub took : TookJust k ran
  pub own : All (λ r. r.worker ≡ k.worker) ran
  pub promised : All (λ r. promises r.number r.answer) ran
  pub noted : says k.worker (answers_of ran) notes

-- the same of each of several workers
abbrev pub AreEnds : {A N : Type 0} → (ℕ → A → Type 0) → (ℕ → List A → N → Type 0) → List WorkerView
    → List (List (Ran A)) → List N → Type 0
AreEnds promises says [] [] [] = Unit {0}
AreEnds promises says (k ∷ ks) (ran ∷ rans) (n ∷ ns) =
    IsEnd promises says k ran n × AreEnds promises says ks rans ns
AreEnds promises says ks rans ns = ⊥

-- so many tasks were run by so many workers, with these answers and notes
pub record WereRun {A N : Type 0} (promises : ℕ → A → Type 0) (says : ℕ → List A → N → Type 0) (workers count : ℕ)
    (answers : List (Ran A)) (notes : List N) : Type 0 where
  -- what each worker knew when it began, and what it ran
  pub began : List WorkerView
  pub ran : List (List (Ran A))
  pub workers_are : map (λ k. k.worker) began ≡ first_numbers workers
  pub unbegun : All IsUnbegun began
  -- each task was put into one deque, once
  pub put_once : (p : ℕ) → times p (flat_map (λ k. k.own.put) began) ≡ once count p
  -- each worker took just what it ran
  pub ends : AreEnds promises says began ran notes
  -- each task was run once, and what is answered was run
  pub ran_once : (p : ℕ) → times p (numbers_ran (flat_map (λ r. r) ran)) ≡ once count p
  pub answered : IsPermutation (flat_map (λ r. r) ran) answers
