-- The docks and the lists at the start, one place after another.
use Rattle.std.proofs.Common.{◌≡◌, ℕ, suc, ◌-◌, ◌<◌, ◌≤◌, List, [], ◌∷◌, ◌++◌, length, Option, Some, None, cond, eqb}
use Rattle.std.proofs.Common.{arith, refl, sym, ap, ◌∙◌}
use Rattle.std.specs.Prelude.{slice_get, slice_set, replicate}
use Rattle.std.proofs.lemmas.List.{append-nil, append_assoc}
use Rattle.reg_plan.specs.Plans.{PlanValue}
use Rattle.reg_book.specs.Day.{DayValue}
use Rattle.reg_schedules.specs.Docks.{ParcelValue, TaskValue, complete}
use Rattle.reg_schedules.specs.World.{WorldValue, empty, opened_at, dock_at, docks_from, ready_from, before_some, dealt}
use Rattle.reg_schedules.specs.World.{at_start}

-- one task goes to a list that is there
pub deal-one : (worker next : ℕ) (task : TaskValue) (more : List TaskValue) (lists : List (List TaskValue))
    (tasks : List TaskValue) → slice_get lists worker ≡ Some tasks
    → next ≡ cond (eqb (suc worker) (length lists)) 0 (suc worker)
    → dealt next more (slice_set lists worker (tasks ++ task ∷ [])) ≡ dealt worker (task ∷ more) lists
deal-one worker next task more lists tasks there e = rw (e, there) refl

module _ (day : DayValue) (plan : PlanValue) where
  -- of n places those after the first k, and the next one
  docks-next : (n k j : ℕ) → j ≡ suc k → k < n → docks_from day plan (suc k) (n - k)
      ≡ dock_at day plan j ∷ docks_from day plan (suc j) (n - j)
  docks-next n k j at lt =
      let one : n - k ≡ suc (n - j) = omega (arith, lt, at) in
      ap (docks_from day plan (suc k)) one ∙ ap (λ i. dock_at day plan i ∷ docks_from day plan (suc i) (n - j)) (sym at)

  ready-next : (n k j : ℕ) → j ≡ suc k → k < n → ready_from day plan (suc k) (n - k)
      ≡ before_some (complete day plan j (opened_at day plan j)) (ready_from day plan (suc j) (n - j))
  ready-next n k j at lt =
      let one : n - k ≡ suc (n - j) = omega (arith, lt, at) in
      ap (ready_from day plan (suc k)) one
      ∙ ap (λ i. before_some (complete day plan i (opened_at day plan i)) (ready_from day plan (suc i) (n - j)))
      (sym at)

  pub docks-more : (n k j : ℕ) (before now all : List (Option (List ParcelValue))) → j ≡ suc k → k < n
      → now ≡ before ++ dock_at day plan j ∷ [] → before ++ docks_from day plan (suc k) (n - k) ≡ all
      → now ++ docks_from day plan (suc j) (n - j) ≡ all
  docks-more n k j before now all at lt e is =
      ap (λ ds. ds ++ docks_from day plan (suc j) (n - j)) e
      ∙ append_assoc before (dock_at day plan j ∷ []) (docks_from day plan (suc j) (n - j))
      ∙ ap (λ ds. before ++ ds) (sym (docks-next n k j at lt)) ∙ is

  pub lists-more : (n k j worker next : ℕ) (before now all : List (List TaskValue)) → j ≡ suc k → k < n
      → ((more : List TaskValue)
      → dealt next more now ≡ dealt worker (before_some (complete day plan j (opened_at day plan j)) more) before)
      → dealt worker (ready_from day plan (suc k) (n - k)) before ≡ all
      → dealt next (ready_from day plan (suc j) (n - j)) now ≡ all
  lists-more n k j worker next before now all at lt e is =
      e (ready_from day plan (suc j) (n - j)) ∙ ap (λ ts. dealt worker ts before) (sym (ready-next n k j at lt)) ∙ is

  -- after the last place
  pub all-docks : (n k : ℕ) (docks all : List (Option (List ParcelValue))) → n ≤ k
      → docks ++ docks_from day plan (suc k) (n - k) ≡ all → docks ≡ all
  all-docks n k docks all high is = let none : 0 ≡ n - k = omega (arith, high) in
      sym (append-nil docks) ∙ ap (λ m. docks ++ docks_from day plan (suc k) m) none ∙ is

  pub all-lists : (n k worker : ℕ) (lists all : List (List TaskValue)) → n ≤ k
      → dealt worker (ready_from day plan (suc k) (n - k)) lists ≡ all → lists ≡ all
  all-lists n k worker lists all high is = let none : 0 ≡ n - k = omega (arith, high) in
      ap (λ m. dealt worker (ready_from day plan (suc k) m) lists) none ∙ is

  pub starts-so : (n workers : ℕ) (w : WorldValue) (docks : List (Option (List ParcelValue)))
      (lists : List (List TaskValue)) → n ≡ length day.batch.instructions
      → w ≡ record {
        docks = docks;
        lists = lists;
        hands = replicate workers empty;
        rows = replicate n None;
        closing = [];
      }
      → docks ≡ docks_from day plan 1 n → lists ≡ dealt 0 (ready_from day plan 1 n) (replicate workers [])
      → w ≡ at_start day plan workers
  starts-so n workers w docks lists size is d l = rw (is, d, l, size) refl
