-- The docks and the tasks that await no parcel, place by place.
use Rattle.std.proofs.Common.{◌≡◌, ℕ, zero, suc, ◌+◌, ◌-◌, ◌<◌, ◌≤◌, Bool, true, false, cond, List, [], ◌∷◌, ◌++◌, map}
use Rattle.std.proofs.Common.{Bor, Option, Some, None, length, append_assoc, arith, refl, sym, ap, ◌∙◌}
use Rattle.std.specs.Prelude.{filter, slice_get, IfSome}
use Rattle.std.specs.Option.{option_map}
use Rattle.std.specs.Slice.{IsItemAt}
use Rattle.std.proofs.lemmas.Option.{slice_get_within, slice_get_read, slice_get-map}
use Rattle.std.proofs.lemmas.List.{map-append, append-nil}
use Rattle.reg_base.specs.Rising.{count_up}
use Rattle.reg_book.specs.Day.{DayValue}
use Rattle.reg_schedules.specs.Docks.{TaskValue}
use Rattle.reg_tasks.specs.declared.naming.Naming.{Ghosts}
use Rattle.reg_tasks.specs.declared.task.Task.{Task}
use Rattle.reg_tasks.specs.Tasks.{task_of}
use Rattle.reg_yard.specs.Docks.{dock_places}
use Rattle.reg_yard.specs.declared.locked.LockedDock.{LockedDock}
use Rattle.reg_yard.specs.AtOnce.{touches_none, task_without, task_at_once, tasks_from}

module _ (day : DayValue) where
  -- no task more
  plain : (ts : List TaskValue) → ts ≡ ts ++ []
  plain [] = refl
  plain (t ∷ ts) = ap (λ us. t ∷ us) (plain ts)

  -- the task of one place
  pub one-more : (place : ℕ) (t : TaskValue) (done : List TaskValue) → Some t ≡ task_at_once day place
      → done ++ t ∷ [] ≡ done ++ tasks_from day place 1
  one-more place t done e = by (touches_none day place) e
    where
      by : (b : Bool) → Some t ≡ cond b (Some (task_without place)) None
          → done ++ t ∷ [] ≡ done ++ map task_without (cond b (place ∷ []) [])
      by true f = let same : t ≡ task_without place = cc in ap (λ s. done ++ s ∷ []) same
      by false f = absurd cc

  pub none-more : (place : ℕ) (done : List TaskValue) → None ≡ task_at_once day place
      → done ≡ done ++ tasks_from day place 1
  none-more place done e = by (touches_none day place) e
    where
      by : (b : Bool) → None ≡ cond b (Some (task_without place)) None
          → done ≡ done ++ map task_without (cond b (place ∷ []) [])
      by true f = absurd cc
      by false f = plain done

  from-more : (first many : ℕ) → tasks_from day first (suc many) ≡ tasks_from day first 1
      ++ tasks_from day (first + 1) many
  from-more first many = by (touches_none day first)
    where
      rest : List ℕ
      rest = filter (touches_none day) (count_up (first + 1) many)

      by : (b : Bool) → map task_without (cond b (first ∷ rest) rest) ≡ map task_without (cond b (first ∷ []) [])
          ++ map task_without rest
      by true = refl
      by false = refl

  -- after one place more, and after all
  pub started-more : (n k : ℕ) (done now whole : List TaskValue) → k < n → now ≡ done ++ tasks_from day (k + 1) 1
      → done ++ tasks_from day (k + 1) (n - k) ≡ whole
      → now ++ tasks_from day (k + 1 + 1) (n - (k + 1)) ≡ whole
  started-more n k done now whole lt e f =
      let left : suc (n - (k + 1)) ≡ n - k = omega (arith, lt) in
      ap (λ ts. ts ++ tasks_from day (k + 1 + 1) (n - (k + 1))) e
      ∙ append_assoc done (tasks_from day (k + 1) 1) (tasks_from day (k + 1 + 1) (n - (k + 1)))
      ∙ ap (λ ts. done ++ ts) (sym (from-more (k + 1) (n - (k + 1))) ∙ ap (tasks_from day (k + 1)) left)
      ∙ f

  pub all-started : (n k : ℕ) (done whole : List TaskValue) → n ≤ k → done ++ tasks_from day (k + 1) (n - k) ≡ whole
      → done ≡ whole
  all-started n k done whole ge f =
      let left : 0 ≡ n - k = omega (arith, ge) in
      plain done ∙ ap (λ m. done ++ tasks_from day (k + 1) m) left ∙ f

  -- a task that was pushed
  pub one-pushed : {N : Type 0} {b : Ghosts N} (place : ℕ) (t : Task N b) (ts : List (Task N b))
      → Some (task_of t) ≡ task_at_once day place
      → map task_of (ts ++ t ∷ []) ≡ map task_of ts ++ tasks_from day place 1
  one-pushed place t ts e = map-append task_of ts (t ∷ []) ∙ one-more place (task_of t) (map task_of ts) e

module _ {N : Type 0} {b : Ghosts N} where
  -- a dock that was pushed
  dock-pushed : (docks : List (LockedDock N b)) (dock : LockedDock N b)
      → dock_places (docks ++ dock ∷ []) ≡ dock_places docks ++ dock.place ∷ []
  dock-pushed docks dock = map-append (λ (d : LockedDock N b). d.place) docks (dock ∷ [])

  -- the docks after one place more, and after all
  pub docked-more : (n k : ℕ) (docks now : List (LockedDock N b)) (dock : LockedDock N b) (whole : List ℕ) → k < n
      → now ≡ docks ++ dock ∷ [] → dock.place ≡ k + 1
      → dock_places docks ++ count_up (k + 1) (n - k) ≡ whole → dock_places now ++ count_up (k + 1 + 1) (n - (k + 1))
      ≡ whole
  docked-more n k docks now dock whole lt e there f =
      let left : suc (n - (k + 1)) ≡ n - k = omega (arith, lt) in
      let one : dock_places now ≡ dock_places docks ++ (k + 1) ∷ [] =
      ap dock_places e ∙ dock-pushed docks dock ∙ ap (λ p. dock_places docks ++ p ∷ []) there in
      ap (λ ps. ps ++ count_up (k + 1 + 1) (n - (k + 1))) one
      ∙ append_assoc (dock_places docks) ((k + 1) ∷ []) (count_up (k + 1 + 1) (n - (k + 1)))
      ∙ ap (λ m. dock_places docks ++ count_up (k + 1) m) left
      ∙ f

  pub all-docked : (n k : ℕ) (docks : List (LockedDock N b)) (whole : List ℕ) → n ≤ k
      → dock_places docks ++ count_up (k + 1) (n - k) ≡ whole → dock_places docks ≡ whole
  all-docked n k docks whole ge f =
      let left : 0 ≡ n - k = omega (arith, ge) in
      sym (append-nil (dock_places docks)) ∙ ap (λ m. dock_places docks ++ count_up (k + 1) m) left ∙ f

counted-at : (first n k x : ℕ) → slice_get (count_up first n) k ≡ Some x → x ≡ first + k
counted-at first zero k x e = absurd (omega (arith, slice_get_within [] k x e))
counted-at first (suc n) zero x e = let same : first ≡ x = cc in omega (arith, same)
counted-at first (suc n) (suc k) x e = let rest : x ≡ first + 1 + k = counted-at (first + 1) n k x e in
    omega (arith, rest)

module _ {N : Type 0} {b : Ghosts N} where
  -- the dock at a position
  pub dock-there : (docks : List (LockedDock N b)) (n i : ℕ) (r : Option (Bor (LockedDock N b)))
      → dock_places docks ≡ count_up 1 n → IsItemAt docks i r → IfSome r (λ dock. dock.now.place ≡ i + 1)
  dock-there docks n i None same item = tt
  dock-there docks n i (Some dock) same item =
      let there : slice_get docks i ≡ Some dock.now =
      slice_get_read docks (length docks) i dock.now refl item.3.0 item.1 in
      let place : dock.now.place ≡ 1 + i =
      counted-at 1 n i dock.now.place (sym (ap (λ ps. slice_get ps i) same)
      ∙ slice_get-map (λ (d : LockedDock N b). d.place) docks i
      ∙ ap (option_map (λ (d : LockedDock N b). d.place)) there) in
      omega (arith, place)
