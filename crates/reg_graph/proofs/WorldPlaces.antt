-- Where a place is found by looking at each worker in turn.
use Rattle.std.proofs.Common.{◌≡◌, ℕ, zero, suc, ◌+◌, ◌-◌, ◌≤◌, Bool, true, false, ◌||◌, eqb, List, [], ◌∷◌, length}
use Rattle.std.proofs.Common.{map, take, Option, Some, None, arith, refl, sym, ap, ◌∙◌}
use Rattle.std.specs.Prelude.{slice_get, is_some}
use Rattle.std.specs.Option.{option_map, option_map_or}
use Rattle.std.specs.List.{list_any}
use Rattle.std.proofs.lemmas.List.{take_all}
use Rattle.reg_tasks.specs.declared.naming.Naming.{Ghosts}
use Rattle.reg_tasks.specs.declared.task.Task.{Task}
use Rattle.reg_schedules.specs.Docks.{ParcelValue, TaskValue}
use Rattle.reg_schedules.specs.World.{HandValue, WorldValue, is_task, is_in_hand, is_in_dock, is_in_list_of}
use Rattle.reg_schedules.specs.World.{is_in_hand_of, is_done}
use Rattle.reg_facts.specs.Counting.{one_if, total}
use Rattle.reg_schedules.specs.Schedules.{times_found}
use Rattle.reg_tasks.specs.Tasks.{task_of}
use Rattle.reg_schedules.proofs.lemmas.WorldCounts.{in_list, in_hand_once}
use Rattle.reg_graph.proofs.PartFacts.{at-placed}

-- one more without it
pub none-yet : {X : Type 0} (f : X → ℕ) (xs : List X) (k : ℕ) (x : X) → slice_get xs k ≡ Some x → f x ≡ 0
    → total f (take k xs) ≡ 0 → total f (take (suc k) xs) ≡ 0
none-yet f [] k x e none before = absurd cc
none-yet f (y ∷ xs) zero x e none before = let same : y ≡ x = cc in omega (arith, ap f same, none)
none-yet f (y ∷ xs) (suc k) x e none before =
    let rest : total f (take k xs) ≡ 0 = omega (arith, before) in
    let first : f y ≡ 0 = omega (arith, before) in
    omega (arith, first, none-yet f xs k x e none rest)

pub none-at-all : {X : Type 0} (f : X → ℕ) (xs : List X) (k : ℕ) → length xs ≤ k → total f (take k xs) ≡ 0
    → total f xs ≡ 0
none-at-all f xs k many none = ap (total f) (sym (take_all k xs many)) ∙ none

-- a dock at a place that is counted from 1
pub dock-there : {X : Type 0} (f : X → List ParcelValue) (w : WorldValue) (q : ℕ) (o : Option X) → 1 ≤ q
    → slice_get w.docks (q - 1) ≡ Some (option_map f o) → is_in_dock w q ≡ is_some o
dock-there f w q o low e = ap (λ x. option_map_or is_some x false) (at-placed w.docks q low ∙ e) ∙ mapped o
  where
    mapped : (o : Option _) → is_some (option_map f o) ≡ is_some o
    mapped None = refl
    mapped (Some x) = refl

module _ {N : Type 0} {b : Ghosts N} where
  pub not-listed : (q : ℕ) (tasks : List (Task N b)) → list_any (λ task. eqb task.place q) tasks ≡ false
      → total (in_list q) (map task_of tasks) ≡ 0
  not-listed q [] e = refl
  not-listed q (t ∷ tasks) e = by (eqb t.place q) e (λ g. not-listed q tasks g)
    where
      by : (c : Bool) → (c || list_any (λ task. eqb task.place q) tasks) ≡ false
          → (list_any (λ task. eqb task.place q) tasks ≡ false → total (in_list q) (map task_of tasks) ≡ 0)
          → one_if c + total (in_list q) (map task_of tasks) ≡ 0
      by true g rest = absurd cc
      by false g rest = omega (arith, rest g)

  pub is-listed : (q : ℕ) (tasks : List (Task N b)) → list_any (λ task. eqb task.place q) tasks ≡ true
      → list_any (is_task q) (map task_of tasks) ≡ true
  is-listed q [] e = e
  is-listed q (t ∷ tasks) e = by (eqb t.place q) e (λ g. is-listed q tasks g)
    where
      by : (c : Bool) → (c || list_any (λ task. eqb task.place q) tasks) ≡ true
          → (list_any (λ task. eqb task.place q) tasks ≡ true → list_any (is_task q) (map task_of tasks) ≡ true)
          → (c || list_any (is_task q) (map task_of tasks)) ≡ true
      by true g rest = refl
      by false g rest = rest g

pub not-held : (q : ℕ) (hand : HandValue) → is_in_hand q hand ≡ false → in_hand_once q hand ≡ 0
not-held q hand e = ap one_if e

-- what is found nowhere else is done
pub done-then : (w : WorldValue) (q : ℕ) → times_found w q ≡ 1 → is_in_dock w q ≡ false
    → total (total (in_list q)) w.lists ≡ 0 → total (in_hand_once q) w.hands ≡ 0 → is_done w q ≡ true
done-then w q once dock lists hands = by (is_done w q) (omega (arith, once, ap one_if dock, lists, hands))
  where
    by : (c : Bool) → one_if c ≡ 1 → c ≡ true
    by true e = refl
    by false e = absurd (omega (arith, e))

pub in-list-there : (w : WorldValue) (q worker : ℕ) (tasks : List TaskValue) → slice_get w.lists worker ≡ Some tasks
    → list_any (is_task q) tasks ≡ true → is_in_list_of w q worker ≡ true
in-list-there w q worker tasks e is = rw e is

pub in-hand-there : (w : WorldValue) (q worker : ℕ) (hand : HandValue) → slice_get w.hands worker ≡ Some hand
    → is_in_hand q hand ≡ true → is_in_hand_of w q worker ≡ true
in-hand-there w q worker hand e is = rw e is
