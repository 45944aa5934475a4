-- What is known once a dock took a parcel.
use Rattle.std.proofs.Common.{◌≡◌, ℕ, suc, ◌+◌, ◌≤◌, Bool, true, false, cond, ◌||◌, eqb, List, [], ◌∷◌, ◌++◌, length}
use Rattle.std.proofs.Common.{Option, Some, None, Result, Ok, Err, Global, arith, refl, sym, ap, ◌∙◌}
use Rattle.std.specs.Prelude.{not, filter, is_some, is_err, IfOk}
use Rattle.std.specs.Option.{option_map}
use Rattle.std.specs.List.{list_any}
use Rattle.std.specs.declared.vec.Vec.{Vec}
use Rattle.reg_plan.specs.Plans.{PlanValue, inward}
use Rattle.reg_book.specs.Day.{DayValue}
use Rattle.reg_schedules.specs.Laws.{IsPlanOf}
use Rattle.reg_schedules.specs.Pool.{footprint_at}
use Rattle.reg_schedules.specs.Docks.{ParcelValue, TaskValue, is_name, name_of, of_name, of_names, before_all, awaited}
use Rattle.reg_schedules.proofs.lemmas.Needed.{length_needed}
use Rattle.reg_schedules.proofs.lemmas.WorldFits.{task_with}
use Rattle.reg_tasks.specs.declared.naming.Naming.{Ghosts}
use Rattle.reg_tasks.specs.declared.parcel.Parcel.{Parcel}
use Rattle.reg_tasks.specs.declared.task.Task.{Task}
use Rattle.reg_tasks.specs.Parcels.{parcels_of}
use Rattle.reg_tasks.specs.Tasks.{task_of}
use Rattle.reg_yard.specs.Held.{is_refused, delivered, waiting_of, FewWait, IsTaken}
use Rattle.reg_yard.specs.Laws.{ASingleParcelGivesTheTask}

module _ {N : Type 0} {b : Ghosts N} where
  -- what a dock answers that has these parcels
  pub taken-if : (name : Option DayValue) (goes : Option ℕ) (day : DayValue) (plan : PlanValue) (place : ℕ)
      (waiting : Option (Vec (Parcel N b) Global)) (p : ParcelValue) (after : Option (List ParcelValue))
      (r : Result (Option (Task N b)) (Parcel N b))
      → ((d : DayValue) → name ≡ Some d → day ≡ d) → ∥ IsPlanOf day plan ∥₁ → goes ≡ Some place
      → FewWait day plan place waiting
      → is_err r ≡ is_refused day plan place (waiting_of waiting) p
      → IfOk r (λ task. (after, option_map task_of task) ≡ delivered day plan place (waiting_of waiting) p)
      → IfOk r (λ task. IsTaken name goes p (option_map task_of task))
  taken-if name goes day plan place waiting p after (Err back) named planned there few refused gives = tt
  taken-if name goes day plan place None p after (Ok task) named planned there few refused gives = absurd cc
  taken-if name goes day plan place (Some parcels) p after (Ok task) named planned there few refused gives = record {
    day = day;
    plan = plan;
    place = place;
    before = parcels_of parcels.items;
    named = named;
    planned = planned;
    there = there;
    fits = few parcels refl;
    was_awaited = sym refused;
    gives = ap (λ (x : Option (List ParcelValue) × Option TaskValue). x.1) gives;
  }

-- the names of a list that none of these parcels has
abbrev left : List ParcelValue → List (ℕ × ℕ) → List (ℕ × ℕ)
left came names = filter (λ name. not (is_some (of_name came name))) names

abbrev made : ℕ → List (ℕ × ℕ) → List ParcelValue → Option TaskValue
made place names came = cond (eqb (length came) (length names)) (option_map (task_with place) (of_names came names))
    None

single : (place : ℕ) (names : List (ℕ × ℕ)) (before : List ParcelValue) (p : ParcelValue) → length names ≡ 1
    → length before + length (left before names) ≤ 1
    → not (list_any (is_name (name_of p)) (left before names)) ≡ false → is_some (made place names (before ++ p ∷ []))
    ≡ true
single place [] before p one few was = absurd cc
single place (n ∷ m ∷ more) before p one few was = absurd (omega (arith, one))
single place (n ∷ []) [] p one few was = by (is_name (name_of p) n) was
  where
    by : (b : Bool) → not (b || false) ≡ false
        → is_some (option_map (task_with place) (before_all (cond b (Some p) None) (Some []))) ≡ true
    by true e = refl
    by false e = absurd cc
single place (n ∷ []) (q ∷ before) p one few was = absurd (by (not (is_some (of_name (q ∷ before) n))) few was)
  where
    by : (b : Bool) → suc (length before) + length (cond b (n ∷ []) []) ≤ 1
        → not (list_any (is_name (name_of p)) (cond b (n ∷ []) [])) ≡ false → ⊥
    by true f e = omega (arith, f)
    by false f e = cc

-- what came to a place that needs one parcel alone
pub single-gives : ASingleParcelGivesTheTask
single-gives name goes p task taken one =
    let names = awaited taken.day taken.plan taken.place in
    let as_many : length names ≡ length (footprint_at taken.day taken.place) =
    length_needed (inward taken.plan.arrows taken.place) (footprint_at taken.day taken.place) in
    let few : length taken.before + length (left taken.before names) ≤ 1 = omega (arith, taken.fits, one) in
    ap is_some taken.gives ∙ single taken.place names taken.before p (as_many ∙ one) few taken.was_awaited
