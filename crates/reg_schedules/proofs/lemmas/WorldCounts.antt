-- Each place is found once after every step.
use Rattle.std.proofs.Common.{◌≡◌, ℕ, ◌+◌, ◌≤◌, Bool, true, false, eqb, List, [], ◌∷◌, ◌++◌, length, Option, Some, None}
use Rattle.std.proofs.Common.{arith, refl, ap, subst, ◌∙◌}
use Rattle.std.specs.Prelude.{slice_get, slice_set, is_some, if◌then◌else◌}
use Rattle.std.specs.Option.{option_map, option_map_or}
use Rattle.std.proofs.lemmas.Bool.{eq-eqb, eqb-true}
use Rattle.std.proofs.lemmas.List.{length-set}
use Rattle.reg_facts.proofs.lemmas.Numbers.{clash}
use Rattle.reg_rules.specs.declared.reply.LogRow.{LogRow}
use Rattle.reg_rules.specs.State.{State}
use Rattle.reg_plan.specs.Plans.{PlanValue}
use Rattle.reg_book.specs.Day.{DayValue}
use Rattle.reg_schedules.specs.Docks.{ParcelValue, TaskValue, complete, awaited, of_names}
use Rattle.reg_schedules.specs.World.{HandValue, Holds, Carries, empty, WorldValue, at_place, with_place, arrived}
use Rattle.reg_schedules.specs.World.{pushed_to, after_delivery, is_task, is_in_hand, is_in_dock}
use Rattle.reg_facts.specs.Counting.{one_if, total}
use Rattle.reg_schedules.specs.Schedules.{times_found}
use Rattle.reg_facts.proofs.lemmas.Totals.{total-set, total-append}
use Rattle.reg_schedules.proofs.lemmas.WorldSums.{place-there, place-else, place-within, length-place, get-within}
use Rattle.std.proofs.lemmas.Option.{slice_get_within}
use Rattle.reg_schedules.proofs.WorldSteps.{Moves, Pushes, Runs, Step, moves, runs, delivers, pushes}

-- the sizes of a world, and each place is found once
pub record Stands (places workers : ℕ) (w : WorldValue) : Type 0 where
  pub docks : length w.docks ≡ places
  pub rows : length w.rows ≡ places
  pub lists : length w.lists ≡ workers
  pub hands : length w.hands ≡ workers
  pub once : (q : ℕ) → 1 ≤ q → q ≤ places → times_found w q ≡ 1

abbrev pub in_list : ℕ → TaskValue → ℕ
in_list q t = one_if (is_task q t)

abbrev pub in_hand_once : ℕ → HandValue → ℕ
in_hand_once q h = one_if (is_in_hand q h)

move-stands : (places workers : ℕ) (w x : WorldValue) (worker from : ℕ) (task : TaskValue) (tasks : List TaskValue)
    → Stands places workers w → Moves w worker from task tasks x → Stands places workers x
move-stands places workers w x worker from task tasks s m = subst (Stands places workers) m.now (record {
  docks = s.docks;
  rows = s.rows;
  lists = length-set w.lists from tasks ∙ s.lists;
  hands = length-set w.hands worker (Holds task) ∙ s.hands;
  once = λ q low high. omega (
    arith,
    s.once q low high,
    total-set (total (in_list q)) w.lists from (task ∷ tasks) tasks m.list,
    total-set (in_hand_once q) w.hands worker empty (Holds task) m.hand,
  );
})

-- the end of a list that is there
list-of : (w : WorldValue) (worker : ℕ) (l : List TaskValue) (task : TaskValue) → slice_get w.lists worker ≡ Some l
    → pushed_to worker task w.lists ≡ slice_set w.lists worker (l ++ task ∷ [])
list-of w worker l task e = rw e refl

push-stands : (places workers : ℕ) (w x : WorldValue) (worker : ℕ) (task : TaskValue) (ps : List ParcelValue)
    → Stands places workers w → Pushes w worker task ps x → Stands places workers x
push-stands places workers w x worker task ps s p =
    let h = slice_get_within w.hands worker (Carries (Some task) ps) p.hand in
    let l = get-within w.lists worker (omega (arith, h, s.hands, s.lists)) in
    let more : pushed_to worker task w.lists ≡ slice_set w.lists worker (l.0 ++ task ∷ []) =
    list-of w worker l.0 task l.1 in
    subst (Stands places workers) p.now (record {
      docks = s.docks;
      rows = s.rows;
      lists = rw more (length-set w.lists worker (l.0 ++ task ∷ []) ∙ s.lists);
      hands = length-set w.hands worker (Carries None ps) ∙ s.hands;
      once = λ q low high. rw more
          (omega (
            arith,
            s.once q low high,
            total-set (total (in_list q)) w.lists worker l.0 (l.0 ++ task ∷ []) l.1,
            total-append (in_list q) l.0 (task ∷ []),
            total-set (in_hand_once q) w.hands worker (Carries (Some task) ps) (Carries None ps) p.hand,
          ));
    })

-- a row at a place
done-there : (rows : List (Option LogRow)) (place : ℕ) (x : Option LogRow) (row : LogRow) → at_place rows place ≡ Some x
    → option_map_or is_some (at_place (with_place rows place (Some row)) place) false ≡ true
done-there rows place x row e = rw (place-there rows place x (Some row) e) refl

run-once : (places workers : ℕ) (w : WorldValue) (worker : ℕ) (task : TaskValue) (left : List ParcelValue)
    (row : LogRow) → Stands places workers w → slice_get w.hands worker ≡ Some (Holds task)
    → (q : ℕ) → 1 ≤ q → q ≤ places → (b : Bool) → is_task q task ≡ b
    → one_if (is_in_dock w q)
    + (total (total (in_list q)) w.lists
    + (total (in_hand_once q) (slice_set w.hands worker (Carries None left))
    + one_if (option_map_or is_some (at_place (with_place w.rows task.place (Some row)) q) false))) ≡ 1
run-once places workers w worker task left row s h q low high true e =
    let same : task.place ≡ q = eqb-true task.place q e in
    let there = place-within w.rows q low (omega (arith, high, s.rows)) in
    let done = done-there w.rows q there.0 row there.1 in
    let was : one_if (is_task q task) ≡ 1 = ap one_if e in
    rw (same, done) (omega (
      arith,
      was,
      s.once q low high,
      total-set (in_hand_once q) w.hands worker (Holds task) (Carries None left) h,
    ))
run-once places workers w worker task left row s h q low high false e =
    let other = place-else w.rows task.place q (Some row) (λ same. clash (eq-eqb task.place q same) e) in
    let was : one_if (is_task q task) ≡ 0 = ap one_if e in
    rw other (omega (
      arith,
      was,
      s.once q low high,
      total-set (in_hand_once q) w.hands worker (Holds task) (Carries None left) h,
    ))

run-stands : (day : DayValue) (plan : PlanValue) (places workers : ℕ) (w x : WorldValue) (worker : ℕ) (task : TaskValue)
    (made : State × LogRow) → Stands places workers w → Runs day plan w worker task made x → Stands places workers x
run-stands day plan places workers w x worker task made s r = subst (Stands places workers) r.now (record {
  docks = s.docks;
  rows = length-place w.rows task.place (Some made.1) ∙ s.rows;
  lists = s.lists;
  hands = length-set w.hands worker _ ∙ s.hands;
  once = λ q low high. run-once places workers w worker task _ made.1 s r.hand q low high (is_task q task) refl;
})

-- a dock that waits
pub dock-of : (w : WorldValue) (place : ℕ) (came : List ParcelValue) → arrived w place ≡ Some came
    → at_place w.docks place ≡ Some (Some came)
dock-of w place came e = by (at_place w.docks place) refl e
  where
    by : (o : Option (Option (List ParcelValue))) → at_place w.docks place ≡ o
        → option_map_or (λ d. d) o None ≡ Some came → at_place w.docks place ≡ Some (Some came)
    by (Some d) r f = r ∙ ap Some f
    by None r f = absurd cc

-- a dock that still waits, or that its task leaves
dock-then : (docks : List (Option (List ParcelValue))) (place : ℕ) (before after : Option (List ParcelValue)) (q : ℕ)
    → at_place docks place ≡ Some before → (b : Bool) → eqb place q ≡ b
    → one_if (option_map_or is_some (at_place (with_place docks place after) q) false)
    + (if b then one_if (is_some before) else 0)
    ≡ one_if (option_map_or is_some (at_place docks q) false) + (if b then one_if (is_some after) else 0)
dock-then docks place before after q e true same =
    let equal : place ≡ q = eqb-true place q same in
    let now : at_place (with_place docks place after) q
    ≡ Some after = subst (λ n. at_place (with_place docks place after) n ≡ Some after) equal
    (place-there docks place before after e) in
    let was : at_place docks q ≡ Some before = subst (λ n. at_place docks n ≡ Some before) equal e in
    rw (now, was) (omega arith)
dock-then docks place before after q e false differ =
    rw (place-else docks place q after (λ same. clash (eq-eqb place q same) differ)) refl

deliver-stands : (places workers : ℕ) (w : WorldValue) (worker : ℕ) (p : ParcelValue) (ps : List ParcelValue)
    (place : ℕ) (came now : List ParcelValue) (o : Option TaskValue)
    → ((t : TaskValue) → o ≡ Some t → t.place ≡ place) → Stands places workers w
    → slice_get w.hands worker ≡ Some (Carries None (p ∷ ps)) → at_place w.docks place ≡ Some (Some came)
    → Stands places workers (after_delivery worker w ps place now o)
deliver-stands places workers w worker p ps place came now None of s h d = record {
  docks = length-place w.docks place (Some now) ∙ s.docks;
  rows = s.rows;
  lists = s.lists;
  hands = length-set w.hands worker _ ∙ s.hands;
  once = λ q low high. by q low high (eqb place q) refl;
}
  where
    by : (q : ℕ) → 1 ≤ q → q ≤ places → (b : Bool) → eqb place q ≡ b
        → times_found (after_delivery worker w ps place now None) q ≡ 1
    by q low high true e = omega (
      arith,
      s.once q low high,
      dock-then w.docks place (Some came) (Some now) q d true e,
      total-set (in_hand_once q) w.hands worker (Carries None (p ∷ ps)) (Carries None ps) h,
    )
    by q low high false e = omega (
      arith,
      s.once q low high,
      dock-then w.docks place (Some came) (Some now) q d false e,
      total-set (in_hand_once q) w.hands worker (Carries None (p ∷ ps)) (Carries None ps) h,
    )
deliver-stands places workers w worker p ps place came now (Some t) of s h d = record {
  docks = length-place w.docks place None ∙ s.docks;
  rows = s.rows;
  lists = s.lists;
  hands = length-set w.hands worker _ ∙ s.hands;
  once = λ q low high. by q low high (eqb place q) refl;
}
  where
    by : (q : ℕ) → 1 ≤ q → q ≤ places → (b : Bool) → eqb place q ≡ b
        → times_found (after_delivery worker w ps place now (Some t)) q ≡ 1
    by q low high true e =
        let is : one_if (is_task q t) ≡ 1 = ap one_if (ap (λ n. eqb n q) (of t refl) ∙ e) in
        omega (
          arith,
          is,
          s.once q low high,
          dock-then w.docks place (Some came) None q d true e,
          total-set (in_hand_once q) w.hands worker (Carries None (p ∷ ps)) (Carries (Some t) ps) h,
        )
    by q low high false e =
        let is : one_if (is_task q t) ≡ 0 = ap one_if (ap (λ n. eqb n q) (of t refl) ∙ e) in
        omega (
          arith,
          is,
          s.once q low high,
          dock-then w.docks place (Some came) None q d false e,
          total-set (in_hand_once q) w.hands worker (Carries None (p ∷ ps)) (Carries (Some t) ps) h,
        )

-- a complete task is of its place
pub complete-place : (day : DayValue) (plan : PlanValue) (place : ℕ) (parcels : List ParcelValue) (t : TaskValue)
    → complete day plan place parcels ≡ Some t → t.place ≡ place
complete-place day plan place parcels t e =
    by (eqb (length parcels) (length (awaited day plan place))) (of_names parcels (awaited day plan place)) e
  where
    by : (b : Bool) (o : Option (List ParcelValue))
        → (if b then option_map (λ ps. record { place = place; parcels = ps }) o else None) ≡ Some t → t.place ≡ place
    by true (Some ps) f = cc
    by true None f = absurd cc
    by false o f = absurd cc

pub step-stands : (day : DayValue) (plan : PlanValue) (places workers : ℕ) (w x : WorldValue) → Stands places workers w
    → Step day plan w x → Stands places workers x
step-stands day plan places workers w x s (moves worker from task tasks m) =
    move-stands places workers w x worker from task tasks s m
step-stands day plan places workers w x s (runs worker task made r) =
    run-stands day plan places workers w x worker task made s r
step-stands day plan places workers w x s (delivers worker p ps place came d) =
    subst (Stands places workers) d.now
    (deliver-stands places workers w worker p ps place came (came ++ p ∷ [])
    (complete day plan place (came ++ p ∷ [])) (complete-place day plan place (came ++ p ∷ [])) s d.hand
    (dock-of w place came d.dock))
step-stands day plan places workers w x s (pushes worker task ps p) = push-stands places workers w x worker task ps s p
