-- Every step keeps each parcel in one place.
use Rattle.std.proofs.Common.{◌≡◌, ℕ, zero, suc, ◌+◌, ◌≤◌, Bool, true, false, not, eqb, List, [], ◌∷◌, ◌++◌, length}
use Rattle.std.proofs.Common.{map, Option, Some, None, arith, refl, sym, ap, subst, ◌∙◌}
use Rattle.std.specs.Prelude.{slice_get, slice_set, ◌≢◌, is_some, filter}
use Rattle.std.specs.Option.{option_map, option_map_or}
use Rattle.std.proofs.lemmas.Bool.{eq-eqb, eqb-true}
use Rattle.reg_facts.proofs.lemmas.Numbers.{clash}
use Rattle.reg_base.specs.Footprint.{is_among, EachFootprintIsSound}
use Rattle.reg_base.specs.Touches.{LastToucherIsLast}
use Rattle.reg_rules.specs.declared.reply.LogRow.{LogRow}
use Rattle.reg_rules.specs.State.{State, numbers}
use Rattle.reg_rules.specs.Step.{step, row_of}
use Rattle.reg_rules.specs.Laws.{StepLaws}
use Rattle.reg_base.specs.declared.instruction.Instruction.{Instruction}
use Rattle.reg_plan.specs.declared.arrow.Arrow.{Arrow}
use Rattle.reg_plan.specs.Plans.{PlanValue, IsPlan, inward}
use Rattle.reg_plan.specs.Laws.{TailsAreLastTouchers}
use Rattle.reg_book.specs.Day.{DayValue, setting}
use Rattle.reg_schedules.specs.Pool.{directory, footprint_at, run_at, tail_of, leads_on}
use Rattle.reg_schedules.specs.Docks.{names_needed, is_name, ParcelValue, TaskValue, complete}
use Rattle.reg_schedules.specs.World.{Holds, Carries, empty, WorldValue, at_place, with_place, left_by, goes_on}
use Rattle.reg_schedules.specs.World.{after_delivery, is_in_dock, is_done}
use Rattle.reg_facts.specs.Counting.{one_if, total}
use Rattle.reg_schedules.proofs.lemmas.Known.{footprint_touches, footprint_distinct}
use Rattle.reg_schedules.proofs.lemmas.Tails.{tail_touches, tails_differ, tail_leads_on}
use Rattle.reg_facts.proofs.lemmas.Totals.{total-set, total-append}
use Rattle.reg_schedules.proofs.lemmas.WorldSums.{one-most, place-there, place-else, place-within}
use Rattle.reg_schedules.proofs.WorldSteps.{Moves, Pushes, Runs, Step, moves, runs, delivers, pushes}
use Rattle.reg_schedules.proofs.lemmas.WorldCounts.{Stands, dock-of, in_hand_once}
use Rattle.reg_schedules.proofs.lemmas.WorldFits.{name_is, names_are, Fits, IsTask, IsHand, Awaits, On, all-get}
use Rattle.reg_schedules.proofs.lemmas.WorldFits.{head_awaits}
use Rattle.reg_schedules.proofs.WorldReach.{times, carried, sent, docked, come_in, has_come, count, name_differs}
use Rattle.reg_schedules.proofs.WorldReach.{count-once, times-left, times-other, complete-has}

-- the accounts of names
pub firsts : (arrows : List Arrow) (accounts : List ℕ) → map (λ (n : ℕ × ℕ). n.0) (names_needed arrows accounts)
    ≡ accounts
firsts arrows [] = refl
firsts arrows (a ∷ more) = ap (λ ns. a ∷ ns) (firsts arrows more)

pub numbers-of : (ps : List ParcelValue) → numbers (map (λ p. p.value) ps) ≡ map (λ (n : ℕ × ℕ). n.0) (names_are ps)
numbers-of [] = refl
numbers-of (p ∷ ps) = ap (λ ns. p.value.number ∷ ns) (numbers-of ps)

-- a run keeps the numbers
pub run-numbers : StepLaws → (day : DayValue) (place : ℕ) (own : State) (made : State × LogRow)
    → run_at day place own ≡ Some made → numbers made.0 ≡ numbers own
run-numbers laws day zero own made e = absurd cc
run-numbers laws day (suc k) own made e = by (slice_get day.batch.instructions k) e
  where
    by : (o : Option Instruction) → option_map (λ i. let one = step (setting day) own (day.batch.base + suc k) i in
        (one.0, row_of (setting day) (day.batch.base + suc k) i one.1)) o ≡ Some made → numbers made.0 ≡ numbers own
    by (Some i) f =
        let one : State × LogRow = (
          (step (setting day) own (day.batch.base + suc k) i).0,
          row_of (setting day) (day.batch.base + suc k) i
              (step (setting day) own (day.batch.base + suc k) i).1,
        ) in
        let is : one ≡ made = cc in
        ap (λ (m : State × LogRow). numbers m.0) (sym is)
        ∙ laws.numbers_stay (setting day) own (day.batch.base + suc k) i
    by None f = absurd cc

pub come-is : (rows : List (Option LogRow)) (t : ℕ) → 1 ≤ t
    → come_in rows t ≡ option_map_or is_some (at_place rows t) false
come-is rows zero low = absurd (omega (arith, low))
come-is rows (suc k) low = refl

come-else : (rows : List (Option LogRow)) (place t : ℕ) (row : Option LogRow) → place ≢ t
    → come_in (with_place rows place row) t ≡ come_in rows t
come-else rows place zero row ne = refl
come-else rows place (suc k) row ne = ap (λ o. option_map_or is_some o false) (place-else rows place (suc k) row ne)

module _ (laws : StepLaws) (sound : EachFootprintIsSound) (tails : TailsAreLastTouchers) (last : LastToucherIsLast)
    (day : DayValue) (plan : PlanValue) (made : IsPlan (directory day) day.batch.instructions plan) where
  abbrev pub Touched : ℕ → ℕ → Type 0
  Touched a place = On tails last day plan made a place

  -- the parcel that a place awaits at an account is in one place, once its tail has come
  abbrev pub Reaches : WorldValue → Type 0
  Reaches w = (place a : ℕ) → Touched a place
      → sent w (a, tail_of plan place a)
      + (docked w place (a, tail_of plan place a) + one_if (not (is_in_dock w place)))
      ≡ one_if (has_come w (tail_of plan place a))

  -- the same, of a parcel that a place awaits
  pub counted : (w : WorldValue) → Reaches w → (place : ℕ) (p : ParcelValue) → Awaits tails last day plan made place p
      → sent w (name_is p) + (docked w place (name_is p) + one_if (not (is_in_dock w place)))
      ≡ one_if (has_come w p.after)
  counted w r place p awaits =
      subst (λ t. sent w (p.value.number, t) + (docked w place (p.value.number, t) + one_if (not (is_in_dock w place)))
      ≡ one_if (has_come w t)) awaits.1 (r place p.value.number awaits.0)

  among-of : (place a : ℕ) → Touched a place → is_among (footprint_at day place) a ≡ true
  among-of place a on = footprint_touches day place a ∙ on

  move-reaches : (w x : WorldValue) (worker from : ℕ) (task : TaskValue) (tasks : List TaskValue) → Reaches w
      → Moves w worker from task tasks x → Reaches x
  move-reaches w x worker from task tasks r m = subst Reaches m.now (λ place a on.
      omega (
        arith,
        r place a on,
        total-set (λ h. times (a, tail_of plan place a) (carried h)) w.hands worker empty (Holds task) m.hand,
      ))

  push-reaches : (w x : WorldValue) (worker : ℕ) (task : TaskValue) (ps : List ParcelValue) → Reaches w
      → Pushes w worker task ps x → Reaches x
  push-reaches w x worker task ps r p = subst Reaches p.now (λ place a on.
      omega (
        arith,
        r place a on,
        total-set (λ h. times (a, tail_of plan place a) (carried h)) w.hands worker (Carries (Some task) ps)
            (Carries None ps) p.hand,
      ))

  -- a place that is in a hand is not done
  pub held-undone : (places workers : ℕ) (w : WorldValue) (worker : ℕ) (task : TaskValue) → Stands places workers w
      → 1 ≤ task.place → task.place ≤ places → slice_get w.hands worker ≡ Some (Holds task)
      → is_done w task.place ≡ false
  held-undone places workers w worker task s low high h = by (is_done w task.place) refl
    where
      here : in_hand_once task.place (Holds task) ≡ 1
      here = ap one_if (eq-eqb task.place task.place refl)

      by : (b : Bool) → is_done w task.place ≡ b → b ≡ false
      by true e = absurd (omega (
        arith,
        s.once task.place low high,
        ap one_if e,
        here,
        total-set (in_hand_once task.place) w.hands worker (Holds task) empty h,
      ))
      by false e = refl

  pub run-reaches : (workers : ℕ) (w x : WorldValue) (worker : ℕ) (task : TaskValue) (out : State × LogRow)
      → Stands (length day.batch.instructions) workers w → Fits tails last day plan made w → Reaches w
      → Runs day plan w worker task out x → Reaches x
  run-reaches workers w x worker task out s f r ran =
      subst Reaches ran.now (λ place a on. by place a on (eqb task.place (tail_of plan place a)) refl)
    where
      is : IsTask tails last day plan made task
      is = all-get (IsHand tails last day plan made) w.hands worker (Holds task) f.hands ran.hand

      left : List ParcelValue
      left = filter (goes_on plan) (left_by task.place out.0)

      hands : (n : ℕ × ℕ) → total (λ h. times n (carried h)) (slice_set w.hands worker (Carries None left)) + 0
          ≡ total (λ h. times n (carried h)) w.hands + times n left
      hands n = total-set (λ h. times n (carried h)) w.hands worker (Holds task) (Carries None left) ran.hand

      own : numbers out.0 ≡ footprint_at day task.place
      own = run-numbers laws day task.place (map (λ p. p.value) task.parcels) out ran.run ∙ numbers-of task.parcels
          ∙ ap (map (λ (n : ℕ × ℕ). n.0)) is.names
          ∙ firsts (inward plan.arrows task.place) (footprint_at day task.place)

      undone : is_done w task.place ≡ false
      undone = held-undone (length day.batch.instructions) workers w worker task s is.low is.high ran.hand

      done : option_map_or is_some (at_place (with_place w.rows task.place (Some out.1)) task.place) false ≡ true
      done = let there = place-within w.rows task.place is.low (omega (arith, is.high, s.rows)) in
          rw (place-there w.rows task.place there.0 (Some out.1) there.1) refl

      by : (place a : ℕ) → Touched a place → (b : Bool) → eqb task.place (tail_of plan place a) ≡ b
          → total (λ h. times (a, tail_of plan place a) (carried h)) (slice_set w.hands worker (Carries None left))
          + (docked w place (a, tail_of plan place a) + one_if (not (is_in_dock w place)))
          ≡ one_if (come_in (with_place w.rows task.place (Some out.1)) (tail_of plan place a))
      by place a on true e =
          let same : task.place ≡ tail_of plan place a = eqb-true task.place (tail_of plan place a) e in
          let one : 1 ≤ tail_of plan place a = omega (arith, is.low, same) in
          let here : Touched a task.place =
          subst (Touched a) (sym same)
          (tail_touches tails last (directory day) day.batch.instructions plan made a place on one) in
          let on_from : leads_on plan task.place a
          ≡ true = subst (λ t. leads_on plan t a ≡ true) (sym same)
          (tail_leads_on tails last (directory day) day.batch.instructions plan made a place on one) in
          let once : count a (numbers out.0)
          ≡ 1 = subst (λ ns. count a ns ≡ 1) (sym own)
          (count-once a (footprint_at day task.place) (footprint_distinct sound day task.place)
          (among-of task.place a here)) in
          let came : times (a, tail_of plan place a) left ≡ 1 =
          subst (λ t. times (a, t) left ≡ 1) same (times-left plan task.place a out.0 on_from ∙ once) in
          let was : one_if (has_come w (tail_of plan place a)) ≡ 0 =
          ap one_if (come-is w.rows (tail_of plan place a) one ∙ subst (λ t. is_done w t ≡ false) same undone) in
          let now : one_if (come_in (with_place w.rows task.place (Some out.1)) (tail_of plan place a)) ≡ 1
          = ap one_if (come-is (with_place w.rows task.place (Some out.1)) (tail_of plan place a) one
          ∙ subst (λ t. option_map_or is_some (at_place (with_place w.rows task.place (Some out.1)) t) false
          ≡ true) same done) in
          omega (arith, r place a on, hands (a, tail_of plan place a), came, was, now)
      by place a on false e =
          let ne : task.place ≢ tail_of plan place a =
          λ same. clash (eq-eqb task.place (tail_of plan place a) same) e in
          let stays = come-else w.rows task.place (tail_of plan place a) (Some out.1) ne in
          rw stays (omega (
            arith,
            r place a on,
            hands (a, tail_of plan place a),
            times-other plan task.place a (tail_of plan place a) out.0 ne,
          ))

  -- a parcel that is awaited at two places is awaited at one
  pub one-head : (p : ParcelValue) (place j a : ℕ) → Awaits tails last day plan made place p → Touched a j
      → (a, tail_of plan j a) ≡ name_is p → place ≡ j
  one-head p place j a awaits on same = by (eqb place j) refl
    where
      account_is : a ≡ p.value.number
      account_is = ap (λ (n : ℕ × ℕ). n.0) same

      tail_is : tail_of plan j p.value.number ≡ p.after
      tail_is = ap (tail_of plan j) (sym account_is) ∙ ap (λ (n : ℕ × ℕ). n.1) same

      by : (b : Bool) → eqb place j ≡ b → place ≡ j
      by true e = eqb-true place j e
      by false e = absurd (tails_differ tails last (directory day) day.batch.instructions plan made p.value.number place
          j awaits.0 (subst (λ b. Touched b j) account_is on) (λ f. clash (eq-eqb place j f) e)
          (awaits.1 ∙ sym tail_is))

  deliver-reaches : (w : WorldValue) (worker : ℕ) (p : ParcelValue) (ps : List ParcelValue) (place : ℕ)
      (came : List ParcelValue) (o : Option TaskValue)
      → Reaches w → slice_get w.hands worker ≡ Some (Carries None (p ∷ ps)) → Awaits tails last day plan made place p
      → at_place w.docks place ≡ Some (Some came)
      → complete day plan place (came ++ p ∷ []) ≡ o → Reaches (after_delivery worker w ps place (came ++ p ∷ []) o)
  deliver-reaches w worker p ps place came o r h awaits d c = λ j a on. by o c j a on (eqb place j) refl
    where
      more : (n : ℕ × ℕ) → times n (came ++ p ∷ []) ≡ times n came + (one_if (is_name (name_is p) n) + 0)
      more n = total-append (λ q. one_if (is_name (name_is q) n)) came (p ∷ [])

      hands-none : (n : ℕ × ℕ) → total (λ h. times n (carried h)) (slice_set w.hands worker (Carries None ps))
          + (one_if (is_name (name_is p) n) + times n ps) ≡ sent w n + times n ps
      hands-none n = total-set (λ h. times n (carried h)) w.hands worker (Carries None (p ∷ ps)) (Carries None ps) h

      hands-some : (n : ℕ × ℕ) (t : TaskValue)
          → total (λ h. times n (carried h)) (slice_set w.hands worker (Carries (Some t) ps))
          + (one_if (is_name (name_is p) n) + times n ps) ≡ sent w n + times n ps
      hands-some n t = total-set (λ h. times n (carried h)) w.hands worker (Carries None (p ∷ ps))
          (Carries (Some t) ps) h

      other-name : (j a : ℕ) → Touched a j → eqb place j ≡ false → one_if (is_name (name_is p) (a, tail_of plan j a))
          ≡ 0
      other-name j a on e = ap one_if
          (name_differs (name_is p) (a, tail_of plan j a)
          (λ same. clash (eq-eqb place j (one-head p place j a awaits on (sym same))) e))

      by : (o : Option TaskValue) → complete day plan place (came ++ p ∷ []) ≡ o → (j a : ℕ) → Touched a j → (b : Bool)
          → eqb place j ≡ b
          → sent (after_delivery worker w ps place (came ++ p ∷ []) o) (a, tail_of plan j a)
          + (docked (after_delivery worker w ps place (came ++ p ∷ []) o) j (a, tail_of plan j a)
          + one_if (not (is_in_dock (after_delivery worker w ps place (came ++ p ∷ []) o) j)))
          ≡ one_if (has_come (after_delivery worker w ps place (came ++ p ∷ []) o) (tail_of plan j a))
      by None c j a on true e =
          let same : place ≡ j = eqb-true place j e in
          let now : at_place (with_place w.docks place (Some (came ++ p ∷ []))) j ≡ Some (Some (came ++ p ∷ [])) =
          subst (λ q. at_place (with_place w.docks place (Some (came ++ p ∷ []))) q ≡ Some (Some (came ++ p ∷ [])))
          same (place-there w.docks place (Some came) (Some (came ++ p ∷ [])) d) in
          let was : at_place w.docks j ≡ Some (Some came) = subst (λ q. at_place w.docks q ≡ Some (Some came)) same d in
          let old : sent w (a, tail_of plan j a) + (times (a, tail_of plan j a) came + 0)
          ≡ one_if (has_come w (tail_of plan j a)) = rw was at (r j a on) in
          rw now (omega (arith, old, more (a, tail_of plan j a), hands-none (a, tail_of plan j a)))
      by None c j a on false e =
          let stays = place-else w.docks place j (Some (came ++ p ∷ [])) (λ same. clash (eq-eqb place j same) e) in
          rw stays (omega (arith, r j a on, other-name j a on e, hands-none (a, tail_of plan j a)))
      by (Some t) c j a on true e =
          let same : place ≡ j = eqb-true place j e in
          let now : at_place (with_place w.docks place None) j
          ≡ Some None = subst (λ q. at_place (with_place w.docks place None) q ≡ Some None) same
          (place-there w.docks place (Some came) None d) in
          let was : at_place w.docks j ≡ Some (Some came) = subst (λ q. at_place w.docks q ≡ Some (Some came)) same d in
          let old : sent w (a, tail_of plan j a) + (times (a, tail_of plan j a) came + 0)
          ≡ one_if (has_come w (tail_of plan j a)) = rw was at (r j a on) in
          let has : 1 ≤ times (a, tail_of plan j a) (came ++ p ∷ []) =
          complete-has day plan j a (came ++ p ∷ []) t
          (subst (λ q. complete day plan q (came ++ p ∷ []) ≡ Some t) same c) (among-of j a on) in
          rw now (omega (
            arith,
            old,
            has,
            one-most (has_come w (tail_of plan j a)),
            more (a, tail_of plan j a),
            hands-some (a, tail_of plan j a) t,
          ))
      by (Some t) c j a on false e =
          let stays = place-else w.docks place j None (λ same. clash (eq-eqb place j same) e) in
          rw stays (omega (arith, r j a on, other-name j a on e, hands-some (a, tail_of plan j a) t))

  pub step-reaches : (workers : ℕ) (w x : WorldValue) → Stands (length day.batch.instructions) workers w
      → Fits tails last day plan made w → Reaches w → Step day plan w x → Reaches x
  step-reaches workers w x s f r (moves worker from task tasks m) = move-reaches w x worker from task tasks r m
  step-reaches workers w x s f r (runs worker task out ran) = run-reaches workers w x worker task out s f r ran
  step-reaches workers w x s f r (delivers worker p ps place came d) =
      subst Reaches d.now (deliver-reaches w worker p ps place came (complete day plan place (came ++ p ∷ [])) r d.hand
      (head_awaits tails last day plan made p place d.head) (dock-of w place came d.dock) refl)
  step-reaches workers w x s f r (pushes worker task ps p) = push-reaches w x worker task ps r p
