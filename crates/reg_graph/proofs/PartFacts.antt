-- What stands in the parts of a world, and the world after one of them has changed.
use Rattle.std.proofs.Common.{◌≡◌, ℕ, zero, suc, ◌-◌, ◌≤◌, Bool, true, false, not, cond, List, [], ◌∷◌, ◌++◌}
use Rattle.std.proofs.Common.{length, map, Option, Some, None, Ok, Err, Result, get_or, take, drop, arith, refl, sym}
use Rattle.std.proofs.Common.{ap, ◌∙◌}
use Rattle.std.specs.Prelude.{slice_get, slice_set, filter, IsOk, OnOk, OnErr, IfErr, MatchResult}
use Rattle.std.specs.Option.{option_map_or}
use Rattle.reg_rules.specs.State.{State}
use Rattle.reg_plan.specs.Plans.{PlanValue}
use Rattle.reg_rules.specs.declared.reply.LogRow.{LogRow}
use Rattle.reg_book.specs.Day.{DayValue}
use Rattle.reg_schedules.specs.Pool.{leads_on, run_at}
use Rattle.reg_schedules.specs.declared.event.EventFault.TheVariants.{NothingToRun, NothingToDeliver}
use Rattle.reg_schedules.specs.declared.event.EventFault.TheVariants as fault
use Rattle.reg_schedules.proofs.lemmas.WorldPossible.{runs-at}
use Rattle.reg_tasks.specs.declared.naming.Naming.{Ghosts}
use Rattle.reg_tasks.specs.declared.parcel.Parcel.{Parcel}
use Rattle.reg_schedules.specs.declared.event.EventFault.{EventFault}
use Rattle.reg_schedules.specs.World.{at_start, known_of, after_event, after_result, after_events, head_of, arrived}
use Rattle.reg_schedules.specs.World.{after_delivery, delivered_to, delivered_by, HandValue, WorldValue, with_hand}
use Rattle.reg_schedules.specs.World.{at_place, with_place, with_list, pushed_to, left_by, goes_on, Holds, Carries}
use Rattle.reg_schedules.specs.World.{after_run, run_by}
use Rattle.reg_schedules.specs.Docks.{complete, ParcelValue, TaskValue}
use Rattle.reg_schedules.specs.declared.event.Event.{Event}
use Rattle.reg_schedules.specs.Schedules.{IsReached}
use Rattle.reg_tasks.specs.Parcels.{parcels_of}
use Rattle.reg_graph.specs.WorldParts.{first_head, IsWhy}

pub known-all : {X : Type 0} (xs : List X) → known_of (map Some xs) ≡ xs
known-all [] = refl
known-all (x ∷ xs) = ap (λ ys. x ∷ ys) (known-all xs)

-- a hand and a list that are there
pub with-both : (w : WorldValue) (worker from : ℕ) (hand : HandValue) (tasks : List TaskValue) (f : HandValue
    → List TaskValue → Result WorldValue EventFault)
    → slice_get w.hands worker ≡ Some hand → slice_get w.lists from ≡ Some tasks
    → with_hand w worker (λ h. with_list w from (f h)) ≡ f hand tasks
with-both w worker from hand tasks f h l = rw (h, l) refl

pub with-one : (w : WorldValue) (worker : ℕ) (hand : HandValue) (f : HandValue → Result WorldValue EventFault)
    → slice_get w.hands worker ≡ Some hand → with_hand w worker f ≡ f hand
with-one w worker hand f h = rw h refl

pub list-there : (w : WorldValue) (worker : ℕ) (task : TaskValue) (tasks : List TaskValue)
    → slice_get w.lists worker ≡ Some tasks
    → pushed_to worker task w.lists ≡ slice_set w.lists worker (tasks ++ task ∷ [])
list-there w worker task tasks l = rw l refl

-- of parcels that stand after one place, the arrows from that place lead on from these
pub those-on : (plan : PlanValue) (place : ℕ) (vs : State) → filter (goes_on plan) (left_by place vs)
    ≡ filter (λ p. leads_on plan place p.value.number) (left_by place vs)
those-on plan place [] = refl
those-on plan place (v ∷ vs) = by (leads_on plan place v.number) (those-on plan place vs)
  where
    by : (b : Bool) → filter (goes_on plan) (left_by place vs)
        ≡ filter (λ p. leads_on plan place p.value.number) (left_by place vs)
        → cond b (record { value = v; after = place } ∷ filter (goes_on plan) (left_by place vs))
        (filter (goes_on plan) (left_by place vs))
        ≡ cond b (record { value = v; after = place } ∷ filter (λ p. leads_on plan place p.value.number)
        (left_by place vs)) (filter (λ p. leads_on plan place p.value.number) (left_by place vs))
    by true rest = ap (λ ps. record { value = v; after = place } ∷ ps) rest
    by false rest = rest

pub those-closing : (plan : PlanValue) (place : ℕ) (vs : State) → filter (λ p. not (goes_on plan p)) (left_by place vs)
    ≡ filter (λ p. not (leads_on plan place p.value.number)) (left_by place vs)
those-closing plan place [] = refl
those-closing plan place (v ∷ vs) = by (not (leads_on plan place v.number)) (those-closing plan place vs)
  where
    by : (b : Bool) → filter (λ p. not (goes_on plan p)) (left_by place vs)
        ≡ filter (λ p. not (leads_on plan place p.value.number)) (left_by place vs)
        → cond b (record { value = v; after = place } ∷ filter (λ p. not (goes_on plan p)) (left_by place vs))
        (filter (λ p. not (goes_on plan p)) (left_by place vs))
        ≡ cond b (record { value = v; after = place } ∷ filter (λ p. not (leads_on plan place p.value.number))
        (left_by place vs)) (filter (λ p. not (leads_on plan place p.value.number)) (left_by place vs))
    by true rest = ap (λ ps. record { value = v; after = place } ∷ ps) rest
    by false rest = rest

-- a list with another item at a place that is counted from 1
pub placed : {X : Type 0} (xs : List X) (place : ℕ) (x : X) → 1 ≤ place
    → with_place xs place x ≡ slice_set xs (place - 1) x
placed xs zero x low = absurd (omega (arith, low))
placed xs (suc k) x low = ap (λ j. slice_set xs j x) (omega arith)

-- ---- an item that is replaced twice, or by itself

pub set-twice : {X : Type 0} (xs : List X) (k : ℕ) (x y : X) → slice_set (slice_set xs k x) k y ≡ slice_set xs k y
set-twice [] k x y = refl
set-twice (z ∷ xs) zero x y = refl
set-twice (z ∷ xs) (suc k) x y = ap (λ zs. z ∷ zs) (set-twice xs k x y)

pub set-back : {X : Type 0} (xs : List X) (k : ℕ) (x : X) → slice_get xs k ≡ Some x → slice_set xs k x ≡ xs
set-back [] k x e = refl
set-back (z ∷ xs) zero x e = let same : z ≡ x = cc in ap (λ y. y ∷ xs) (sym same)
set-back (z ∷ xs) (suc k) x e = ap (λ zs. z ∷ zs) (set-back xs k x e)

-- a task is run alike whatever the hand held before
pub run-anew : (day : DayValue) (plan : PlanValue) (k : ℕ) (w : WorldValue) (h : HandValue) (task : TaskValue)
    → run_by day plan k (record w { hands = slice_set w.hands k h }) (Holds task) ≡ run_by day plan k w (Holds task)
run-anew day plan k w h task = by (run_at day task.place (map (λ p. p.value) task.parcels))
  where
    by : (o : Option (State × LogRow))
        → option_map_or (λ made. Ok (after_run plan k (record w { hands = slice_set w.hands k h }) task.place made)) o
        (Err NothingToRun) ≡ option_map_or (λ made. Ok (after_run plan k w task.place made)) o (Err NothingToRun)
    by None = refl
    by (Some made) = ap (λ hs. Ok (record (after_run plan k w task.place made) { hands = hs }))
        (set-twice w.hands k h (Carries None (filter (goes_on plan) (left_by task.place made.0))))

-- a task of a place can be run
pub can-run : (day : DayValue) (plan : PlanValue) (k : ℕ) (w : WorldValue) (task : TaskValue) → 1 ≤ task.place
    → task.place ≤ length day.batch.instructions → IsOk (run_by day plan k w (Holds task))
can-run day plan k w task low high = let made = runs-at day task.place (map (λ p. p.value) task.parcels) low high in
    let ran = made.1 in rw ran refl

-- what is answered of a run that is possible
pub why-run : {X : Type 0} (r : Result X EventFault) (A B C D : Type 0) (after : Result WorldValue EventFault)
    → OnOk r A → IfErr r (λ why. why ≡ fault.NoMemory) → OnErr r B → (A → C) → (B → D) → IsOk after
    → MatchResult r (λ x. C) (λ why. D × IsWhy after why)
why-run (Ok x) A B C D after ok memory err f g can = f ok
why-run (Err why) A B C D after ok memory err f g can = (g err, ((λ e. can), λ ne. absurd (ne memory)))

pub at-placed : {X : Type 0} (xs : List X) (place : ℕ) → 1 ≤ place → at_place xs place ≡ slice_get xs (place - 1)
at-placed xs zero low = absurd (omega (arith, low))
at-placed xs (suc k) low = ap (slice_get xs) (omega arith)

-- ---- a delivery

pub goes-to : (day : DayValue) (plan : PlanValue) (k : ℕ) (w : WorldValue) (p : ParcelValue) (ps : List ParcelValue)
    (place : ℕ) (came : List ParcelValue) → first_head plan (p ∷ ps) ≡ Some place → arrived w place ≡ Some came
    → delivered_by day plan k w (Carries None (p ∷ ps))
    ≡ Ok (after_delivery k w ps place (came ++ p ∷ []) (complete day plan place (came ++ p ∷ [])))
goes-to day plan k w p ps place came e there = rw (e, there) refl

beyond : {X : Type 0} (xs : List X) (k : ℕ) (x : X) → slice_get xs k ≡ None → slice_set xs k x ≡ xs
beyond [] k x e = refl
beyond (z ∷ xs) zero x e = absurd cc
beyond (z ∷ xs) (suc k) x e = ap (λ zs. z ∷ zs) (beyond xs k x e)

-- a place at which nothing stands, with nothing
pub still-none : (docks : List (Option (List ParcelValue))) (place : ℕ)
    → option_map_or (λ d. d) (at_place docks place) None ≡ None → with_place docks place None ≡ docks
still-none docks zero e = refl
still-none docks (suc k) e = by (slice_get docks k) refl e
  where
    by : (o : Option (Option (List ParcelValue))) → slice_get docks k ≡ o → option_map_or (λ d. d) o None ≡ None
        → slice_set docks k None ≡ docks
    by None f g = beyond docks k None f
    by (Some None) f g = set-back docks k None f
    by (Some (Some came)) f g = absurd cc

pub place-twice : {X : Type 0} (xs : List X) (place : ℕ) (x y : X) → with_place (with_place xs place x) place y
    ≡ with_place xs place y
place-twice xs zero x y = refl
place-twice xs (suc k) x y = set-twice xs k x y

module _ {N : Type 0} {b : Ghosts N} where
  -- the first of these parcels was removed
  pub first-is : (plan : PlanValue) (ps : List (Parcel N b)) (place : ℕ) (p : Parcel N b) (rest : List (Parcel N b))
      → first_head plan (parcels_of ps) ≡ Some place → p ≡ get_or ps 0 p → rest ≡ take 0 ps ++ drop 1 ps → ps ≡ p ∷ rest
  first-is plan [] place p rest e one others = absurd cc
  first-is plan (q ∷ qs) place p rest e one others = ap (λ x. x ∷ qs) (sym one) ∙ ap (λ xs. p ∷ xs) (sym others)

-- parcels are delivered alike whatever the hand held before
pub deliver-anew : (day : DayValue) (plan : PlanValue) (k : ℕ) (w : WorldValue) (h : HandValue) (ps : List ParcelValue)
    → delivered_by day plan k (record w { hands = slice_set w.hands k h }) (Carries None ps)
    ≡ delivered_by day plan k w (Carries None ps)
deliver-anew day plan k w h [] = refl
deliver-anew day plan k w h (p ∷ ps) = by (head_of plan p.after p.value.number)
  where
    after : (place : ℕ) (came : List ParcelValue) (o : Option TaskValue)
        → after_delivery k (record w { hands = slice_set w.hands k h }) ps place came o
        ≡ after_delivery k w ps place came o
    after place came None = ap (λ hs. record w { docks = with_place w.docks place (Some came); hands = hs })
        (set-twice w.hands k h (Carries None ps))
    after place came (Some t) = ap (λ hs. record w { docks = with_place w.docks place None; hands = hs })
        (set-twice w.hands k h (Carries (Some t) ps))

    to : (place : ℕ) (d : Option (List ParcelValue))
        → delivered_to day plan k (record w { hands = slice_set w.hands k h }) p ps place d
        ≡ delivered_to day plan k w p ps place d
    to place None = refl
    to place (Some came) = ap Ok (after place (came ++ p ∷ []) (complete day plan place (came ++ p ∷ [])))

    by : (o : Option ℕ) → option_map_or
        (λ place. delivered_to day plan k (record w { hands = slice_set w.hands k h }) p ps place (arrived w place)) o
        (Err NothingToDeliver)
        ≡ option_map_or (λ place. delivered_to day plan k w p ps place (arrived w place)) o (Err NothingToDeliver)
    by None = refl
    by (Some place) = to place (arrived w place)

-- what is answered of a delivery
pub why-delivery : {X : Type 0} (r : Result X EventFault) (A B C D : Type 0) (E F : EventFault → Type 0) → OnOk r A
    → IfErr r E → OnErr r B → (A → C) → (B → D) → ((why : EventFault) → E why → F why)
    → MatchResult r (λ x. C) (λ why. D × F why)
why-delivery (Ok x) A B C D E F ok err back f g h = f ok
why-delivery (Err why) A B C D E F ok err back f g h = (g back, h why err)

pub with-first : (plan : PlanValue) (ps : List ParcelValue) (place : ℕ) (Q : Type 0) → first_head plan ps ≡ Some place
    → ((p : ParcelValue) (rest : List ParcelValue) → ps ≡ p ∷ rest → head_of plan p.after p.value.number ≡ Some place
    → Q) → Q
with-first plan [] place Q e f = absurd cc
with-first plan (p ∷ ps) place Q e f = f p ps refl e

-- ---- schedules with one more event

pub after-more : (day : DayValue) (plan : PlanValue) (events : List Event) (start w x : WorldValue) (event : Event)
    → after_events day plan start events ≡ Some w → after_event day plan w event ≡ Ok x
    → after_events day plan start (events ++ event ∷ []) ≡ Some x
after-more day plan [] start w x event e f = let is : start ≡ w = cc in
    ap (after_result (λ v. Some v)) (ap (λ v. after_event day plan v event) is ∙ f)
after-more day plan (first ∷ events) start w x event e f =
    by (after_event day plan start first) e (λ v g. after-more day plan events v w x event g f)
  where
    by : (r : Result WorldValue EventFault) → after_result (λ v. after_events day plan v events) r ≡ Some w
        → ((v : WorldValue) → after_events day plan v events ≡ Some w → after_events day plan v (events ++ event ∷ [])
        ≡ Some x)
        → after_result (λ v. after_events day plan v (events ++ event ∷ [])) r ≡ Some x
    by (Ok v) g rest = rest v g
    by (Err why) g rest = absurd cc

pub reached-more : (day : DayValue) (plan : PlanValue) (w x : WorldValue) (event : Event)
    → after_event day plan w event ≡ Ok x → IsReached day plan w → IsReached day plan x
reached-more day plan w x event e r = record {
  workers = r.workers;
  some = r.some;
  few = r.few;
  events = r.events ++ event ∷ [];
  after =
      after-more day plan r.events (at_start day plan r.workers) w x event r.after e;
}
