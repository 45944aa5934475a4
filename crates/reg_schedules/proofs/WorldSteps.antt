-- What an event that is possible does: one of four steps.
use Rattle.std.proofs.Common.{◌≡◌, ℕ, Bool, true, false, cond, eqb, List, [], ◌∷◌, ◌++◌, Option, Some, None, refl}
use Rattle.std.specs.Prelude.{slice_get, slice_set, Result, Ok, Err, map}
use Rattle.std.specs.Option.{option_map_or}
use Rattle.reg_rules.specs.declared.reply.LogRow.{LogRow}
use Rattle.reg_rules.specs.State.{State}
use Rattle.reg_plan.specs.Plans.{PlanValue}
use Rattle.reg_book.specs.Day.{DayValue}
use Rattle.reg_schedules.specs.Pool.{run_at}
use Rattle.reg_schedules.specs.declared.event.Event.{Event}
use Rattle.reg_schedules.specs.declared.event.Event.TheVariants.{Pop, Steal, Run, Deliver, Push}
use Rattle.reg_schedules.specs.declared.event.EventFault.{EventFault}
use Rattle.reg_schedules.specs.declared.event.EventFault.TheVariants as fault
use Rattle.reg_schedules.specs.Docks.{ParcelValue, TaskValue, complete}
use Rattle.reg_schedules.specs.World.{HandValue, Holds, Carries, empty, WorldValue, head_of, arrived, pushed_to, moved}
use Rattle.reg_schedules.specs.World.{after_run, run_by, after_delivery, delivered_to, delivered_by, pushed_by}
use Rattle.reg_schedules.specs.World.{with_hand, with_list, after_event}

-- the first task of a list came to an empty hand
pub record Moves (w : WorldValue) (worker from : ℕ) (task : TaskValue) (tasks : List TaskValue) (x : WorldValue) :
    Type 0 where
  pub hand : slice_get w.hands worker ≡ Some empty
  pub list : slice_get w.lists from ≡ Some (task ∷ tasks)
  pub now : record w { lists = slice_set w.lists from tasks; hands = slice_set w.hands worker (Holds task) } ≡ x

pub record Pushes (w : WorldValue) (worker : ℕ) (task : TaskValue) (ps : List ParcelValue) (x : WorldValue) :
    Type 0 where
  pub hand : slice_get w.hands worker ≡ Some (Carries (Some task) ps)
  pub now : record w { lists = pushed_to worker task w.lists; hands = slice_set w.hands worker (Carries None ps) } ≡ x

module _ (day : DayValue) (plan : PlanValue) where
  -- the task in a hand was run
  pub record Runs (w : WorldValue) (worker : ℕ) (task : TaskValue) (made : State × LogRow) (x : WorldValue) :
      Type 0 where
    pub hand : slice_get w.hands worker ≡ Some (Holds task)
    pub run : run_at day task.place (map (λ p. p.value) task.parcels) ≡ Some made
    pub now : after_run plan worker w task.place made ≡ x

  -- the first parcel in a hand came to its dock
  pub record Delivers (w : WorldValue) (worker : ℕ) (p : ParcelValue) (ps : List ParcelValue) (place : ℕ)
      (came : List ParcelValue) (x : WorldValue) : Type 0 where
    pub hand : slice_get w.hands worker ≡ Some (Carries None (p ∷ ps))
    pub head : head_of plan p.after p.value.number ≡ Some place
    pub dock : arrived w place ≡ Some came
    pub now : after_delivery worker w ps place (came ++ p ∷ []) (complete day plan place (came ++ p ∷ [])) ≡ x

  pub data Step (w x : WorldValue) : Type 0 where
    moves : (worker from : ℕ) (task : TaskValue) (tasks : List TaskValue) → Moves w worker from task tasks x → Step w x
    runs : (worker : ℕ) (task : TaskValue) (made : State × LogRow) → Runs w worker task made x → Step w x
    delivers : (worker : ℕ) (p : ParcelValue) (ps : List ParcelValue) (place : ℕ) (came : List ParcelValue)
        → Delivers w worker p ps place came x → Step w x
    pushes : (worker : ℕ) (task : TaskValue) (ps : List ParcelValue) → Pushes w worker task ps x → Step w x

  is-move : (w x : WorldValue) (worker from : ℕ) (hand : HandValue) (list : List TaskValue)
      → slice_get w.hands worker ≡ Some hand → slice_get w.lists from ≡ Some list
      → moved worker from w hand list ≡ Ok x → Step w x
  is-move w x worker from (Carries None []) (task ∷ tasks) h l e =
      moves worker from task tasks (record { hand = h; list = l; now = cc })
  is-move w x worker from (Carries None []) [] h l e = absurd cc
  is-move w x worker from (Carries None (p ∷ ps)) list h l e = absurd cc
  is-move w x worker from (Carries (Some task) ps) list h l e = absurd cc
  is-move w x worker from (Holds task) list h l e = absurd cc

  is-run : (w x : WorldValue) (worker : ℕ) (hand : HandValue) → slice_get w.hands worker ≡ Some hand
      → run_by day plan worker w hand ≡ Ok x → Step w x
  is-run w x worker (Holds task) h e = by (run_at day task.place (map (λ p. p.value) task.parcels)) refl e
    where
      by : (o : Option (State × LogRow)) → run_at day task.place (map (λ p. p.value) task.parcels) ≡ o
          → option_map_or (λ made. Ok (after_run plan worker w task.place made)) o (Err fault.NothingToRun) ≡ Ok x
          → Step w x
      by (Some made) r f = runs worker task made (record { hand = h; run = r; now = cc })
      by None r f = absurd cc
  is-run w x worker (Carries task ps) h e = absurd cc

  is-delivery : (w x : WorldValue) (worker : ℕ) (hand : HandValue) → slice_get w.hands worker ≡ Some hand
      → delivered_by day plan worker w hand ≡ Ok x → Step w x
  is-delivery w x worker (Carries None (p ∷ ps)) h e = by (head_of plan p.after p.value.number) refl e
    where
      at : (place : ℕ) → head_of plan p.after p.value.number ≡ Some place → (o : Option (List ParcelValue))
          → arrived w place ≡ o
          → delivered_to day plan worker w p ps place o ≡ Ok x → Step w x
      at place r (Some came) d f = delivers worker p ps place came (record { hand = h; head = r; dock = d; now = cc })
      at place r None d f = absurd cc

      by : (o : Option ℕ) → head_of plan p.after p.value.number ≡ o
          → option_map_or (λ place. delivered_to day plan worker w p ps place (arrived w place)) o
          (Err fault.NothingToDeliver) ≡ Ok x → Step w x
      by (Some place) r f = at place r (arrived w place) refl f
      by None r f = absurd cc
  is-delivery w x worker (Carries None []) h e = absurd cc
  is-delivery w x worker (Carries (Some task) ps) h e = absurd cc
  is-delivery w x worker (Holds task) h e = absurd cc

  is-push : (w x : WorldValue) (worker : ℕ) (hand : HandValue) → slice_get w.hands worker ≡ Some hand
      → pushed_by worker w hand ≡ Ok x → Step w x
  is-push w x worker (Carries (Some task) ps) h e = pushes worker task ps (record { hand = h; now = cc })
  is-push w x worker (Carries None ps) h e = absurd cc
  is-push w x worker (Holds task) h e = absurd cc

  -- what is done with the hand of a worker, who is there
  handed : (w x : WorldValue) (worker : ℕ) (f : HandValue → Result WorldValue EventFault)
      → ((hand : HandValue) → slice_get w.hands worker ≡ Some hand → f hand ≡ Ok x → Step w x)
      → with_hand w worker f ≡ Ok x → Step w x
  handed w x worker f each e = by (slice_get w.hands worker) refl e
    where
      by : (o : Option HandValue) → slice_get w.hands worker ≡ o → option_map_or f o (Err fault.NoSuchWorker) ≡ Ok x
          → Step w x
      by (Some hand) r g = each hand r g
      by None r g = absurd cc

  listed : (w x : WorldValue) (worker : ℕ) (f : List TaskValue → Result WorldValue EventFault)
      → ((list : List TaskValue) → slice_get w.lists worker ≡ Some list → f list ≡ Ok x → Step w x)
      → with_list w worker f ≡ Ok x → Step w x
  listed w x worker f each e = by (slice_get w.lists worker) refl e
    where
      by : (o : Option (List TaskValue)) → slice_get w.lists worker ≡ o → option_map_or f o (Err fault.NoSuchWorker)
          ≡ Ok x → Step w x
      by (Some list) r g = each list r g
      by None r g = absurd cc

  pub step-of : (event : Event) (w x : WorldValue) → after_event day plan w event ≡ Ok x → Step w x
  unfolding after_event
  step-of (Pop worker) w x e =
      handed w x worker _ (λ hand h. listed w x worker _ (λ list l. is-move w x worker worker hand list h l)) e
  step-of (Steal worker from) w x e =
      handed w x worker _ (λ hand h. listed w x from _ (λ list l. other hand list h l (eqb worker from))) e
    where
      other : (hand : HandValue) (list : List TaskValue) → slice_get w.hands worker ≡ Some hand
          → slice_get w.lists from ≡ Some list → (b : Bool)
          → cond b (Err fault.OwnDeque) (moved worker from w hand list) ≡ Ok x → Step w x
      other hand list h l true f = absurd cc
      other hand list h l false f = is-move w x worker from hand list h l f
  step-of (Run worker) w x e = handed w x worker _ (is-run w x worker) e
  step-of (Deliver worker) w x e = handed w x worker _ (is-delivery w x worker) e
  step-of (Push worker) w x e = handed w x worker _ (is-push w x worker) e
