-- What holds after every schedule: it holds at the start, and each step keeps it.
use Rattle.std.proofs.Common.{◌≡◌, List, [], ◌∷◌, Some, refl, subst}
use Rattle.std.specs.Prelude.{Result, Ok, Err}
use Rattle.reg_plan.specs.Plans.{PlanValue}
use Rattle.reg_book.specs.Day.{DayValue}
use Rattle.reg_schedules.specs.declared.event.Event.{Event}
use Rattle.reg_schedules.specs.declared.event.EventFault.{EventFault}
use Rattle.reg_schedules.specs.World.{WorldValue, after_event, after_result, after_events}
use Rattle.reg_schedules.proofs.WorldSteps.{Step, step-of}

module _ (day : DayValue) (plan : PlanValue) where
  -- each event of a schedule is a step
  pub by-steps : (P : WorldValue → Type 0) → ((w x : WorldValue) → P w → Step day plan w x → P x)
      → (events : List Event) (w x : WorldValue) → P w → after_events day plan w events ≡ Some x → P x
  by-steps P keep [] w x p e = let same : w ≡ x = cc in subst P same p
  by-steps P keep (event ∷ events) w x p e =
      by (after_event day plan w event) refl e (λ y q f. by-steps P keep events y x q f)
    where
      by : (r : Result WorldValue EventFault) → after_event day plan w event ≡ r
          → after_result (λ y. after_events day plan y events) r ≡ Some x
          → ((y : WorldValue) → P y → after_events day plan y events ≡ Some x → P x) → P x
      by (Ok y) s f more = more y (keep w y p (step-of day plan event w y s)) f
      by (Err why) s f more = absurd cc
