-- What a world answers to an event, and that a schedule still leads to it.
use Rattle.std.proofs.Common.{◌≡◌, Ok, Err, Result, sym, subst}
use Rattle.std.specs.Prelude.{MatchResult}
use mathlib.Core.Logic.{∥∥₁_map}
use Rattle.reg_plan.specs.Plans.{PlanValue}
use Rattle.reg_book.specs.Day.{DayValue}
use Rattle.reg_schedules.specs.declared.event.Event.{Event}
use Rattle.reg_schedules.specs.declared.event.EventFault.{EventFault}
use Rattle.reg_schedules.specs.World.{WorldValue, after_event}
use Rattle.reg_schedules.specs.Schedules.{IsReached}
use Rattle.reg_graph.specs.WorldParts.{IsWhyOf}
use Rattle.reg_graph.proofs.PartFacts.{reached-more}

pub stays-reached : {X : Type 0} (day : DayValue) (plan : PlanValue) (w x : WorldValue) (event : Event) (F : EventFault
    → Type 0) (r : Result X EventFault)
    → MatchResult r (λ y. after_event day plan w event ≡ Ok x) (λ why. (x ≡ w) × F why) → ∥ IsReached day plan w ∥₁
    → ∥ IsReached day plan x ∥₁
stays-reached day plan w x event F (Ok y) e reached = ∥∥₁_map reached (reached-more day plan w x event e)
stays-reached day plan w x event F (Err why) e reached = subst (λ v. ∥ IsReached day plan v ∥₁) (sym e.0) reached

-- the answer to an event: it led to the new world, or this is why it did not, and the world is the same
abbrev pub Answers : (X : Type 0) → DayValue → PlanValue → WorldValue → WorldValue → Result X EventFault → Event
    → Type 0
Answers X day plan old new r event = MatchResult r
    (λ y. after_event day plan old event ≡ Ok new)
    (λ why. (new ≡ old) × IsWhyOf event (after_event day plan old event) why)

-- what is answered to a case of an event is answered to the event
pub answers : {X : Type 0} (day : DayValue) (plan : PlanValue) (old new : WorldValue) (r : Result X EventFault)
    (case event : Event)
    → event ≡ case → Answers X day plan old new r case → Answers X day plan old new r event
answers {X} day plan old new r case event is answer = subst (Answers X day plan old new r) (sym is) answer
