-- The order of a world is the beginning of a legal order, since its schedule can be brought to its end.
use Rattle.std.proofs.Common.{◌≡◌, ℕ, zero, suc, ◌≤◌, Bool, true, false, List, [], ◌∷◌, ◌++◌, length, Option, Some}
use Rattle.std.proofs.Common.{None, arith, refl, sym, ap, subst, ◌∙◌, append_assoc}
use Rattle.std.specs.Prelude.{is_some, is_none, is_ok, Result, Ok, Err}
use Rattle.std.specs.List.{list_all}
use Rattle.std.proofs.lemmas.Bool.{and_parts}
use Rattle.std.proofs.lemmas.List.{append-nil}
use Rattle.reg_rules.specs.declared.reply.LogRow.{LogRow}
use Rattle.reg_plan.specs.declared.order.OrderFault.{OrderFault}
use Rattle.reg_plan.specs.Plans.{PlanValue, IsPlan}
use Rattle.reg_plan.specs.Orders.{IsLegalOrder, first_fault_after}
use Rattle.reg_plan.specs.Laws.{NoFaultIsALegalOrder}
use Rattle.reg_book.specs.Day.{DayValue}
use Rattle.reg_schedules.specs.declared.event.Event.{Event}
use Rattle.reg_schedules.specs.declared.event.EventFault.{EventFault}
use Rattle.reg_schedules.specs.Pool.{directory, Progress, meaning_of}
use Rattle.reg_schedules.specs.World.{WorldValue, after_event, is_over}
use Rattle.reg_facts.specs.Counting.{one_if, total}
use Rattle.reg_schedules.proofs.Executing.{Known}
use Rattle.reg_schedules.proofs.Orders.{undefined_is_fault, fault_is}
use Rattle.reg_schedules.proofs.WorldSteps.{Step, step-of}
use Rattle.reg_schedules.proofs.lemmas.WorldEnds.{whole-step}
use Rattle.reg_schedules.proofs.lemmas.WorldPossible.{some-possible}
use Rattle.reg_schedules.proofs.WorldBound.{left_to_do, step-uses}
use Rattle.reg_schedules.proofs.WorldOrder.{WholeOf, Ordered, step-ordered}

all-ones : (rows : List (Option LogRow)) → list_all is_some rows ≡ true → total (λ r. one_if (is_some r)) rows
    ≡ length rows
all-ones [] all = refl
all-ones (r ∷ rs) all = let both = and_parts (is_some r) (list_all is_some rs) all in
    omega (arith, ap one_if both.0, all-ones rs both.1)

module _ (k : Known) (legal : NoFaultIsALegalOrder) (day : DayValue) (plan : PlanValue)
    (made : IsPlan (directory day) day.batch.instructions plan) where
  no-fault : (order : List ℕ) (p : Progress) → meaning_of day plan order ≡ Some p
      → first_fault_after plan.arrows (length day.batch.instructions) [] order ≡ None
  no-fault order p e = by (first_fault_after plan.arrows (length day.batch.instructions) [] order)
      (sym (undefined_is_fault k day plan made order) ∙ ap is_none e)
    where
      by : (o : Option OrderFault) → is_some o ≡ false → o ≡ None
      by None f = refl
      by (Some fault) f = absurd cc

  -- the order of a world in which all is done
  pub legal-order : (workers : ℕ) (order : List ℕ) (w : WorldValue) → WholeOf k day plan made workers w
      → Ordered k day plan made order w → is_over w ≡ true → IsLegalOrder plan order
  legal-order workers order w whole h over =
      (legal (directory day) day.batch.instructions plan order made).0
      (fault_is k day plan made order (h.many ∙ all-ones w.rows over ∙ whole.stands.rows)
      ∙ no-fault order h.progress h.is_of.meaning)

  abbrev pub Begins : List ℕ → Type 0
  Begins order = (rest : List ℕ) × IsLegalOrder plan (order ++ rest)

  -- each further event leaves less to do
  pub begins-legal : (most workers : ℕ) (order : List ℕ) (w : WorldValue) → WholeOf k day plan made workers w
      → Ordered k day plan made order w → suc (left_to_do plan w) ≤ most → Begins order
  begins-legal zero workers order w whole h few = absurd (omega (arith, few))
  begins-legal (suc most) workers order w whole h few = by (is_over w) refl
      (λ y s. let next = step-ordered k day plan made workers order w y whole h s in
      let rest = begins-legal most workers (order ++ next.more) y
      (whole-step k.steps k.sound k.tails k.last day plan made workers w y whole s) next.ordered
      (omega (arith, few, step-uses k.steps k.sound k.tails k.last day plan made workers w y whole s)) in
      (next.more ++ rest.0, subst (IsLegalOrder plan) (append_assoc order next.more rest.0) rest.1))
    where
      on : (event : Event) (r : Result WorldValue EventFault) → after_event day plan w event ≡ r → is_ok r ≡ true
          → ((y : WorldValue) → Step day plan w y → Begins order) → Begins order
      on event (Ok y) e ok more = more y (step-of day plan event w y e)
      on event (Err why) e ok more = absurd cc

      by : (b : Bool) → is_over w ≡ b → ((y : WorldValue) → Step day plan w y → Begins order) → Begins order
      by true over more = (
        [],
        subst (IsLegalOrder plan) (sym (append-nil order))
            (legal-order workers order w whole h over),
      )
      by false going more = let next =
          some-possible k.steps k.sound k.tails k.last day plan made workers w whole going in
          on next.0 (after_event day plan w next.0) refl next.1 more
