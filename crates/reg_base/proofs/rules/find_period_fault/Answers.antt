use Rattle.std.proofs.Common.{sym, subst, ap, ◌∙◌}
use Rattle.std.specs.List.{list_any}
use Rattle.reg_base.specs.Rising.{FirstNotAbove}
use Rattle.reg_base.specs.Periods.{PeriodsRise, first_years, last_years, is_period_reversed}
use Rattle.std.specs.Bool.{then_some}
use Rattle.reg_base.specs.declared.rules.RulesFault.TheVariants.{CurrentOutside}
use Rattle.reg_base.specs.Rules.{rules_of, is_current_outside}
use Rattle.reg_base.proofs.Faults.{falling-fault, current-fault, then-outside, none-reversed, none-exactly}
use Rattle.reg_base.proofs.rules.find_period_fault.Goals as goal

pub returns-then-has_reversed_period-clause-none : goal.returns-then-has_reversed_period-clause-none
returns-then-has_reversed_period-clause-none c = (
  λ no. absurd (cc),
  λ fit. sym c.if-has_reversed_period.true ∙ c.has_reversed_period.ensures
      ∙ ap (λ xs. list_any is_period_reversed xs) c.deref.ensures.value
      ∙ none-reversed c.args.parts.now.periods.items fit.0.each,
)

pub returns-in-Some-clause-first : goal.returns-in-Some-clause-first
returns-in-Some-clause-first c =
    sym (falling-fault (rules_of c.args.parts.now) (sym c.has_wrong_count.ensures ∙ c.if-has_wrong_count.false)
    c.in-Some.place
    (ap (λ xs. list_any is_period_reversed xs) (sym c.deref.ensures.value) ∙ sym c.has_reversed_period.ensures
    ∙ c.if-has_reversed_period.false)
    (subst (λ xs. FirstNotAbove (last_years xs) (first_years xs) c.in-Some.place) c.deref-2.ensures.value
    c.in-Some.ensures))

pub returns-clause-first : goal.returns-clause-first
returns-clause-first c =
    c.then_some.ensures ∙ ap (λ b. then_some b CurrentOutside) c.is_current_outside.ensures
    ∙ then-outside (is_current_outside (rules_of c.args.parts.now))
    ∙ sym (current-fault (rules_of c.args.parts.now) (sym c.has_wrong_count.ensures ∙ c.if-has_wrong_count.false)
    (ap (λ xs. list_any is_period_reversed xs) (sym c.deref.ensures.value) ∙ sym c.has_reversed_period.ensures
    ∙ c.if-has_reversed_period.false)
    (subst PeriodsRise c.deref-2.ensures.value (c.in_default.ensures {u = tt})))

pub returns-clause-none : goal.returns-clause-none
returns-clause-none c =
    none-exactly (rules_of c.args.parts.now) c.is_current_outside.result c.then_some.result c.then_some.ensures
    c.is_current_outside.ensures
    (sym c.has_wrong_count.ensures ∙ c.if-has_wrong_count.false)
    (ap (λ xs. list_any is_period_reversed xs) (sym c.deref.ensures.value) ∙ sym c.has_reversed_period.ensures
    ∙ c.if-has_reversed_period.false)
    (subst PeriodsRise c.deref-2.ensures.value (c.in_default.ensures {u = tt}))
