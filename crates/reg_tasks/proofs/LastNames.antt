-- The name of a value that no later instruction needs.
use Rattle.std.proofs.Common.{◌≡◌, ℕ, true, sym, ◌∙◌}
use Rattle.std.proofs.lemmas.Bool.{and_parts}
use Rattle.reg_base.specs.Footprint.{is_among}
use Rattle.reg_base.specs.Touches.{is_touched, LastToucherIsLast}
use Rattle.reg_plan.specs.Plans.{PlanValue, IsPlan}
use Rattle.reg_plan.specs.Laws.{TailsAreLastTouchers}
use Rattle.reg_book.specs.Day.{DayValue}
use Rattle.reg_schedules.specs.Pool.{directory, footprint_at}
use Rattle.reg_schedules.proofs.lemmas.Known.{footprint_touches}
use Rattle.reg_schedules.proofs.lemmas.Tails.{touched_from}
use Rattle.reg_tasks.specs.Gathering.{IsLastName, is_last}
use Rattle.reg_tasks.proofs.Collecting.{is_the_last}

module _ (tails : TailsAreLastTouchers) (last : LastToucherIsLast) (day : DayValue) (plan : PlanValue)
    (planned : ∥ IsPlan (directory day) day.batch.instructions plan ∥₁) where
  -- some instruction touches it
  pub last-touched : (a place : ℕ) → is_last day plan (a, place) ≡ true
      → is_touched (directory day) day.batch.instructions a ≡ true
  last-touched a place e =
      let both = and_parts (is_among (footprint_at day place) a) _ e in
      touched_from (directory day) day.batch.instructions a place (sym (footprint_touches day place a) ∙ both.0)

  -- so its name is that of a last one
  pub last-name : (a place : ℕ) → is_last day plan (a, place) ≡ true → IsLastName day (a, place)
  last-name a place e =
      let on = last-touched a place e in
      let is = is_the_last tails last day plan planned a place e in
      record { touched = on; last = is }
