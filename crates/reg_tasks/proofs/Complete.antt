-- A complete task has the values that its instruction needs.
use Rattle.std.proofs.Common.{◌≡◌, ℕ, ◌-◌, true, eqb, List, [], ◌∷◌, refl, sym, ap, subst, ◌∙◌}
use Rattle.std.proofs.lemmas.Bool.{eq-eqb, or_left, or_right}
use Rattle.std.proofs.Props.{props}
use mathlib.Core.Logic.{∥∥₁_elim}
use Rattle.reg_base.specs.Footprint.{is_among}
use Rattle.reg_base.specs.Touches.{last_toucher, LastToucherIsLast}
use Rattle.reg_plan.specs.Plans.{PlanValue, IsPlan, inward}
use Rattle.reg_plan.specs.Laws.{TailsAreLastTouchers}
use Rattle.reg_book.specs.Day.{DayValue}
use Rattle.reg_schedules.specs.Pool.{directory, footprint_at}
use Rattle.reg_schedules.specs.Docks.{names_needed}
use Rattle.reg_tasks.specs.Names.{before_place, AreNeeded}
use Rattle.reg_tasks.specs.Places.{IsPlaceOf}
use Rattle.reg_schedules.proofs.lemmas.Known.{footprint_touches}
use Rattle.reg_schedules.proofs.lemmas.Tails.{Touches, tail_is_last}

module _ (tails : TailsAreLastTouchers) (last : LastToucherIsLast) (day : DayValue) (plan : PlanValue) where
  needed_of : IsPlan (directory day) day.batch.instructions plan → (place : ℕ) (accounts : List ℕ)
      → ((a : ℕ) → is_among accounts a ≡ true → Touches (directory day) day.batch.instructions a place)
      → names_needed (inward plan.arrows place) accounts ≡ before_place day place accounts
  needed_of made place [] on = refl
  needed_of made place (a ∷ more) on =
      ap (λ t. (a, t) ∷ names_needed (inward plan.arrows place) more)
      (tail_is_last tails last (directory day) day.batch.instructions plan made a place
      (on a (or_left (eqb a a) (is_among more a) (eq-eqb a a refl))))
      ∙ ap (λ ns. (a, last_toucher (directory day) day.batch.instructions a (place - 1)) ∷ ns)
      (needed_of made place more (λ b e. on b (or_right (eqb a b) (is_among more b) e)))

  pub needed_before : ∥ IsPlan (directory day) day.batch.instructions plan ∥₁ → (place : ℕ)
      → names_needed (inward plan.arrows place) (footprint_at day place)
      ≡ before_place day place (footprint_at day place)
  needed_before planned place =
      ∥∥₁_elim planned (Prim.hlevel props)
      (λ made. needed_of made place (footprint_at day place) (λ a e. sym (footprint_touches day place a) ∙ e))

  pub complete_from : ∥ IsPlan (directory day) day.batch.instructions plan ∥₁ → (place : ℕ) (names : List (ℕ × ℕ))
      → IsPlaceOf day.batch place → names ≡ names_needed (inward plan.arrows place) (footprint_at day place)
      → (d : DayValue) → day ≡ d → AreNeeded d place names
  complete_from planned place names there is d same =
      subst (λ (x : DayValue). AreNeeded x place names) same
      (record { low = there.0; high = there.1; names_are = is ∙ needed_before planned place })
