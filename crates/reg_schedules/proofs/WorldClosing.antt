-- The values of every world, and what a world gives that is over.
use Rattle.std.proofs.Common.{◌≡◌, ℕ, zero, suc, ◌+◌, ◌<◌, ◌≤◌, Bool, true, false, cond, List, [], ◌∷◌, length, map}
use Rattle.std.proofs.Common.{Option, Some, None, arith, refl, sym, ap, ◌∙◌}
use Rattle.std.specs.Prelude.{slice_get, is_some}
use Rattle.std.specs.Option.{option_map_or}
use Rattle.std.specs.List.{AllByRecursion, list_all}
use Rattle.std.proofs.lemmas.Bool.{and_parts}
use Rattle.reg_base.specs.Footprint.{is_among}
use Rattle.reg_base.specs.Touches.{is_touched, last_toucher}
use Rattle.reg_account.specs.Account.{AccountValue}
use Rattle.reg_rules.specs.declared.reply.LogRow.{LogRow}
use Rattle.reg_rules.specs.State.{State, account, numbers}
use Rattle.reg_plan.specs.Plans.{PlanValue, IsPlan}
use Rattle.reg_rules.proofs.lemmas.Accounts.{found-by_number, found-among}
use Rattle.reg_book.specs.Day.{DayValue, value_at, row_at, log_of}
use Rattle.reg_book.proofs.lemmas.Logs.{length-rows_of}
use Rattle.reg_schedules.specs.Pool.{directory}
use Rattle.reg_schedules.specs.declared.event.Event.{Event}
use Rattle.reg_schedules.specs.World.{WorldValue, at_place, is_over, world_after}
use Rattle.reg_schedules.specs.Schedules.{HasRightValues, IsWorldSettled, ScheduleDecides}
use Rattle.reg_schedules.proofs.lemmas.Known.{stays_known, touched_account}
use Rattle.reg_schedules.proofs.Executing.{Known}
use Rattle.reg_schedules.proofs.Orders.{among_last}
use Rattle.reg_schedules.proofs.WorldOrder.{WholeOf, Ordered, ordered-after}

rows-are : (rows : List (Option LogRow)) (log : List LogRow) → length rows ≡ length log
    → ((k : ℕ) → k < length rows → slice_get rows k ≡ Some (slice_get log k)) → rows ≡ map Some log
rows-are [] [] e h = refl
rows-are [] (l ∷ ls) e h = absurd (omega (arith, e))
rows-are (r ∷ rs) [] e h = absurd (omega (arith, e))
rows-are (r ∷ rs) (l ∷ ls) e h =
    let zeroth = h 0 (omega arith) in
    let first : r ≡ Some l = cc in
    ap (λ o. o ∷ rs) first ∙ ap (λ os. Some l ∷ os)
    (rows-are rs ls (omega (arith, e)) (λ k lt. h (suc k) (omega (arith, lt))))

each-row : (rows : List (Option LogRow)) (k : ℕ) → list_all is_some rows ≡ true → k < length rows
    → option_map_or is_some (slice_get rows k) false ≡ true
each-row [] k all lt = absurd (omega (arith, lt))
each-row (r ∷ rs) zero all lt = (and_parts (is_some r) (list_all is_some rs) all).0
each-row (r ∷ rs) (suc k) all lt = each-row rs k (and_parts (is_some r) (list_all is_some rs) all).1 (omega (arith, lt))

-- a row that is there
row-there : (rows : List (Option LogRow)) (place : ℕ) → option_map_or is_some (at_place rows place) false ≡ true
    → at_place rows place ≡ Some (option_map_or (λ row. row) (at_place rows place) None)
row-there rows place e = by (at_place rows place) e
  where
    by : (o : Option (Option LogRow)) → option_map_or is_some o false ≡ true
        → o ≡ Some (option_map_or (λ row. row) o None)
    by (Some row) f = refl
    by None f = absurd cc

module _ (k : Known) (day : DayValue) (plan : PlanValue)
    (made : IsPlan (directory day) day.batch.instructions plan) where
  last-values : (order : List ℕ) (w : WorldValue) → Ordered k day plan made order w
      → AllByRecursion (λ v. value_at day v.number (length day.batch.instructions) ≡ Some v) w.closing
  last-values order w h = all w.closing (found-by_number w.closing h.once)
    where
      by : (b : Bool) (v : AccountValue) → cond b (value_at day v.number (length day.batch.instructions)) None ≡ Some v
          → value_at day v.number (length day.batch.instructions) ≡ Some v
      by true v e = e
      by false v e = absurd cc

      all : (vs : State) → AllByRecursion (λ v. account w.closing v.number ≡ Some v) vs
          → AllByRecursion (λ v. value_at day v.number (length day.batch.instructions) ≡ Some v) vs
      all [] found = tt
      all (v ∷ vs) found = (
        by _ v (sym (h.follows.closing v.number) ∙ h.is_of.closing v.number ∙ found.0),
        all vs found.1,
      )

  right-by : (order : List ℕ) (w : WorldValue) → Ordered k day plan made order w → HasRightValues day w
  right-by order w h = record {
    docks = h.right.docks;
    lists = h.right.lists;
    hands = h.right.hands;
    rows = λ place done. row-there w.rows place done
        ∙ ap Some (sym (h.is_of.rows place) ∙ h.follows.rows place
        ∙ ap (λ b. cond b (row_at day place) None) (h.is_of.done place ∙ done));
    closing = last-values order w h;
  }

  settled-by : (workers : ℕ) (order : List ℕ) (w : WorldValue) → WholeOf k day plan made workers w
      → Ordered k day plan made order w → is_over w ≡ true → IsWorldSettled day w
  settled-by workers order w whole h over = record {
    rows = rows-are w.rows (log_of day) (omega (arith, whole.stands.rows, log_long))
        (λ i lt. (right-by order w h).rows (suc i) (each-row w.rows i over lt));
    accounts = record { once = h.once; touched = touched; values = last-values order w h };
  }
    where
      log_long : length (log_of day) ≡ length day.batch.instructions
      log_long = length-rows_of _ day.book.accounts (day.batch.base + 1) day.batch.instructions

      all-done : (place : ℕ) → 1 ≤ place → place ≤ length day.batch.instructions → is_among order place ≡ true
      all-done zero low high = absurd (omega (arith, low))
      all-done (suc i) low high = h.is_of.done (suc i) ∙ each-row w.rows i over (omega (arith, high, whole.stands.rows))

      touched : (a : ℕ) → is_among (numbers w.closing) a ≡ is_touched (directory day) day.batch.instructions a
      touched a = sym (found-among w.closing a) ∙ ap is_some (sym (h.is_of.closing a) ∙ h.follows.closing a)
          ∙ by (is_touched (directory day) day.batch.instructions a) refl
        where
          by : (b : Bool) → is_touched (directory day) day.batch.instructions a ≡ b
              → is_some (cond (is_among order
              (last_toucher (directory day) day.batch.instructions a (length day.batch.instructions)))
              (value_at day a (length day.batch.instructions)) None) ≡ b
          by true e = ap (λ b. is_some (cond b (value_at day a (length day.batch.instructions)) None))
              (among_last k day plan made order h.progress h.follows all-done a ∙ e)
              ∙ stays_known k.numbers day (length day.batch.instructions) a ∙ touched_account k.sound day a e
          by false e = ap (λ b. is_some (cond b (value_at day a (length day.batch.instructions)) None))
              (among_last k day plan made order h.progress h.follows all-done a ∙ e)

  pub schedule-decides : (workers : ℕ) → 1 ≤ workers → (events : List Event) (x : WorldValue)
      → world_after day plan workers events ≡ Some x → ScheduleDecides day x
  schedule-decides workers some events x e =
      let h = ordered-after k day plan made workers some events x e in
      record { right = right-by h.order x h.ordered; settled = settled-by workers h.order x h.whole h.ordered }
