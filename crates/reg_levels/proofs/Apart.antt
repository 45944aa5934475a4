-- Instructions of one level touch no account in common.
use Rattle.std.proofs.Common.{◌≡◌, ℕ, zero, suc, ◌+◌, ◌-◌, ◌<◌, ◌≤◌, inl, inr, Bool, true, false, ◌||◌, eqb, List, []}
use Rattle.std.proofs.Common.{◌∷◌, ◌++◌, length, take, drop, get_or, Option, Some, None, arith, refl, sym, ap, subst}
use Rattle.std.proofs.Common.{◌∙◌}
use Rattle.std.proofs.Props.{props}
use Rattle.std.proofs.lemmas.Bool.{cases_lt, cases_eq, eq-eqb, eqb-true, false_from_ne_true}
use mathlib.Core.Logic.{∥∥₁_elim}
use Rattle.reg_facts.proofs.lemmas.Members.{In, contains_from}
use Rattle.reg_facts.proofs.lemmas.Numbers.{clash}
use Rattle.reg_base.specs.Footprint.{is_among}
use Rattle.reg_base.specs.Touches.{LastToucherIsLast}
use Rattle.reg_plan.specs.declared.arrow.Arrow.{Arrow}
use Rattle.reg_plan.specs.Arrows.{touches_place}
use Rattle.reg_plan.specs.Plans.{PlanValue, IsPlan, inward, level_at}
use Rattle.reg_plan.specs.Orders.{first_order_fault}
use Rattle.reg_plan.specs.Laws.{TailsAreLastTouchers, LevelsRiseAlongArrows}
use Rattle.reg_book.specs.Day.{DayValue}
use Rattle.reg_schedules.specs.Pool.{directory, footprint_at, tail_of}
use Rattle.reg_schedules.proofs.lemmas.Known.{footprint_touches}
use Rattle.reg_schedules.proofs.lemmas.Tails as tail
use Rattle.reg_tasks.specs.Slots.{last_of, is_ready}
use Rattle.reg_tasks.proofs.lemmas.Slotting.{Name}
use Rattle.reg_tasks.proofs.lemmas.Placing.{stands_ready}
use Rattle.reg_tasks.proofs.lemmas.OrderSteps.{faultless_at, ready_at}
use Rattle.reg_levels.specs.Levels.{touched_by, StandsBetween, places_between, IsOneLevel}
use Rattle.reg_levels.proofs.Between.{between_at, take_between, none_passes, size_take, last_untouched, last_append}

-- an arrow that leads to a place is one of the plan's, and its head is there
inward_is : (ws : List Arrow) (place : ℕ) (w : Arrow) → In w (inward ws place) → In w ws × (w.to ≡ place)
inward_is [] place w m = absurd m
inward_is (v ∷ ws) place w m = by (eqb v.to place) refl m (inward_is ws place w) where
  by : (b : Bool) → eqb v.to place ≡ b → In w (Rattle.std.proofs.Common.cond b (v ∷ inward ws place) (inward ws place))
      → (In w (inward ws place) → In w ws × (w.to ≡ place)) → In w (v ∷ ws) × (w.to ≡ place)
  by true e (inl same) more = (inl same, ap (λ (x : Arrow). x.to) (sym same) ∙ eqb-true v.to place e)
  by true e (inr n) more = let r = more n in (inr r.0, r.1)
  by false e n more = let r = more n in (inr r.0, r.1)

-- a number that stands before a position
among_taken : (xs : List ℕ) (j k : ℕ) → j < k → k ≤ length xs → is_among (take k xs) (get_or xs j 0) ≡ true
among_taken [] j k lt le = absurd (omega (arith, lt, le))
among_taken (x ∷ xs) j zero lt le = absurd (omega (arith, lt))
among_taken (x ∷ xs) zero (suc k) lt le = ap (λ b. b || is_among (take k xs) x) (eq-eqb x x refl)
among_taken (x ∷ xs) (suc j) (suc k) lt le =
    by (eqb x (get_or xs j 0)) (among_taken xs j k (omega (arith, lt)) (omega (arith, le))) where
      by : (b : Bool) → is_among (take k xs) (get_or xs j 0) ≡ true → (b || is_among (take k xs) (get_or xs j 0)) ≡ true
      by true e = refl
      by false e = e

-- those after the first of a level
pub level_more : (plan : PlanValue) (order : List ℕ) (from to : ℕ) → IsOneLevel plan order from to
    → IsOneLevel plan order (from + 1) to
level_more plan order from to level k le lt =
    level k (omega (arith, le)) lt ∙ sym (level (from + 1) (omega arith) (omega (arith, le, lt)))

module _ (rise : LevelsRiseAlongArrows) (tails : TailsAreLastTouchers) (last : LastToucherIsLast) (day : DayValue)
    (plan : PlanValue) where
  abbrev On : ℕ → ℕ → Type 0
  On a place = touches_place (directory day) day.batch.instructions a place ≡ true

  -- levels rise from one toucher of an account to the next
  rises : IsPlan (directory day) day.batch.instructions plan → (most a p q : ℕ) → q ≤ most → On a p → On a q → p < q
      → level_at plan.levels p < level_at plan.levels q
  rises made zero a p q le on_p on_q lt = absurd (omega (arith, le, lt))
  rises made (suc most) a p q le on_p on_q lt =
      let up : p ≤ tail_of plan q a =
      tail.tail_rises tails last (directory day) day.batch.instructions plan made a p q on_p on_q lt in
      let one : 1 ≤ tail_of plan q a =
      omega (arith, up, tail.is_place (directory day) day.batch.instructions a p on_p) in
      let below : tail_of plan q a < q =
      tail.tail_before tails last (directory day) day.batch.instructions plan made a q on_q in
      let (w, there, from) = tail.tail_inward tails last (directory day) day.batch.instructions plan made a q on_q
      one in
      let is = inward_is plan.arrows q w there in
      let step : level_at plan.levels w.from < level_at plan.levels w.to =
      rise (directory day) day.batch.instructions plan w made (contains_from plan.arrows w is.0) in
      let last_step : level_at plan.levels (tail_of plan q a) < level_at plan.levels q =
      subst (λ x. level_at plan.levels x < level_at plan.levels q) from
      (subst (λ x. level_at plan.levels w.from < level_at plan.levels x) is.1 step) in
      elim (cases_eq p (tail_of plan q a)) [
        | inl same ↦ subst (λ x. level_at plan.levels x < level_at plan.levels q) (sym same) last_step
        | inr ne ↦
            let before = rises made most a p (tail_of plan q a) (omega (arith, below, le)) on_p
            (tail.tail_touches tails last (directory day) day.batch.instructions plan made a q on_q one)
            (omega (arith, up, ne)) in
            omega (arith, before, last_step)
      ]

  module _ (planned : ∥ IsPlan (directory day) day.batch.instructions plan ∥₁) (order : List ℕ)
      (none : first_order_fault plan order ≡ None) where
    -- two places of one level in a legal order touch no account in common
    apart : (a j k : ℕ) → j < k → k < length order → level_at plan.levels (get_or order j 0)
        ≡ level_at plan.levels (get_or order k 0) → On a (get_or order j 0) → On a (get_or order k 0) → ⊥
    apart a j k lt within same on_j on_k = ∥∥₁_elim planned (Prim.hlevel props) (λ made.
        elim (cases_eq (get_or order j 0) (get_or order k 0)) [
          | inl e ↦ clash (subst (λ x. is_among (take k order) x ≡ true) e
              (among_taken order j k lt (omega (arith, within)))) (faultless_at plan order k within none).fresh
          | inr ne ↦ elim (cases_lt (get_or order j 0) (get_or order k 0)) [
            | inl less ↦ let up = rises made (get_or order k 0) a (get_or order j 0) (get_or order k 0)
                (omega arith) on_j on_k less in omega (arith, up, same)
            | inr le ↦ let up = rises made (get_or order j 0) a (get_or order k 0) (get_or order j 0)
                (omega arith) on_k on_j (omega (arith, le, ne)) in omega (arith, up, same)
          ]
        ])

    -- none of those before it in its level touches an account of an instruction
    untouched_before : (a from k : ℕ) → from ≤ k → k < length order → IsOneLevel plan order from (k + 1)
        → On a (get_or order k 0) → touched_by day (places_between order from k) a ≡ false
    untouched_before a from k le within level on =
        none_passes (λ place. touches_place (directory day) day.batch.instructions a place)
        (places_between order from k) (λ j lt.
        let inside : from + j < k = let short = size_take (drop from order) (k - from) j lt in omega (arith, short) in
        false_from_ne_true (touches_place (directory day) day.batch.instructions a
        (get_or (places_between order from k) j 0))
        (λ touched.
        apart a (from + j) k inside within
        (level (from + j) (omega arith) (omega (arith, inside)) ∙ sym (level k le (omega arith)))
        (subst (On a) (between_at order from k j inside) touched) on))

    -- nor any of those after it
    pub untouched_after : (a j to : ℕ) → j < to → to ≤ length order → IsOneLevel plan order j to
        → On a (get_or order j 0) → touched_by day (places_between order (j + 1) to) a ≡ false
    untouched_after a j to lt le level on =
        none_passes (λ place. touches_place (directory day) day.batch.instructions a place)
        (places_between order (j + 1) to) (λ i short.
        let inside : j + 1 + i < to = let few = size_take (drop (j + 1) order) (to - (j + 1)) i short in
        omega (arith, few) in
        false_from_ne_true (touches_place (directory day) day.batch.instructions a
        (get_or (places_between order (j + 1) to) i 0))
        (λ touched.
        apart a j (j + 1 + i) (omega arith) (omega (arith, inside, le))
        (sym (level (j + 1 + i) (omega arith) inside))
        on (subst (On a) (between_at order (j + 1) to i inside) touched)))

    -- the next of a level finds the parcels that it needs
    pub ready_next : (from k : ℕ) (standing : ℕ → Name) → from ≤ k → k < length order
        → IsOneLevel plan order from (k + 1)
        → StandsBetween day (take from order) (places_between order from k) standing
        → is_ready day plan (get_or order k 0) standing ≡ true
    ready_next from k standing le within level stand =
        stands_ready (inward plan.arrows (get_or order k 0)) standing (footprint_at day (get_or order k 0)) (λ a among.
        let on : On a (get_or order k 0) = sym (footprint_touches day (get_or order k 0) a) ∙ among in
        let untouched = untouched_before a from k le within level on in
        let after : last_of day a 0 (take k order) ≡ last_of day a 0 (take from order) =
        ap (last_of day a 0) (take_between order from k le)
        ∙ last_append day a 0 (take from order) (places_between order from k)
        ∙ last_untouched day a (last_of day a 0 (take from order)) (places_between order from k) untouched in
        stand a (tail.touched_from (directory day) day.batch.instructions a (get_or order k 0) on)
        ∙ ap (λ b. Rattle.std.proofs.Common.cond {A = Name} b None (Some (a, last_of day a 0 (take from order))))
        untouched
        ∙ ap (λ t. Some (a, t)) (sym after)
        ∙ ready_at tails last day plan planned order k (λ b. Some (b, last_of day b 0 (take k order))) within none
        (λ b touched. refl) a among)
