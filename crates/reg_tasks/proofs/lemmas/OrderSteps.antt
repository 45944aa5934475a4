-- What one more instruction of an order does to the slots, and what stands in them at the end.
use Rattle.std.proofs.Common.{◌≡◌, ℕ, zero, suc, ◌+◌, ◌<◌, ◌≤◌, inl, inr, ◌⊎◌, Bool, true, false, cond, eqb, List, []}
use Rattle.std.proofs.Common.{◌∷◌, ◌++◌, length, take, drop, get_or, Some, None, arith, refl, sym, ap, subst, ◌∙◌}
use Rattle.std.specs.Prelude.{IsPermutation}
use Rattle.std.proofs.Props.{props}
use Rattle.std.proofs.lemmas.Bool.{cases_eq, eq-eqb, or_left, or_right}
use Rattle.std.proofs.lemmas.List.{drop_more, take_more, take-append-drop}
use Rattle.std.proofs.lemmas.List.Sorted.{Contains-permutation}
use mathlib.Core.Logic.{∥∥₁_elim, ∥∥₁_map}
use Rattle.reg_facts.proofs.lemmas.Members.{In, in_from, contains_from}
use Rattle.reg_facts.proofs.lemmas.Numbers.{clash}
use Rattle.reg_base.specs.Footprint.{is_among}
use Rattle.reg_base.specs.Rising.{count_up}
use Rattle.reg_base.specs.Touches.{is_touched, last_toucher, LastToucherIsLast}
use Rattle.reg_plan.specs.declared.arrow.Opening.{Opening}
use Rattle.reg_plan.specs.declared.order.OrderFault.TheVariants.{Length}
use Rattle.reg_plan.specs.Arrows.{touches_place, IsOpening}
use Rattle.reg_plan.specs.Plans.{PlanValue, IsPlan, inward}
use Rattle.reg_plan.specs.Orders.{first_fault_after, first_order_fault}
use Rattle.reg_plan.specs.Laws.{TailsAreLastTouchers, NoFaultIsALegalOrder}
use Rattle.reg_book.specs.Day.{DayValue}
use Rattle.reg_schedules.specs.Pool.{directory, footprint_at, tail_of}
use Rattle.reg_tasks.specs.Places.{IsPlaceOf}
use Rattle.reg_tasks.specs.Slots.{opened_accounts, last_of, StandAfter, is_ready, IsAtEnd}
use Rattle.reg_schedules.proofs.lemmas.Known.{footprint_touches}
use Rattle.reg_schedules.proofs.lemmas.Tails.{touched_from, touched_somewhere}
use Rattle.reg_tasks.proofs.lemmas.Slotting.{Name, number_of, opening_touched}
use Rattle.reg_tasks.proofs.lemmas.Placing.{stands_ready}
use Rattle.reg_tasks.proofs.lemmas.Standing.{IsFaultless, next_of, later_none, last_push, needed_stands, last_stands}

-- a legal order, number by number
no_fault : (plan : PlanValue) (order : List ℕ) → first_order_fault plan order ≡ None
    → first_fault_after plan.arrows (length plan.levels) [] order ≡ None
no_fault plan order none = by (eqb (length order) (length plan.levels)) none where
  by : (b : Bool) → cond b (first_fault_after plan.arrows (length plan.levels) [] order) (Some Length) ≡ None
      → first_fault_after plan.arrows (length plan.levels) [] order ≡ None
  by true e = e
  by false e = absurd cc

split_at : (order : List ℕ) (k : ℕ) → k < length order → order ≡ take k order ++ get_or order k 0 ∷ drop (k + 1) order
split_at order k lt = sym (take-append-drop k order) ∙ ap (λ xs. take k order ++ xs) (drop_more order k 0 lt)

pub faultless_at : (plan : PlanValue) (order : List ℕ) (k : ℕ) → k < length order → first_order_fault plan order ≡ None
    → IsFaultless plan.arrows (length plan.levels) (take k order) (get_or order k 0)
faultless_at plan order k lt none =
    (next_of plan.arrows (length plan.levels) (take k order) (get_or order k 0) (drop (k + 1) order)
    (later_none plan.arrows (length plan.levels) [] (take k order) (get_or order k 0 ∷ drop (k + 1) order)
    (subst (λ xs. first_fault_after plan.arrows (length plan.levels) [] xs ≡ None) (split_at order k lt)
    (no_fault plan order none)))).here

module _ (tails : TailsAreLastTouchers) (last : LastToucherIsLast) (day : DayValue) (plan : PlanValue)
    (planned : ∥ IsPlan (directory day) day.batch.instructions plan ∥₁) where
  pub places_are : length plan.levels ≡ length day.batch.instructions
  places_are = ∥∥₁_elim planned (Prim.hlevel props) (λ made. made.places)

  abbrev Faultless : List ℕ → Type 0
  Faultless order = first_fault_after plan.arrows (length day.batch.instructions) [] order ≡ None

  faultless_order : (order : List ℕ) → first_order_fault plan order ≡ None → Faultless order
  faultless_order order none =
      subst (λ n. first_fault_after plan.arrows n [] order ≡ None) places_are (no_fault plan order none)

  -- each number of a legal order is a place of the batch
  pub place_at : (order : List ℕ) (k : ℕ) → k < length order → first_order_fault plan order ≡ None
      → IsPlaceOf day.batch (get_or order k 0)
  place_at order k lt none =
      let one = faultless_at plan order k lt none in (one.low, omega (arith, one.high, places_are))

  -- what the next instruction needs stands in the slots
  pub ready_at : (order : List ℕ) (k : ℕ) (standing : ℕ → Name) → k < length order → first_order_fault plan order ≡ None
      → StandAfter day (take k order) standing
      → (a : ℕ) → is_among (footprint_at day (get_or order k 0)) a ≡ true
      → standing a ≡ Some (a, tail_of plan (get_or order k 0) a)
  ready_at order k standing lt none stand a among =
      let on : touches_place (directory day) day.batch.instructions a (get_or order k 0) ≡ true =
      sym (footprint_touches day (get_or order k 0) a) ∙ among in
      let split : Faultless (take k order ++ get_or order k 0 ∷ drop (k + 1) order) =
      subst Faultless (split_at order k lt) (faultless_order order none) in
      stand a (touched_from (directory day) day.batch.instructions a (get_or order k 0) on)
      ∙ ap (λ t. Some (a, t)) (∥∥₁_elim planned (Prim.hlevel props)
      (λ made. needed_stands tails last day plan made (take k order) (get_or order k 0)
      (drop (k + 1) order) a split on))

  -- and afterwards what it left
  pub standing_more : (order : List ℕ) (k : ℕ) (before after : ℕ → Name) → k < length order
      → StandAfter day (take k order) before
      → ((a : ℕ) → after a ≡ cond (is_among (footprint_at day (get_or order k 0)) a) (Some (a, get_or order k 0))
      (before a)) → StandAfter day (take (k + 1) order) after
  standing_more order k before after lt stand laid a touched =
      let x : ℕ = get_or order k 0 in
      laid a
      ∙ ap (λ b. cond b (Some (a, x)) (before a)) (footprint_touches day x a)
      ∙ ap (λ o. cond (touches_place (directory day) day.batch.instructions a x) (Some (a, x)) o) (stand a touched)
      ∙ by (touches_place (directory day) day.batch.instructions a x) x (last_of day a 0 (take k order))
      ∙ ap (λ t. Some (a, t)) (sym (last_push day a 0 (take k order) x)
      ∙ ap (last_of day a 0) (sym (take_more order k 0 lt)))
    where
      by : (b : Bool) (x t : ℕ) → cond {A = Name} b (Some (a, x)) (Some (a, t)) ≡ Some (a, cond b x t)
      by true x t = refl
      by false x t = refl

  -- each touched account has a slot, and no other
  first_of : (a n : ℕ) → ((f : ℕ)
      × IsOpening (directory day) day.batch.instructions (record { account = a; first = f }))
      ⊎ ((place : ℕ) → place ≤ n → touches_place (directory day) day.batch.instructions a place ≡ false)
  first_of a zero = inr none where
    none : (place : ℕ) → place ≤ 0 → touches_place (directory day) day.batch.instructions a place ≡ false
    none zero le = refl
    none (suc p) le = absurd (omega (arith, le))
  first_of a (suc n) = by (first_of a n) (touches_place (directory day) day.batch.instructions a (suc n)) refl where
    by : ((f : ℕ) × IsOpening (directory day) day.batch.instructions (record { account = a; first = f }))
        ⊎ ((place : ℕ) → place ≤ n → touches_place (directory day) day.batch.instructions a place ≡ false)
        → (b : Bool) → touches_place (directory day) day.batch.instructions a (suc n) ≡ b
        → ((f : ℕ) × IsOpening (directory day) day.batch.instructions (record { account = a; first = f }))
        ⊎ ((place : ℕ) → place ≤ suc n → touches_place (directory day) day.batch.instructions a place ≡ false)
    by (inl found) b e = inl found
    by (inr none) true e = inl (suc n, record { toucher = e; none_before = λ place lt. none place (omega (arith, lt)) })
    by (inr none) false e = inr (λ place le. elim (cases_eq place (suc n)) [
      | inl same ↦ ap (touches_place (directory day) day.batch.instructions a) same ∙ e
      | inr ne ↦ none place (omega (arith, le, ne))
    ])

  among_opened : (os : List Opening) (o : Opening) → In o os → is_among (opened_accounts os) o.account ≡ true
  among_opened [] o m = absurd m
  among_opened (w ∷ os) o (inl e) = or_left (eqb w.account o.account) (is_among (opened_accounts os) o.account)
      (eq-eqb w.account o.account (ap number_of e))
  among_opened (w ∷ os) o (inr m) =
      or_right (eqb w.account o.account) (is_among (opened_accounts os) o.account) (among_opened os o m)

  pub touched_opened : (a : ℕ) → is_touched (directory day) day.batch.instructions a ≡ true
      → is_among (opened_accounts plan.openings) a ≡ true
  touched_opened a touched =
      ∥∥₁_elim planned (Prim.hlevel props)
      (λ made. from made (touched_somewhere (directory day) day.batch.instructions a touched)) where
        from : IsPlan (directory day) day.batch.instructions plan
            → ((n : ℕ) × (n < length day.batch.instructions)
            × (touches_place (directory day) day.batch.instructions a (suc n) ≡ true))
            → is_among (opened_accounts plan.openings) a ≡ true
        from made (n, lt, on) = elim (first_of a (suc n)) [
          | inl found ↦ among_opened plan.openings (record { account = a; first = found.0 })
              (in_from plan.openings (record { account = a; first = found.0 })
              ((made.openings.exactly (record { account = a; first = found.0 })).1 found.1))
          | inr none ↦ absurd (clash on (none (suc n) (omega arith)))
        ]

  pub all_touched : (o : Opening) → In o plan.openings → is_touched (directory day) day.batch.instructions o.account
      ≡ true
  all_touched o m = ∥∥₁_elim planned (Prim.hlevel props)
      (λ made. opening_touched (directory day) day.batch.instructions plan made o (contains_from plan.openings o m))

  -- the places of a legal order
  pub all_come : NoFaultIsALegalOrder → (order : List ℕ) → first_order_fault plan order ≡ None → (place : ℕ) → 1 ≤ place
      → place ≤ length day.batch.instructions → is_among order place ≡ true
  all_come legal order none place low high = ∥∥₁_elim planned (Prim.hlevel props) (λ made.
      among order place (in_from order place
      (Contains-permutation (count_up 1 (length plan.levels)) order place
      ((legal (directory day) day.batch.instructions plan order made).0 none).permutation
      (contains_from (count_up 1 (length plan.levels)) place
      (counted 1 (length plan.levels) place low (omega (arith, high, made.places)))))))
    where
      among : (xs : List ℕ) (x : ℕ) → In x xs → is_among xs x ≡ true
      among [] x m = absurd m
      among (y ∷ ys) x (inl e) = or_left (eqb y x) (is_among ys x) (eq-eqb y x e)
      among (y ∷ ys) x (inr m) = or_right (eqb y x) (is_among ys x) (among ys x m)

      counted : (first more x : ℕ) → first ≤ x → x < first + more → In x (count_up first more)
      counted first zero x le lt = absurd (omega (arith, le, lt))
      counted first (suc more) x le lt = elim (cases_eq first x) [
        | inl e ↦ inl e
        | inr ne ↦ inr (counted (first + 1) more x (omega (arith, le, ne)) (omega (arith, lt)))
      ]

  pub last_at_end : NoFaultIsALegalOrder → (order : List ℕ) → first_order_fault plan order ≡ None → (a : ℕ)
      → is_touched (directory day) day.batch.instructions a ≡ true
      → last_of day a 0 order ≡ last_toucher (directory day) day.batch.instructions a (length day.batch.instructions)
  last_at_end legal order none a touched =
      ∥∥₁_elim planned (Prim.hlevel props)
      (λ made. last_stands tails last day plan made order a (faultless_order order none)
      (all_come legal order none) touched)

  -- when its turn comes, an instruction of a legal order finds the parcels that it needs
  pub is_ready_at : (order : List ℕ) (k : ℕ) (standing : ℕ → Name) → k < length order
      → first_order_fault plan order ≡ None → StandAfter day (take k order) standing
      → is_ready day plan (get_or order k 0) standing ≡ true
  is_ready_at order k standing lt none stand =
      stands_ready (inward plan.arrows (get_or order k 0)) standing (footprint_at day (get_or order k 0))
      (ready_at order k standing lt none stand)

  -- what stands at the end, and the places that have come, are all
  pub ends_so : NoFaultIsALegalOrder → (order : List ℕ) → first_order_fault plan order ≡ None → (standing : ℕ → Name)
      → StandAfter day order standing → ∥ IsAtEnd day order standing ∥₁
  ends_so legal order none standing stand = ∥∥₁_map planned (λ made. record {
    each = subst (λ n. IsPermutation (count_up 1 n) order) made.places
        ((legal (directory day) day.batch.instructions plan order made).0 none).permutation;
    last_left = λ a touched. stand a touched ∙ ap (λ t. Some (a, t)) (last_at_end legal order none a touched);
  })
