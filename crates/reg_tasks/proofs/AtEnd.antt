-- Slots at the end of a day: in each stands what the last instruction that touches its account left.
use Rattle.std.proofs.Common.{◌≡◌, ℕ, inl, inr, Bool, true, false, cond, ◌&&◌, eqb, List, [], ◌∷◌, length, map, Option}
use Rattle.std.proofs.Common.{Some, None, refl, sym, ap, subst, ◌∙◌, arith}
use Rattle.std.specs.Option.{option_map}
use Rattle.std.specs.List.{IsDistinct, AllByRecursion, list_all}
use Rattle.std.proofs.lemmas.Bool.{eq-eqb, ne_eqb, and_from, or_left, or_right}
use Rattle.reg_facts.proofs.lemmas.Members.{In}
use Rattle.reg_base.specs.Rising.{IsRising}
use Rattle.reg_base.specs.Footprint.{is_among}
use Rattle.reg_base.specs.Touches.{is_touched, last_toucher, LastToucherIsLast}
use Rattle.reg_plan.specs.declared.arrow.Opening.{Opening}
use Rattle.reg_plan.specs.Plans.{PlanValue, IsPlan}
use Rattle.reg_plan.specs.Laws.{TailsAreLastTouchers}
use Rattle.reg_book.specs.Day.{DayValue}
use Rattle.reg_schedules.specs.Pool.{directory, footprint_at}
use Rattle.reg_schedules.proofs.lemmas.Known.{footprint_touches}
use Rattle.reg_schedules.proofs.lemmas.Tails.{touched_from}
use Rattle.reg_tasks.specs.Gathering.{AreLast, AreOutcomes, have_accounts, is_last, is_last_there, named_accounts}
use Rattle.reg_tasks.specs.Slots.{name_of, standing_in, opened_accounts, have_slots, IsAtEnd}
use Rattle.reg_tasks.specs.declared.naming.Naming.{Ghosts}
use Rattle.reg_tasks.specs.declared.parcel.Parcel.{Parcel}
use Rattle.reg_tasks.proofs.Rising.{Up, up_rising, up_distinct}
use Rattle.reg_tasks.proofs.lemmas.Slotting.{Name, number_of, stands_opened, stands_nowhere, unopened}
use Rattle.reg_tasks.proofs.lemmas.OrderSteps.{all_touched}
use Rattle.reg_tasks.proofs.Collecting.{opened_touched, tested_accounts, the_last_is}

-- slots, one by one
module _ {N : Type 0} {b : Ghosts N} where
  passes_over : (o : Opening) (s : Option (Parcel N b)) (os : List Opening) (ss : List (Option (Parcel N b))) (a : ℕ)
      → (o.account ≡ a → ⊥) → standing_in (o ∷ os) (s ∷ ss) a ≡ standing_in os ss a
  passes_over o s os ss a ne = ap (λ c. cond c (option_map name_of s) (standing_in os ss a)) (ne_eqb o.account a ne)

  pub slots_are : (want : ℕ → ℕ × ℕ) (os : List Opening) (slots : List (Option (Parcel N b))) → Up number_of os
      → length slots ≡ length os
      → ((o : Opening) → In o os → standing_in os slots o.account ≡ Some (want o.account))
      → map (option_map name_of) slots ≡ map (λ (o : Opening). Some (want o.account)) os
  slots_are want [] [] up size there = refl
  slots_are want [] (s ∷ ss) up size there = absurd (omega (arith, size))
  slots_are want (o ∷ os) [] up size there = absurd (omega (arith, size))
  slots_are want (o ∷ os) (s ∷ ss) up size there =
      ap (λ n. n ∷ map (option_map name_of) ss)
      (sym (ap (λ c. cond c (option_map name_of s) (standing_in os ss o.account)) (eq-eqb o.account o.account refl))
      ∙ there o (inl refl))
      ∙ ap (λ ns. Some (want o.account) ∷ ns) (slots_are want os ss up.1 (omega (arith, size)) (λ w m.
      sym (passes_over o s os ss w.account (λ e. omega (arith, e, up.0 w m))) ∙ there w (inr m)))

pub names_full : (want : ℕ → ℕ × ℕ) (os : List Opening) (names : List (ℕ × ℕ))
    → map Some names ≡ map (λ (o : Opening). Some (want o.account)) os
    → names ≡ map (λ (o : Opening). want o.account) os
names_full want [] [] e = refl
names_full want [] (n ∷ ns) e = absurd cc
names_full want (o ∷ os) [] e = absurd cc
names_full want (o ∷ os) (n ∷ ns) e =
    let head : n ≡ want o.account = cc in
    let tail : map Some ns ≡ map (λ (w : Opening). Some (want w.account)) os = cc in
    ap (λ m. m ∷ ns) head ∙ ap (λ ms. want o.account ∷ ms) (names_full want os ns tail)

-- what an instruction leaves has slots
pub left_have_slots : (day : DayValue) (place : ℕ)
    → have_slots day (map (λ a. (a, place)) (footprint_at day place)) ≡ true
left_have_slots day place =
    all (footprint_at day place)
    (λ a among. touched_from (directory day) day.batch.instructions a place (sym (footprint_touches day place a)
    ∙ among)) where
      all : (accounts : List ℕ)
          → ((a : ℕ) → is_among accounts a ≡ true → is_touched (directory day) day.batch.instructions a ≡ true)
          → have_slots day (map (λ a. (a, place)) accounts) ≡ true
      all [] touched = refl
      all (a ∷ more) touched =
          and_from (is_touched (directory day) day.batch.instructions a) (have_slots day (map (λ a. (a, place)) more))
          (touched a (or_left (eqb a a) (is_among more a) (eq-eqb a a refl)))
          (all more (λ b e. touched b (or_right (eqb a b) (is_among more b) e)))

module _ (tails : TailsAreLastTouchers) (last : LastToucherIsLast) (day : DayValue) (plan : PlanValue)
    (planned : ∥ IsPlan (directory day) day.batch.instructions plan ∥₁) where
  -- the name of what the last instruction that touches an account leaves
  abbrev pub last_at : ℕ → ℕ × ℕ
  last_at a = (a, last_toucher (directory day) day.batch.instructions a (length day.batch.instructions))

  accounts_at_end : (os : List Opening) → named_accounts (map (λ (o : Opening). last_at o.account) os)
      ≡ opened_accounts os
  accounts_at_end [] = refl
  accounts_at_end (o ∷ os) = ap (λ ns. o.account ∷ ns) (accounts_at_end os)

  -- these names, one for each opening, are the last ones
  pub names_at_end : (names : List (ℕ × ℕ)) → IsRising (opened_accounts plan.openings)
      → names ≡ map (λ (o : Opening). last_at o.account) plan.openings → AreLast day names
  names_at_end names rising e =
      subst (AreLast day) (sym e) (record {
        once = subst (IsDistinct eqb) (sym (accounts_at_end plan.openings))
            (up_distinct number_of plan.openings (up_rising number_of plan.openings rising));
        touched = λ a. ap (λ ns. is_among ns a) (accounts_at_end plan.openings)
            ∙ opened_touched tails last day plan planned a;
        last = ends plan.openings;
      })
    where
      ends : (os : List Opening)
          → AllByRecursion (λ (n : ℕ × ℕ). n.1
          ≡ last_toucher (directory day) day.batch.instructions n.0 (length day.batch.instructions))
          (map (λ (o : Opening). last_at o.account) os)
      ends [] = tt
      ends (o ∷ os) = (refl, ends os)

  -- there is a slot for each touched account, and for no other
  pub slots_touched : (names : List (ℕ × ℕ)) → list_all (λ n. is_among (opened_accounts plan.openings) n.0) names
      ≡ have_slots day names
  slots_touched [] = refl
  slots_touched (n ∷ names) = ap (λ b. b && list_all (λ n. is_among (opened_accounts plan.openings) n.0) names)
      (opened_touched tails last day plan planned n.0)
      ∙ ap (λ b. is_touched (directory day) day.batch.instructions n.0 && b) (slots_touched names)

  module _ {N : Type 0} {b : Ghosts N} where
    -- what stands in slots that were opened
    pub opened_stand : (slots : List (Option (Parcel N b)))
        → map (option_map name_of) slots ≡ map unopened plan.openings
        → (a : ℕ) → standing_in plan.openings slots a
        ≡ cond (is_touched (directory day) day.batch.instructions a) (Some (a, 0)) None
    opened_stand slots e a =
        by (is_among (opened_accounts plan.openings) a) refl
        ∙ ap (λ c. cond c (Some (a, 0)) None) (opened_touched tails last day plan planned a)
      where
        by : (c : Bool) → is_among (opened_accounts plan.openings) a ≡ c
            → standing_in plan.openings slots a ≡ cond (is_among (opened_accounts plan.openings) a) (Some (a, 0)) None
        by true h = stands_opened plan.openings slots e a h ∙ ap (λ c. cond c (Some (a, 0)) None) (sym h)
        by false h = stands_nowhere plan.openings slots a h ∙ ap (λ c. cond c (Some (a, 0)) None) (sym h)

    -- the slots at the end
    pub full_at_end : IsRising (opened_accounts plan.openings) → (slots : List (Option (Parcel N b)))
        → length slots ≡ length plan.openings → (places : List ℕ)
        → IsAtEnd day places (standing_in plan.openings slots)
        → map (option_map name_of) slots ≡ map (λ (o : Opening). Some (last_at o.account)) plan.openings
    full_at_end rising slots size places ends =
        slots_are last_at plan.openings slots (up_rising number_of plan.openings rising) size
        (λ o m. ends.last_left o.account (all_touched tails last day plan planned o m))

    -- what stands in each is the last one of its account
    pub all_last_there : IsRising (opened_accounts plan.openings) → (slots : List (Option (Parcel N b)))
        → length slots ≡ length plan.openings → (places : List ℕ) → IsAtEnd day places (standing_in plan.openings slots)
        → list_all (is_last_there day plan) (map (option_map name_of) slots) ≡ true
    all_last_there rising slots size places ends =
        ap (list_all (is_last_there day plan)) (full_at_end rising slots size places ends)
        ∙ each plan.openings (λ o m. all_touched tails last day plan planned o m)
      where
        each : (os : List Opening)
            → ((o : Opening) → In o os → is_touched (directory day) day.batch.instructions o.account ≡ true)
            → list_all (is_last_there day plan)
            (map {A = Opening} {B = Name} (λ (o : Opening). Some (last_at o.account)) os) ≡ true
        each [] touched = refl
        each (o ∷ os) touched =
            and_from (is_last day plan (last_at o.account))
            (list_all (is_last_there day plan)
            (map {A = Opening} {B = Name} (λ (w : Opening). Some (last_at w.account)) os))
            (the_last_is tails last day plan planned o.account
            (last_toucher (directory day) day.batch.instructions o.account (length day.batch.instructions))
            (touched o (inl refl)) refl)
            (each os (λ w m. touched w (inr m)))

    -- with the names of what stands in them
    pub outcomes_at_end : IsRising (opened_accounts plan.openings) → (slots : List (Option (Parcel N b)))
        → length slots ≡ length plan.openings → (places : List ℕ) (names : List (ℕ × ℕ))
        → map Some names ≡ map (option_map name_of) slots → IsAtEnd day places (standing_in plan.openings slots)
        → AreOutcomes day places names
    outcomes_at_end rising slots size places names e ends = record {
      each = ends.each;
      last = names_at_end names rising
          (names_full last_at plan.openings names (e ∙ full_at_end rising slots size places ends));
    }

    -- which are of the opened accounts
    pub accounts_of_end : IsRising (opened_accounts plan.openings) → (slots : List (Option (Parcel N b)))
        → length slots ≡ length plan.openings → (places : List ℕ) (names : List (ℕ × ℕ))
        → map Some names ≡ map (option_map name_of) slots → IsAtEnd day places (standing_in plan.openings slots)
        → have_accounts (opened_accounts plan.openings) names ≡ true
    accounts_of_end rising slots size places names e ends =
        let is = names_full last_at plan.openings names (e ∙ full_at_end rising slots size places ends) in
        tested_accounts (opened_accounts plan.openings) names (ap named_accounts is ∙ accounts_at_end plan.openings)
