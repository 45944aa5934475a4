-- What a task's own values give is what the day gives.
use Rattle.std.proofs.Common.{◌≡◌, ℕ, zero, suc, ◌+◌, ◌-◌, ◌≤◌, inl, inr, Bool, true, false, cond, ◌||◌, eqb, List}
use Rattle.std.proofs.Common.{[], ◌∷◌, map, Option, Some, None, refl, sym, ap, subst, ◌∙◌, arith}
use Rattle.std.specs.Prelude.{slice_get, not}
use Rattle.std.specs.Option.{option_map}
use Rattle.std.specs.List.{AllByRecursion, list_all}
use Rattle.std.proofs.lemmas.Bool.{eqb-true, and_parts, not-true}
use Rattle.std.proofs.lemmas.Option.{slice_get_cases}
use Rattle.reg_base.specs.declared.instruction.Instruction.{Instruction}
use Rattle.reg_base.specs.Footprint.{is_among, EachFootprintIsSound}
use Rattle.reg_base.specs.Touches.{last_toucher}
use Rattle.reg_account.specs.Account.{AccountValue}
use Rattle.reg_account.proofs.lemmas.Rows.{none_ahead}
use Rattle.reg_rules.specs.Effect.{IsBehind}
use Rattle.reg_book.specs.Book.{has_row_ahead}
use Rattle.reg_rules.specs.declared.reply.LogRow.{LogRow}
use Rattle.reg_rules.specs.declared.reply.Reply.{Reply}
use Rattle.reg_rules.specs.State.{State, account, numbers}
use Rattle.reg_rules.specs.Step.{step, row_of}
use Rattle.reg_rules.specs.Laws.{StepLaws}
use Rattle.reg_book.specs.Day.{DayValue, setting, state_at, value_at}
use Rattle.reg_book.specs.Laws.{EachIsAStep, ValueIsLastTouchers}
use Rattle.reg_schedules.specs.Pool.{directory, footprint_at, run_at}
use Rattle.reg_tasks.specs.Names.{before_place, AreNeeded, AreComplete, AreValues, IsValue}
use Rattle.reg_tasks.specs.declared.naming.Naming.{Ghosts}
use Rattle.reg_tasks.specs.declared.parcel.Parcel.{Parcel}
use Rattle.reg_tasks.specs.Parcels.{values_of, afters_of, names_of}
use Rattle.reg_schedules.proofs.lemmas.Ran.{AgreeAt, IsRight, ran_right, results_right}

pub all_behind : (n : ℕ) (vs : State) → list_all (λ (v : AccountValue). not (has_row_ahead n v)) vs ≡ true
    → AllByRecursion (IsBehind n) vs
all_behind n [] holds = tt
all_behind n (v ∷ vs) holds =
    let both = and_parts (not (has_row_ahead n v)) (list_all (λ (w : AccountValue). not (has_row_ahead n w)) vs)
    holds in
    (none_ahead n v.rows (not-true (has_row_ahead n v) both.0), all_behind n vs both.1)

-- a step of the instruction at a place, and its row, are what running it gives
pub ran_at : (day : DayValue) (place number : ℕ) (own results : State) (i : Instruction) (reply : Reply) (row : LogRow)
    → 1 ≤ place → slice_get day.batch.instructions (place - 1) ≡ Some i
    → number ≡ day.batch.base + place → (results, reply) ≡ step (setting day) own number i
    → row ≡ row_of (setting day) number i reply → run_at day place own ≡ Some (results, row)
ran_at day zero number own results i reply row low at same one made = absurd (omega (arith, low))
ran_at day (suc k) number own results i reply row low at same one made =
    let run : Instruction → State × LogRow = λ j. let made = step (setting day) own (day.batch.base + suc k) j in
    (made.0, row_of (setting day) (day.batch.base + suc k) j made.1) in
    let stepped : ◌≡◌ {A = State × Reply} (step (setting day) own (day.batch.base + suc k) i) (results, reply) =
    sym (subst (λ n. ◌≡◌ {A = State × Reply} (results, reply) (step (setting day) own n i)) same one) in
    let rowed : row_of (setting day) (day.batch.base + suc k) i reply ≡ row =
    sym (subst (λ n. row ≡ row_of (setting day) n i reply) same made) in
    let back : suc k - 1 ≡ k = omega arith in
    ap (option_map run) (sym (ap (slice_get day.batch.instructions) back) ∙ at)
    ∙ ap (λ (p : State × Reply). Some (p.0, row_of (setting day) (day.batch.base + suc k) i p.1)) stepped
    ∙ ap (λ (r : LogRow). Some (results, r)) rowed

module _ {N : Type 0} {b : Ghosts N} (day : DayValue) (named : b.day ≡ Some day) (values : ValueIsLastTouchers)
    (place : ℕ) where
  -- parcels with the names that are needed have the values before the place
  pub own_agrees : (accounts : List ℕ) (ps : List (Parcel N b)) → names_of ps ≡ before_place day place accounts
      → AgreeAt (state_at day (place - 1)) accounts (values_of ps)
  own_agrees [] [] e c = refl
  own_agrees [] (p ∷ ps) e c = absurd cc
  own_agrees (a ∷ more) [] e c = absurd cc
  own_agrees (a ∷ more) (p ∷ ps) e c = by (eqb a c) refl (own_agrees more ps tail c) where
    head : ◌≡◌ {A = ℕ × ℕ} (p.value.number, p.after)
        (a, last_toucher (directory day) day.batch.instructions a (place - 1))
    head = cc

    tail : names_of ps ≡ before_place day place more
    tail = cc

    number : p.value.number ≡ a
    number = ap (λ (n : ℕ × ℕ). n.0) head

    after : p.after ≡ last_toucher (directory day) day.batch.instructions a (place - 1)
    after = ap (λ (n : ℕ × ℕ). n.1) head

    here : account (state_at day (place - 1)) a ≡ Some p.value
    here = values day a (place - 1) ∙ ap (value_at day a) (sym after) ∙ ap (λ n. value_at day n p.after) (sym number)
        ∙ p.right day named

    by : (d : Bool) → eqb a c ≡ d
        → account (values_of ps) c ≡ cond (is_among more c) (account (state_at day (place - 1)) c) None
        → cond (eqb p.value.number c) (Some p.value) (account (values_of ps) c)
        ≡ cond (d || is_among more c) (account (state_at day (place - 1)) c) None
    by true same rest = ap (λ n. cond (eqb n c) (Some p.value) (account (values_of ps) c)) number
        ∙ ap (λ d. cond d (Some p.value) (account (values_of ps) c)) same
        ∙ sym here ∙ ap (account (state_at day (place - 1))) (eqb-true a c same)
    by false other rest = ap (λ n. cond (eqb n c) (Some p.value) (account (values_of ps) c)) number
        ∙ ap (λ d. cond d (Some p.value) (account (values_of ps) c)) other ∙ rest

module _ {N : Type 0} {b : Ghosts N} where
  pub parcels_right : (ps : List (Parcel N b)) → AreValues b.day (values_of ps) (afters_of ps)
  parcels_right [] = tt
  parcels_right (p ∷ ps) = (p.right, parcels_right ps)

  pub same_names : (xs ys : List (Parcel N b)) → values_of xs ≡ values_of ys → afters_of xs ≡ afters_of ys
      → names_of xs ≡ names_of ys
  same_names [] [] e f = refl
  same_names [] (y ∷ ys) e f = absurd cc
  same_names (x ∷ xs) [] e f = absurd cc
  same_names (x ∷ xs) (y ∷ ys) e f =
      let value : x.value ≡ y.value = cc in
      let after : x.after ≡ y.after = cc in
      let more_values : values_of xs ≡ values_of ys = cc in
      let more_afters : afters_of xs ≡ afters_of ys = cc in
      ap (λ (v : AccountValue). (v.number, x.after) ∷ names_of xs) value
      ∙ ap (λ t. (y.value.number, t) ∷ names_of xs) after
      ∙ ap (λ ns. (y.value.number, y.after) ∷ ns) (same_names xs ys more_values more_afters)

  pub names_after : (ps : List (Parcel N b)) (place : ℕ) → afters_of ps ≡ map (λ v. place) (values_of ps)
      → names_of ps ≡ map (λ a. (a, place)) (numbers (values_of ps))
  names_after [] place e = refl
  names_after (p ∷ ps) place e =
      let after : p.after ≡ place = cc in
      let more : afters_of ps ≡ map (λ v. place) (values_of ps) = cc in
      ap (λ t. (p.value.number, t) ∷ names_of ps) after
      ∙ ap (λ ns. (p.value.number, place) ∷ ns) (names_after ps place more)

  pub ran_named : StepLaws → EachIsAStep → ValueIsLastTouchers
      → (D : DayValue) (place : ℕ) (ps : List (Parcel N b)) (results : State) (row : LogRow)
      → ((d : DayValue) → b.day ≡ Some d → D ≡ d) → AreComplete b.day place (names_of ps)
      → run_at D place (values_of ps) ≡ Some (results, row)
      → (d : DayValue) → b.day ≡ Some d → IsRight d place (values_of ps) results row
  ran_named laws each vals D zero ps results row named complete ran d e = absurd (omega (arith, (complete d e).low))
  ran_named laws each vals D (suc n) ps results row named complete ran d e =
      let needed : AreNeeded d (suc n) (names_of ps) = complete d e in
      let run : run_at d (suc n) (values_of ps) ≡ Some (results, row) =
      subst (λ (x : DayValue). run_at x (suc n) (values_of ps) ≡ Some (results, row)) (named d e) ran in
      let minus : suc n - 1 ≡ n = omega arith in
      let agree : AgreeAt (state_at d n) (footprint_at d (suc n)) (values_of ps) =
      subst (λ m. AgreeAt (state_at d m) (footprint_at d (suc n)) (values_of ps)) minus
      (own_agrees d e vals (suc n) (footprint_at d (suc n)) ps needed.names_are) in
      elim (slice_get_cases d.batch.instructions n).1 [
        | inl within ↦ ran_right laws each d n within.0 (values_of ps) results row within.2 agree run
        | inr past ↦ absurd (omega (arith, past.0, needed.high))
      ]

pub each_right : (name : Option DayValue) (place : ℕ) (own results : State) (row : LogRow) → EachFootprintIsSound
    → ((d : DayValue) → name ≡ Some d → IsRight d place own results row)
    → ((d : DayValue) → name ≡ Some d → numbers own ≡ footprint_at d place)
    → AllByRecursion (λ v. IsValue name v place) results
each_right name place own results row sound right touched =
    go results (λ d e. results_right d place own results row sound (right d e) (touched d e)) where
      go : (vs : State) → ((d : DayValue) → name ≡ Some d → AllByRecursion (λ v. value_at d v.number place ≡ Some v) vs)
          → AllByRecursion (λ v. IsValue name v place) vs
      go [] all = tt
      go (v ∷ vs) all = ((λ d e. (all d e).0), go vs (λ d e. (all d e).1))
