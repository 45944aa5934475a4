-- The room of docks, after one of them has changed and after one more; and how many accounts a run gives.
use Rattle.std.proofs.Common.{◌≡◌, ℕ, zero, suc, ◌+◌, ◌-◌, ◌<◌, ◌≤◌, inl, inr, ◌⊎◌, List, [], ◌∷◌, ◌++◌, length, get_or}
use Rattle.std.proofs.Common.{Option, Some, None, arith, refl, sym, ap, subst, ◌∙◌}
use Rattle.std.specs.Prelude.{slice_get, slice_set, IfSome, vec_capacity}
use Rattle.std.specs.Option.{option_map}
use Rattle.std.specs.declared.vec.Vec.{Vec}
use Rattle.std.proofs.Common.{Global}
use Rattle.std.proofs.lemmas.List.{length-map}
use Rattle.std.proofs.lemmas.Option.{same_Some, slice_get-get_or}
use Rattle.reg_base.specs.declared.instruction.Instruction.{Instruction}
use Rattle.reg_base.specs.declared.refusals.Refusal.{Refusal}
use Rattle.reg_rules.specs.declared.reply.LogRow.{LogRow}
use Rattle.reg_rules.specs.State.{State}
use Rattle.reg_rules.specs.Checks.{refusal}
use Rattle.reg_rules.specs.Step.{step, step_by, row_of}
use Rattle.reg_book.specs.Day.{DayValue, setting}
use Rattle.reg_schedules.specs.Pool.{footprint_at, run_at}
use Rattle.reg_tasks.specs.declared.naming.Naming.{Ghosts}
use Rattle.reg_tasks.specs.declared.parcel.Parcel.{Parcel}
use Rattle.reg_tasks.specs.Parcels.{values_of}
use Rattle.reg_graph.specs.WorldParts.{DocksHaveRoom}

-- what stands in a list with another item at one index, and in one with one more item
at-set : {X : Type 0} (xs : List X) (k j : ℕ) (y z : X) → slice_get (slice_set xs k y) j ≡ Some z → ((y ≡ z) × (j ≡ k))
    ⊎ (slice_get xs j ≡ Some z)
at-set [] k j y z e = inr e
at-set (x ∷ xs) zero zero y z e = inl (same_Some y z e, refl)
at-set (x ∷ xs) zero (suc j) y z e = inr e
at-set (x ∷ xs) (suc k) zero y z e = inr e
at-set (x ∷ xs) (suc k) (suc j) y z e = by (at-set xs k j y z e)
  where
    by : ((y ≡ z) × (j ≡ k)) ⊎ (slice_get xs j ≡ Some z) → ((y ≡ z) × (suc j ≡ suc k)) ⊎ (slice_get xs j ≡ Some z)
    by (inl (same, here)) = inl (same, ap suc here)
    by (inr there) = inr there

at-more : {X : Type 0} (xs : List X) (j : ℕ) (y z : X) → slice_get (xs ++ y ∷ []) j ≡ Some z
    → ((y ≡ z) × (j ≡ length xs)) ⊎ (slice_get xs j ≡ Some z)
at-more [] zero y z e = inl (same_Some y z e, refl)
at-more [] (suc j) y z e = absurd cc
at-more (x ∷ xs) zero y z e = inr e
at-more (x ∷ xs) (suc j) y z e = by (at-more xs j y z e)
  where
    by : ((y ≡ z) × (j ≡ length xs)) ⊎ (slice_get xs j ≡ Some z) → ((y ≡ z) × (suc j ≡ suc (length xs)))
        ⊎ (slice_get xs j ≡ Some z)
    by (inl (same, here)) = inl (same, ap suc here)
    by (inr there) = inr there

module _ {N : Type 0} {b : Ghosts N} where
  -- what is read of a dock
  pub room-at : (day : DayValue) (docks : List (Option (Vec (Parcel N b) Global))) (place : ℕ)
      (dock : Option (Vec (Parcel N b) Global)) → 1 ≤ place → place - 1 < length docks
      → dock ≡ get_or docks (place - 1) dock → DocksHaveRoom day docks
      → IfSome dock (λ came. vec_capacity came ≡ length (footprint_at day place))
  room-at day docks zero dock low lt is rooms = absurd (omega (arith, low))
  room-at day docks (suc j) dock low lt is rooms =
      by dock (slice_get-get_or docks (suc j - 1) dock lt ∙ ap Some (sym is))
    where
      back : suc j - 1 ≡ j
      back = omega arith

      by : (d : Option (Vec (Parcel N b) Global)) → slice_get docks (suc j - 1) ≡ Some d
          → IfSome d (λ came. vec_capacity came ≡ length (footprint_at day (suc j)))
      by None e = tt
      by (Some came) e = rooms (suc j) came (ap (slice_get docks) (sym back) ∙ e)

  -- the task of a dock has gone out
  pub room-gone : (day : DayValue) (docks : List (Option (Vec (Parcel N b) Global))) (k : ℕ) → DocksHaveRoom day docks
      → DocksHaveRoom day (slice_set docks k None)
  room-gone day docks k rooms zero came e = absurd cc
  room-gone day docks k rooms (suc j) came e = by (at-set docks k j None (Some came) e)
    where
      by : ((None ≡ Some came) × (j ≡ k)) ⊎ (slice_get docks j ≡ Some (Some came))
          → vec_capacity came ≡ length (footprint_at day (suc j))
      by (inl (same, here)) = absurd cc
      by (inr there) = rooms (suc j) came there

  -- a dock with room was put there
  pub room-there : (day : DayValue) (docks : List (Option (Vec (Parcel N b) Global))) (place : ℕ)
      (now : Vec (Parcel N b) Global) → 1 ≤ place
      → DocksHaveRoom day docks → vec_capacity now ≡ length (footprint_at day place)
      → DocksHaveRoom day (slice_set docks (place - 1) (Some now))
  room-there day docks place now low rooms room zero came e = absurd cc
  room-there day docks place now low rooms room (suc j) came e =
      by (at-set docks (place - 1) j (Some now) (Some came) e)
    where
      by : ((Some now ≡ Some came) × (j ≡ place - 1)) ⊎ (slice_get docks j ≡ Some (Some came))
          → vec_capacity came ≡ length (footprint_at day (suc j))
      by (inl (same, here)) =
          let is : place ≡ suc j = omega (arith, low, here) in
          ap vec_capacity (sym (same_Some now came same)) ∙ room ∙ ap (λ p. length (footprint_at day p)) is
      by (inr there) = rooms (suc j) came there

  -- the dock of the next place was added
  pub room-more : (day : DayValue) (docks : List (Option (Vec (Parcel N b) Global))) (place : ℕ)
      (dock : Option (Vec (Parcel N b) Global)) → length docks + 1 ≡ place
      → DocksHaveRoom day docks → IfSome dock (λ came. vec_capacity came ≡ length (footprint_at day place))
      → DocksHaveRoom day (docks ++ dock ∷ [])
  room-more day docks place dock next rooms room zero came e = absurd cc
  room-more day docks place dock next rooms room (suc j) came e = by (at-more docks j dock (Some came) e)
    where
      by : ((dock ≡ Some came) × (j ≡ length docks)) ⊎ (slice_get docks j ≡ Some (Some came))
          → vec_capacity came ≡ length (footprint_at day (suc j))
      by (inl (same, here)) =
          let is : place ≡ suc j = omega (arith, next, here) in
          subst (λ d. IfSome d (λ came. vec_capacity came ≡ length (footprint_at day place))) same room
          ∙ ap (λ p. length (footprint_at day p)) is
      by (inr there) = rooms (suc j) came there

-- a run gives as many accounts as it takes
run-many : (day : DayValue) (place : ℕ) (own : State) (made : State × LogRow) → run_at day place own ≡ Some made
    → length made.0 ≡ length own
run-many day zero own made e = absurd cc
run-many day (suc k) own made e = by (slice_get day.batch.instructions k) e
  where
    of : (i : Instruction) (q : Option Refusal) → length (step_by (setting day) own (day.batch.base + suc k) i q).0
        ≡ length own
    of i None = length-map own _
    of i (Some q) = refl

    by : (o : Option Instruction)
        → option_map (λ i. let one = step (setting day) own (day.batch.base + suc k) i in
        (one.0, row_of (setting day) (day.batch.base + suc k) i one.1)) o ≡ Some made
        → length made.0 ≡ length own
    by None f = absurd cc
    by (Some i) f =
        let one = step (setting day) own (day.batch.base + suc k) i in
        sym (ap (λ m. length m.0) (same_Some (one.0, row_of (setting day) (day.batch.base + suc k) i one.1) made f))
        ∙ of i (refusal (setting day) own i)

module _ {N : Type 0} {b : Ghosts N} where
  pub as-many : (day : DayValue) (place : ℕ) (own out : List (Parcel N b)) (row : LogRow)
      → run_at day place (values_of own) ≡ Some (values_of out, row) → length out ≡ length own
  as-many day place own out row e = sym (length-map out _) ∙ run-many day place (values_of own) (values_of out, row) e
      ∙ length-map own _
