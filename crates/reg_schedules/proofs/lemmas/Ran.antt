-- What the run of an instruction on the values before it gives.
use Rattle.std.proofs.Common.{◌≡◌, ℕ, suc, ◌+◌, true, cond, eqb, List, [], ◌∷◌, Some, None, sym, ap, subst}
use Rattle.std.proofs.Common.{◌∙◌}
use Rattle.std.specs.Prelude.{slice_get, is_some}
use Rattle.std.specs.Option.{option_map, option_map_or}
use Rattle.std.specs.List.{IsDistinct, AllByRecursion}
use Rattle.std.proofs.lemmas.Option.{same_Some}
use Rattle.std.proofs.lemmas.List.Elements.{All-from_recursion}
use Rattle.reg_base.specs.declared.instruction.Instruction.{Instruction}
use Rattle.reg_base.specs.Footprint.{footprint, is_among, EachFootprintIsSound}
use Rattle.reg_base.proofs.lemmas.Among.{all_among}
use Rattle.reg_account.specs.Account.{AccountValue}
use Rattle.reg_rules.specs.declared.reply.LogRow.{LogRow}
use Rattle.reg_rules.specs.State.{State, account, numbers}
use Rattle.reg_rules.specs.Step.{step, row_of}
use Rattle.reg_rules.specs.Laws.{StepLaws}
use Rattle.reg_rules.proofs.lemmas.Accounts.{found-by_number, found-among}
use Rattle.reg_book.specs.Day.{DayValue, setting, state_at, value_at, row_at}
use Rattle.reg_book.specs.Laws.{EachIsAStep, IsStepOf}
use Rattle.reg_schedules.specs.Pool.{directory, footprint_at, run_at}
use Rattle.reg_schedules.proofs.lemmas.Known.{footprint_distinct}

-- the accounts agree with those of a state, and there are no others
abbrev pub AgreeAt : State → List ℕ → State → Type 0
AgreeAt t accounts own = (b : ℕ) → account own b ≡ cond (is_among accounts b) (account t b) None

-- what a run on such values gives
pub record IsRight (day : DayValue) (place : ℕ) (own results : State) (row : LogRow) : Type 0 where
  pub row_is : row_at day place ≡ Some row
  pub values : (a : ℕ) → is_among (footprint_at day place) a ≡ true → account results a ≡ value_at day a place
  pub same_numbers : numbers results ≡ numbers own

pub ran_right : StepLaws → EachIsAStep → (day : DayValue) (n : ℕ) (i : Instruction) (own results : State) (row : LogRow)
    → slice_get day.batch.instructions n ≡ Some i
    → AgreeAt (state_at day n) (footprint_at day (suc n)) own → run_at day (suc n) own ≡ Some (results, row)
    → IsRight day (suc n) own results row
ran_right laws each day n i own results row at agree ran =
    let now : IsStepOf day n i = each day n i at in
    let made : (State × LogRow) = (
      (step (setting day) own (day.batch.base + suc n) i).0,
      row_of (setting day) (day.batch.base + suc n) i (step (setting day) own (day.batch.base + suc n) i).1,
    ) in
    let is : (results, row) ≡ made = same_Some (results, row) made (sym ran
    ∙ ap (λ o. option_map (λ (x : Instruction). (
      (step (setting day) own (day.batch.base + suc n) x).0,
      row_of (setting day) (day.batch.base + suc n) x (step (setting day) own (day.batch.base + suc n) x).1,
    )) o)
    at) in
    let results_are : results ≡ (step (setting day) own (day.batch.base + suc n) i).0 =
    ap (λ (m : State × LogRow). m.0) is in
    let row_made : row ≡ row_of (setting day) (day.batch.base + suc n) i
    (step (setting day) own (day.batch.base + suc n) i).1 = ap (λ (m : State × LogRow). m.1) is in
    let print : footprint_at day (suc n) ≡ footprint (directory day) i.act =
    ap (λ o. option_map_or (λ (x : Instruction). footprint (directory day) x.act) o []) at in
    let same : (a : ℕ) → is_among (footprint_at day (suc n)) a ≡ true → account own a ≡ account (state_at day n) a =
    λ a e. agree a ∙ ap (λ b. cond b (account (state_at day n) a) None) e in
    let local = laws.local (setting day) own (state_at day n) (day.batch.base + suc n) i
    (All-from_recursion (λ a. account own a ≡ account (state_at day n) a) (footprint (directory day) i.act)
    (all_among (λ a. account own a ≡ account (state_at day n) a) (footprint (directory day) i.act)
    (λ a e. same a (ap (λ ns. is_among ns a) print ∙ e)))) in
    record {
      row_is = now.row ∙ ap (λ r. Some (row_of (setting day) (day.batch.base + suc n) i r)) (sym local.0)
          ∙ ap Some (sym row_made);
      values = λ a e. ap (λ s. account s a) results_are ∙ local.1 a (same a e) ∙ ap (λ s. account s a) (sym now.state);
      same_numbers = ap numbers results_are ∙ laws.numbers_stay (setting day) own (day.batch.base + suc n) i;
    }

-- each result is the account as the instruction left it
pub results_right : (day : DayValue) (place : ℕ) (own results : State) (row : LogRow) → EachFootprintIsSound
    → IsRight day place own results row → numbers own ≡ footprint_at day place
    → AllByRecursion (λ v. value_at day v.number place ≡ Some v) results
results_right day place own results row sound right touched =
    go results (found-by_number results
    (subst (IsDistinct eqb) (sym (right.same_numbers ∙ touched)) (footprint_distinct sound day place)))
  where
    among : (v : AccountValue) → account results v.number ≡ Some v → is_among (numbers results) v.number ≡ true
    among v e = sym (found-among results v.number) ∙ ap is_some e

    go : (vs : State) → AllByRecursion (λ v. account results v.number ≡ Some v) vs
        → AllByRecursion (λ v. value_at day v.number place ≡ Some v) vs
    go [] all = tt
    go (v ∷ vs) all = (
      sym (right.values v.number (ap (λ ns. is_among ns v.number) (sym (right.same_numbers ∙ touched))
          ∙ among v all.0)) ∙ all.0,
      go vs all.1,
    )
