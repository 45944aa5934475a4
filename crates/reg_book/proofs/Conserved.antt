-- The number of allowances over a day.
use Rattle.std.proofs.Common.{◌≡◌, ℕ, ◌+◌, List, [], ◌∷◌, Option, Some, None, refl, ap, sym, ◌∙◌, arith}
use Rattle.std.specs.List.{AllByRecursion}
use Rattle.std.proofs.lemmas.List.Elements.{recursion_from_All}
use Rattle.reg_base.specs.declared.kinds.AllowanceKind.{AllowanceKind}
use Rattle.reg_base.specs.declared.refusals.Refusal.{Refusal}
use Rattle.reg_base.specs.declared.instruction.Instruction.{Instruction}
use Rattle.reg_base.specs.Instructions.{IsInstruction}
use Rattle.reg_base.specs.Numbers.{IsDayNo}
use Rattle.reg_base.specs.Rules.{AreRules}
use Rattle.reg_rules.specs.State.{State, Setting}
use Rattle.reg_rules.specs.Checks.{refusal}
use Rattle.reg_rules.specs.Step.{step, step_by}
use Rattle.reg_rules.specs.Laws.{StepLaws, IsReady}
use Rattle.reg_rules.specs.Conservation.{number_of, created_by, deleted_by, undeleted_by, StepConserves}
use Rattle.reg_book.specs.Fold.{state_after}
use Rattle.reg_book.specs.Day.{setting}
use Rattle.reg_book.specs.Conservation.{if_accepted, added, FoldConserves}
use Rattle.reg_book.proofs.Days.{closing-all}
use Rattle.reg_book.proofs.Values.{HaveNumbers, first-numbered, others-numbered, numbered-day, ready-book}

module _ (laws : StepLaws) (conserves : StepConserves) where
  -- one instruction, refused or not
  one-step : (c : Setting) (s : State) (n : ℕ) (i : Instruction) (kind : AllowanceKind) → IsReady n s
      → number_of kind (step c s n i).0 + if_accepted (refusal c s i) (deleted_by kind i.act)
      ≡ number_of kind s + if_accepted (refusal c s i) (created_by kind i.act) + if_accepted (refusal c s i)
      (undeleted_by kind s i.act)
  one-step c s n i kind ready = go (refusal c s i) refl where
    go : (r : Option Refusal) → refusal c s i ≡ r
        → number_of kind (step_by c s n i r).0 + if_accepted r (deleted_by kind i.act)
        ≡ number_of kind s + if_accepted r (created_by kind i.act) + if_accepted r (undeleted_by kind s i.act)
    go None none =
        ap (λ r. number_of kind (step_by c s n i r).0 + deleted_by kind i.act) (sym none)
        ∙ conserves c s n i kind ready none
    go (Some q) refused = omega arith

  fold-conserves-from : (c : Setting) (s : State) (n : ℕ) (is : List Instruction) (kind : AllowanceKind)
      → AreRules c.rules → IsDayNo c.day → HaveNumbers n is → AllByRecursion IsInstruction is → IsReady n s
      → number_of kind (state_after c s n is) + added (λ t act. deleted_by kind act) c s n is
      ≡ number_of kind s + added (λ t act. created_by kind act) c s n is + added (undeleted_by kind) c s n is
  fold-conserves-from c s n [] kind rules day numbered all ready = omega arith
  fold-conserves-from c s n (i ∷ is) kind rules day numbered all ready =
      let one = one-step c s n i kind ready in
      let more = fold-conserves-from c (step c s n i).0 (n + 1) is kind rules day
      (others-numbered n i is numbered) all.1
      (laws.stays_ready c s n i rules day (first-numbered n i is numbered) all.0 ready) in
      omega (arith, one, more)

  pub fold-conserves : FoldConserves
  fold-conserves day kept kind =
      ap (λ (s : State). number_of kind s + added (λ t act. deleted_by kind act) (setting day) day.book.accounts
      (day.batch.base + 1) day.batch.instructions) (closing-all day)
      ∙ fold-conserves-from (setting day) day.book.accounts (day.batch.base + 1) day.batch.instructions kind kept.rules
      kept.batch.settlement_day (numbered-day day kept)
      (recursion_from_All IsInstruction day.batch.instructions kept.batch.each) (ready-book laws day kept)
