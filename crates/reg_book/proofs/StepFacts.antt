-- The laws of a step, in the form that recursions over the touched accounts use.
use Rattle.std.proofs.Common.{◌≡◌, ℕ, eqb, sym, subst}
use Rattle.std.specs.List.{IsDistinct, AllByRecursion}
use Rattle.std.proofs.lemmas.List.Elements.{All-from_recursion}
use Rattle.reg_base.specs.declared.instruction.Instruction.{Instruction}
use Rattle.reg_base.specs.Footprint.{footprint}
use Rattle.reg_base.proofs.lemmas.Among.{all_among}
use Rattle.reg_rules.specs.State.{State, Setting, account, numbers}
use Rattle.reg_rules.specs.Step.{step}
use Rattle.reg_rules.specs.Laws.{StepLaws}

module _ (laws : StepLaws) where
  pub reply-local : (c : Setting) (s t : State) (n : ℕ) (i : Instruction)
      → AllByRecursion (λ a. account s a ≡ account t a) (footprint c.directory i.act)
      → (step c s n i).1 ≡ (step c t n i).1
  reply-local c s t n i same =
      (laws.local c s t n i (All-from_recursion (λ a. account s a ≡ account t a) (footprint c.directory i.act) same)).0

  pub after-local : (c : Setting) (s t : State) (n : ℕ) (i : Instruction)
      → AllByRecursion (λ a. account s a ≡ account t a) (footprint c.directory i.act)
      → (a : ℕ) → account s a ≡ account t a → account (step c s n i).0 a ≡ account (step c t n i).0 a
  after-local c s t n i same =
      (laws.local c s t n i (All-from_recursion (λ a. account s a ≡ account t a) (footprint c.directory i.act) same)).1

  -- states with the same numbers and the same accounts are one
  pub one-state : (s t : State) → IsDistinct eqb (numbers s) → numbers s ≡ numbers t
      → AllByRecursion (λ a. account s a ≡ account t a) (numbers s) → s ≡ t
  one-state s t distinct same agree =
      laws.same_state s t distinct same (All-from_recursion (λ a. account s a ≡ account t a) (numbers s) agree)

  -- states with the same numbers and the same accounts are one
  pub same-state : (s t : State) → IsDistinct eqb (numbers t) → numbers s ≡ numbers t
      → ((a : ℕ) → account s a ≡ account t a) → s ≡ t
  same-state s t distinct same agree =
      one-state s t (subst (IsDistinct eqb) (sym same) distinct) same
      (all_among (λ a. account s a ≡ account t a) (numbers s) (λ a _. agree a))
