-- A closed account over a day.
use Rattle.std.proofs.Common.{◌≡◌, ℕ, zero, suc, ◌+◌, ◌≤◌, Bool, true, false, List, [], ◌∷◌, take, Some, refl, ap, ◌∙◌}
use Rattle.std.proofs.Common.{arith}
use Rattle.std.specs.Prelude.{nat_le}
use Rattle.std.specs.Option.{option_map}
use Rattle.reg_base.specs.declared.kinds.Status.TheVariants.{Closed}
use Rattle.reg_base.specs.declared.instruction.Instruction.{Instruction}
use Rattle.reg_account.specs.Account.{AccountValue}
use Rattle.reg_rules.specs.State.{State, Setting, account, status}
use Rattle.reg_rules.specs.Step.{step}
use Rattle.reg_rules.specs.Closed.{ClosedStaysInStep as StepKeepsClosed}
use Rattle.reg_book.specs.Fold.{state_after}
use Rattle.reg_book.specs.Day.{setting, state_at, value_at}
use Rattle.reg_book.specs.Laws.{ClosedStays, ClosedIsNeverLeft}

module _ (keeps : StepKeepsClosed) where
  -- the instruction after k others leaves it, if there is one
  one-more : (c : Setting) (s : State) (n : ℕ) (is : List Instruction) (a k : ℕ)
      → status (state_after c s n (take k is)) a ≡ Some Closed
      → account (state_after c s n (take (suc k) is)) a ≡ account (state_after c s n (take k is)) a
  one-more c s n [] a zero closed = refl
  one-more c s n [] a (suc k) closed = refl
  one-more c s n (i ∷ is) a zero closed = keeps c s n i a closed
  one-more c s n (i ∷ is) a (suc k) closed = one-more c (step c s n i).0 (n + 1) is a k closed

  pub closed-stays : ClosedStays
  closed-stays day a i zero le closed = let same : zero ≡ i = omega (arith, le) in ap (value_at day a) same
  closed-stays day a i (suc k) le closed = go (nat_le i k) refl (closed-stays day a i k) where
    go : (b : Bool) → nat_le i k ≡ b
        → (i ≤ k → status (state_at day i) a ≡ Some Closed → value_at day a k ≡ value_at day a i)
        → value_at day a (suc k) ≡ value_at day a i
    go true before more =
        let kept = more (grind (arith, before)) closed in
        one-more (setting day) day.book.accounts (day.batch.base + 1) day.batch.instructions a k
        (ap (option_map (λ (v : AccountValue). v.status)) kept ∙ closed) ∙ kept
    go false at more = let same : suc k ≡ i = grind (arith, at, le) in ap (value_at day a) same

  pub closed-never_left : ClosedIsNeverLeft
  closed-never_left day a i j le closed =
      ap (option_map (λ (v : AccountValue). v.status)) (closed-stays day a i j le closed) ∙ closed
