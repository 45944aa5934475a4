-- Carrying out the instructions of a region adds, removes and moves no account.
use Rattle.std.proofs.Common.{◌≡◌, ℕ, zero, suc, ◌+◌, List, [], ◌∷◌, Option, Some, None, refl, ◌∙◌}
use Rattle.std.specs.Prelude.{slice_get}
use Rattle.std.specs.Option.{option_map_or}
use Rattle.reg_base.specs.declared.instruction.Instruction.{Instruction}
use Rattle.reg_base.specs.Batch.{BatchValue}
use Rattle.reg_rules.specs.State.{State, Setting, numbers}
use Rattle.reg_rules.specs.Laws.{StepLaws, after_step}
use Rattle.reg_regions.specs.Regions.{accounts_after, accounts_after_all}

-- one instruction adds, removes and moves no account
pub numbers-one : StepLaws → (c : Setting) (b : BatchValue) (s : State) (place : ℕ)
    → numbers (accounts_after c b s place) ≡ numbers s
numbers-one laws c b s zero = refl
numbers-one laws c b s (suc k) = by (slice_get b.instructions k)
  where
    by : (r : Option Instruction)
        → numbers (option_map_or (λ i. after_step c s (b.base + suc k) i) r s) ≡ numbers s
    by None = refl
    by (Some i) = laws.numbers_stay c s (b.base + suc k) i

pub numbers-all : StepLaws → (c : Setting) (b : BatchValue) (s : State) (places : List ℕ)
    → numbers (accounts_after_all c b s places) ≡ numbers s
numbers-all laws c b s [] = refl
numbers-all laws c b s (place ∷ places) =
    numbers-all laws c b (accounts_after c b s place) places ∙ numbers-one laws c b s place
