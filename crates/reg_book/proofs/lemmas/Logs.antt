-- How many log rows and replies there are.
use Rattle.std.proofs.Common.{◌≡◌, ℕ, suc, ◌+◌, List, [], ◌∷◌, length, refl, ap}
use Rattle.reg_base.specs.declared.instruction.Instruction.{Instruction}
use Rattle.reg_rules.specs.State.{State, Setting}
use Rattle.reg_rules.specs.Step.{step}
use Rattle.reg_book.specs.Fold.{rows_of, replies_in}

pub length-rows_of : (c : Setting) (s : State) (n : ℕ) (is : List Instruction)
    → length (rows_of c s n is) ≡ length is
length-rows_of c s n [] = refl
length-rows_of c s n (i ∷ is) = ap suc (length-rows_of c (step c s n i).0 (n + 1) is)

-- there is a reply to each instruction
pub length-replies_of : (c : Setting) (s : State) (n : ℕ) (is : List Instruction)
    → length (replies_in (rows_of c s n is))
    ≡ length is
length-replies_of c s n [] = refl
length-replies_of c s n (i ∷ is) = ap suc (length-replies_of c (step c s n i).0 (n + 1) is)
