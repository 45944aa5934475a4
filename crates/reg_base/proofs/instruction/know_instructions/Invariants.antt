use Rattle.std.proofs.Common.{ℕ, ◌<◌, get_or}
use Rattle.reg_base.specs.declared.instruction.Instruction.{Instruction}
use Rattle.reg_base.specs.Instructions.{IsInstruction}
use Rattle.reg_base.proofs.instruction.know_instructions.Given as goal

abbrev pub invariant-loop-instruction : goal.invariant-loop-instruction
invariant-loop-instruction l =
    (k : ℕ) (d : Instruction) → k < l.instruction-index → IsInstruction (get_or l.instructions k d)
