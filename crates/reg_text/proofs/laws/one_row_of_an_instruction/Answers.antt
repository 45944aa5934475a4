use Rattle.reg_text.proofs.SingleRows.{one-instruction}
use Rattle.reg_text.proofs.laws.one_row_of_an_instruction.Goals as goal

pub returns : goal.returns
returns c = one-instruction
