-- The accounts that each of some instructions reads or changes.
use Rattle.std.specs.Prelude.{ℕ, List, map}
use Rattle.reg_base.specs.declared.instruction.Instruction.{Instruction}
use Rattle.reg_base.specs.Directory.{DirectoryValue}
use Rattle.reg_base.specs.Footprint.{footprint}

-- the footprint of each instruction, in their order
abbrev pub footprints : DirectoryValue → List Instruction → List (List ℕ)
footprints directory is = map (λ i. footprint directory i.act) is
