-- What is found of instructions, run by run.
use Rattle.std.specs.Prelude.{◌≡◌, ℕ, ◌+◌, List}
use Rattle.std.specs.List.Sorted.{IsPermutation}
use Rattle.reg_base.specs.declared.instruction.Instruction.{Instruction}
use Rattle.reg_base.specs.Directory.{DirectoryValue}
use Rattle.reg_base.specs.Footprints.{footprints}
use Rattle.reg_plan.specs.declared.runs.Found.{Found}
use Rattle.reg_plan.specs.Touched.{AreFew}
use Rattle.reg_plan.specs.TouchList.{touches_of}

-- it was found of these instructions, of which the first stands at this place; the touches have any order
pub record IsFound (directory : DirectoryValue) (place : ℕ) (is : List Instruction) (found : Found) : Type 0 where
  pub lists : found.touched ≡ footprints directory is
  pub few : AreFew found.touched
  pub each : IsPermutation (touches_of place found.touched) found.touches.items

-- the same, where the first has this index, counted from 0
abbrev pub IsFoundFrom : DirectoryValue → ℕ → List Instruction → Found → Type 0
IsFoundFrom directory index is found = IsFound directory (index + 1) is found
