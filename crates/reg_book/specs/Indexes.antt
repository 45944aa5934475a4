-- Indexes among accounts, counted from 0. Private functions alone are stated in these.
use Rattle.std.specs.Prelude.{◌≡◌, ℕ, ◌<◌, List, map, length}
use Rattle.std.specs.List.{AllByRecursion}
use Rattle.arrayvec.specs.ArrayVec.{ArrayVec}
use Rattle.reg_base.specs.declared.instruction.Instruction.{Instruction}
use Rattle.reg_base.specs.Directory.{DirectoryValue}
use Rattle.reg_base.specs.Footprints.{footprints}
pub use Rattle.reg_rules.specs.Indexed.{each_at, StandAt}

-- the indexes of each instruction
abbrev pub index_lists : List (ArrayVec ℕ) → List (List ℕ)
index_lists indexes = map (λ p. p.items) indexes

-- for each instruction the indexes at which the accounts that it touches stand
pub record AllStandAt (directory : DirectoryValue) (ns : List ℕ) (indexes : List (List ℕ))
    (is : List Instruction) : Type 0 where
  pub within : AllByRecursion (AllByRecursion (λ p. p < length ns)) indexes
  pub are_there : map (each_at ns) indexes ≡ footprints directory is
