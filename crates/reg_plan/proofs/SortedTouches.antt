-- What proofs say of touches: those of instructions, whether two are one, and how they are sorted.
use Rattle.std.specs.Prelude.{ℕ, Bool, ◌&&◌, ◌==◌, List}
use Rattle.std.specs.List.Sorted.{IsPermutation, IsSorted}
use Rattle.reg_base.specs.declared.instruction.Instruction.{Instruction}
use Rattle.reg_base.specs.Directory.{DirectoryValue}
use Rattle.reg_base.specs.Footprints.{footprints}
use Rattle.reg_plan.specs.declared.arrow.Touch.{Touch}
use Rattle.reg_plan.specs.TouchList.{touches_of, touch_cmp}

-- the touches of these instructions, the first of which stands at this place
abbrev pub touches_from : DirectoryValue → ℕ → List Instruction → List Touch
touches_from directory place is = touches_of place (footprints directory is)

-- the two touches are one
abbrev pub same_touch : Touch → Touch → Bool
same_touch x y = (x.account == y.account) && (x.place == y.place)

-- these are the touches of the accounts of each instruction, sorted by account and place
pub record AreTouches (lists : List (List ℕ)) (touches : List Touch) : Type 0 where
  pub each : IsPermutation (touches_of 1 lists) touches
  pub sorted : IsSorted touch_cmp touches
