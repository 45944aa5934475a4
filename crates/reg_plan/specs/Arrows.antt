-- Arrows and openings: which instruction has to wait for which other, and at which account.
use Rattle.std.specs.Prelude.{◌≡◌, ℕ, ◌<◌, Bool, true, false, ◌&&◌, ◌==◌, List, Contains, ◌↔◌}
use Rattle.std.specs.List.{IsDistinct}
use Rattle.std.specs.List.Sorted.{IsSorted}
use Rattle.std.specs.Ordering.{ordering_then, nat_cmp}
use Rattle.std.specs.declared.cmp.Ordering.{Ordering}
use Rattle.reg_base.specs.declared.instruction.Instruction.{Instruction}
use Rattle.reg_base.specs.Directory.{DirectoryValue}
pub use Rattle.reg_base.specs.Touches.{touches_place}
use Rattle.reg_plan.specs.declared.arrow.Arrow.{Arrow}
use Rattle.reg_plan.specs.declared.arrow.Opening.{Opening}

-- an arrow: from an instruction to a later one, where both touch the account and none between them does
pub record IsArrow (directory : DirectoryValue) (is : List Instruction) (arrow : Arrow) : Type 0 where
  pub forward : arrow.from < arrow.to
  pub tail : touches_place directory is arrow.account arrow.from ≡ true
  pub head : touches_place directory is arrow.account arrow.to ≡ true
  pub none_between : (place : ℕ) → arrow.from < place → place < arrow.to
      → touches_place directory is arrow.account place ≡ false

-- an opening: the first instruction that touches the account
pub record IsOpening (directory : DirectoryValue) (is : List Instruction) (opening : Opening) : Type 0 where
  pub toucher : touches_place directory is opening.account opening.first ≡ true
  pub none_before : (place : ℕ) → place < opening.first → touches_place directory is opening.account place ≡ false

-- the order of arrows: by head, then tail, then account
abbrev pub arrow_order : Arrow → Arrow → Ordering
arrow_order x y = ordering_then (nat_cmp x.to y.to)
    (ordering_then (nat_cmp x.from y.from) (nat_cmp x.account y.account))

-- the two arrows are one
abbrev pub same_arrow : Arrow → Arrow → Bool
same_arrow x y = (x.account == y.account) && ((x.from == y.from) && (x.to == y.to))

-- these are the arrows of the batch, sorted by head, tail and account, none twice
pub record AreArrows (directory : DirectoryValue) (is : List Instruction) (arrows : List Arrow) : Type 0 where
  pub exactly : (arrow : Arrow) → Contains arrows arrow ↔ IsArrow directory is arrow
  pub sorted : IsSorted arrow_order arrows
  pub once : IsDistinct same_arrow arrows
