-- A plan as plain data: arrows, openings, levels and touched accounts, and what holds of them.
use Rattle.std.specs.Prelude.{◌≡◌, ℕ, ◌+◌, ◌-◌, ◌<◌, ◌≤◌, ◌==◌, max, List, [], ◌∷◌, length, slice_index, map, filter}
use Rattle.std.specs.Prelude.{Contains, All, ◌↔◌}
use Rattle.std.specs.List.Sorted.{IsNonDecreasingBy}
use Rattle.reg_base.specs.declared.limits.TheConstants.{MOST_INSTRUCTIONS}
use Rattle.reg_base.specs.declared.instruction.Instruction.{Instruction}
use Rattle.reg_base.specs.Directory.{DirectoryValue}
use Rattle.reg_base.specs.Rising.{IsRising}
use Rattle.reg_plan.specs.declared.arrow.Arrow.{Arrow}
use Rattle.reg_plan.specs.declared.arrow.Opening.{Opening}
use Rattle.reg_plan.specs.Arrows.{IsOpening, AreArrows}
use Rattle.reg_base.specs.Footprints.{footprints}
use Rattle.reg_plan.specs.Touched.{AreFew}

-- the arrows in the order of head, tail and account; the openings; the level of each place; the accounts that the
-- instruction at each place touches
pub record PlanValue : Type 0 where
  pub arrows : List Arrow
  pub openings : List Opening
  pub levels : List ℕ
  pub footprints : List (List ℕ)

-- the arrows that lead to this place
abbrev pub inward : List Arrow → ℕ → List Arrow
inward arrows place = filter (λ arrow. arrow.to == place) arrows

-- the arrows that lead from this place
abbrev pub outward : List Arrow → ℕ → List Arrow
outward arrows place = filter (λ arrow. arrow.from == place) arrows

-- the level of a place, counted from 1
abbrev pub level_at : List ℕ → ℕ → ℕ
level_at levels place = slice_index levels (place - 1)

-- the greatest level of a tail, 0 without an arrow
abbrev pub greatest_tail : List ℕ → List Arrow → ℕ
greatest_tail levels [] = 0
greatest_tail levels (arrow ∷ arrows) = max (level_at levels arrow.from) (greatest_tail levels arrows)

-- each place has the level 1 without an inward arrow, else 1 more than the greatest level of a tail
abbrev pub AreLevels : List Arrow → List ℕ → Type 0
AreLevels arrows levels = (place : ℕ) → 1 ≤ place → place ≤ length levels
    → level_at levels place ≡ 1 + greatest_tail levels (inward arrows place)

-- the arrow leads forward between two of so many places
pub record IsBetween (places : ℕ) (arrow : Arrow) : Type 0 where
  pub from_one : 1 ≤ arrow.from
  pub forward : arrow.from < arrow.to
  pub within : arrow.to ≤ places

-- what a plan keeps: its arrows once by head and once by tail, each between two of its places, and few accounts for
-- each place
pub record IsKept (arrows by_tail : List Arrow) (levels : List ℕ) (lists : List (List ℕ)) : Type 0 where
  pub by_head : IsNonDecreasingBy (λ arrow. arrow.to) arrows
  pub tails : IsNonDecreasingBy (λ arrow. arrow.from) by_tail
  pub same : (place : ℕ) → outward by_tail place ≡ outward arrows place
  pub between : All (IsBetween (length levels)) arrows
  pub few : length levels ≤ MOST_INSTRUCTIONS
  pub places : length lists ≡ length levels
  pub few_each : AreFew lists

-- these are the openings of the batch, one for each touched account, by rising account
pub record AreOpenings (directory : DirectoryValue) (is : List Instruction) (openings : List Opening) : Type 0 where
  pub exactly : (opening : Opening) → Contains openings opening ↔ IsOpening directory is opening
  pub rising : IsRising (map (λ opening. opening.account) openings)

-- the plan of these instructions
pub record IsPlan (directory : DirectoryValue) (is : List Instruction) (plan : PlanValue) : Type 0 where
  pub arrows : AreArrows directory is plan.arrows
  pub openings : AreOpenings directory is plan.openings
  pub places : length plan.levels ≡ length is
  pub levels : AreLevels plan.arrows plan.levels
  pub footprints : plan.footprints ≡ footprints directory is
