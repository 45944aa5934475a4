-- The accounts that are kept for each place are those that its instruction touches.
use Rattle.std.proofs.Common.{◌≡◌, ℕ, zero, suc, ◌-◌, ◌≤◌, List, [], ◌∷◌, get_or, refl, ap, ◌∙◌, arith}
use Rattle.std.specs.Prelude.{slice_get}
use Rattle.std.specs.Option.{option_map_or}
use Rattle.reg_base.specs.declared.instruction.Instruction.{Instruction}
use Rattle.reg_base.specs.Directory.{DirectoryValue}
use Rattle.reg_base.specs.Footprint.{footprint}
use Rattle.reg_base.specs.Footprints.{footprints}
use Rattle.reg_book.specs.Day.{DayValue}
use Rattle.reg_schedules.specs.Pool.{directory, footprint_at}

kept_from : (d : DirectoryValue) (is : List Instruction) (k : ℕ)
    → get_or (footprints d is) k [] ≡ option_map_or (λ i. footprint d i.act) (slice_get is k) []
kept_from d [] k = refl
kept_from d (i ∷ is) zero = refl
kept_from d (i ∷ is) (suc k) = kept_from d is k

pub kept_at : (day : DayValue) (place : ℕ) → 1 ≤ place
    → get_or (footprints (directory day) day.batch.instructions) (place - 1) [] ≡ footprint_at day place
kept_at day zero low = absurd (omega (arith, low))
kept_at day (suc k) low =
    let same : suc k - 1 ≡ k = omega arith in
    ap (λ n. get_or (footprints (directory day) day.batch.instructions) n []) same
    ∙ kept_from (directory day) day.batch.instructions k
