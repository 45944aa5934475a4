-- The accounts that an instruction touches are in the book, and stay there.
use Rattle.std.proofs.Common.{◌≡◌, ℕ, zero, suc, ◌-◌, true, false, eqb, []}
use Rattle.std.proofs.Common.{Option, Some, None, refl, sym, ap, ◌∙◌}
use Rattle.std.specs.Prelude.{is_some, slice_get}
use Rattle.std.specs.List.{IsDistinct}
use Rattle.std.specs.Option.{option_map_or}
use Rattle.std.proofs.lemmas.List.Elements.{recursion_from_All}
use Rattle.reg_base.specs.declared.instruction.Instruction.{Instruction}
use Rattle.reg_base.specs.Directory.{is_known}
use Rattle.reg_base.specs.Footprint.{footprint, is_among, EachFootprintIsSound}
use Rattle.reg_base.specs.Touches.{touches, is_touched}
use Rattle.reg_base.proofs.lemmas.Among.{at_among}
use Rattle.reg_plan.specs.Arrows.{touches_place}
use Rattle.reg_rules.specs.State.{account}
use Rattle.reg_rules.proofs.lemmas.Accounts.{found-among}
use Rattle.reg_book.specs.Day.{DayValue, state_at}
use Rattle.reg_book.specs.Laws.{NumbersStay}
use Rattle.reg_book.proofs.lemmas.Listings.{known-is_some}
use Rattle.reg_schedules.specs.Pool.{directory, footprint_at}
use Rattle.reg_schedules.proofs.lemmas.Tails.{touched_somewhere}

-- the footprint has the accounts that are touched
pub footprint_touches : (day : DayValue) (place a : ℕ) → is_among (footprint_at day place) a
    ≡ touches_place (directory day) day.batch.instructions a place
footprint_touches day zero a = refl
footprint_touches day (suc k) a = by (slice_get day.batch.instructions k) where
  by : (o : Option Instruction) → is_among (option_map_or (λ i. footprint (directory day) i.act) o []) a
      ≡ option_map_or (λ i. touches (directory day) i a) o false
  by None = refl
  by (Some i) = refl

pub touched_known : EachFootprintIsSound → (day : DayValue) (place a : ℕ)
    → touches_place (directory day) day.batch.instructions a place ≡ true → is_some (account day.book.accounts a) ≡ true
touched_known sound day place a on =
    sym (known-is_some day.book.accounts a) ∙ known place (footprint_touches day place a ∙ on) where
      of : (o : Option Instruction) → is_among (option_map_or (λ i. footprint (directory day) i.act) o []) a ≡ true
          → is_known (directory day) a ≡ true
      of None e = absurd cc
      of (Some i) e =
          at_among (λ b. is_known (directory day) b ≡ true) (footprint (directory day) i.act) a
          (recursion_from_All (λ b. is_known (directory day) b ≡ true) (footprint (directory day) i.act)
          (sound (directory day) i.act).known) e

      known : (p : ℕ) → is_among (footprint_at day p) a ≡ true → is_known (directory day) a ≡ true
      known zero e = absurd cc
      known (suc k) e = of (slice_get day.batch.instructions k) e

-- no account comes or goes
pub stays_known : NumbersStay → (day : DayValue) (j a : ℕ) → is_some (account (state_at day j) a)
    ≡ is_some (account day.book.accounts a)
stays_known stay day j a =
    found-among (state_at day j) a ∙ ap (λ ns. is_among ns a) (stay day j) ∙ sym (found-among day.book.accounts a)

-- an account that some instruction touches is in the book
pub touched_account : EachFootprintIsSound → (day : DayValue) (a : ℕ)
    → is_touched (directory day) day.batch.instructions a
    ≡ true → is_some (account day.book.accounts a) ≡ true
touched_account sound day a touched =
    let (n, lt, on) = touched_somewhere (directory day) day.batch.instructions a touched in
    touched_known sound day (suc n) a on

-- no footprint has an account twice
pub footprint_distinct : EachFootprintIsSound → (day : DayValue) (place : ℕ) → IsDistinct eqb (footprint_at day place)
unfolding IsDistinct
footprint_distinct sound day zero = tt
footprint_distinct sound day (suc k) = by (slice_get day.batch.instructions k) where
  by : (o : Option Instruction)
      → IsDistinct eqb (option_map_or (λ (x : Instruction). footprint (directory day) x.act) o [])
  by None = tt
  by (Some i) = (sound (directory day) i.act).once
