-- The sums that an account keeps beside its rows.
use Rattle.std.specs.Prelude.{◌≡◌, ℕ, ◌*◌, ◌-◌, ◌≤◌, Bool, ◌&&◌, nat_le, List, length, slice_index}
use Rattle.reg_base.specs.declared.limits.TheConstants.{MOST_PERIODS}
use Rattle.reg_base.specs.Numbers.{IsWithin}
use Rattle.reg_base.specs.declared.kinds.AllowanceKind.{AllowanceKind}
use Rattle.reg_base.specs.declared.kinds.AllowanceKind.TheVariants.{General, Aviation}
use Rattle.reg_base.specs.declared.kinds.Retirement.{Retirement}
use Rattle.reg_base.specs.declared.kinds.Retirement.TheVariants.{Surrendered, Deleted}
use Rattle.reg_account.specs.declared.rows.RetirementRow.{RetirementRow}
use Rattle.reg_account.specs.declared.sums.Sums.{Sums}
use Rattle.reg_account.specs.Rows.{retired_in, surrendered_in}

-- the sum that is kept for surrenders (or deletions) of a kind
abbrev pub sum_at : Sums → Retirement → AllowanceKind → ℕ
sum_at s Surrendered General = s.surrendered_general
sum_at s Surrendered Aviation = s.surrendered_aviation
sum_at s Deleted General = s.deleted_general
sum_at s Deleted Aviation = s.deleted_aviation

-- there may be a period of this number
abbrev pub is_period : ℕ → Bool
is_period period = nat_le 1 period && nat_le period MOST_PERIODS

-- the sum that is kept for surrenders of both kinds for this period: the first sum is that of period 1
abbrev pub sum_for : Sums → ℕ → ℕ
sum_for s period = slice_index s.by_period (period - 1)

-- what is kept are the sums over the rows; each amount is below 2^64, so they fit in 128 bits
pub record SumsAgree (s : Sums) (rows : List RetirementRow) : Type 0 where
  pub at : (way : Retirement) (kind : AllowanceKind) → sum_at s way kind ≡ retired_in way kind rows
  pub small : (way : Retirement) (kind : AllowanceKind) → sum_at s way kind ≤ length rows * 18446744073709551615
  pub eight : length s.by_period ≡ MOST_PERIODS
  pub for : (period : ℕ) → IsWithin 1 MOST_PERIODS period → sum_for s period ≡ surrendered_in period rows
  pub small_for : (period : ℕ) → IsWithin 1 MOST_PERIODS period → sum_for s period ≤ length rows * 18446744073709551615
