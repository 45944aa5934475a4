-- Which instructions of a batch touch an account, and which of them is the last.
use Rattle.std.specs.Prelude.{◌≡◌, ℕ, zero, suc, ◌<◌, ◌≤◌, Bool, true, false, List, slice_get, if◌then◌else◌}
use Rattle.std.specs.Option.{option_map_or}
use Rattle.std.specs.List.{list_any}
use Rattle.reg_base.specs.declared.instruction.Instruction.{Instruction}
use Rattle.reg_base.specs.Directory.{DirectoryValue}
use Rattle.reg_base.specs.Footprint.{footprint, is_among}

-- the instruction touches the account
abbrev pub touches : DirectoryValue → Instruction → ℕ → Bool
touches directory i a = is_among (footprint directory i.act) a

-- some instruction touches the account
abbrev pub is_touched : DirectoryValue → List Instruction → ℕ → Bool
is_touched directory is a = list_any (λ i. touches directory i a) is

-- instruction k, counted from 0, touches the account
abbrev pub touches_at : DirectoryValue → List Instruction → ℕ → ℕ → Bool
touches_at directory is a k = option_map_or (λ i. touches directory i a) (slice_get is k) false

-- the instruction at this place, counted from 1, touches the account
abbrev pub touches_place : DirectoryValue → List Instruction → ℕ → ℕ → Bool
touches_place directory is a zero = false
touches_place directory is a (suc k) = touches_at directory is a k

-- the place, counted from 1, of the last of the first j instructions that touches the account, or 0 if none does
abbrev pub last_toucher : DirectoryValue → List Instruction → ℕ → ℕ → ℕ
last_toucher directory is a zero = 0
last_toucher directory is a (suc k) = if touches_at directory is a k then suc k else last_toucher directory is a k

-- a last toucher is among the first j, it touches the account, and none of these after it does
pub record IsLastToucher (directory : DirectoryValue) (is : List Instruction) (a j place : ℕ) : Type 0 where
  pub among : place ≤ j
  pub toucher : (k : ℕ) → place ≡ suc k → touches_at directory is a k ≡ true
  pub none_later : (k : ℕ) → place ≤ k → k < j → touches_at directory is a k ≡ false

-- law: the place that `last_toucher` gives is that of a last toucher
abbrev pub LastToucherIsLast : Type 0
LastToucherIsLast = (directory : DirectoryValue) (is : List Instruction) (a j : ℕ)
    → IsLastToucher directory is a j (last_toucher directory is a j)
