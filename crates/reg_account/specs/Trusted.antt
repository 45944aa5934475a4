-- Trusted account lists, by rising account number.
use Rattle.std.specs.Prelude.{ℕ, ◌≤◌, Bool, false, not, ◌==◌, ◌||◌, nat_le, nat_lt, List, ◌∷◌, ◌++◌, map, find, filter}
use Rattle.std.specs.Prelude.{length, Option}
use Rattle.std.specs.Option.{option_map, option_map_or}
use Rattle.std.specs.List.{AllByRecursion}
use Rattle.reg_base.specs.declared.limits.TheConstants.{MOST_TRUSTED}
use Rattle.reg_base.specs.Numbers.{IsAccountNo, IsDayNo}
use Rattle.reg_base.specs.Rising.{IsRising, is_rising_from}
use Rattle.reg_account.specs.declared.trusted.TrustedEntry.{TrustedEntry}

-- the accounts on the list, in their order
abbrev pub trusted_numbers : List TrustedEntry → List ℕ
trusted_numbers entries = map (λ t. t.account) entries

-- the date on which the account's entry takes effect, if the list has the account
abbrev pub effective_in : List TrustedEntry → ℕ → Option ℕ
effective_in entries account = option_map (λ t. t.effective) (find (λ t. t.account == account) entries)

-- the list has the account, and its entry takes effect on this date or took effect before
abbrev pub is_in_effect : List TrustedEntry → ℕ → ℕ → Bool
is_in_effect entries account day =
    option_map_or (λ effective. nat_le effective day) (effective_in entries account) false

-- the list with this entry, in place of an earlier one of the same account
abbrev pub with_entry : TrustedEntry → List TrustedEntry → List TrustedEntry
with_entry new entries =
    filter (λ t. nat_lt t.account new.account) entries ++ new ∷ filter (λ t. nat_lt new.account t.account) entries

-- the list without the entry of this account
abbrev pub without_entry : ℕ → List TrustedEntry → List TrustedEntry
without_entry account entries = filter (λ t. not (t.account == account)) entries

-- an entry's account number and date are in their ranges, as each such number is
pub record EntryIsInRange (t : TrustedEntry) : Type 0 where
  pub number : IsAccountNo t.account
  pub day : IsDayNo t.effective

-- a list as an account may have it
pub record TrustedFit (entries : List TrustedEntry) : Type 0 where
  pub few : length entries ≤ MOST_TRUSTED
  pub rise : IsRising (trusted_numbers entries)
  pub in_range : AllByRecursion EntryIsInRange entries

-- there are too many entries, or their account numbers don't rise
abbrev pub are_trusted_unfit : List TrustedEntry → Bool
are_trusted_unfit entries = nat_lt MOST_TRUSTED (length entries) || not (is_rising_from 0 (trusted_numbers entries))
