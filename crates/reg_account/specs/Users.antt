-- Authorised representatives, by rising user number.
use Rattle.std.specs.Prelude.{ℕ, ◌≤◌, Bool, not, ◌==◌, ◌||◌, nat_lt, List, map, find, length, Option}
use Rattle.std.specs.Option.{option_map}
use Rattle.std.specs.List.{AllByRecursion}
use Rattle.reg_base.specs.declared.limits.TheConstants.{MOST_USERS}
use Rattle.reg_base.specs.declared.kinds.Right.{Right}
use Rattle.reg_base.specs.Numbers.{IsUserNo}
use Rattle.reg_base.specs.Rising.{IsRising, is_rising_from}
use Rattle.reg_account.specs.declared.users.Representative.{Representative}

-- the numbers of the representatives, in their order
abbrev pub user_numbers : List Representative → List ℕ
user_numbers users = map (λ u. u.user) users

-- the right of a user, if the user is a representative
abbrev pub right_in : List Representative → ℕ → Option Right
right_in users user = option_map (λ u. u.right) (find (λ u. u.user == user) users)

-- a representative's number is in its range, as each user number is
abbrev pub UserIsInRange : Representative → Type 0
UserIsInRange u = IsUserNo u.user

-- representatives as an account may have them
pub record UsersFit (users : List Representative) : Type 0 where
  pub few : length users ≤ MOST_USERS
  pub rise : IsRising (user_numbers users)
  pub in_range : AllByRecursion UserIsInRange users

-- there are too many representatives, or their numbers don't rise
abbrev pub are_users_unfit : List Representative → Bool
are_users_unfit users = nat_lt MOST_USERS (length users) || not (is_rising_from 0 (user_numbers users))
