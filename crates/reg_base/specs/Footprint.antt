-- The accounts that an instruction reads or changes.
use Rattle.std.specs.Prelude.{◌≡◌, ℕ, ◌+◌, ◌≤◌, Bool, IsTrue, not, ◌==◌, nat_eq, List, [], ◌∷◌, ◌++◌, map, length}
use Rattle.std.specs.Prelude.{filter, All, if◌then◌else◌}
use Rattle.std.specs.Option.{option_to_list}
use Rattle.std.specs.List.{list_all, list_any, IsDistinct}
use Rattle.reg_base.specs.declared.act.Act.{Act}
use Rattle.reg_base.specs.declared.act.Act.TheVariants.{Transfer, Surrender, Delete, ReturnExcess, Reverse, Create}
use Rattle.reg_base.specs.declared.act.Act.TheVariants.{CentralMove, Distribute, Trust, Untrust, SetStatus}
use Rattle.reg_base.specs.declared.act.Act.TheVariants.{EnterEmissions, Assess}
use Rattle.reg_base.specs.Acts.{shares, parties, also_known}
use Rattle.reg_base.specs.Directory.{DirectoryValue, is_known}

-- the accounts that must be in the directory; no two of them may be the same
abbrev pub must_be_known : Act → List ℕ
must_be_known act = parties act ++ option_to_list (also_known act)

-- each account that must be in the directory is there
abbrev pub all_known : DirectoryValue → Act → Bool
all_known directory act = list_all (is_known directory) (must_be_known act)

-- each number once, where it first stands
abbrev pub each_once : List ℕ → List ℕ
each_once [] = []
each_once (x ∷ xs) = x ∷ filter (λ y. not (y == x)) (each_once xs)

-- the number is in the list
abbrev pub is_among : List ℕ → ℕ → Bool
is_among numbers a = list_any (λ n. n == a) numbers

-- the accounts that an instruction with this act reads or changes: none if one of those that must be known is not
abbrev pub footprint : DirectoryValue → Act → List ℕ
footprint directory act = if all_known directory act then each_once (parties act) else []

-- no account occurs twice, each is in the directory, and there are at most the first and those that receive
pub record IsSound (directory : DirectoryValue) (act : Act) (accounts : List ℕ) : Type 0 where
  pub once : IsDistinct nat_eq accounts
  pub known : All (λ a. IsTrue (is_known directory a)) accounts
  pub few : length accounts ≤ 1 + length (shares act)

-- law: every footprint is sound
abbrev pub EachFootprintIsSound : Type 0
EachFootprintIsSound = (directory : DirectoryValue) (act : Act) → IsSound directory act (footprint directory act)

-- the accounts that an act reads or changes, and those that check 1 asks for
pub record NamedAccounts : Type 0 where
  pub touched : List ℕ
  pub asked : List ℕ

-- check 1 asks for just the accounts that are read or changed
abbrev pub alike : List ℕ → NamedAccounts
alike accounts = record { touched = accounts; asked = accounts }

-- in the words of the rules, without the table of movements: an act reads or changes FROM and each TO, in their order,
-- or else its one account. The OTHER of an addition to a trusted list or of a removal is not among them; check 1 asks
-- for that of an addition
abbrev pub accounts_named : Act → NamedAccounts
accounts_named (Transfer from to kind amount) = alike (from ∷ to ∷ [])
accounts_named (Surrender from kind amount) = alike (from ∷ [])
accounts_named (Delete from kind amount) = alike (from ∷ [])
accounts_named (ReturnExcess from to kind amount) = alike (from ∷ to ∷ [])
accounts_named (Reverse account number) = alike (account ∷ [])
accounts_named (Create to kind amount) = alike (to ∷ [])
accounts_named (CentralMove from to kind amount) = alike (from ∷ to ∷ [])
accounts_named (Distribute from kind shares) = alike (from ∷ map (λ share. share.to) shares)
accounts_named (Trust account other) = record { touched = account ∷ []; asked = account ∷ other ∷ [] }
accounts_named (Untrust account other) = alike (account ∷ [])
accounts_named (SetStatus account status) = alike (account ∷ [])
accounts_named (EnterEmissions account year tonnes) = alike (account ∷ [])
accounts_named (Assess account year) = alike (account ∷ [])

-- the accounts that the act reads or changes
abbrev pub touched_accounts : Act → List ℕ
touched_accounts act = (accounts_named act).touched

-- the accounts that check 1 asks for
abbrev pub asked_for : Act → List ℕ
asked_for act = (accounts_named act).asked

-- law: the table of movements has just these accounts. So a footprint is FROM and each TO, or else the one account:
-- each once, where it is named first; and it is empty if the directory lacks one that check 1 asks for
pub record ActsNameTheirAccounts : Type 0 where
  pub table : (act : Act) → parties act ≡ touched_accounts act
  pub known : (act : Act) → must_be_known act ≡ asked_for act
  pub once : (from to : ℕ) → each_once (from ∷ to ∷ []) ≡ (if to == from then from ∷ [] else from ∷ to ∷ [])
  pub touched : (directory : DirectoryValue) (act : Act)
      → footprint directory act
      ≡ (if list_all (is_known directory) (asked_for act) then each_once (touched_accounts act) else [])
