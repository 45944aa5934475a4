-- What the directory of accounts says of a number: the kind and the holder of its account.
use Rattle.std.proofs.Common.{◌≡◌, ℕ, Bool, true, false, cond, eqb, [], ◌∷◌, map, Option, Some, None, refl, ap, ◌∙◌}
use Rattle.std.specs.Prelude.{option_map, is_some}
use Rattle.std.specs.Ordering.{nat_cmp, eq_by_cmp}
use Rattle.std.specs.Cmp.{nat_cmp_total, nat_eq_equiv, unsigned_tied}
use Rattle.std.specs.FinMap as fin
use Rattle.reg_base.specs.declared.kinds.AccountKind.{AccountKind}
use Rattle.reg_base.specs.Footprint.{is_among}
use Rattle.reg_account.specs.Account.{AccountValue}
use Rattle.reg_rules.specs.State.{State, account, numbers}
use Rattle.reg_rules.proofs.lemmas.Accounts.{found-among}
use Rattle.reg_book.specs.Book.{entry_of, directory_of}

-- the kind and the holder of an account
abbrev pub listing : AccountValue → AccountKind × ℕ
listing v = (v.kind, v.holder)

find_by : (b : Bool) (v : AccountValue) (rest : Option (AccountKind × ℕ)) (found : Option AccountValue)
    → rest ≡ option_map listing found → cond b (Some (listing v)) rest ≡ option_map listing (cond b (Some v) found)
find_by true v rest found e = refl
find_by false v rest found e = e

pub find_listing : (a : ℕ) (xs : State)
    → fin.find nat_cmp a (map entry_of xs) ≡ option_map listing (account xs a)
find_listing a [] = refl
find_listing a (v ∷ vs) =
    let same : eq_by_cmp nat_cmp a v.number ≡ eqb v.number a =
    unsigned_tied a v.number ∙ nat_eq_equiv.symm a v.number in
    rw same (find_by (eqb v.number a) v (fin.find nat_cmp a (map entry_of vs)) (account vs a) (find_listing a vs))

-- what the directory says of a number is what its account is
pub get-directory_of : (xs : State) (a : ℕ) → fin.get (directory_of xs) a ≡ option_map listing (account xs a)
get-directory_of xs a = fin.get-from_entries nat_cmp_total (map entry_of xs) a ∙ find_listing a xs

pub listed_by : (o : Option AccountValue) → is_some (option_map listing o) ≡ is_some o
listed_by None = refl
listed_by (Some v) = refl

-- the directory knows a number exactly if an account has it
pub known-is_some : (xs : State) (a : ℕ) → is_some (fin.get (directory_of xs) a) ≡ is_some (account xs a)
known-is_some xs a = ap is_some (get-directory_of xs a) ∙ listed_by (account xs a)

pub known-among : (xs : State) (a : ℕ) → is_some (fin.get (directory_of xs) a) ≡ is_among (numbers xs) a
known-among xs a = known-is_some xs a ∙ found-among xs a
