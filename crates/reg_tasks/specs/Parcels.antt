-- What a list of parcels holds, as plain data.
use Rattle.std.specs.Prelude.{ℕ, List, map}
use Rattle.reg_account.specs.Account.{AccountValue}
use Rattle.reg_schedules.specs.Docks.{ParcelValue}
use Rattle.reg_tasks.specs.declared.naming.Naming.{Ghosts}
use Rattle.reg_tasks.specs.declared.parcel.Parcel.{Parcel}

module _ {N : Type 0} {b : Ghosts N} where
  -- the accounts, as their values
  abbrev pub values_of : List (Parcel N b) → List AccountValue
  values_of parcels = map (λ p. p.value) parcels

  -- the places after which they stand
  abbrev pub afters_of : List (Parcel N b) → List ℕ
  afters_of parcels = map (λ p. p.after) parcels

  -- the names: each account's number, and the place after which it stands
  abbrev pub names_of : List (Parcel N b) → List (ℕ × ℕ)
  names_of parcels = map (λ p. (p.value.number, p.after)) parcels

  -- the parcels themselves
  abbrev pub parcels_of : List (Parcel N b) → List ParcelValue
  parcels_of parcels = map (λ p. record { value = p.value; after = p.after }) parcels
