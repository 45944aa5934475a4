-- Last parcels, as parcels.
use Rattle.std.specs.Prelude.{List, map}
use Rattle.reg_tasks.specs.declared.naming.Naming.{Ghosts}
use Rattle.reg_tasks.specs.declared.parcel.Parcel.{Parcel}
use Rattle.reg_tasks.specs.declared.last_parcel.LastParcel.{LastParcel}

module _ {N : Type 0} {b : Ghosts N} where
  -- the parcels that they are
  abbrev pub parcels_in : List (LastParcel N b) → List (Parcel N b)
  parcels_in lasts = map (λ l. l.parcel) lasts
