-- Docks: the parcels that a place awaits, those that have come, and what comes of one more.
use Rattle.std.specs.Prelude.{ℕ, ◌==◌, Bool, ◌&&◌, not, List, [], ◌∷◌, ◌++◌, length, filter, find, Option, Some, None}
use Rattle.std.specs.Prelude.{is_some, if◌then◌else◌}
use Rattle.std.specs.Option.{option_map}
use Rattle.std.specs.List.{list_any}
use Rattle.reg_account.specs.Account.{AccountValue}
use Rattle.reg_plan.specs.declared.arrow.Arrow.{Arrow}
use Rattle.reg_plan.specs.Plans.{PlanValue, inward}
use Rattle.reg_book.specs.Day.{DayValue}
use Rattle.reg_schedules.specs.Pool.{footprint_at, tail_in}

-- a parcel: an account as the instruction at a place left it, or, at place 0, as it was at first
pub record ParcelValue : Type 0 where
  pub value : AccountValue
  pub after : ℕ

-- a task: the place of an instruction, and the parcels of its footprint, in its order
pub record TaskValue : Type 0 where
  pub place : ℕ
  pub parcels : List ParcelValue

-- two names are one
abbrev pub is_name : ℕ × ℕ → ℕ × ℕ → Bool
is_name x y = (x.0 == y.0) && (x.1 == y.1)

-- the name of a parcel: its account, and the place after which it stands
abbrev pub name_of : ParcelValue → ℕ × ℕ
name_of p = (p.value.number, p.after)

-- the names of the values that a place needs of these accounts, by the arrows that lead there
abbrev pub names_needed : List Arrow → List ℕ → List (ℕ × ℕ)
names_needed arrows [] = []
names_needed arrows (a ∷ more) = (a, tail_in arrows a) ∷ names_needed arrows more

-- the names of the parcels that a place awaits
abbrev pub awaited : DayValue → PlanValue → ℕ → List (ℕ × ℕ)
awaited day plan place = names_needed (inward plan.arrows place) (footprint_at day place)

-- the first of these parcels that has the name
abbrev pub of_name : List ParcelValue → ℕ × ℕ → Option ParcelValue
of_name parcels name = find (λ p. is_name (p.value.number, p.after) name) parcels

-- a parcel before the others, if all of them are there
abbrev pub before_all : Option ParcelValue → Option (List ParcelValue) → Option (List ParcelValue)
before_all None more = None
before_all (Some p) more = option_map (λ ps. p ∷ ps) more

-- one parcel of each of these names, in their order, if all are there
abbrev pub of_names : List ParcelValue → List (ℕ × ℕ) → Option (List ParcelValue)
of_names parcels [] = Some []
of_names parcels (name ∷ more) = before_all (of_name parcels name) (of_names parcels more)

-- the task of a place, if these parcels are those that it awaits, in any order
abbrev pub complete : DayValue → PlanValue → ℕ → List ParcelValue → Option TaskValue
complete day plan place parcels =
    if length parcels == length (awaited day plan place)
    then option_map (λ ps. record { place = place; parcels = ps }) (of_names parcels (awaited day plan place))
    else None

-- the names of the parcels that a place still awaits after these came
abbrev pub still_awaited : DayValue → PlanValue → ℕ → List ParcelValue → List (ℕ × ℕ)
still_awaited day plan place came = filter (λ name. not (is_some (of_name came name))) (awaited day plan place)

-- the parcel is not awaited, or has come already
abbrev pub is_not_awaited : DayValue → PlanValue → ℕ → List ParcelValue → ParcelValue → Bool
is_not_awaited day plan place came p = not (list_any (is_name (name_of p)) (still_awaited day plan place came))

-- what has come after one parcel more, and the task of the place if that was the last
abbrev pub received : DayValue → PlanValue → ℕ → List ParcelValue → ParcelValue → List ParcelValue × Option TaskValue
received day plan place came p = let now = came ++ p ∷ [] in (now, complete day plan place now)
