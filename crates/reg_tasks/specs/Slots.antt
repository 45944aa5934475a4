-- Slots of touched accounts: each has the parcel that stands for its account, between instructions.
use Rattle.std.specs.Prelude.{◌≡◌, ℕ, ◌==◌, Bool, true, false, List, [], ◌∷◌, length, map, Option, Some, None}
use Rattle.std.specs.Prelude.{IsPermutation, if◌then◌else◌}
use Rattle.std.specs.Option.{option_map}
use Rattle.std.specs.List.{list_all}
use Rattle.reg_base.specs.Footprint.{is_among}
use Rattle.reg_base.specs.Rising.{count_up}
use Rattle.reg_base.specs.Touches.{is_touched, last_toucher}
use Rattle.reg_plan.specs.declared.arrow.Opening.{Opening}
use Rattle.reg_plan.specs.Arrows.{touches_place}
use Rattle.reg_book.specs.Day.{DayValue}
use Rattle.reg_plan.specs.Plans.{PlanValue, inward}
use Rattle.reg_plan.specs.Orders.{first_order_fault}
use Rattle.reg_plan.specs.declared.order.OrderFault.{OrderFault}
use Rattle.reg_plan.specs.declared.order.OrderFault.TheVariants as fault
use Rattle.reg_schedules.specs.Pool.{directory, footprint_at}
use Rattle.reg_schedules.specs.Docks.{names_needed, is_name}
use Rattle.reg_tasks.specs.declared.naming.Naming.{Ghosts}
use Rattle.reg_tasks.specs.declared.parcel.Parcel.{Parcel}
use Rattle.reg_tasks.specs.declared.lack.Lack.{Lack}
use Rattle.reg_tasks.specs.declared.lack.Lack.TheVariants.{Memory, Foreign}
use Rattle.reg_tasks.specs.declared.order.RunFault.{RunFault}
use Rattle.reg_tasks.specs.declared.order.RunFault.TheVariants.{Order, NoMemory}

-- the accounts of openings
abbrev pub opened_accounts : List Opening → List ℕ
opened_accounts openings = map (λ opening. opening.account) openings

module _ {N : Type 0} {b : Ghosts N} where
  abbrev pub name_of : Parcel N b → ℕ × ℕ
  name_of parcel = (parcel.value.number, parcel.after)

  -- the name of the parcel in the slot of an account, if there is one
  abbrev pub standing_in : List Opening → List (Option (Parcel N b)) → ℕ → Option (ℕ × ℕ)
  standing_in [] slots a = None
  standing_in (opening ∷ openings) [] a = None
  standing_in (opening ∷ openings) (slot ∷ slots) a =
      if opening.account == a then option_map name_of slot else standing_in openings slots a

-- the last of these places that touches the account, or the one before them if none does
abbrev pub last_of : DayValue → ℕ → ℕ → List ℕ → ℕ
last_of day a before [] = before
last_of day a before (place ∷ places) =
    last_of day a (if touches_place (directory day) day.batch.instructions a place then place else before) places

-- after the instructions at these places, the slot of each touched account has the parcel that the last of them left,
-- or the opening value
abbrev pub StandAfter : DayValue → List ℕ → (ℕ → Option (ℕ × ℕ)) → Type 0
StandAfter day places standing =
    (a : ℕ) → is_touched (directory day) day.batch.instructions a ≡ true → standing a ≡ Some (a, last_of day a 0 places)

-- the names, each in place of what stood at its account
abbrev pub laid_at : List (ℕ × ℕ) → Option (ℕ × ℕ) → ℕ → Option (ℕ × ℕ)
laid_at [] before a = before
laid_at (n ∷ names) before a = laid_at names (if n.0 == a then Some n else before) a

-- why a task or a settled day was not made: memory ran out; or a parcel or a row is not the needed one, and then this
-- holds
abbrev pub LacksFor : Type 0 → Lack → Type 0
LacksFor P Memory = Unit {0}
LacksFor P Foreign = P

-- a parcel of another context comes only if no day is named
abbrev pub IsLack : Option DayValue → Lack → Type 0
IsLack name = LacksFor (name ≡ None)

-- whether this is the parcel of that name
abbrev pub is_that : ℕ × ℕ → Option (ℕ × ℕ) → Bool
is_that name None = false
is_that name (Some standing) = is_name standing name

-- whether the parcel of that name is in the slot of its account
abbrev pub is_there : (ℕ → Option (ℕ × ℕ)) → ℕ × ℕ → Bool
is_there standing name = is_that name (standing name.0)

-- whether the parcels that the instruction at this place needs are in the slots of the accounts that it touches
abbrev pub is_ready : DayValue → PlanValue → ℕ → (ℕ → Option (ℕ × ℕ)) → Bool
is_ready day plan place standing =
    list_all (λ name. is_there standing name) (names_needed (inward plan.arrows place) (footprint_at day place))

-- before the first instruction the opening value stands for each account that one touches
abbrev pub AreOpened : DayValue → (ℕ → Option (ℕ × ℕ)) → Type 0
AreOpened day standing =
    (a : ℕ) → standing a ≡ (if is_touched (directory day) day.batch.instructions a then Some (a, 0) else None)

-- the slots of the accounts that the instruction at this place touches are empty now, the others as they were
abbrev pub AreTaken : DayValue → ℕ → (ℕ → Option (ℕ × ℕ)) → (ℕ → Option (ℕ × ℕ)) → Type 0
AreTaken day place before after = (a : ℕ) → after a ≡ (if is_among (footprint_at day place) a then None else before a)

-- nothing in the slots has changed
abbrev pub StandAsBefore : (ℕ → Option (ℕ × ℕ)) → (ℕ → Option (ℕ × ℕ)) → Type 0
StandAsBefore before after = (a : ℕ) → after a ≡ before a

-- the parcels of these names stand in the slots of their accounts, the other slots are as they were
abbrev pub AreLaid : List (ℕ × ℕ) → (ℕ → Option (ℕ × ℕ)) → (ℕ → Option (ℕ × ℕ)) → Type 0
AreLaid names before after = (a : ℕ) → after a ≡ laid_at names (before a) a

-- whether some instruction touches each of the accounts
abbrev pub have_slots : DayValue → List (ℕ × ℕ) → Bool
have_slots day names = list_all (λ n. is_touched (directory day) day.batch.instructions n.0) names

-- each place once, and what stands for each touched account is what its last instruction left
pub record IsAtEnd (day : DayValue) (places : List ℕ) (standing : ℕ → Option (ℕ × ℕ)) : Type 0 where
  pub each : IsPermutation (count_up 1 (length day.batch.instructions)) places
  pub last_left : (a : ℕ) → is_touched (directory day) day.batch.instructions a ≡ true
      → standing a ≡ Some (a, last_toucher (directory day) day.batch.instructions a (length day.batch.instructions))

-- if a day is named, the parcels that the instruction at this place needs are there
abbrev pub AreReady : Option DayValue → DayValue → PlanValue → ℕ → (ℕ → Option (ℕ × ℕ)) → Type 0
AreReady name day plan place standing = (d : DayValue) → name ≡ Some d → is_ready day plan place standing ≡ true

-- if a day is named, the slots of the accounts that the instruction at this place touches have the parcels that it
-- left, and the other slots are as they were
abbrev pub IsLaidBack : Option DayValue → DayValue → ℕ → (ℕ → Option (ℕ × ℕ)) → (ℕ → Option (ℕ × ℕ)) → Type 0
IsLaidBack name day place before after = (d : DayValue) → name ≡ Some d → (a : ℕ)
    → after a ≡ (if is_among (footprint_at day place) a then Some (a, place) else before a)

-- if a day is named, this is what stands after the instructions at these places
abbrev pub AreStanding : Option DayValue → DayValue → List ℕ → (ℕ → Option (ℕ × ℕ)) → Type 0
AreStanding name day places standing = (d : DayValue) → name ≡ Some d → StandAfter day places standing

-- a fault of an order, as a reason why it was not run
abbrev pub run_fault : OrderFault → RunFault
run_fault fault.NoMemory = NoMemory
run_fault fault.Length = Order fault.Length
run_fault (fault.Number position) = Order (fault.Number position)
run_fault (fault.Repeated position) = Order (fault.Repeated position)
run_fault (fault.Arrow from to) = Order (fault.Arrow from to)

-- why an order was not run: it is no legal order, or memory ran out after its length was found right
abbrev pub IsRunFault : PlanValue → List ℕ → RunFault → Type 0
IsRunFault plan order (Order fault) = first_order_fault plan order ≡ Some fault
IsRunFault plan order NoMemory = length order ≡ length plan.levels
