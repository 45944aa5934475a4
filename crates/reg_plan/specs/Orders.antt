-- Orders of the instructions: which keep to the arrows, and what is wrong with one that does not.
use Rattle.std.specs.Prelude.{◌≡◌, ℕ, suc, ◌-◌, ◌<◌, Bool, false, not, ◌&&◌, ◌==◌, nat_le, List, [], ◌∷◌, ◌++◌, length}
use Rattle.std.specs.Prelude.{slice_get, slice_index_or, find, Contains, IsPermutation, Option, Some, None}
use Rattle.std.specs.Prelude.{if◌then◌else◌}
use Rattle.std.specs.Option.{option_map, option_or}
use Rattle.reg_base.specs.Footprint.{is_among}
use Rattle.reg_base.specs.Rising.{count_up}
use Rattle.reg_plan.specs.declared.arrow.Arrow.{Arrow}
use Rattle.reg_plan.specs.declared.order.OrderFault.{OrderFault}
use Rattle.reg_plan.specs.declared.order.OrderFault.TheVariants.{Length, NoMemory, Number, Repeated, Arrow as Waits}
use Rattle.reg_plan.specs.Plans.{PlanValue, inward}

-- a permutation of the places, with each arrow's tail before its head
pub record IsLegalOrder (plan : PlanValue) (order : List ℕ) : Type 0 where
  pub permutation : IsPermutation (count_up 1 (length plan.levels)) order
  pub tails_first : (arrow : Arrow) → Contains plan.arrows arrow → (p q : ℕ) → slice_get order p ≡ Some arrow.from
      → slice_get order q ≡ Some arrow.to → p < q

-- the fault that says that this arrow's tail has not come
abbrev pub waits : Arrow → OrderFault
waits arrow = Waits arrow.from arrow.to

-- what is wrong with this number at this position, counted from 1, after the numbers that have come: it is no place,
-- it has come already, or the tail of an arrow to it has not come
abbrev pub fault_at : List Arrow → ℕ → (ℕ → Bool) → ℕ → ℕ → Option OrderFault
fault_at arrows places has_come position number =
    if nat_le 1 number && nat_le number places
    then (if has_come number then Some (Repeated position) else option_map waits
    (find (λ arrow. not (has_come arrow.from)) (inward arrows number)))
    else Some (Number position)

-- what is wrong first with numbers after others
abbrev pub first_fault_after : List Arrow → ℕ → List ℕ → List ℕ → Option OrderFault
first_fault_after arrows places before [] = None
first_fault_after arrows places before (x ∷ xs) =
    option_or (fault_at arrows places (is_among before) (suc (length before)) x)
    (first_fault_after arrows places (before ++ x ∷ []) xs)

-- what is wrong first with a list as an order
abbrev pub first_order_fault : PlanValue → List ℕ → Option OrderFault
first_order_fault plan order =
    if length order == length plan.levels then first_fault_after plan.arrows (length plan.levels) [] order else Some
    Length

-- an order is refused for what is wrong first with it, or, where it has the right length, because memory ran out
abbrev pub IsOrderFault : PlanValue → List ℕ → OrderFault → Type 0
IsOrderFault plan order Length = first_order_fault plan order ≡ Some Length
IsOrderFault plan order NoMemory = length order ≡ length plan.levels
IsOrderFault plan order (Number position) = first_order_fault plan order ≡ Some (Number position)
IsOrderFault plan order (Repeated position) = first_order_fault plan order ≡ Some (Repeated position)
IsOrderFault plan order (Waits from to) = first_order_fault plan order ≡ Some (Waits from to)

-- whether the number has come, by marks for 1, 2, and so on
abbrev pub marked : List Bool → ℕ → Bool
marked marks number = slice_index_or marks (number - 1) false
