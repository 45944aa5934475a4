-- How arrows and openings are found: from a list of accounts and the places that touch them, sorted by account and
-- place. Private functions are stated in these.
use Rattle.std.specs.Prelude.{ℕ, ◌+◌, ◌==◌, List, [], ◌∷◌, ◌++◌, map, if◌then◌else◌}
use Rattle.std.specs.List.Sorted.{IsPermutation, IsSorted}
use Rattle.std.specs.Ordering.{ordering_then, nat_cmp}
use Rattle.std.specs.declared.cmp.Ordering.{Ordering}
use Rattle.reg_plan.specs.declared.arrow.Arrow.{Arrow}
use Rattle.reg_plan.specs.declared.arrow.Opening.{Opening}
use Rattle.reg_plan.specs.declared.arrow.Touch.{Touch}
use Rattle.reg_plan.specs.Arrows.{arrow_order}

-- the instruction at this place touches these accounts
abbrev pub touched_at : ℕ → List ℕ → List Touch
touched_at place accounts = map (λ a. record { account = a; place = place }) accounts

-- the touches of the accounts of each instruction, the first of which stands at this place
abbrev pub touches_of : ℕ → List (List ℕ) → List Touch
touches_of place [] = []
touches_of place (accounts ∷ lists) = touched_at place accounts ++ touches_of (place + 1) lists

-- by account, and then by place
abbrev pub touch_cmp : Touch → Touch → Ordering
touch_cmp x y = ordering_then (nat_cmp x.account y.account) (nat_cmp x.place y.place)

abbrev pub arrow_between : Touch → Touch → Arrow
arrow_between x y = record { to = y.place; from = x.place; account = y.account }

abbrev pub opening_at : Touch → Opening
opening_at x = record { account = x.account; first = x.place }

-- the arrows of a touch and of those behind it
abbrev pub arrows_after : Touch → List Touch → List Arrow
arrows_after before [] = []
arrows_after before (x ∷ xs) =
    if before.account == x.account then arrow_between before x ∷ arrows_after x xs else arrows_after x xs

abbrev pub arrows_of : List Touch → List Arrow
arrows_of [] = []
arrows_of (x ∷ xs) = arrows_after x xs

-- the openings of the touches behind this one, without that of its account
abbrev pub openings_after : Touch → List Touch → List Opening
openings_after before [] = []
openings_after before (x ∷ xs) =
    if before.account == x.account then openings_after x xs else opening_at x ∷ openings_after x xs

abbrev pub openings_of : List Touch → List Opening
openings_of [] = []
openings_of (x ∷ xs) = opening_at x ∷ openings_after x xs

-- these are the arrows of touches, sorted by head, tail and account
pub record AreSorted (touches : List Touch) (arrows : List Arrow) : Type 0 where
  pub each : IsPermutation (arrows_of touches) arrows
  pub sorted : IsSorted arrow_order arrows
