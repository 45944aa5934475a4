-- The rule of the claim table, which holds between any two steps. The word 0 is the count: twice the number of finished
-- places, and 1 more after a stop. The word of a place, 1 to n, is 0 until the place is claimed.
use Rattle.std.specs.Prelude.{◌≡◌, ◌≢◌, ◌↔◌, ℕ, ◌+◌, ◌/◌, ◌^◌, ◌≤◌, ◌<◌, eqb, true, false, List, length, slice_index}
use Rattle.std.specs.Prelude.{All, Contains}
use Rattle.std.specs.List.{IsDistinct}
use Rattle.reg_facts.specs.Counting.{total}
use Rattle.reg_claim.specs.declared.views.SeatView.{SeatView}
use Rattle.reg_claim.specs.Views.{spent, is_odd, is_seat, seats, all_claimed, all_finished}

-- no number stands in the list twice
abbrev pub HasNoRepeat : List ℕ → Type 0
HasNoRepeat numbers = IsDistinct eqb numbers

-- the word of this place is not 0
abbrev pub IsSet : List ℕ → ℕ → Type 0
IsSet words place = (1 ≤ place) × (place < length words) × (slice_index words place ≢ 0)

-- what is true of each seat's view while the count is c
pub record IsSeatView (c : ℕ) (v : SeatView) : Type 0 where
  -- its finished list has no repeats, and lies within its claimed list
  pub finished_once : HasNoRepeat v.finished
  pub finished_claimed : All (Contains v.claimed) v.finished
  -- it has seen no more than c, and if it has seen an odd count, c is odd
  pub seen : v.seen ≤ c
  pub stopped : is_odd v.seen ≡ true → is_odd c ≡ true

-- the words and views of a table of n places
pub record IsClaimTable (n : ℕ) (words : List ℕ) (views : List SeatView) : Type 0 where
  pub wide : length words ≡ n + 1
  pub small : n < 2 ^ 32
  -- the claimed lists have no number twice, in one seat or over seats
  pub claimed_once : HasNoRepeat (all_claimed views)
  -- and hold exactly the numbers whose word is not 0
  pub claimed_set : (p : ℕ) → Contains (all_claimed views) p ↔ IsSet words p
  -- half the count is the total length of the finished lists
  pub counted : slice_index words 0 / 2 ≡ length (all_finished views)
  pub known : All (IsSeatView (slice_index words 0)) (seats views)
  -- the stakes add up to 16
  pub stakes : total (λ v. v.stake) (seats views) ≡ 16
  -- a view with no stake is one that a join has spent
  pub rest : All (λ v. is_seat v ≡ false → v ≡ spent) views
