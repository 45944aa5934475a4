-- Workers that take regions from deques: what a region begins with, and what comes of all.
use Rattle.std.specs.Prelude.{◌≡◌, ℕ, ◌+◌, ◌-◌, ◌<◌, List, [], All, map, length, Some}
use Rattle.std.specs.Prelude.{Bool, true}
use Rattle.std.specs.Prelude.{slice_get, slice_index_or}
use Rattle.std.specs.List.{flat_map}
use Rattle.std.specs.Option.{option_map_or}
use Rattle.std.specs.declared.vec.Vec.{Vec}
use Rattle.std.proofs.Common.{Global}
use Rattle.reg_base.specs.Batch.{BatchValue}
use Rattle.reg_base.specs.Rules.{AreRules}
use Rattle.reg_account.specs.Account.{AccountValue}
use Rattle.reg_rules.specs.State.{State, Setting, numbers}
use Rattle.reg_rules.specs.Laws.{IsReady}
use Rattle.reg_book.specs.Indexes.{index_lists}
use Rattle.reg_facts.specs.Counting.{total, times, once}
pub use Rattle.reg_facts.specs.Lists.{first_numbers}
use Rattle.reg_advice.specs.declared.dealing.Deal.{Deal}
use Rattle.reg_regions.specs.declared.running.settled_list.SettledList.{SettledList}
use Rattle.reg_regions.specs.declared.running.shift.WorkShift.{WorkShift}
use Rattle.reg_regions.specs.Homes.{AreHome}
use Rattle.reg_regions.specs.Settling.{IsRun, kept, places_in}
use Rattle.reg_run.specs.declared.ran.Ran.{Ran}

-- what each list has
abbrev pub region_openings : List (Vec AccountValue Global) → List State
region_openings lists = map (λ l. l.items) lists

-- the accounts that the region with this number, counted from 1, begins with
abbrev pub region_opening : List State → ℕ → State
region_opening openings number = slice_index_or openings (number - 1) []

-- the places of its instructions
abbrev pub places_at : List Deal → ℕ → List ℕ
places_at deals number = option_map_or (λ d. d.places.items) (slice_get deals (number - 1)) []

-- regions begin with these accounts, which are ready and stand where their instructions say
pub record IsGround (c : Setting) (b : BatchValue) (openings : List State) (deals : List Deal) : Type 0 where
  pub rules : AreRules c.rules
  pub as_many : length openings ≡ length deals
  pub ready : (k : ℕ) → k < length openings → IsReady (b.base + 1) (slice_index_or openings k [])
  pub home : (k : ℕ) (d : Deal) → slice_get deals k ≡ Some d
      → AreHome c b (numbers (slice_index_or openings k [])) d.places.items (index_lists d.indexes.items)

-- this came of the region with this number: all its instructions were carried out on what it begins with
pub record IsSettledList (c : Setting) (b : BatchValue) (openings : List State) (deals : List Deal) (number : ℕ)
    (s : SettledList) : Type 0 where
  pub run : IsRun c b (region_opening openings number) s.accounts.items s.replies.items
  pub places : places_in s.replies.items ≡ places_at deals number

-- the same of each
abbrev pub AreSettled : Setting → BatchValue → List State → List Deal → List (Ran SettledList) → Type 0
AreSettled c b openings deals ran = All (λ r. IsSettledList c b openings deals r.number r.answer) ran

-- the places of their instructions, in the order in which these were carried out
abbrev pub settled_places : List SettledList → List ℕ
settled_places settled = flat_map (λ s. places_in s.replies.items) settled

-- how often a place stands in what workers noted, taken together
abbrev pub times_noted : {N : Type 0} → (N → List ℕ) → ℕ → List N → ℕ
times_noted places place notes = total (λ n. times place (places n)) notes

-- the workers of shifts
abbrev pub shift_workers : List WorkShift → List ℕ
shift_workers shifts = map (λ s. s.worker) shifts

-- how often a place stands in shifts, taken together
abbrev pub times_in_shifts : ℕ → List WorkShift → ℕ
times_in_shifts place shifts = times_noted (λ s. s.places.items) place shifts

-- what a worker notes that settled these regions, one after another
pub record IsNoted {N : Type 0} (worker_of : N → ℕ) (keeps : Bool) (places : N → List ℕ) (worker : ℕ)
    (settled : List SettledList) (notes : N) : Type 0 where
  pub worker_is : worker_of notes ≡ worker
  pub places_are : places notes ≡ kept keeps (settled_places settled)

-- what each worker noted, in rising order; if places are kept, each of the places 1 to n stands there once, and no
-- other number
pub record AreNotesOf {N : Type 0} (worker : N → ℕ) (keeps : Bool) (places : N → List ℕ) (workers count : ℕ)
    (notes : List N) : Type 0 where
  pub workers_are : map worker notes ≡ first_numbers workers
  pub each_once : keeps ≡ true → (place : ℕ) → times_noted places place notes ≡ once count place
