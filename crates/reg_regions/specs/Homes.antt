-- Regions whose instructions have their accounts at hand, where their indexes say.
use Rattle.std.specs.Prelude.{◌≡◌, ℕ, ◌-◌, ◌<◌, ◌≤◌, List, [], ◌∷◌, length, slice_get, slice_index}
use Rattle.std.specs.Prelude.{zero, suc, All, Bool, IsTrue, true, false, drop, slice_index_or}
use Rattle.std.specs.List.{flat_map}
use Rattle.std.specs.Option.{option_map_or}
use Rattle.std.specs.declared.vec.Vec.{Vec}
use Rattle.std.proofs.Common.{Global}
use Rattle.reg_base.specs.Batch.{BatchValue}
use Rattle.reg_base.specs.Directory.{DirectoryValue, is_known}
use Rattle.reg_base.specs.Footprint.{footprint}
use Rattle.reg_facts.specs.Counting.{times, one_if}
use Rattle.reg_account.specs.Account.{AccountValue}
use Rattle.reg_rules.specs.State.{Setting, numbers}
use Rattle.reg_book.specs.Indexes.{StandAt, index_lists}
use Rattle.reg_advice.specs.declared.dealing.Deal.{Deal}
use Rattle.reg_regions.specs.Regions.{RiseAbove}

-- the accounts that the instruction at this place touches
abbrev pub accounts_touched : Setting → BatchValue → ℕ → List ℕ
accounts_touched c b place = option_map_or (λ i. footprint c.directory i.act) (slice_get b.instructions (place - 1)) []

-- each of these accounts is in the directory
abbrev pub AreKnown : DirectoryValue → List ℕ → Type 0
AreKnown directory ns = All (λ a. is_known directory a ≡ true) ns

-- there is an instruction at this place, and the accounts that it touches stand at these indexes
pub record IsHome (c : Setting) (b : BatchValue) (ns : List ℕ) (place : ℕ) (indexes : List ℕ) : Type 0 where
  pub from_one : 1 ≤ place
  pub within : place ≤ length b.instructions
  pub there : StandAt ns indexes (accounts_touched c b place)

-- the same for each place of a region; the places rise
pub record AreHome (c : Setting) (b : BatchValue) (ns places : List ℕ) (indexes : List (List ℕ)) : Type 0 where
  pub rising : RiseAbove 0 places
  pub each : (k : ℕ) → k < length places → IsHome c b ns (slice_index places k) (slice_index_or indexes k [])
  pub as_many : length places ≤ length indexes

-- the same for regions, of which each has a list of accounts
abbrev pub AreAllHome : Setting → BatchValue → List (Vec AccountValue Global) → List Deal → Type 0
AreAllHome c b [] [] = Unit {0}
AreAllHome c b [] (d ∷ deals) = ⊥
AreAllHome c b (l ∷ lists) [] = ⊥
AreAllHome c b (l ∷ lists) (d ∷ deals) =
    AreHome c b (numbers l.items) d.places.items (index_lists d.indexes.items) × AreAllHome c b lists deals

-- the same for lists whose regions have the first of these deals
abbrev pub AreFirstHome : Setting → BatchValue → List (Vec AccountValue Global) → List Deal → Type 0
AreFirstHome c b [] deals = Unit {0}
AreFirstHome c b (l ∷ lists) [] = ⊥
AreFirstHome c b (l ∷ lists) (d ∷ deals) =
    AreHome c b (numbers l.items) d.places.items (index_lists d.indexes.items) × AreFirstHome c b lists deals

-- if so, it holds for a run of lists and the deals from the index of its first list on
abbrev pub AreHomeIfSo : Setting → BatchValue → List Deal → ℕ → List (Vec AccountValue Global) → Bool → Type 0
AreHomeIfSo c b deals first lists so = IsTrue so → AreFirstHome c b lists (drop first deals)

-- the places of all regions, one region after another
abbrev pub dealt_places : List Deal → List ℕ
dealt_places deals = flat_map (λ d. d.places.items) deals

-- 1 for a number whose mark is set, and 0 for each other; the marks are those of the numbers from 1 on
abbrev pub set_mark : List Bool → ℕ → ℕ
set_mark marks zero = 0
set_mark marks (suc k) = one_if (slice_index_or marks k false)

-- each number stands among these places as often as its mark says
abbrev pub AreMarked : List ℕ → List Bool → Type 0
AreMarked places marks = (place : ℕ) → times place places ≡ set_mark marks place
