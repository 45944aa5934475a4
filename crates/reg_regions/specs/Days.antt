-- Regions that are a day together.
use Rattle.std.specs.Prelude.{◌≡◌, ℕ, ◌≤◌, List, [], ◌∷◌, All, Contains, IsPermutation, length, Some}
use Rattle.std.specs.List.{flat_map}
use Rattle.reg_base.specs.Batch.{BatchValue}
use Rattle.reg_rules.specs.State.{State, Setting, numbers}
use Rattle.reg_rules.specs.Laws.{AgreeOn}
use Rattle.reg_book.specs.Day.{DayValue, IsDay, setting, closing_state}
use Rattle.reg_regions.specs.declared.instruction.Placed.{Placed}
use Rattle.reg_regions.specs.Laws.{reply_of}
use Rattle.reg_regions.specs.Settling.{IsRun, places_in}

-- what came of a region: its accounts afterwards, and the replies
pub record Run : Type 0 where
  pub afterwards : State
  pub replies : List Placed

-- the accounts that regions begin with, one after another
abbrev pub all_opening : List State → State
all_opening openings = flat_map (λ s. s) openings

-- those that they end with
abbrev pub all_afterwards : List Run → State
all_afterwards runs = flat_map (λ r. r.afterwards) runs

-- their replies
abbrev pub all_replies : List Run → List Placed
all_replies runs = flat_map (λ r. r.replies) runs

-- these came of regions with these accounts, one of each, in their order
abbrev pub AreRuns : Setting → BatchValue → List State → List Run → Type 0
AreRuns c b [] [] = Unit {0}
AreRuns c b [] (r ∷ runs) = ⊥
AreRuns c b (opening ∷ openings) [] = ⊥
AreRuns c b (opening ∷ openings) (r ∷ runs) =
    IsRun c b opening r.afterwards r.replies × AreRuns c b openings runs

-- what regions left is what the day leaves: no account is added, removed or moved, each is as after the day, and each
-- reply is the day's
pub record AreAsTheDay (day : DayValue) (openings : List State) (runs : List Run) : Type 0 where
  pub same_numbers : numbers (all_afterwards runs) ≡ numbers (all_opening openings)
  pub accounts : AgreeOn (numbers day.book.accounts) (all_afterwards runs) (closing_state day)
  pub replies : All (λ p. Some p.reply ≡ reply_of day p.place) (all_replies runs)

-- law: if the accounts of a day's book are dealt out to regions, and the instruction at each place was carried out in
-- one of them, these leave what the day leaves
abbrev pub RegionsAreADay : Type 0
RegionsAreADay = (day : DayValue) (openings : List State) (runs : List Run) → IsDay day
    → IsPermutation day.book.accounts (all_opening openings) → AreRuns (setting day) day.batch openings runs
    → ((place : ℕ) → 1 ≤ place → place ≤ length day.batch.instructions
    → Contains (places_in (all_replies runs)) place)
    → AreAsTheDay day openings runs
