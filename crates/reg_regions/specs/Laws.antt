-- What is true of a region whose instructions are carried out on its own accounts alone.
use Rattle.std.specs.Prelude.{◌≡◌, ℕ, ◌≤◌, List, All, length, map, Option}
use Rattle.std.specs.Option.{option_map}
use Rattle.reg_rules.specs.declared.reply.Reply.{Reply}
use Rattle.reg_rules.specs.State.{State, numbers}
use Rattle.reg_rules.specs.Laws.{AgreeOn}
use Rattle.reg_book.specs.Day.{DayValue, setting, state_at, closing_state, row_at}
use Rattle.reg_regions.specs.Regions.{IsRegion, accounts_after_all, replies_for, up_to}

-- the reply in the log row of the instruction at this place of the day
abbrev pub reply_of : DayValue → ℕ → Option Reply
reply_of day place = option_map (λ row. row.reply) (row_at day place)

-- law: after the places up to j each account of the region is as it is after the first j instructions of the day
abbrev pub RegionIsAsTheDay : Type 0
RegionIsAsTheDay = (day : DayValue) (opening : State) (places : List ℕ) → IsRegion day opening places → (j : ℕ)
    → AgreeOn (numbers opening) (accounts_after_all (setting day) day.batch opening (up_to j places)) (state_at day j)

-- law: after all its places each account of the region is as the day leaves it
abbrev pub RegionEndsAsTheDay : Type 0
RegionEndsAsTheDay = (day : DayValue) (opening : State) (places : List ℕ) → IsRegion day opening places
    → All (λ place. place ≤ length day.batch.instructions) places
    → AgreeOn (numbers opening) (accounts_after_all (setting day) day.batch opening places) (closing_state day)

-- law: and each of its instructions gets the reply that the day gives it
abbrev pub RegionRepliesAsTheDay : Type 0
RegionRepliesAsTheDay = (day : DayValue) (opening : State) (places : List ℕ) → IsRegion day opening places
    → replies_for (setting day) day.batch opening places ≡ map (reply_of day) places

-- law: no account of the region is added, removed or moved
abbrev pub RegionKeepsNumbers : Type 0
RegionKeepsNumbers = (day : DayValue) (opening : State) (places : List ℕ)
    → numbers (accounts_after_all (setting day) day.batch opening places) ≡ numbers opening
