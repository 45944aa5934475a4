-- What a name says of the values and the places that belong to its day.
use Rattle.std.specs.Prelude.{◌≡◌, ℕ, ◌+◌, ◌-◌, ◌≤◌, ◌<◌, Bool, true, false, MatchOption, slice_index_or, ◌&&◌, ◌==◌}
use Rattle.std.specs.Prelude.{List, [], ◌∷◌, length, map, Option, Some}
use Rattle.std.specs.List.{list_all, list_any, AllByRecursion}
use Rattle.std.specs.Option.{option_map}
use Rattle.reg_base.specs.declared.limits.TheConstants.{MOST_TOUCHED}
use Rattle.reg_base.specs.Rules.{RulesValue}
use Rattle.reg_base.specs.Batch.{BatchValue}
use Rattle.reg_base.specs.Touches.{last_toucher}
use Rattle.reg_account.specs.Account.{AccountValue}
use Rattle.reg_rules.specs.Effect.{IsBehind}
use Rattle.reg_rules.specs.declared.reply.LogRow.{LogRow}
use Rattle.reg_rules.specs.declared.reply.Reply.{Reply}
use Rattle.reg_book.specs.Book.{BookValue}
use Rattle.reg_book.specs.Day.{DayValue, day_of, value_at, row_at}
use Rattle.reg_schedules.specs.Pool.{directory, footprint_at}
use Rattle.reg_schedules.specs.Docks.{is_name}

-- if a day is named, these are its book, its rules and its batch
abbrev pub IsNamed : Option DayValue → BookValue → RulesValue → BatchValue → Type 0
IsNamed name book rules batch = (day : DayValue) → name ≡ Some day → day_of book rules batch ≡ day

-- if a day is named, this is the account as the instruction at that place left it, or, at place 0, as it was at first
abbrev pub IsValue : Option DayValue → AccountValue → ℕ → Type 0
IsValue name value after = (day : DayValue) → name ≡ Some day → value_at day value.number after ≡ Some value

-- each account is as the instruction at its place left it
abbrev pub AreValues : Option DayValue → List AccountValue → List ℕ → Type 0
AreValues name [] [] = Unit {0}
AreValues name [] (t ∷ ts) = ⊥
AreValues name (v ∷ vs) [] = ⊥
AreValues name (v ∷ vs) (t ∷ ts) = IsValue name v t × AreValues name vs ts

-- if a day is named, this is the row of that place
abbrev pub IsRowOfDay : Option DayValue → ℕ → LogRow → Type 0
IsRowOfDay name place row = (day : DayValue) → name ≡ Some day → row_at day place ≡ Some row

-- if a day is named, this is the reply in the row of that place
abbrev pub IsReplyOfDay : Option DayValue → ℕ → Reply → Type 0
IsReplyOfDay name place reply =
    (day : DayValue) → name ≡ Some day → option_map (λ row. row.reply) (row_at day place) ≡ Some reply

-- there are as many names as those that are needed, and each of these is among them
abbrev pub has_names : List (ℕ × ℕ) → List (ℕ × ℕ) → Bool
has_names names wanted = (length names == length wanted) && list_all (λ w. list_any (λ n. is_name n w) names) wanted

-- the name stands at this index, which is not below the first; or it stands at no such index
abbrev pub FindsFrom : List (ℕ × ℕ) → ℕ → ℕ × ℕ → Option ℕ → Type 0
FindsFrom names first name found = MatchOption found
    ((m : ℕ) → first ≤ m → m < length names → is_name (slice_index_or names m name) name ≡ false)
    (λ m. (first ≤ m) × (m < length names) × (is_name (slice_index_or names m name) name ≡ true))

-- accounts, each with the last place before this one that touches it, or 0
abbrev pub before_place : DayValue → ℕ → List ℕ → List (ℕ × ℕ)
before_place day place [] = []
before_place day place (a ∷ more) =
    (a, last_toucher (directory day) day.batch.instructions a (place - 1)) ∷ before_place day place more

-- these are the names of the values that the instruction at this place needs, in the order of its footprint
pub record AreNeeded (day : DayValue) (place : ℕ) (names : List (ℕ × ℕ)) : Type 0 where
  pub low : 1 ≤ place
  pub high : place ≤ length day.batch.instructions
  pub names_are : names ≡ before_place day place (footprint_at day place)

-- if a day is named, these are the names of the values that the instruction at this place needs
abbrev pub AreComplete : Option DayValue → ℕ → List (ℕ × ℕ) → Type 0
AreComplete name place names = (day : DayValue) → name ≡ Some day → AreNeeded day place names

-- if a day is named, these are the accounts of the place's footprint, each with the place
abbrev pub AreLeft : Option DayValue → ℕ → List (ℕ × ℕ) → Type 0
AreLeft name place names = (day : DayValue) → name ≡ Some day → names ≡ map (λ a. (a, place)) (footprint_at day place)

-- the place is one of the day's, these are the values of the accounts that its instruction touches, and their
-- surrenders and deletions have lower record numbers
pub record IsFor (day : DayValue) (place : ℕ) (own : List AccountValue) : Type 0 where
  pub low : 1 ≤ place
  pub high : place ≤ length day.batch.instructions
  pub touched : map (λ v. v.number) own ≡ footprint_at day place
  pub few : length own ≤ MOST_TOUCHED
  pub behind : AllByRecursion (IsBehind (day.batch.base + place)) own
