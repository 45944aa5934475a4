-- What holds of every draft: its sections are within their limits, and in the order of the grammar.
use Rattle.std.specs.Prelude.{◌≡◌, ℕ, ◌+◌, ◌<◌, ◌≤◌, Bool, true, false, List, [], map, length, Option, Some, None}
use Rattle.std.specs.Prelude.{IfSome}
use Rattle.std.specs.List.{AllByRecursion}
use Rattle.reg_base.specs.declared.limits.TheConstants.{MOST_ACCOUNTS, MOST_RECORD}
use Rattle.reg_base.specs.Rising.{IsRising}
use Rattle.reg_account.specs.declared.rows.RetirementRow.{RetirementRow}
use Rattle.reg_account.specs.Rows.{AreBelow, RetiredFits, row_numbers}
use Rattle.reg_account.specs.Account.{AccountValue}
use Rattle.reg_account.specs.Lists.{no_lists}
use Rattle.reg_rules.specs.Effect.{IsBehind}
use Rattle.reg_text.specs.declared.reading.tag.Tag.{Tag}
use Rattle.reg_text.specs.declared.reading.scope.Version.{Version}
use Rattle.reg_text.specs.Tags.{stage, tag_stage, is_in_version, is_needed, is_once}
use Rattle.reg_text.specs.Sections.{Section, IsSection}
use Rattle.reg_text.specs.Drafts.{DraftValue, accounts_in, account_count, sections, scope_of}
use Rattle.reg_text.specs.Faults.{next_in}

-- where a section stands: the blocks that are over stand before the begun one
abbrev pub stands_at : Option Tag → ℕ
stands_at None = 75
stands_at (Some t) = tag_stage t

-- whether its row may stand somewhere in a version, comes at most once, and has to come
abbrev pub may_come : Version → Option Tag → Bool
may_come version None = true
may_come version (Some t) = is_in_version version t

abbrev pub comes_once : Version → Option Tag → Bool
comes_once version None = false
comes_once version (Some t) = is_once version t

abbrev pub has_to_come : Version → Option Tag → Bool
has_to_come version None = false
has_to_come version (Some t) = is_needed version t

-- after a row at this stage: a section of later rows has not begun, and a row that has to come has come if its stage is
-- not later
pub record SectionStandsAt (version : Version) (at : ℕ) (s : Section) : Type 0 where
  pub begun : at < stands_at s.0 → s.1 ≡ []
  pub come : stands_at s.0 ≤ at → has_to_come version s.0 ≡ true → 1 ≤ length s.1
  pub once : comes_once version s.0 ≡ true → length s.1 ≤ 1
  pub known : may_come version s.0 ≡ false → s.1 ≡ []

-- the surrenders and deletions of these accounts, and of the begun one, are recorded under numbers below the next one
pub record AreRecorded (accounts : List AccountValue) (rows : List RetirementRow) (next : ℕ) : Type 0 where
  pub whole : AllByRecursion (IsBehind next) accounts
  pub begun : AreBelow next (row_numbers rows)

-- what was read is within its limits and in the order of the grammar; without a begun account there are no lists
pub record FitsSoFar (d : DraftValue) : Type 0 where
  pub within : AllByRecursion (IsSection (scope_of d)) (sections d)
  pub stand : AllByRecursion (SectionStandsAt (scope_of d).version (stage d.last)) (sections d)
  pub known : may_come (scope_of d).version d.last ≡ true
  pub rising : IsRising (map (λ a. a.number) (accounts_in d))
  pub few : account_count d ≤ MOST_ACCOUNTS
  pub numbered : IfSome (next_in d.heading.days) (λ next. next + length d.instructions ≤ MOST_RECORD + 1)
  pub recorded : IfSome (next_in d.heading.days) (AreRecorded d.accounts d.lists.rows)
  pub retired : RetiredFits d.lists.rows
  pub unbegun : d.head ≡ None → d.lists ≡ no_lists

-- and if no account is begun, no block is over, and the last row is none of a block
pub record IsDraft (d : DraftValue) : Type 0 where
  pub fits : FitsSoFar d
  pub first : d.head ≡ None → d.accounts ≡ []
  pub begun : d.head ≡ None → 80 ≤ stage d.last → 90 ≤ stage d.last
