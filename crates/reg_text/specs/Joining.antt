-- Parts of a day text, each read on its own behind the heading, and how their drafts are joined.
use Rattle.std.specs.Prelude.{◌≡◌, ℕ, ◌+◌, ◌-◌, ◌≤◌, true, List, [], ◌∷◌, ◌++◌, length, Option, option_map, Some, None}
use Rattle.std.specs.Prelude.{Ok}
use Rattle.reg_base.specs.declared.limits.TheConstants.{MOST_ACCOUNTS, MOST_INSTRUCTIONS}
use Rattle.reg_account.specs.Lists.{no_lists}
use Rattle.reg_cuts.specs.Parts.{IsCut}
use Rattle.reg_cuts.specs.Rows.{rows_in_text}
use Rattle.reg_text.specs.TextRows.{TextRow}
use Rattle.reg_text.specs.Lasts.{is_above}
use Rattle.reg_text.specs.declared.reading.account_row.AccountHead.{AccountHead}
use Rattle.reg_text.specs.declared.reading.tag.Tag.{Tag}
use Rattle.reg_text.specs.declared.reading.tag.Tag.TheVariants as tag
use Rattle.reg_text.specs.Tags.{may_follow}
use Rattle.reg_text.specs.Drafts.{DraftValue, accounts_in, account_count, nothing_read, scope_of}
use Rattle.reg_text.specs.Faults.{next_draft, drafted, next_in, is_number_left}

-- the number of an account's row, if there is one
abbrev pub number_in : Option AccountHead → Option ℕ
number_in head = option_map (λ h. h.number) head

-- neither accounts nor instructions have come
pub record IsHeading (h : DraftValue) : Type 0 where
  pub no_accounts : h.accounts ≡ []
  pub no_head : h.head ≡ None
  pub no_lists : h.lists ≡ no_lists
  pub no_instructions : h.instructions ≡ []

-- the rows before the accounts say the same
abbrev pub HasHeading : DraftValue → DraftValue → Type 0
HasHeading h d = d.heading ≡ h.heading

-- the last row is that of an account with this number, or if there is none, an instruction
abbrev pub BeginsWith : Option Tag → Option AccountHead → Option ℕ → Type 0
BeginsWith last head (Some number) = (last ≡ Some tag.Account) × (number_in head ≡ Some number)
BeginsWith last head None = last ≡ Some tag.Do

-- the rows of a part, read behind a heading, give this draft. The first row is this one
pub record IsPart (h : DraftValue) (rows : List TextRow) (first : Option ℕ) (d : DraftValue) : Type 0 where
  pub row : TextRow
  pub others : List TextRow
  pub after_first : DraftValue
  pub rows_are : rows ≡ row ∷ others
  pub takes_first : next_draft h row ≡ Ok after_first
  pub begins : BeginsWith after_first.last after_first.head first
  pub goes_on : drafted after_first others ≡ Ok d

-- a draft, and behind it what a part adds that begins with an account of this number, or with an instruction
abbrev pub joined_drafts : Option ℕ → DraftValue → DraftValue → DraftValue
joined_drafts (Some number) d e = record d {
  last = e.last;
  accounts = accounts_in d ++ e.accounts;
  head = e.head;
  lists = e.lists;
  instructions = e.instructions;
}
joined_drafts None d e = record d { last = e.last; instructions = d.instructions ++ e.instructions }

-- accounts of a part, whose first one has this number, may stand behind a draft
pub record AccountsMayFollow (number : ℕ) (d e : DraftValue) : Type 0 where
  pub stands : may_follow (scope_of d).version d.last tag.Account ≡ true
  pub no_instructions : d.instructions ≡ []
  pub ordered : is_above (number_in d.head) number ≡ true
  pub few : account_count d + account_count e ≤ MOST_ACCOUNTS

-- instructions of a part may stand behind a draft: there is space, and the last one has a record number
pub record InstructionsMayFollow (d e : DraftValue) : Type 0 where
  pub stands : may_follow (scope_of d).version d.last tag.Do ≡ true
  pub few : length d.instructions + length e.instructions ≤ MOST_INSTRUCTIONS
  pub left : is_number_left (next_in d.heading.days) (length d.instructions + length e.instructions - 1) ≡ true

-- the draft of a part may stand behind a draft
abbrev pub MayJoin : Option ℕ → DraftValue → DraftValue → Type 0
MayJoin (Some number) d e = AccountsMayFollow number d e
MayJoin None d e = InstructionsMayFollow d e

-- law: the rows of a part, read behind the draft before it, give both drafts joined, with the same heading
abbrev pub PartsJoin : Type 0
PartsJoin = (h d e : DraftValue) (rows : List TextRow) (first : Option ℕ) → IsHeading h → HasHeading h d
    → MayJoin first d e → IsPart h rows first e
    → (drafted d rows ≡ Ok (joined_drafts first d e)) × HasHeading h (joined_drafts first d e)

-- the rows of a text, which may be cut at its end, give this draft, which has this heading
pub record IsReadSoFar (h : DraftValue) (text : List ℕ) (d : DraftValue) : Type 0 where
  pub read : drafted nothing_read (rows_in_text text) ≡ Ok d
  pub cut : IsCut text
  pub heading : HasHeading h d
