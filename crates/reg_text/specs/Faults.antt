-- The rows of a text in turn: what each adds, and the first that is wrong, with its cause.
use Rattle.std.specs.Prelude.{◌≡◌, ℕ, ◌+◌, Bool, true, ◌&&◌, nat_lt, nat_le, List, [], ◌∷◌, ◌++◌, length, Option, Some}
use Rattle.std.specs.Prelude.{None, Result, Ok, Err, if◌then◌else◌}
use Rattle.reg_base.specs.declared.limits.TheConstants.{MOST_ACCOUNTS, MOST_RETIRED, MOST_ROWS, MOST_INSTRUCTIONS}
use Rattle.reg_base.specs.declared.limits.TheConstants.{MOST_RECORD}
use Rattle.reg_account.specs.declared.rows.RetirementRow.{RetirementRow}
use Rattle.reg_account.specs.Rows.{retired_in, retirement_of}
use Rattle.reg_text.specs.declared.cause.Cause.{Cause}
use Rattle.reg_text.specs.declared.cause.Cause.TheVariants as cause
use Rattle.reg_text.specs.declared.cause.DayFault.{DayFault}
use Rattle.reg_text.specs.declared.cause.DayFault.TheVariants as fault
use Rattle.reg_text.specs.declared.cause.RowError.{RowError}
use Rattle.reg_text.specs.declared.cause.RowError.TheVariants as failure
use Rattle.reg_text.specs.declared.reading.tag.Tag.{Tag}
use Rattle.reg_text.specs.declared.reading.tag.Tag.TheVariants as tag
use Rattle.reg_text.specs.Lasts.{last_item}
use Rattle.reg_text.specs.Causes.{◌>>=◌, test}
use Rattle.reg_text.specs.TextRows.{TextRow, field}
use Rattle.reg_text.specs.Tags.{tag_after}
use Rattle.reg_text.specs.Grammar.{Said, row}
use Rattle.reg_text.specs.Sections.{key, follows, most, is_space}
use Rattle.reg_text.specs.Drafts.{DraftValue, items_said, draft_list, account_count, with_block_over, nothing_read}
use Rattle.reg_text.specs.Drafts.{scope_of}
use Rattle.reg_book.specs.Day.{DayValue}
use Rattle.reg_text.specs.Day.{is_text_over, day_said}

-- ---- one row

-- the draft in which the rows with a tag say these
abbrev pub saying : (t : Tag) → DraftValue → List (Said t) → DraftValue
saying t d xs = (draft_list t).with_items d xs

-- the draft to which a row with a tag is added: before another account all blocks are over
abbrev pub ready_for : Tag → DraftValue → DraftValue
ready_for tag.Account d = with_block_over d
ready_for t d = d

-- the draft with what a row says
abbrev pub with : (t : Tag) → DraftValue → Said t → DraftValue
with t d x = record (saying t (ready_for t d) (items_said t (ready_for t d) ++ x ∷ [])) { last = Some t }

-- the next record number, once it is known
abbrev pub next_in : List (ℕ × ℕ) → Option ℕ
next_in [] = None
next_in (day ∷ days) = Some day.1

-- there is a record number for one more instruction
abbrev pub is_number_left : Option ℕ → ℕ → Bool
is_number_left None count = true
is_number_left (Some next) count = nat_le (next + count) MOST_RECORD

-- it comes after the row before it in its section
abbrev pub in_order : (t : Tag) → DraftValue → Said t → Bool
in_order t d x = follows (key t) (last_item (items_said t d)) x

-- a surrender or a deletion is recorded under a number below the next one
abbrev pub is_recorded : Option ℕ → RetirementRow → Bool
is_recorded None row = true
is_recorded (Some next) row = nat_lt row.number next

-- with it, what was surrendered (or deleted) of its kind, and not reversed, is within the limit
abbrev pub is_sum_left : List RetirementRow → RetirementRow → Bool
is_sum_left rows row = nat_le (retired_in (retirement_of row.fate) row.kind (rows ++ row ∷ [])) MOST_RETIRED

-- an account has space for one more surrender or deletion, its number is below the next one, and the sum stays within
-- the limit
abbrev pub has_row_space : Option ℕ → List RetirementRow → RetirementRow → Bool
has_row_space next rows row = nat_lt (length rows) MOST_ROWS && (is_recorded next row && is_sum_left rows row)

-- its section may have one more row, an instruction has a record number, and a surrender or a deletion has a number
-- below the next one, and the sum stays within the limit
abbrev pub has_space : (t : Tag) → DraftValue → Said t → Bool
has_space tag.Account d x = nat_lt (account_count d) MOST_ACCOUNTS
has_space tag.Retired d x = has_row_space (next_in d.heading.days) d.lists.rows x
has_space tag.Do d x = nat_lt (length d.instructions) MOST_INSTRUCTIONS
    && is_number_left (next_in d.heading.days) (length d.instructions)
has_space t d x = is_space (most t) (length (items_said t d))

-- a value, if two tests pass
abbrev pub placed : {A : Type 0} → Bool → Bool → A → Result A Cause
placed ordered space x = if ordered then test space cause.Limit x else Err cause.Order

-- what a row that says this adds
abbrev pub adding : (t : Tag) → DraftValue → Said t → Result DraftValue Cause
adding t d x = placed (in_order t d x) (has_space t d x) (with t d x)

-- what a row with this tag adds
unfoldable pub with_row : Tag → DraftValue → TextRow → Result DraftValue Cause
with_row t d r = (row (scope_of d) t).read r >>= λ x. adding t d x

-- what the rows say with one more row, or the first cause that applies to it
abbrev pub next_draft : DraftValue → TextRow → Result DraftValue Cause
next_draft d r = if is_text_over d.last then Err cause.End
    else (tag_after (scope_of d).version d.last (field r 0) >>= λ t. with_row t d r)

-- what these rows, each of which is taken, make of a draft
abbrev pub drafted : DraftValue → List TextRow → Result DraftValue Cause
drafted d [] = Ok d
drafted d (r ∷ rows) = next_draft d r >>= λ e. drafted e rows

-- ---- the rows of a text

-- a row that is taken, or its number and the cause
abbrev pub at_row : {A B : Type 0} → ℕ → Result A Cause → (A → Result B (ℕ × Cause)) → Result B (ℕ × Cause)
at_row number (Ok x) more = more x
at_row number (Err c) more = Err (number, c)

-- the day after the last row, or that a row with this number must follow
abbrev pub at_end : ℕ → Option DayValue → Result DayValue (ℕ × Cause)
at_end number (Some day) = Ok day
at_end number None = Err (number, cause.End)

-- the day that these rows say after a draft, the first of them with this number
abbrev pub after_rows : ℕ → DraftValue → List TextRow → Result DayValue (ℕ × Cause)
after_rows number d [] = at_end number (day_said d)
after_rows number d (r ∷ rows) = at_row number (next_draft d r) (λ e. after_rows (number + 1) e rows)

-- the day that the rows of a text say, or the first faulty row and its cause
abbrev pub day_of_rows : List TextRow → Result DayValue (ℕ × Cause)
day_of_rows rows = after_rows 1 nothing_read rows

-- ---- what calls answer

-- what a call that took a row left is what reading gives, unless memory ran out
abbrev pub IsFailure : {A : Type 0} → RowError → Result A Cause → Type 0
IsFailure failure.NoMemory read = Unit {0}
IsFailure (failure.Fault c) read = read ≡ Err c

abbrev pub TakesRow : {X : Type 0} → DraftValue → Result X RowError → Result DraftValue Cause → Type 0
TakesRow new (Ok x) read = read ≡ Ok new
TakesRow new (Err e) read = IsFailure e read

-- what a call that read rows answered is what they say, unless memory ran out
abbrev pub AnswersFault : {Y : Type 0} → DayFault → Result Y (ℕ × Cause) → Type 0
AnswersFault fault.NoMemory read = Unit {0}
AnswersFault (fault.Row row c) read = read ≡ Err (row, c)

abbrev pub Answers : {X Y : Type 0} → (X → Y) → Result X DayFault → Result Y (ℕ × Cause) → Type 0
Answers view (Ok x) read = read ≡ Ok (view x)
Answers view (Err e) read = AnswersFault e read
