-- What an order of the instructions means. Each instruction takes the values that it needs from a pool, is carried out
-- on them alone, and puts back what it made of them.
use Rattle.std.specs.Prelude.{◌≡◌, ℕ, zero, suc, ◌+◌, ◌≤◌, ◌==◌, Bool, ◌&&◌, true, not, List, [], ◌∷◌, length}
use Rattle.std.specs.Prelude.{slice_get, find, Option, Some, None, is_some, if◌then◌else◌}
use Rattle.std.specs.Option.{option_map, option_map_or}
use Rattle.std.specs.List.{list_any}
use Rattle.reg_base.specs.Directory.{DirectoryValue}
use Rattle.reg_base.specs.Footprint.{footprint, is_among}
use Rattle.reg_base.specs.Touches.{is_touched}
use Rattle.reg_account.specs.Account.{AccountValue}
use Rattle.reg_rules.specs.declared.reply.LogRow.{LogRow}
use Rattle.reg_rules.specs.State.{State, account}
use Rattle.reg_rules.specs.Step.{step, row_of}
use Rattle.reg_plan.specs.declared.arrow.Arrow.{Arrow}
use Rattle.reg_plan.specs.Plans.{PlanValue, inward, outward}
use Rattle.reg_book.specs.Book.{directory_of}
use Rattle.reg_book.specs.Day.{DayValue, setting, row_at, settled_day}

-- the kinds and holders of the day's accounts
abbrev pub directory : DayValue → DirectoryValue
directory day = directory_of day.book.accounts

-- the accounts that the instruction at this place touches; none if it is no place
abbrev pub footprint_at : DayValue → ℕ → List ℕ
footprint_at day zero = []
footprint_at day (suc k) = option_map_or (λ i. footprint (directory day) i.act) (slice_get day.batch.instructions k) []

-- what the instruction at this place makes of its own values, and its row in the log; nothing if it is no place
abbrev pub run_at : DayValue → ℕ → State → Option (State × LogRow)
run_at day zero own = None
run_at day (suc k) own =
    option_map (λ i. let one = step (setting day) own
    (day.batch.base + suc k) i in (one.0, row_of (setting day) (day.batch.base + suc k) i one.1))
    (slice_get day.batch.instructions k)

-- of these arrows to a place, the tail of the one at the account, or 0 if there is none
abbrev pub tail_in : List Arrow → ℕ → ℕ
tail_in arrows a = option_map_or (λ arrow. arrow.from) (find (λ arrow. arrow.account == a) arrows) 0

-- the tail of the arrow that leads to this place at the account, or 0 if there is none
abbrev pub tail_of : PlanValue → ℕ → ℕ → ℕ
tail_of plan place a = tail_in (inward plan.arrows place) a

-- an arrow leads on from this place at the account
abbrev pub leads_on : PlanValue → ℕ → ℕ → Bool
leads_on plan place a = list_any (λ arrow. arrow.account == a) (outward plan.arrows place)

-- values named by an account and a place: the account as the instruction at this place left it, or, at place 0, as it
-- was at first
abbrev pub Pool : Type 0
Pool = ℕ → ℕ → Option AccountValue

-- the pool, the values that nothing needs any more, by account, and the rows of the executed instructions, by place
pub record Progress : Type 0 where
  pub pool : Pool
  pub closing : ℕ → Option AccountValue
  pub rows : ℕ → Option LogRow

-- before the first instruction: the pool has the opening value of each touched account, under its number and 0
abbrev pub at_first : DayValue → Progress
at_first day = record {
  pool = λ a place. if (place == 0)
      && is_touched (directory day) day.batch.instructions a then account day.book.accounts a else None;
  closing = λ a. None;
  rows = λ place. None;
}

-- a value before others, if all are there
abbrev pub and_more : Option AccountValue → Option State → Option State
and_more None more = None
and_more (Some v) more = option_map (λ vs. v ∷ vs) more

-- the values that the instruction at this place needs of these accounts, if all are in the pool: each is named by the
-- tail of the arrow that leads there, or by 0
abbrev pub needed : PlanValue → Pool → ℕ → List ℕ → Option State
needed plan pool place [] = Some []
needed plan pool place (a ∷ more) = and_more (pool a (tail_of plan place a)) (needed plan pool place more)

-- the pool without them
abbrev pub removed : PlanValue → ℕ → List ℕ → Pool → Pool
removed plan place accounts pool =
    λ a named. if is_among accounts a && (named == tail_of plan place a) then None else pool a named

-- the pool with each result from which an arrow leads on, named by its account and the place
abbrev pub laid : PlanValue → ℕ → List ℕ → State → Pool → Pool
laid plan place accounts results pool = λ a named. if is_among accounts a
    && ((named == place) && leads_on plan place a) then account results a else pool a named

-- the closing values with each result from which no arrow leads on
abbrev pub with_closing : PlanValue → ℕ → List ℕ → State → (ℕ → Option AccountValue) → ℕ → Option AccountValue
with_closing plan place accounts results closing =
    λ a. if is_among accounts a && not (leads_on plan place a) then account results a else closing a

-- the rows with that of this place
abbrev pub with_log_row : ℕ → LogRow → (ℕ → Option LogRow) → ℕ → Option LogRow
with_log_row place row rows = λ other. if other == place then Some row else rows other

-- after the instruction at this place has made these results and this row
abbrev pub after_place : DayValue → PlanValue → Progress → ℕ → State × LogRow → Progress
after_place day plan p place made = record {
  pool = laid plan place (footprint_at day place) made.0 (removed plan place (footprint_at day place) p.pool);
  closing = with_closing plan place (footprint_at day place) made.0 p.closing;
  rows = with_log_row place made.1 p.rows;
}

-- executing the instruction at this place. It is undefined if a needed value is not in the pool, or if this is no place
abbrev pub executed_on : DayValue → PlanValue → Progress → ℕ → Option State → Option Progress
executed_on day plan p place None = None
executed_on day plan p place (Some own) = option_map (after_place day plan p place) (run_at day place own)

-- it is also undefined if the instruction was executed already
abbrev pub executed : DayValue → PlanValue → Progress → ℕ → Option Progress
executed day plan p place = if is_some (p.rows place) then None
    else executed_on day plan p place (needed plan p.pool place (footprint_at day place))

-- executing the instructions at these places, one after another, as far as all are defined
abbrev pub executed_all : DayValue → PlanValue → Option Progress → List ℕ → Option Progress
executed_all day plan None order = None
executed_all day plan (Some p) [] = Some p
executed_all day plan (Some p) (place ∷ order) = executed_all day plan (executed day plan p place) order

-- what executing the instructions in this order gives, if it is defined
abbrev pub meaning_of : DayValue → PlanValue → List ℕ → Option Progress
meaning_of day plan order = executed_all day plan (Some (at_first day)) order

-- all instructions are executed; their rows are those of the day, and the closing values are the settled accounts
pub record IsSettledDay (day : DayValue) (p : Progress) : Type 0 where
  pub rows : (place : ℕ) → 1 ≤ place → place ≤ length day.batch.instructions
      → (is_some (p.rows place) ≡ true) × (p.rows place ≡ row_at day place)
  pub closing : (a : ℕ) → p.closing a ≡ account (settled_day day).accounts a
