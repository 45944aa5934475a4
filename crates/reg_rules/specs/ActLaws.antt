-- What each act makes of the state: which entry of which map changes, and that all else stays.
use Rattle.std.specs.Prelude.{◌≡◌, ◌≢◌, ℕ, ◌+◌, ◌-◌, ◌≤◌, ℤ, true, false, List, map, Some, None, Ok}
use Rattle.std.specs.List.{All}
use Rattle.reg_base.specs.declared.kinds.AllowanceKind.{AllowanceKind}
use Rattle.reg_base.specs.declared.kinds.Status.{Status}
use Rattle.reg_base.specs.declared.act.Act.{Act}
use Rattle.reg_base.specs.declared.act.Act.TheVariants.{Transfer, Surrender, Delete, ReturnExcess, Reverse, Create}
use Rattle.reg_base.specs.declared.act.Act.TheVariants.{CentralMove, Distribute, Trust, Untrust, SetStatus}
use Rattle.reg_base.specs.declared.act.Act.TheVariants.{EnterEmissions, Assess}
use Rattle.reg_base.specs.declared.shares.Share.{Share}
use Rattle.reg_base.specs.declared.instruction.Instruction.{Instruction}
use Rattle.reg_base.specs.Acts.{total_of}
use Rattle.reg_base.specs.Footprint.{is_among}
use Rattle.reg_base.specs.Calendar.{due}
use Rattle.reg_base.specs.declared.kinds.Retirement.{Retirement}
use Rattle.reg_account.specs.declared.rows.Fate.{Fate}
use Rattle.reg_account.specs.declared.rows.Fate.TheVariants as fate
use Rattle.reg_account.specs.declared.rows.RetirementRow.{RetirementRow}
use Rattle.reg_account.specs.Rows.{amount_in}
use Rattle.reg_account.specs.Account.{AccountValue}
use Rattle.reg_account.specs.Figure.{figure_of}
use Rattle.reg_rules.specs.State.{State, Setting, account, held, rows, retirement_row, retired_at, emitted, determined}
use Rattle.reg_rules.specs.State.{status, listed}
use Rattle.reg_rules.specs.Checks.{refusal}
use Rattle.reg_rules.specs.Laws.{after_step, account_aside, IsReady}

-- no holding changes
abbrev pub HoldingsStay : State → State → Type 0
HoldingsStay s t = (a : ℕ) (kind : AllowanceKind) → held t a kind ≡ held s a kind

-- no surrender and no deletion is added or changed
abbrev pub RowsStay : State → State → Type 0
RowsStay s t = (a : ℕ) → rows t a ≡ rows s a

-- no emissions change
abbrev pub EmissionsStay : State → State → Type 0
EmissionsStay s t = (a year : ℕ) → emitted t a year ≡ emitted s a year

-- no determined figure changes
abbrev pub FiguresStay : State → State → Type 0
FiguresStay s t = (a year : ℕ) → determined t a year ≡ determined s a year

-- no trusted list changes
abbrev pub ListsStay : State → State → Type 0
ListsStay s t = (a other : ℕ) → listed t a other ≡ listed s a other

-- no status changes
abbrev pub StatusesStay : State → State → Type 0
StatusesStay s t = (a : ℕ) → status t a ≡ status s a

-- nothing changes that none of these maps shows: kinds, holders, representatives and all other constants
abbrev pub RestStays : State → State → Type 0
RestStays s t = (a : ℕ) → account_aside t a ≡ account_aside s a

-- the second state is the first, except that this amount has moved from one account to another
pub record IsMoved (s t : State) (from to : ℕ) (kind : AllowanceKind) (amount : ℕ) : Type 0 where
  pub enough : amount ≤ held s from kind
  pub lowered : held t from kind ≡ held s from kind - amount
  pub raised : held t to kind ≡ held s to kind + amount
  pub other_kinds : (a : ℕ) (other : AllowanceKind) → other ≢ kind → held t a other ≡ held s a other
  pub other_accounts : (a : ℕ) → a ≢ from → a ≢ to → account t a ≡ account s a
  pub rows_stay : RowsStay s t
  pub emissions_stay : EmissionsStay s t
  pub figures_stay : FiguresStay s t
  pub lists_stay : ListsStay s t
  pub statuses_stay : StatusesStay s t
  pub rest_stays : RestStays s t

-- an accepted instruction with such an act moves the amount, and does nothing else
abbrev pub Moves : (ℕ → ℕ → AllowanceKind → ℕ → Act) → Type 0
Moves act = (c : Setting) (s : State) (number : ℕ) (i : Instruction) (from to : ℕ) (kind : AllowanceKind) (amount : ℕ)
    → i.act ≡ act from to kind amount → refusal c s i ≡ None → IsMoved s (after_step c s number i) from to kind amount

-- the second state is the first, except that each of these accounts has received its share from the first one: all of
-- them
pub record IsDistributed (s t : State) (from : ℕ) (kind : AllowanceKind) (shares : List Share) : Type 0 where
  pub enough : total_of shares ≤ held s from kind
  pub lowered : held t from kind ≡ held s from kind - total_of shares
  pub raised : All (λ share. held t share.to kind ≡ held s share.to kind + share.amount) shares
  pub other_kinds : (a : ℕ) (other : AllowanceKind) → other ≢ kind → held t a other ≡ held s a other
  pub other_accounts : (a : ℕ) → a ≢ from → is_among (map (λ share. share.to) shares) a ≡ false
      → account t a ≡ account s a
  pub rows_stay : RowsStay s t
  pub emissions_stay : EmissionsStay s t
  pub figures_stay : FiguresStay s t
  pub lists_stay : ListsStay s t
  pub statuses_stay : StatusesStay s t
  pub rest_stays : RestStays s t

-- an accepted distribution gives each account its share, and does nothing else
abbrev pub Distributes : Type 0
Distributes = (c : Setting) (s : State) (number : ℕ) (i : Instruction) (from : ℕ) (kind : AllowanceKind)
    (shares : List Share)
    → i.act ≡ Distribute from kind shares → refusal c s i ≡ None
    → IsDistributed s (after_step c s number i) from kind shares

-- the second state is the first, except that this amount was created on the account
pub record IsCreated (s t : State) (to : ℕ) (kind : AllowanceKind) (amount : ℕ) : Type 0 where
  pub raised : held t to kind ≡ held s to kind + amount
  pub other_kinds : (other : AllowanceKind) → other ≢ kind → held t to other ≡ held s to other
  pub other_accounts : (a : ℕ) → a ≢ to → account t a ≡ account s a
  pub rows_stay : RowsStay s t
  pub emissions_stay : EmissionsStay s t
  pub figures_stay : FiguresStay s t
  pub lists_stay : ListsStay s t
  pub statuses_stay : StatusesStay s t
  pub rest_stays : RestStays s t

-- an accepted creation raises the holding of the account by its amount, and does nothing else
abbrev pub Creates : Type 0
Creates = (c : Setting) (s : State) (number : ℕ) (i : Instruction) (to : ℕ) (kind : AllowanceKind) (amount : ℕ)
    → i.act ≡ Create to kind amount → refusal c s i ≡ None → IsCreated s (after_step c s number i) to kind amount

-- the second state is the first, except that the allowances of this row have left the account, and the row says where
-- they went
pub record IsRetired (s t : State) (from : ℕ) (new : RetirementRow) : Type 0 where
  pub enough : new.amount ≤ held s from new.kind
  pub lowered : held t from new.kind ≡ held s from new.kind - new.amount
  pub other_kinds : (other : AllowanceKind) → other ≢ new.kind → held t from other ≡ held s from other
  pub recorded : retirement_row t from new.number ≡ Some new
  pub other_rows : (number : ℕ) → number ≢ new.number → retirement_row t from number ≡ retirement_row s from number
  pub sums : (way : Retirement) (kind : AllowanceKind)
      → retired_at t from way kind ≡ retired_at s from way kind + amount_in way kind new
  pub other_accounts : (a : ℕ) → a ≢ from → account t a ≡ account s a
  pub emissions_stay : EmissionsStay s t
  pub figures_stay : FiguresStay s t
  pub lists_stay : ListsStay s t
  pub statuses_stay : StatusesStay s t
  pub rest_stays : RestStays s t

-- an accepted surrender (or deletion) records its amount as surrendered for the current period (or deleted) today,
-- under its record number, and does nothing else
abbrev pub Retires : (Setting → Fate) → (ℕ → AllowanceKind → ℕ → Act) → Type 0
Retires fate_in act = (c : Setting) (s : State) (number : ℕ) (i : Instruction) (from : ℕ) (kind : AllowanceKind)
    (amount : ℕ)
    → i.act ≡ act from kind amount → IsReady number s → refusal c s i ≡ None
    → IsRetired s (after_step c s number i) from
    (record { number = number; fate = fate_in c; kind = kind; amount = amount; day = c.day; reversed = false })

-- the second state is the first, except that the allowances of this row are back, and the row is marked as reversed
pub record IsReversed (s t : State) (a : ℕ) (old : RetirementRow) : Type 0 where
  pub recorded : retirement_row s a old.number ≡ Some old
  pub stood : old.reversed ≡ false
  pub raised : held t a old.kind ≡ held s a old.kind + old.amount
  pub other_kinds : (other : AllowanceKind) → other ≢ old.kind → held t a other ≡ held s a other
  pub marked : retirement_row t a old.number ≡ Some (record old { reversed = true })
  pub other_rows : (number : ℕ) → number ≢ old.number → retirement_row t a number ≡ retirement_row s a number
  pub sums : (way : Retirement) (kind : AllowanceKind)
      → retired_at t a way kind + amount_in way kind old ≡ retired_at s a way kind
  pub other_accounts : (b : ℕ) → b ≢ a → account t b ≡ account s b
  pub emissions_stay : EmissionsStay s t
  pub figures_stay : FiguresStay s t
  pub lists_stay : ListsStay s t
  pub statuses_stay : StatusesStay s t
  pub rest_stays : RestStays s t

-- an accepted reversal gives the allowances of its row back to the account, and does nothing else
abbrev pub Reverses : Type 0
Reverses = (c : Setting) (s : State) (number : ℕ) (i : Instruction) (a reversed : ℕ)
    → i.act ≡ Reverse a reversed → IsReady number s → refusal c s i ≡ None
    → (old : RetirementRow) × ((old.number ≡ reversed) × IsReversed s (after_step c s number i) a old)

-- the second state is the first, except that the account has these emissions in the year
pub record IsEntered (s t : State) (a year tonnes : ℕ) : Type 0 where
  pub entered : emitted t a year ≡ Some tonnes
  pub other_years : (other : ℕ) → other ≢ year → emitted t a other ≡ emitted s a other
  pub other_accounts : (b : ℕ) → b ≢ a → account t b ≡ account s b
  pub holdings_stay : HoldingsStay s t
  pub rows_stay : RowsStay s t
  pub figures_stay : FiguresStay s t
  pub lists_stay : ListsStay s t
  pub statuses_stay : StatusesStay s t
  pub rest_stays : RestStays s t

-- an accepted entry of emissions sets them for its year, and does nothing else
abbrev pub Enters : Type 0
Enters = (c : Setting) (s : State) (number : ℕ) (i : Instruction) (a year tonnes : ℕ)
    → i.act ≡ EnterEmissions a year tonnes → IsReady number s → refusal c s i ≡ None
    → IsEntered s (after_step c s number i) a year tonnes

-- the second state is the first, except that this figure was determined for the year
pub record IsAssessed (s t : State) (a year : ℕ) (figure : ℤ) : Type 0 where
  pub determined_now : determined t a year ≡ Some figure
  pub other_years : (other : ℕ) → other ≢ year → determined t a other ≡ determined s a other
  pub other_accounts : (b : ℕ) → b ≢ a → account t b ≡ account s b
  pub holdings_stay : HoldingsStay s t
  pub rows_stay : RowsStay s t
  pub emissions_stay : EmissionsStay s t
  pub lists_stay : ListsStay s t
  pub statuses_stay : StatusesStay s t
  pub rest_stays : RestStays s t

-- an accepted assessment determines the figure that the account has for the year, and does nothing else
abbrev pub Assesses : Type 0
Assesses = (c : Setting) (s : State) (number : ℕ) (i : Instruction) (a year : ℕ)
    → i.act ≡ Assess a year → IsReady number s → refusal c s i ≡ None
    → (v : AccountValue) × ((figure : ℤ)
    × ((account s a ≡ Some v)
    × ((figure_of c.rules v year ≡ Ok figure) × IsAssessed s (after_step c s number i) a year figure)))

-- the second state is the first, except that the account's trusted list has the other one from this day on
pub record IsListed (s t : State) (a other day : ℕ) : Type 0 where
  pub absent : listed s a other ≡ None
  pub added : listed t a other ≡ Some day
  pub other_entries : (b : ℕ) → b ≢ other → listed t a b ≡ listed s a b
  pub other_accounts : (b : ℕ) → b ≢ a → account t b ≡ account s b
  pub holdings_stay : HoldingsStay s t
  pub rows_stay : RowsStay s t
  pub emissions_stay : EmissionsStay s t
  pub figures_stay : FiguresStay s t
  pub statuses_stay : StatusesStay s t
  pub rest_stays : RestStays s t

-- an accepted addition puts the other account on the list from the day that is the list's lag after the settlement day,
-- and does nothing else
abbrev pub Trusts : Type 0
Trusts = (c : Setting) (s : State) (number : ℕ) (i : Instruction) (a other : ℕ)
    → i.act ≡ Trust a other → IsReady number s → refusal c s i ≡ None
    → (day : ℕ) × ((due c.rules.calendar c.day c.rules.list_lag ≡ Some day)
    × IsListed s (after_step c s number i) a other day)

-- the second state is the first, except that the account's trusted list does not have the other one any more
pub record IsUnlisted (s t : State) (a other : ℕ) : Type 0 where
  pub present : (day : ℕ) × (listed s a other ≡ Some day)
  pub removed : listed t a other ≡ None
  pub other_entries : (b : ℕ) → b ≢ other → listed t a b ≡ listed s a b
  pub other_accounts : (b : ℕ) → b ≢ a → account t b ≡ account s b
  pub holdings_stay : HoldingsStay s t
  pub rows_stay : RowsStay s t
  pub emissions_stay : EmissionsStay s t
  pub figures_stay : FiguresStay s t
  pub statuses_stay : StatusesStay s t
  pub rest_stays : RestStays s t

-- an accepted removal takes the other account off the list at once, and does nothing else
abbrev pub Untrusts : Type 0
Untrusts = (c : Setting) (s : State) (number : ℕ) (i : Instruction) (a other : ℕ)
    → i.act ≡ Untrust a other → refusal c s i ≡ None → IsUnlisted s (after_step c s number i) a other

-- the second state is the first, except that the account has this status
pub record IsStatusSet (s t : State) (a : ℕ) (new : Status) : Type 0 where
  pub now_set : status t a ≡ Some new
  pub other_accounts : (b : ℕ) → b ≢ a → account t b ≡ account s b
  pub holdings_stay : HoldingsStay s t
  pub rows_stay : RowsStay s t
  pub emissions_stay : EmissionsStay s t
  pub figures_stay : FiguresStay s t
  pub lists_stay : ListsStay s t
  pub rest_stays : RestStays s t

-- an accepted change of status sets the status, and does nothing else
abbrev pub Sets : Type 0
Sets = (c : Setting) (s : State) (number : ℕ) (i : Instruction) (a : ℕ) (new : Status)
    → i.act ≡ SetStatus a new → refusal c s i ≡ None → IsStatusSet s (after_step c s number i) a new

-- law: what each act makes of the state
pub record ActLaws : Type 0 where
  pub transfer : Moves (λ from to kind amount. Transfer from to kind amount)
  pub surrender : Retires (λ c. fate.Surrendered c.rules.current) (λ from kind amount. Surrender from kind amount)
  pub delete : Retires (λ c. fate.Deleted) (λ from kind amount. Delete from kind amount)
  pub return_excess : Moves (λ from to kind amount. ReturnExcess from to kind amount)
  pub reverse : Reverses
  pub create : Creates
  pub central_move : Moves (λ from to kind amount. CentralMove from to kind amount)
  pub distribute : Distributes
  pub trust : Trusts
  pub untrust : Untrusts
  pub set_status : Sets
  pub enter_emissions : Enters
  pub assess : Assesses
