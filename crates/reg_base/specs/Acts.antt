-- The table of movements: what each act does with its accounts. All that an act names follows from its row. (What an
-- act asks of its accounts is in the table of acts, in `ActRules.antt` of reg_rules.)
use Rattle.std.specs.Prelude.{◌≡◌, ℕ, List, [], ◌∷◌, ◌++◌, map, Option, Some, None}
use Rattle.std.specs.List.{sum_by}
use Rattle.reg_base.specs.declared.kinds.AllowanceKind.{AllowanceKind}
use Rattle.reg_base.specs.declared.kinds.AllowanceKind.TheVariants.{General}
use Rattle.reg_base.specs.declared.kinds.Retirement.{Retirement}
use Rattle.reg_base.specs.declared.kinds.Retirement.TheVariants.{Surrendered, Deleted}
use Rattle.reg_base.specs.declared.shares.Share.{Share}
use Rattle.reg_base.specs.declared.movement.Change.{Change}
use Rattle.reg_base.specs.declared.movement.Change.TheVariants.{Debit, Credit, Retire, Unretire, SetEmissions}
use Rattle.reg_base.specs.declared.movement.Change.TheVariants.{Determine}
use Rattle.reg_base.specs.declared.movement.Change.TheVariants as change
use Rattle.reg_base.specs.declared.movement.Movement.{Movement}
use Rattle.reg_base.specs.declared.act.Act.{Act}
use Rattle.reg_base.specs.declared.act.Act.TheVariants.{Transfer, Surrender, Delete, ReturnExcess, Reverse, Create}
use Rattle.reg_base.specs.declared.act.Act.TheVariants.{CentralMove, Distribute, Trust, Untrust, SetStatus}
use Rattle.reg_base.specs.declared.act.Act.TheVariants.{EnterEmissions, Assess}

-- allowances pass from one account to another
abbrev pub passing : ℕ → ℕ → AllowanceKind → ℕ → Movement
passing from to kind amount = record {
  first = from;
  change = Debit kind amount;
  kind = kind;
  leaves = amount;
  shares = record { to = to; amount = amount } ∷ [];
}

-- how many allowances these shares are together
abbrev pub total_of : List Share → ℕ
total_of shares = sum_by (λ share. share.amount) shares

-- allowances pass from one account to several others
abbrev pub distributing : ℕ → AllowanceKind → List Share → Movement
distributing from kind shares = record {
  first = from;
  change = Debit kind (total_of shares);
  kind = kind;
  leaves = total_of shares;
  shares = shares;
}

-- allowances are surrendered or deleted: they leave an account, and no other account receives any
abbrev pub retiring : ℕ → Retirement → AllowanceKind → ℕ → Movement
retiring from way kind amount =
    record { first = from; change = Retire way kind amount; kind = kind; leaves = amount; shares = [] }

-- no allowance leaves the account, so that the kind says nothing
abbrev pub staying : ℕ → Change → Movement
staying account made = record { first = account; change = made; kind = General; leaves = 0; shares = [] }

-- what becomes of the act's first account, which allowances leave it, and which other accounts receive some: a row for
-- each act
abbrev pub movement_of : Act → Movement
movement_of (Transfer from to kind amount) = passing from to kind amount
movement_of (Surrender from kind amount) = retiring from Surrendered kind amount
movement_of (Delete from kind amount) = retiring from Deleted kind amount
movement_of (ReturnExcess from to kind amount) = passing from to kind amount
movement_of (Reverse account number) = staying account (Unretire number)
movement_of (Create to kind amount) = staying to (Credit kind amount)
movement_of (CentralMove from to kind amount) = passing from to kind amount
movement_of (Distribute from kind shares) = distributing from kind shares
movement_of (Trust account other) = staying account (change.Trust other)
movement_of (Untrust account other) = staying account (change.Untrust other)
movement_of (SetStatus account status) = staying account (change.SetStatus status)
movement_of (EnterEmissions account year entered) = staying account (SetEmissions year entered)
movement_of (Assess account year) = staying account (Determine year)

-- the account that gives, or the only one that the act reads or changes
abbrev pub first : Act → ℕ
first act = (movement_of act).first

-- what becomes of this account
abbrev pub change_of : Act → Change
change_of act = (movement_of act).change

-- the accounts that receive allowances from the first, and how many
abbrev pub shares : Act → List Share
shares act = (movement_of act).shares

-- the amounts of allowances that are created, surrendered or deleted
abbrev pub amounts_named : Change → List ℕ
amounts_named (Credit kind amount) = amount ∷ []
amounts_named (Retire way kind amount) = amount ∷ []
amounts_named made = []

-- the amounts of allowances that the act names
abbrev pub amounts_of : Movement → List ℕ
amounts_of m = map (λ share. share.amount) m.shares ++ amounts_named m.change

abbrev pub amounts : Act → List ℕ
amounts act = amounts_of (movement_of act)

-- the emissions that the act names, in tonnes
abbrev pub tonnes_named : Change → List ℕ
tonnes_named (SetEmissions year entered) = entered ∷ []
tonnes_named made = []

abbrev pub tonnes : Act → List ℕ
tonnes act = tonnes_named (change_of act)

-- the record numbers that the act names
abbrev pub record_named : Change → List ℕ
record_named (Unretire number) = number ∷ []
record_named made = []

abbrev pub reversed_records : Act → List ℕ
reversed_records act = record_named (change_of act)

-- the years that the act names
abbrev pub years_named : Change → List ℕ
years_named (SetEmissions year entered) = year ∷ []
years_named (Determine year) = year ∷ []
years_named made = []

abbrev pub years : Act → List ℕ
years act = years_named (change_of act)

-- the accounts whose values the act reads or changes: the first, and then those that receive
abbrev pub parties_of : Movement → List ℕ
parties_of m = m.first ∷ map (λ share. share.to) m.shares

abbrev pub parties : Act → List ℕ
parties act = parties_of (movement_of act)

-- the accounts that the act names beside these: those that are put on a trusted account list, or taken off it
abbrev pub others_named : Change → List ℕ
others_named (change.Trust other) = other ∷ []
others_named (change.Untrust other) = other ∷ []
others_named made = []

abbrev pub others : Act → List ℕ
others act = others_named (change_of act)

-- the account that must be known although it is neither read nor changed: the one that is put on a trusted account list
abbrev pub other_known : Change → Option ℕ
other_known (change.Trust other) = Some other
other_known made = None

abbrev pub also_known : Act → Option ℕ
also_known act = other_known (change_of act)

-- what leaves the first account is what its change takes away, and of the same kind; others receive just that, or
-- nothing
abbrev pub Balances : Movement → Change → Type 0
Balances m (Debit kind amount) = (m.kind ≡ kind) × ((m.leaves ≡ amount) × (total_of m.shares ≡ amount))
Balances m (Retire way kind amount) = (m.kind ≡ kind) × ((m.leaves ≡ amount) × (m.shares ≡ []))
Balances m made = (m.leaves ≡ 0) × (m.shares ≡ [])

-- law: so it is in each row of the table
abbrev pub EachMovementBalances : Type 0
EachMovementBalances = (act : Act) → Balances (movement_of act) (change_of act)
