-- How many bytes the rows of accounts take at most, by how many rows there are, and that this is at most eight times
-- what they take.
use Rattle.std.proofs.Common.{◌≡◌, ℕ, ◌+◌, ◌*◌, ◌≤◌, Bool, true, false, cond, eqb, List, [], ◌∷◌}
use Rattle.std.proofs.Common.{Some, None, arith}
use Rattle.std.specs.List.{AllByRecursion, flat_map}
use Rattle.reg_base.specs.declared.limits.TheConstants.{MOST_PERIODS}
use Rattle.reg_account.specs.declared.corrections.Correction.{Correction}
use Rattle.reg_account.specs.declared.users.Representative.{Representative}
use Rattle.reg_account.specs.declared.trusted.TrustedEntry.{TrustedEntry}
use Rattle.reg_account.specs.declared.rows.RetirementRow.{RetirementRow}
use Rattle.reg_account.specs.declared.rows.Fate.{Fate}
use Rattle.reg_account.specs.declared.rows.Fate.TheVariants as fate
use Rattle.reg_account.specs.declared.years.Emission.{Emission}
use Rattle.reg_account.specs.declared.years.Figure.{Figure}
use Rattle.reg_account.specs.Rows.{FateFits, RowFits, RowIsInRange, retirement_of}
use Rattle.reg_account.specs.Corrections.{LaterFits}
use Rattle.reg_account.specs.Users.{UserIsInRange}
use Rattle.reg_account.specs.Trusted.{EntryIsInRange}
use Rattle.reg_account.specs.Years.{EmissionFits, EmissionIsInRange, FigureFits, FigureIsInRange}
use Rattle.reg_account.specs.Account.{AccountValue, IsAccount}
use Rattle.reg_text.specs.declared.reading.tag.Tag.TheVariants as tag
use Rattle.reg_text.specs.Codecs.{a_period, maybe_spelled}
use Rattle.reg_text.specs.Grammar.{period_said, row_text as tagged}
use Rattle.reg_text.proofs.Names.{Said, Tag, account_block, account_head, each_row, list_items, lists_of}
use Rattle.reg_text.proofs.ListFacts.{all-both}
use Rattle.reg_facts.proofs.lemmas.Lists.{all-weaker}
use Rattle.reg_text.proofs.TextSizes.{row_size, rows_size, rows_size-append}
use Rattle.reg_text.proofs.FieldSizes.{account_kind-size, date-size, digit-most, factor-most, figure-most, kind-size}
use Rattle.reg_text.proofs.FieldSizes.{no-most, amount-most, retirement-size, right-size, status-size, year-most}
use Rattle.reg_text.proofs.FieldSizes.{yes_no-most}

-- so much for each of a list
abbrev pub each : {X : Type 0} → ℕ → List X → ℕ
each k [] = 0
each k (x ∷ xs) = k + each k xs

-- ---- the most bytes of a row

account-most : (v : AccountValue) → IsAccount v → row_size (tagged tag.Account (account_head v)) ≤ 108
account-most v h = omega (
  arith,
  no-most v.number h.own_number,
  (account_kind-size v.kind).high,
  no-most v.holder h.own_holder,
  (status-size v.status).high,
  yes_no-most v.outside,
  yes_no-most v.waiver,
  factor-most v.correction h.correction_fits,
  amount-most v.held.general h.holdings_fit.general,
  amount-most v.held.aviation h.holdings_fit.aviation,
)

correction-most : (c : Correction) → LaterFits c → row_size (tagged tag.Correction c) ≤ 31
correction-most c h = omega (
  arith,
  digit-most c.period h.later.high,
  factor-most c.factor h.factor,
)

user-most : (u : Representative) → UserIsInRange u → row_size (tagged tag.User u) ≤ 23
user-most u h = omega (arith, no-most u.user h, (right-size u.right).high)

trusted-most : (t : TrustedEntry) → EntryIsInRange t → row_size (tagged tag.Trusted t) ≤ 29
trusted-most t h = omega (arith, no-most t.account h.number, date-size t.effective)

period-most : (f : Fate) → FateFits f → row_size (maybe_spelled (a_period 2 MOST_PERIODS) (period_said f)) ≤ 2
period-most fate.Deleted h = omega arith
period-most (fate.Surrendered period) h = by (eqb period 1)
  where
    by : (b : Bool) → row_size (maybe_spelled (a_period 2 MOST_PERIODS) (cond b None (Some period))) ≤ 2
    by true = omega arith
    by false = omega (arith, digit-most period h.high)

retired-most : (r : RetirementRow) → RowFits r → RowIsInRange r → row_size (tagged tag.Retired r) ≤ 78
retired-most r h k = omega (
  arith,
  amount-most r.number k.number.high,
  (retirement-size (retirement_of r.fate)).high,
  (kind-size r.kind).high,
  amount-most r.amount h.most,
  date-size r.day,
  yes_no-most r.reversed,
  period-most r.fate h.period,
)

emission-most : (e : Emission) → EmissionFits e → EmissionIsInRange e → row_size (tagged tag.Emissions e) ≤ 32
emission-most e h k = omega (arith, year-most e.year k, amount-most e.tonnes (omega (arith, h)))

year_figure-most : (f : Figure) → FigureFits f.tonnes → FigureIsInRange f → row_size (tagged tag.Figure f) ≤ 30
year_figure-most f h k =
    omega (arith, year-most f.year k, figure-most f.tonnes h)

-- ---- the rows of a list

abbrev AreShort : (t : Tag) → ℕ → List (Said t) → Type 0
AreShort t k xs = AllByRecursion (λ (x : Said t). row_size (tagged t x) ≤ k) xs

list-most : (t : Tag) (k : ℕ) (xs : List (Said t)) → AreShort t k xs → rows_size (each_row t xs) ≤ each k xs
list-most t k [] h = omega arith
list-most t k (x ∷ xs) h = omega (arith, h.0, list-most t k xs h.1)

list-least : (t : Tag) (k : ℕ) → ((x : Said t) → k ≤ 8 * row_size (tagged t x)) → (xs : List (Said t))
    → each k xs ≤ 8 * rows_size (each_row t xs)
list-least t k h [] = omega arith
list-least t k h (x ∷ xs) = omega (arith, h x, list-least t k h xs)

-- ---- the rows of an account

-- the most bytes that the rows of an account take, by how many rows it has
abbrev pub block_most : AccountValue → ℕ
block_most v = 108
    + (each 31 v.corrections
    + (each 23 v.users + (each 29 v.trusted + (each 78 v.rows + (each 32 v.emissions + each 30 v.figures)))))

-- the bytes that they take, list by list
abbrev sized : AccountValue → Tag → ℕ
sized v t = rows_size (each_row t (list_items t (lists_of v)))

block-size : (v : AccountValue) → rows_size (account_block v)
    ≡ row_size (tagged tag.Account (account_head v))
    + (sized v tag.Correction
    + (sized v tag.User
    + (sized v tag.Trusted + (sized v tag.Retired + (sized v tag.Emissions + sized v tag.Figure)))))
block-size v = simp rows_size-append (omega arith)

pub block-most : (v : AccountValue) → IsAccount v → rows_size (account_block v) ≤ block_most v
block-most v h = omega (
  arith,
  block-size v,
  account-most v h,
  list-most tag.Correction 31 v.corrections
      (all-weaker LaterFits (λ (c : Correction). row_size (tagged tag.Correction c) ≤ 31) correction-most v.corrections
      h.corrections_fit.each),
  list-most tag.User 23 v.users
      (all-weaker UserIsInRange (λ (u : Representative). row_size (tagged tag.User u) ≤ 23) user-most v.users
      h.users_fit.in_range),
  list-most tag.Trusted 29 v.trusted
      (all-weaker EntryIsInRange (λ (t : TrustedEntry). row_size (tagged tag.Trusted t) ≤ 29) trusted-most v.trusted
      h.trusted_fit.in_range),
  list-most tag.Retired 78 v.rows
      (all-both RowFits RowIsInRange (λ (r : RetirementRow). row_size (tagged tag.Retired r) ≤ 78) retired-most v.rows
      h.rows_fit.each h.rows_fit.in_range),
  list-most tag.Emissions 32 v.emissions
      (all-both EmissionFits EmissionIsInRange (λ (e : Emission). row_size (tagged tag.Emissions e) ≤ 32) emission-most
      v.emissions h.emissions_fit.each h.emissions_fit.in_range),
  list-most tag.Figure 30 v.figures
      (all-both (λ (f : Figure). FigureFits f.tonnes) FigureIsInRange
      (λ (f : Figure). row_size (tagged tag.Figure f) ≤ 30) year_figure-most v.figures
      h.figures_fit.each h.figures_fit.in_range),
)

pub block-least : (v : AccountValue) → block_most v ≤ 8 * rows_size (account_block v)
block-least v = omega (
  arith,
  block-size v,
  list-least tag.Correction 31 (λ x. omega arith) v.corrections,
  list-least tag.User 23 (λ x. omega arith) v.users,
  list-least tag.Trusted 29 (λ x. omega arith) v.trusted,
  list-least tag.Retired 78 (λ x. omega arith) v.rows,
  list-least tag.Emissions 32 (λ x. omega arith) v.emissions,
  list-least tag.Figure 30 (λ x. omega arith) v.figures,
)

-- ---- the rows of all accounts

abbrev pub blocks_most : List AccountValue → ℕ
blocks_most [] = 0
blocks_most (v ∷ vs) = block_most v + blocks_most vs

pub blocks-most : (vs : List AccountValue) → AllByRecursion IsAccount vs
    → rows_size (flat_map account_block vs) ≤ blocks_most vs
blocks-most [] h = omega arith
blocks-most (v ∷ vs) h = omega (
  arith,
  block-most v h.0,
  blocks-most vs h.1,
  rows_size-append (account_block v) (flat_map account_block vs),
)

pub blocks-least : (vs : List AccountValue) → blocks_most vs ≤ 8 * rows_size (flat_map account_block vs)
blocks-least [] = omega arith
blocks-least (v ∷ vs) = omega (
  arith,
  block-least v,
  blocks-least vs,
  rows_size-append (account_block v) (flat_map account_block vs),
)
