-- What each change makes of the number of allowances, of the emissions and figures, and of the compliance figure.
use Rattle.std.proofs.Common.{◌≡◌, ℕ, ◌+◌, ◌-◌, ◌≤◌, Bool, true, false, cond, ◌&&◌, refl, ap, ◌∙◌, arith}
use Rattle.std.specs.Prelude.{not}
use Rattle.reg_base.specs.declared.kinds.AllowanceKind.{AllowanceKind}
use Rattle.reg_base.specs.declared.kinds.AllowanceKind.TheVariants.{General, Aviation}
use Rattle.reg_account.specs.declared.account_parts.Holdings.{Holdings}
use Rattle.reg_base.specs.declared.kinds.Retirement.{Retirement}
use Rattle.reg_base.specs.declared.kinds.Retirement.TheVariants.{Surrendered, Deleted}
use Rattle.reg_account.specs.declared.rows.RetirementRow.{RetirementRow}
use Rattle.reg_account.specs.Rows.{is_same_kind, is_same_retirement, retirement_of, amount_in}
use Rattle.reg_account.specs.Account.{amount_of, with_amount, unretired_row}
use Rattle.reg_account.specs.Laws.{counted, of_kind, NumberLaws}
use Rattle.reg_account.proofs.lemmas.Rows.{retired_pushed}
use Rattle.reg_account.proofs.RowFacts.{retired_marked}
use Rattle.reg_account.proofs.Changes.{unretired_found}

raised : (h : Holdings) (own kind : AllowanceKind) (n : ℕ) → amount_of (with_amount h own (amount_of h own + n)) kind
    ≡ amount_of h kind + of_kind kind own n
raised h General General n = refl
raised h General Aviation n = omega arith
raised h Aviation General n = omega arith
raised h Aviation Aviation n = refl

lowered : (h : Holdings) (own kind : AllowanceKind) (n : ℕ) → n ≤ amount_of h own
    → amount_of (with_amount h own (amount_of h own - n)) kind + of_kind kind own n ≡ amount_of h kind
lowered h General General n le = omega arith
lowered h General Aviation n le = omega arith
lowered h Aviation General n le = omega arith
lowered h Aviation Aviation n le = omega arith

-- a row that stands is either surrendered or deleted
either-way : (kind : AllowanceKind) (row : RetirementRow) → row.reversed ≡ false
    → amount_in Surrendered kind row + amount_in Deleted kind row ≡ of_kind kind row.kind row.amount
either-way kind row stands =
    ap (λ b. cond (is_same_retirement (retirement_of row.fate) Surrendered && (is_same_kind row.kind kind && not b))
    row.amount 0 + cond (is_same_retirement (retirement_of row.fate) Deleted
    && (is_same_kind row.kind kind && not b)) row.amount 0) stands
    ∙ go (retirement_of row.fate) (is_same_kind row.kind kind) where
      go : (way : Retirement) (b : Bool)
          → cond (is_same_retirement way Surrendered && (b && true)) row.amount 0
          + cond (is_same_retirement way Deleted && (b && true)) row.amount 0 ≡ cond b row.amount 0
      go Surrendered true = omega arith
      go Surrendered false = refl
      go Deleted true = omega arith
      go Deleted false = refl

pub number-laws : NumberLaws
number-laws = record {
  credit = λ a own amount kind. let e = raised a.held own kind amount in omega (arith, e);
  debit = λ a own amount kind le. let e = lowered a.held own kind amount le in omega (arith, e);
  retire = λ a row kind can.
      let e = lowered a.held row.kind kind row.amount can.enough in
      let p = retired_pushed Surrendered kind a.rows row in
      let w = either-way kind row can.fresh in
      omega (arith, e, p, w);
  unretire = λ a number row kind is found can.
      let e = raised a.held row.kind kind row.amount in
      let m = retired_marked a.rows number row Surrendered kind is.rows_fit.rise found in
      let w = either-way kind row can.stands in
      let h : counted kind (unretired_row number a row) ≡ counted kind a + amount_in Deleted kind row =
      omega (arith, e, m, w) in
      ap (counted kind) (unretired_found a number row found) ∙ h;
}
