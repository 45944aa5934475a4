-- Retirement rows: numbers below the next one, and what a row that is added or reversed adds to a sum.
use Rattle.std.proofs.Common.{◌≡◌, ℕ, ◌+◌, ◌≤◌, Bool, true, false, cond, ◌&&◌, leb, List, [], ◌∷◌, ◌++◌, refl, arith}
use Rattle.std.specs.List.{list_any}
use Rattle.std.proofs.lemmas.Bool.{leb-false, or_parts}
use Rattle.std.proofs.lemmas.List.Sums.{sum_by-append, sum_by-cons}
use Rattle.reg_base.specs.declared.kinds.AllowanceKind.{AllowanceKind}
use Rattle.reg_base.specs.declared.kinds.Retirement.{Retirement}
use Rattle.reg_account.specs.declared.rows.RetirementRow.{RetirementRow}
use Rattle.reg_account.specs.Rows.{row_numbers, AreBelow, is_same_retirement, retirement_of, is_same_kind, amount_in}
use Rattle.reg_account.specs.Rows.{retired_in}

-- numbers below one are below a higher one too
pub below_higher : (next after : ℕ) (ns : List ℕ) → next ≤ after → AreBelow next ns → AreBelow after ns
below_higher next after [] le below = tt
below_higher next after (n ∷ ns) le below = (omega (arith, le, below.0), below_higher next after ns le below.1)

-- rows of which none is ahead have lower numbers
pub none_ahead : (next : ℕ) (rows : List RetirementRow)
    → list_any (λ (r : RetirementRow). leb next r.number) rows ≡ false → AreBelow next (row_numbers rows)
none_ahead next [] none = tt
none_ahead next (r ∷ rs) none =
    let both = or_parts (leb next r.number) (list_any (λ (x : RetirementRow). leb next x.number) rs) none in
    (leb-false next r.number both.0, none_ahead next rs both.1)

-- a reversed row adds nothing
pub nothing_from : (way : Retirement) (kind : AllowanceKind) (x : RetirementRow)
    → amount_in way kind (record x { reversed = true }) ≡ 0
nothing_from way kind x = go (is_same_retirement (retirement_of x.fate) way) (is_same_kind x.kind kind) where
  go : (a b : Bool) → cond (a && (b && false)) x.amount 0 ≡ 0
  go true true = refl
  go true false = refl
  go false b = refl

-- a row that is added adds to the sums
pub retired_pushed : (way : Retirement) (kind : AllowanceKind) (xs : List RetirementRow) (row : RetirementRow)
    → retired_in way kind (xs ++ row ∷ []) ≡ retired_in way kind xs + amount_in way kind row
retired_pushed way kind xs row =
    let e = sum_by-append (amount_in way kind) xs (row ∷ []) in
    let h : retired_in way kind (row ∷ []) ≡ amount_in way kind row + retired_in way kind [] =
    sum_by-cons (amount_in way kind) row [] in
    let z : retired_in way kind [] ≡ 0 = refl in
    omega (arith, e, h, z)
