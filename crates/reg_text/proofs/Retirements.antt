-- Surrenders and deletions, one more at the end: the sums over them, and their numbers below the next one.
use Rattle.std.proofs.Common.{◌≡◌, ◌⊎◌, inl, inr, ℕ, ◌+◌, ◌<◌, true, cond, ◌&&◌, List, []}
use Rattle.std.proofs.Common.{◌∷◌, ◌++◌, map, Option, Some, None, refl, arith}
use Rattle.std.specs.Prelude.{not, IfSome}
use Rattle.std.specs.List.{AllByRecursion}
use Rattle.std.proofs.lemmas.Bool.{leb-true, le-leb, ltb-true, lt-ltb}
use Rattle.std.proofs.lemmas.List.{append-nil}
use Rattle.std.proofs.lemmas.List.Sums.{sum_by-append, sum_by-cons}
use Rattle.reg_facts.proofs.lemmas.Lists.{all-push}
use Rattle.reg_text.proofs.Names.{AllowanceKind, General, Aviation, Retirement, Surrendered, Deleted, RetirementRow}
use Rattle.reg_text.proofs.Names.{RetiredFits, AreBelow, AccountValue, AccountHead, ListsValue, IsBehind, AreRecorded}
use Rattle.reg_text.proofs.Names.{amount_in, retired_in, row_numbers, option_to_list, account_with}
use Rattle.reg_text.proofs.Names.{is_recorded, is_sum_left}
use Rattle.reg_account.specs.Rows.{retirement_of, is_same_kind, is_same_retirement}

-- ---- the sums

sum-more : (way : Retirement) (kind : AllowanceKind) (rows : List RetirementRow) (x : RetirementRow)
    (others : List RetirementRow)
    → retired_in way kind (rows ++ x ∷ others)
    ≡ retired_in way kind rows + (amount_in way kind x + retired_in way kind others)
sum-more way kind rows x others =
    omega (arith, sum_by-append (amount_in way kind) rows (x ∷ others), sum_by-cons (amount_in way kind) x others)

-- a row adds to no sum but its own
other-amount : (way : Retirement) (kind : AllowanceKind) (x : RetirementRow) → (amount_in way kind x ≡ 0)
    ⊎ ((way ≡ (retirement_of x.fate)) × (kind ≡ x.kind))
other-amount way kind x = by way (retirement_of x.fate) kind x.kind where
  by : (w r : Retirement) (k l : AllowanceKind)
      → (cond (is_same_retirement r w && (is_same_kind l k && not x.reversed)) x.amount 0 ≡ 0) ⊎ ((w ≡ r) × (k ≡ l))
  by Surrendered Deleted k l = inl refl
  by Deleted Surrendered k l = inl refl
  by Surrendered w General Aviation = inl refl
  by Surrendered w Aviation General = inl refl
  by Deleted w General Aviation = inl refl
  by Deleted w Aviation General = inl refl
  by w r k l = inr (refl, refl)

pub fits-push : (rows : List RetirementRow) (x : RetirementRow) → RetiredFits rows → is_sum_left rows x ≡ true
    → RetiredFits (rows ++ x ∷ [])
fits-push rows x h left = record {
  at = λ way kind. elim (other-amount way kind x) [
    | inl none ↦ let s = sum-more way kind rows x [] in let a = h.at way kind in omega (arith, s, a, none)
    | inr own ↦ rw (own.0, own.1) (leb-true _ _ left)
  ];
}

-- a row of rows whose sums are within their limit
pub sum-left : (rows : List RetirementRow) (x : RetirementRow) (others : List RetirementRow)
    → RetiredFits (rows ++ x ∷ others) → is_sum_left rows x ≡ true
sum-left rows x others h =
    let one = sum-more (retirement_of x.fate) x.kind rows x [] in
    let all = sum-more (retirement_of x.fate) x.kind rows x others in
    let most = h.at (retirement_of x.fate) x.kind in
    le-leb _ _ (omega (arith, one, all, most))

-- ---- the numbers

below-push : (next : ℕ) (rows : List RetirementRow) (x : RetirementRow) → AreBelow next (row_numbers rows)
    → x.number < next → AreBelow next (row_numbers (rows ++ x ∷ []))
below-push next [] x h lt = (lt, tt)
below-push next (y ∷ rows) x h lt = (h.0, below-push next rows x h.1 lt)

pub recorded-push : (o : Option ℕ) (accounts : List AccountValue) (rows : List RetirementRow) (x : RetirementRow)
    → IfSome o (AreRecorded accounts rows) → is_recorded o x ≡ true → IfSome o (AreRecorded accounts (rows ++ x ∷ []))
recorded-push None accounts rows x h e = tt
recorded-push (Some next) accounts rows x h e =
    record { whole = h.whole; begun = below-push next rows x h.begun (ltb-true _ _ e) }

all-behind : (next : ℕ) (accounts : List AccountValue) (l : ListsValue) (head : Option AccountHead)
    → AllByRecursion (IsBehind next) accounts → AreBelow next (row_numbers l.rows)
    → AllByRecursion (IsBehind next) (accounts ++ map (account_with l) (option_to_list head))
all-behind next accounts l None h below = rw append-nil h
all-behind next accounts l (Some a) h below = all-push (IsBehind next) accounts (account_with l a) h below

-- with all blocks over
pub recorded-over : (o : Option ℕ) (accounts : List AccountValue) (l : ListsValue) (head : Option AccountHead)
    → IfSome o (AreRecorded accounts l.rows)
    → IfSome o (AreRecorded (accounts ++ map (account_with l) (option_to_list head)) [])
recorded-over None accounts l head h = tt
recorded-over (Some next) accounts l head h =
    record { whole = all-behind next accounts l head h.whole h.begun; begun = tt }

-- before all blocks
pub none-recorded : (o : Option ℕ) (accounts : List AccountValue) (rows : List RetirementRow) → accounts ≡ []
    → rows ≡ [] → IfSome o (AreRecorded accounts rows)
none-recorded None accounts rows e f = tt
none-recorded (Some next) accounts rows e f = rw (e, f) (record { whole = tt; begun = tt })

-- one of rows below the next number
pub below-at : (next : ℕ) (rows : List RetirementRow) (x : RetirementRow) (others : List RetirementRow)
    → AreBelow next (row_numbers (rows ++ x ∷ others)) → is_recorded (Some next) x ≡ true
below-at next [] x others h = lt-ltb _ _ h.0
below-at next (y ∷ rows) x others h = below-at next rows x others h.1
