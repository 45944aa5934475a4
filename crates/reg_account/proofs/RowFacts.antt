-- Rows by rising number: one that is marked, one that is added, and the sums over them.
use Rattle.std.proofs.Common.{◌≡◌, ◌≢◌, ℕ, zero, suc, ◌+◌, ◌<◌, ◌≤◌, Bool, true, false, cond, ◌&&◌, eqb, List, [], ◌∷◌}
use Rattle.std.proofs.Common.{◌++◌, length, get_or, set, subst, inl, inr, ◌⊎◌, length-append, Some, refl, sym, ap, ◌∙◌}
use Rattle.std.proofs.Common.{arith}
use Rattle.std.specs.Prelude.{not}
use Rattle.std.specs.List.{sum_by, AllByRecursion, HoldsAt}
use Rattle.std.specs.Ordering.{nat_cmp}
use Rattle.std.specs.declared.cmp.Ordering.TheVariants.{Equal}
use Rattle.std.proofs.lemmas.Bool.{eq-eqb, eqb-true, ne_eqb}
use Rattle.std.proofs.lemmas.Option.{same_Some, none-some}
use Rattle.std.proofs.lemmas.List.{length-map}
use Rattle.std.proofs.lemmas.List.Sums.{sum_by-cons}
use Rattle.reg_facts.proofs.lemmas.Lists.{all-push}
use Rattle.reg_base.specs.declared.limits.TheConstants.{MOST_RETIRED, MOST_ROWS, MOST_PERIODS}
use Rattle.reg_base.specs.declared.kinds.AllowanceKind.{AllowanceKind}
use Rattle.reg_base.specs.declared.kinds.AllowanceKind.TheVariants.{General, Aviation}
use Rattle.reg_base.specs.Numbers.{IsWithin}
use Rattle.reg_base.specs.Rising.{IsRising}
use Rattle.reg_base.proofs.lemmas.RisesFrom.{RisesFrom}
use Rattle.reg_base.specs.declared.kinds.Retirement.{Retirement}
use Rattle.reg_base.specs.declared.kinds.Retirement.TheVariants.{Surrendered, Deleted}
use Rattle.reg_account.specs.declared.rows.RetirementRow.{RetirementRow}
use Rattle.reg_account.specs.declared.sums.Sums.{Sums}
use Rattle.reg_account.specs.RowIndexes.{RowStandsAt}
use Rattle.reg_account.specs.Rows.{is_same_kind, is_same_retirement, retirement_of, is_for, amount_in, retired_in}
use Rattle.reg_account.specs.Rows.{amount_for, surrendered_in, row_numbers, row_in, marked_reversed, with_mark}
use Rattle.reg_account.specs.Rows.{AreBelow, RowFits, RowIsInRange, RowsFit, RetiredFits}
use Rattle.reg_account.specs.Sums.{sum_at, sum_for, SumsAgree}
use Rattle.reg_account.proofs.lemmas.Rows.{nothing_from, retired_pushed}
use Rattle.reg_account.proofs.Keyed.{low_key, from_zero, is_rising, number_found}

-- the number at an index, read from the list of numbers
pub number_at : (xs : List RetirementRow) (p : ℕ) (d : RetirementRow) → p < length xs
    → get_or (row_numbers xs) p 0 ≡ (get_or xs p d).number
number_at [] p d lt = absurd (omega arith)
number_at (x ∷ xs) zero d lt = refl
number_at (x ∷ xs) (suc p) d lt = number_at xs p d (omega arith)

-- the row at an index that a search found
pub searched_index : (xs : List RetirementRow) (n p : ℕ) → p < length xs
    → HoldsAt (λ y. nat_cmp y.number n ≡ Equal) xs p → RowStandsAt xs p n
searched_index [] n p lt found = absurd (omega arith)
searched_index (x ∷ xs) n p lt found = record {
  within = lt;
  has_number = number_at (x ∷ xs) p x lt ∙ number_found (λ y. y.number) (x ∷ xs) n p x found;
}

-- no row above a number is marked by it
marked_above : (low : ℕ) (xs : List RetirementRow) (n : ℕ) → RisesFrom low (row_numbers xs) → n < low
    → with_mark n xs ≡ xs
marked_above low [] n rises lt = refl
marked_above low (x ∷ xs) n rises lt =
    let other : x.number ≢ n = omega (arith, rises.0) in
    ap (λ b. cond b (record x { reversed = true }) x ∷ with_mark n xs) (ne_eqb x.number n other)
    ∙ ap (λ ys. x ∷ ys) (marked_above (suc x.number) xs n rises.1 (omega (arith, rises.0)))

-- a row set to reversed at its index is the row of that number marked
pub marked_set : (low : ℕ) (xs : List RetirementRow) → RisesFrom low (row_numbers xs) → (p n : ℕ) (d : RetirementRow)
    → p < length xs → (get_or xs p d).number ≡ n
    → set xs p (record (get_or xs p d) { reversed = true }) ≡ with_mark n xs
marked_set low [] rises p n d lt e = absurd (omega arith)
marked_set low (x ∷ xs) rises zero n d lt e =
    sym (ap (λ b. cond b (record x { reversed = true }) x ∷ with_mark n xs) (eq-eqb x.number n e)
    ∙ ap (λ ys. record x { reversed = true } ∷ ys) (marked_above (suc x.number) xs n rises.1 (omega (arith, e))))
marked_set low (x ∷ xs) rises (suc p) n d lt e =
    let above = low_key (λ y. y.number) (suc x.number) xs rises.1 p d (omega arith) in
    let other : x.number ≢ n = omega (arith, e, above) in
    ap (λ ys. x ∷ ys) (marked_set (suc x.number) xs rises.1 p n d (omega arith) e)
    ∙ sym (ap (λ b. cond b (record x { reversed = true }) x ∷ with_mark n xs) (ne_eqb x.number n other))

-- marks keep the numbers, and what fits
numbers_marked : (n : ℕ) (xs : List RetirementRow) → row_numbers (with_mark n xs) ≡ row_numbers xs
numbers_marked n [] = refl
numbers_marked n (x ∷ xs) = ap (λ m. m ∷ row_numbers (with_mark n xs)) (go (eqb x.number n))
    ∙ ap (λ ns. x.number ∷ ns) (numbers_marked n xs) where
      go : (b : Bool) → (cond b (record x { reversed = true }) x).number ≡ x.number
      go true = refl
      go false = refl

each_marked : (n : ℕ) (xs : List RetirementRow) → AllByRecursion RowFits xs → AllByRecursion RowFits (with_mark n xs)
each_marked n [] all = tt
each_marked n (x ∷ xs) all = (go (eqb x.number n), each_marked n xs all.1) where
  go : (b : Bool) → RowFits (cond b (record x { reversed = true }) x)
  go true = record { some = all.0.some; most = all.0.most; period = all.0.period }
  go false = all.0

range_marked : (n : ℕ) (xs : List RetirementRow) → AllByRecursion RowIsInRange xs
    → AllByRecursion RowIsInRange (with_mark n xs)
range_marked n [] all = tt
range_marked n (x ∷ xs) all = (go (eqb x.number n), range_marked n xs all.1) where
  go : (b : Bool) → RowIsInRange (cond b (record x { reversed = true }) x)
  go true = record { number = all.0.number; day = all.0.day }
  go false = all.0

pub rows_fit_marked : (rows : List RetirementRow) (n : ℕ) → RowsFit rows → RowsFit (with_mark n rows)
rows_fit_marked rows n fit = record {
  few = let l = length-map rows (marked_reversed n) in omega (arith, l, fit.few);
  rise = subst IsRising (sym (numbers_marked n rows)) fit.rise;
  each = each_marked n rows fit.each;
  in_range = range_marked n rows fit.in_range;
}

same_way : (way : Retirement) → is_same_retirement way way ≡ true
same_way Surrendered = refl
same_way Deleted = refl

same_kind : (kind : AllowanceKind) → is_same_kind kind kind ≡ true
same_kind General = refl
same_kind Aviation = refl

-- a row that stands adds its amount to its own sum
own_amount : (x : RetirementRow) → x.reversed ≡ false → amount_in (retirement_of x.fate) x.kind x ≡ x.amount
own_amount x stands =
    ap (λ b. cond (b && (is_same_kind x.kind x.kind && not x.reversed)) x.amount 0) (same_way (retirement_of x.fate))
    ∙ ap (λ b. cond (b && not x.reversed) x.amount 0) (same_kind x.kind)
    ∙ ap (λ b. cond (not b) x.amount 0) stands

-- a sum over the rows, to which a marked row adds nothing, falls by what the row added
pub sum_marked : (adds : RetirementRow → ℕ) → ((x : RetirementRow) → adds (record x { reversed = true }) ≡ 0)
    → (low : ℕ) (xs : List RetirementRow) (n : ℕ) (row : RetirementRow) → RisesFrom low (row_numbers xs)
    → row_in xs n ≡ Some row → sum_by adds (with_mark n xs) + adds row ≡ sum_by adds xs
sum_marked adds nothing low [] n row rises found = absurd (none-some row found)
sum_marked adds nothing low (x ∷ xs) n row rises found =
    go (eqb x.number n) refl found (sum_marked adds nothing (suc x.number) xs n row rises.1) where
      go : (b : Bool) → eqb x.number n ≡ b → cond b (Some x) (row_in xs n) ≡ Some row
          → (row_in xs n ≡ Some row → sum_by adds (with_mark n xs) + adds row ≡ sum_by adds xs)
          → sum_by adds (cond b (record x { reversed = true }) x ∷ with_mark n xs) + adds row ≡ sum_by adds (x ∷ xs)
      go true here found' more =
          let same : x ≡ row = same_Some x row found' in
          let rest : with_mark n xs ≡ xs =
          marked_above (suc x.number) xs n rises.1 (omega (arith, eqb-true x.number n here)) in
          let e1 : sum_by adds (record x { reversed = true } ∷ with_mark n xs)
          ≡ adds (record x { reversed = true }) + sum_by adds xs =
          ap (λ ys. sum_by adds (record x { reversed = true } ∷ ys)) rest
          ∙ sum_by-cons adds (record x { reversed = true }) xs in
          let e2 = nothing x in
          let e3 : sum_by adds (x ∷ xs) ≡ adds x + sum_by adds xs = sum_by-cons adds x xs in
          let e4 : adds x ≡ adds row = ap adds same in
          omega (arith, e1, e2, e3, e4)
      go false other found' more =
          let e1 : sum_by adds (x ∷ with_mark n xs) ≡ adds x + sum_by adds (with_mark n xs) =
          sum_by-cons adds x (with_mark n xs) in
          let e3 : sum_by adds (x ∷ xs) ≡ adds x + sum_by adds xs = sum_by-cons adds x xs in
          let e4 = more found' in
          omega (arith, e1, e3, e4)

pub retired_marked : (xs : List RetirementRow) (n : ℕ) (row : RetirementRow) (way : Retirement) (kind : AllowanceKind)
    → IsRising (row_numbers xs)
    → row_in xs n ≡ Some row → retired_in way kind (with_mark n xs) + amount_in way kind row ≡ retired_in way kind xs
retired_marked xs n row way kind rises found =
    sum_marked (amount_in way kind) (nothing_from way kind) 0 xs n row (from_zero _ rises) found

-- a reversed row adds nothing to a period
nothing_for : (period : ℕ) (x : RetirementRow) → amount_for period (record x { reversed = true }) ≡ 0
nothing_for period x = go (is_for period x.fate) where
  go : (b : Bool) → cond (b && false) x.amount 0 ≡ 0
  go true = refl
  go false = refl

pub surrendered_marked : (xs : List RetirementRow) (n : ℕ) (row : RetirementRow) (period : ℕ)
    → IsRising (row_numbers xs)
    → row_in xs n ≡ Some row → surrendered_in period (with_mark n xs) + amount_for period row ≡ surrendered_in period xs
surrendered_marked xs n row period rises found =
    sum_marked (amount_for period) (nothing_for period) 0 xs n row (from_zero _ rises) found

rises_pushed : (low : ℕ) (xs : List RetirementRow) (row : RetirementRow) → RisesFrom low (row_numbers xs)
    → AreBelow row.number (row_numbers xs) → low ≤ row.number → RisesFrom low (row_numbers (xs ++ row ∷ []))
rises_pushed low [] row rises below le = (le, tt)
rises_pushed low (x ∷ xs) row rises below le =
    (rises.0, rises_pushed (suc x.number) xs row rises.1 below.1 (omega (arith, below.0)))

-- the sums after a row was marked
pub sums_marked : (s t : Sums) (rows : List RetirementRow) (n : ℕ) (row : RetirementRow) → IsRising (row_numbers rows)
    → row_in rows n ≡ Some row → SumsAgree s rows
    → ((way : Retirement) (kind : AllowanceKind) → sum_at t way kind + amount_in way kind row ≡ sum_at s way kind)
    → ((period : ℕ) → IsWithin 1 MOST_PERIODS period → sum_for t period + amount_for period row ≡ sum_for s period)
    → length t.by_period ≡ MOST_PERIODS → SumsAgree t (with_mark n rows)
sums_marked s t rows n row rises found agree counted counted_for eight = record {
  at = λ way kind.
      let e = counted way kind in
      let a = agree.at way kind in
      let m = retired_marked rows n row way kind rises found in
      omega (arith, e, a, m);
  small = λ way kind.
      let e = counted way kind in
      let a = agree.small way kind in
      let l = length-map rows (marked_reversed n) in
      omega (arith, e, a, l);
  eight = eight;
  for = λ period within.
      let e = counted_for period within in
      let a = agree.for period within in
      let m = surrendered_marked rows n row period rises found in
      omega (arith, e, a, m);
  small_for = λ period within.
      let e = counted_for period within in
      let a = agree.small_for period within in
      let l = length-map rows (marked_reversed n) in
      omega (arith, e, a, l);
}

-- a row is among those that the sum of its period counts
pub own_counted_for : (rows : List RetirementRow) (n : ℕ) (row : RetirementRow) (period : ℕ)
    → IsRising (row_numbers rows) → row_in rows n ≡ Some row
    → amount_for period row ≤ surrendered_in period rows
own_counted_for rows n row period rises found = let m = surrendered_marked rows n row period rises found in
    omega (arith, m)

-- a row that stands is among those that its sum counts
pub own_counted : (rows : List RetirementRow) (n : ℕ) (row : RetirementRow) → IsRising (row_numbers rows)
    → row_in rows n ≡ Some row → row.reversed ≡ false
    → row.amount ≤ retired_in (retirement_of row.fate) row.kind rows
own_counted rows n row rises found stands =
    let m = retired_marked rows n row (retirement_of row.fate) row.kind rises found in
    let o = own_amount row stands in
    omega (arith, m, o)

pub retired_fits_marked : (rows : List RetirementRow) (n : ℕ) (row : RetirementRow) → IsRising (row_numbers rows)
    → row_in rows n ≡ Some row → RetiredFits rows → RetiredFits (with_mark n rows)
retired_fits_marked rows n row rises found fits = record {
  at = λ way kind.
      let m = retired_marked rows n row way kind rises found in
      let f = fits.at way kind in
      omega (arith, m, f);
}

other_amount : (way : Retirement) (kind : AllowanceKind) (row : RetirementRow) → (amount_in way kind row ≡ 0)
    ⊎ ((way ≡ retirement_of row.fate) × (kind ≡ row.kind) × (amount_in way kind row ≤ row.amount))
other_amount way kind row = by way (retirement_of row.fate) kind row.kind row.reversed where
  by : (w r : Retirement) (k l : AllowanceKind) (gone : Bool)
      → (cond (is_same_retirement r w && (is_same_kind l k && not gone)) row.amount 0 ≡ 0)
      ⊎ ((w ≡ r) × (k ≡ l) × (cond (is_same_retirement r w && (is_same_kind l k && not gone)) row.amount 0
      ≤ row.amount))
  by Surrendered Deleted k l gone = inl refl
  by Deleted Surrendered k l gone = inl refl
  by Surrendered Surrendered General Aviation gone = inl refl
  by Surrendered Surrendered Aviation General gone = inl refl
  by Surrendered Surrendered General General true = inl refl
  by Surrendered Surrendered General General false = inr (refl, refl, omega arith)
  by Surrendered Surrendered Aviation Aviation true = inl refl
  by Surrendered Surrendered Aviation Aviation false = inr (refl, refl, omega arith)
  by Deleted Deleted General Aviation gone = inl refl
  by Deleted Deleted Aviation General gone = inl refl
  by Deleted Deleted General General true = inl refl
  by Deleted Deleted General General false = inr (refl, refl, omega arith)
  by Deleted Deleted Aviation Aviation true = inl refl
  by Deleted Deleted Aviation Aviation false = inr (refl, refl, omega arith)

pub retired_fits_pushed : (rows : List RetirementRow) (row : RetirementRow) → RetiredFits rows
    → retired_in (retirement_of row.fate) row.kind rows + row.amount ≤ MOST_RETIRED → RetiredFits (rows ++ row ∷ [])
retired_fits_pushed rows row fits room = record {
  at = λ way kind. elim (other_amount way kind row) [
    | inl none ↦ let p = retired_pushed way kind rows row in let f = fits.at way kind in omega (arith, p, f, none)
    | inr own ↦
        let p = retired_pushed way kind rows row in
        let same : retired_in way kind rows ≡ retired_in (retirement_of row.fate) row.kind rows =
        ap (λ w. retired_in w kind rows) own.0 ∙ ap (λ k. retired_in (retirement_of row.fate) k rows) own.1 in
        omega (arith, p, same, room, own.2)
  ];
}

-- rows fit with one more
pub rows_fit_pushed : (rows : List RetirementRow) (row : RetirementRow) → RowsFit rows
    → AreBelow row.number (row_numbers rows) → length rows < MOST_ROWS → RowFits row → RowIsInRange row
    → RowsFit (rows ++ row ∷ [])
rows_fit_pushed rows row fit later room own ranged = record {
  few = let l = length-append rows (row ∷ []) in omega (arith, l, room);
  rise = is_rising 0 _ (rises_pushed 0 rows row (from_zero _ fit.rise) later (omega arith));
  each = all-push RowFits rows row fit.each own;
  in_range = all-push RowIsInRange rows row fit.in_range ranged;
}
