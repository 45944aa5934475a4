-- Rows that are added and marked: what is found, and what they sum up to.
use Rattle.std.proofs.Common.{◌≡◌, ◌≢◌, ℕ, suc, ◌+◌, ◌<◌, Bool, true, false, cond, eqb, List, [], ◌∷◌, ◌++◌}
use Rattle.std.proofs.Common.{Option, Some, None, refl, sym, ap, ◌∙◌, arith}
use Rattle.std.specs.Option.{option_map}
use Rattle.std.proofs.lemmas.Bool.{eqb-true, eq-eqb, ne_eqb}
use Rattle.std.proofs.lemmas.Option.{same_Some, none-some}
use Rattle.std.proofs.lemmas.List.Sums.{sum_by-cons}
use Rattle.reg_base.specs.declared.kinds.AllowanceKind.{AllowanceKind}
use Rattle.reg_base.proofs.lemmas.RisesFrom.{RisesFrom}
use Rattle.reg_base.specs.declared.kinds.Retirement.{Retirement}
use Rattle.reg_account.specs.declared.rows.RetirementRow.{RetirementRow}
use Rattle.reg_account.specs.Rows.{amount_in, retired_in, row_numbers}
use Rattle.reg_account.specs.Rows.{row_in, marked_reversed, with_mark, AreBelow}
use Rattle.reg_account.proofs.lemmas.Rows.{nothing_from}

pub row-number : (rows : List RetirementRow) (number : ℕ) (row : RetirementRow) → row_in rows number ≡ Some row
    → row.number ≡ number
row-number [] number row found = absurd (none-some row found)
row-number (x ∷ xs) number row found = go (eqb x.number number) refl found (row-number xs number row) where
  go : (b : Bool) → eqb x.number number ≡ b → cond b (Some x) (row_in xs number) ≡ Some row
      → (row_in xs number ≡ Some row → row.number ≡ number) → row.number ≡ number
  go true same here more = ap (λ (r : RetirementRow). r.number) (sym (same_Some x row here))
      ∙ eqb-true x.number number same
  go false other here more = more here

-- a row that was added under a higher number is found under it, and the others as before
pub finds-added : (rows : List RetirementRow) (row : RetirementRow) → AreBelow row.number (row_numbers rows)
    → row_in (rows ++ row ∷ []) row.number ≡ Some row
finds-added [] row below = ap (λ b. cond b (Some row) None) (eq-eqb row.number row.number refl)
finds-added (x ∷ xs) row below =
    ap (λ b. cond b (Some x) (row_in (xs ++ row ∷ []) row.number)) (let h = below.0 in
    ne_eqb x.number row.number (λ same. let e : x.number ≡ row.number = same in omega (arith, h, e)))
    ∙ finds-added xs row below.1

pub finds-other : (rows : List RetirementRow) (row : RetirementRow) (number : ℕ) → number ≢ row.number
    → row_in (rows ++ row ∷ []) number ≡ row_in rows number
finds-other [] row number apart = ap (λ b. cond b (Some row) None) (ne_eqb row.number number (λ same. apart (sym same)))
finds-other (x ∷ xs) row number apart =
    ap (λ o. cond (eqb x.number number) (Some x) o) (finds-other xs row number apart)

-- what is found under a number among marked rows is what was found there, marked
finds-marked : (rows : List RetirementRow) (number at : ℕ)
    → row_in (with_mark number rows) at ≡ option_map (marked_reversed number) (row_in rows at)
finds-marked [] number at = refl
finds-marked (x ∷ xs) number at =
    ap (λ n. cond (eqb n at) (Some (marked_reversed number x)) (row_in (with_mark number xs) at))
    (keeps (eqb x.number number)) ∙ go (eqb x.number at) (finds-marked xs number at) where
      keeps : (b : Bool) → (cond b (record x { reversed = true }) x).number ≡ x.number
      keeps true = refl
      keeps false = refl

      go : (b : Bool) → row_in (with_mark number xs) at ≡ option_map (marked_reversed number) (row_in xs at)
          → cond b (Some (marked_reversed number x)) (row_in (with_mark number xs) at)
          ≡ option_map (marked_reversed number) (cond b (Some x) (row_in xs at))
      go true more = refl
      go false more = more

pub finds-mark : (rows : List RetirementRow) (number : ℕ) (row : RetirementRow) → row_in rows number ≡ Some row
    → row_in (with_mark number rows) number ≡ Some (record row { reversed = true })
finds-mark rows number row found =
    finds-marked rows number number ∙ ap (option_map (marked_reversed number)) found
    ∙ ap (λ b. Some (cond b (record row { reversed = true }) row))
    (eq-eqb row.number number (row-number rows number row found))

pub finds-unmarked : (rows : List RetirementRow) (number at : ℕ) → at ≢ number
    → row_in (with_mark number rows) at ≡ row_in rows at
finds-unmarked rows number at apart = finds-marked rows number at ∙ go (row_in rows at) refl where
  go : (o : Option RetirementRow) → row_in rows at ≡ o → option_map (marked_reversed number) o ≡ o
  go None found = refl
  go (Some row) found = ap (λ b. Some (cond b (record row { reversed = true }) row))
      (ne_eqb row.number number (λ same. apart (sym (row-number rows at row found) ∙ same)))

-- rows with higher numbers are not marked
marks-none : (number low : ℕ) (xs : List RetirementRow) → number < low → RisesFrom low (row_numbers xs)
    → with_mark number xs ≡ xs
marks-none number low [] above rises = refl
marks-none number low (x ∷ xs) above rises =
    let at = rises.0 in
    ap (λ b. cond b (record x { reversed = true }) x ∷ with_mark number xs)
    (ne_eqb x.number number (λ same. let e : x.number ≡ number = same in omega (arith, e, at, above)))
    ∙ ap (λ ys. x ∷ ys) (marks-none number (suc x.number) xs (omega (arith, at, above)) rises.1)

pub sum-marked : (way : Retirement) (kind : AllowanceKind) (low : ℕ) (rows : List RetirementRow) (number : ℕ)
    (row : RetirementRow) → RisesFrom low (row_numbers rows) → row_in rows number ≡ Some row
    → retired_in way kind (with_mark number rows) + amount_in way kind row ≡ retired_in way kind rows
sum-marked way kind low [] number row rises found = absurd (none-some row found)
sum-marked way kind low (x ∷ xs) number row rises found =
    go (eqb x.number number) refl found (sum-marked way kind (suc x.number) xs number row rises.1) where
      own : retired_in way kind (x ∷ xs) ≡ amount_in way kind x + retired_in way kind xs
      own = sum_by-cons (amount_in way kind) x xs

      go : (b : Bool) → eqb x.number number ≡ b → cond b (Some x) (row_in xs number) ≡ Some row
          → (row_in xs number ≡ Some row → retired_in way kind (with_mark number xs) + amount_in way kind row
          ≡ retired_in way kind xs)
          → retired_in way kind (cond b (record x { reversed = true }) x ∷ with_mark number xs) + amount_in way kind row
          ≡ retired_in way kind (x ∷ xs)
      go true same here more =
          let is : amount_in way kind x ≡ amount_in way kind row = ap (amount_in way kind) (same_Some x row here) in
          let at = eqb-true x.number number same in
          let rest : retired_in way kind (with_mark number xs) ≡ retired_in way kind xs =
          ap (retired_in way kind) (marks-none number (suc x.number) xs (omega (arith, at)) rises.1) in
          let all : retired_in way kind (record x { reversed = true } ∷ with_mark number xs)
          ≡ amount_in way kind (record x { reversed = true }) + retired_in way kind (with_mark number xs) =
          sum_by-cons (amount_in way kind) (record x { reversed = true }) (with_mark number xs) in
          let gone = nothing_from way kind x in
          let sum = own in
          omega (arith, is, rest, all, gone, sum)
      go false other here more =
          let rest = more here in
          let all : retired_in way kind (x ∷ with_mark number xs)
          ≡ amount_in way kind x + retired_in way kind (with_mark number xs) =
          sum_by-cons (amount_in way kind) x (with_mark number xs) in
          let sum = own in
          omega (arith, rest, all, sum)
