-- How many more bytes the rows of accounts may take after an instruction: those of the one row that it adds, if it adds
-- one.
use Rattle.std.proofs.Common.{◌≡◌, ℕ, ◌+◌, ◌≤◌, Bool, true, false, cond, eqb, nat_lt, List, [], ◌∷◌, ◌++◌}
use Rattle.std.proofs.Common.{map, Option, Some, None, Result, Ok, Err, refl, sym, ◌∙◌, arith, ℤ}
use Rattle.std.specs.Prelude.{filter, nat_eq, not}
use Rattle.std.specs.Option.{option_map_or}
use Rattle.std.specs.List.{AllByRecursion, IsDistinct}
use Rattle.std.proofs.lemmas.Bool.{eqb-false, eqb-true, ltb-true, ne_eqb}
use Rattle.reg_base.specs.declared.kinds.AllowanceKind.{AllowanceKind}
use Rattle.reg_base.specs.declared.movement.Change.{Change}
use Rattle.reg_base.specs.declared.movement.Change.TheVariants.{Debit, Credit, Retire, Unretire, Trust, Untrust}
use Rattle.reg_base.specs.declared.movement.Change.TheVariants.{SetStatus, SetEmissions, Determine}
use Rattle.reg_base.specs.declared.shares.Share.{Share}
use Rattle.reg_base.specs.declared.act.Act.{Act}
use Rattle.reg_base.specs.Acts.{change_of, first, movement_of, shares}
use Rattle.reg_account.specs.declared.figure.FigureFault.{FigureFault}
use Rattle.reg_account.specs.declared.trusted.TrustedEntry.{TrustedEntry}
use Rattle.reg_account.specs.declared.rows.RetirementRow.{RetirementRow}
use Rattle.reg_account.specs.declared.years.Emission.{Emission}
use Rattle.reg_account.specs.declared.years.Figure.{Figure}
use Rattle.reg_account.specs.Rows.{row_in, with_mark}
use Rattle.reg_account.specs.Account.{AccountValue, credited, unretired_row}
use Rattle.reg_account.specs.Figure.{figure_of}
use Rattle.reg_rules.specs.State.{Setting, State, numbers}
use Rattle.reg_rules.specs.Trust.{effective_day}
use Rattle.reg_rules.specs.Effect.{assessed, changed_by, given, listed_from, made_by, new_row, share_of, with_changes}
use Rattle.reg_text.proofs.BookSizes.{block_most, blocks_most, each}

-- ---- lists

each-append : {X : Type 0} (k : ℕ) (xs ys : List X) → each k (xs ++ ys) ≡ each k xs + each k ys
each-append k [] ys = omega arith
each-append k (x ∷ xs) ys = omega (arith, each-append k xs ys)

each-mark : (k number : ℕ) (rows : List RetirementRow) → each k (with_mark number rows) ≡ each k rows
each-mark k number [] = refl
each-mark k number (r ∷ rows) = omega (arith, each-mark k number rows)

kept : {X : Type 0} (k : ℕ) (b : Bool) (x : X) (xs ys : List X) → each k xs ≤ each k ys
    → each k (cond b (x ∷ xs) xs) ≤ k + each k ys
kept k true x xs ys h = omega (arith, h)
kept k false x xs ys h = omega (arith, h)

each-filter : {X : Type 0} (k : ℕ) (p : X → Bool) (xs : List X) → each k (filter p xs) ≤ each k xs
each-filter k p [] = omega arith
each-filter k p (x ∷ xs) = kept k (p x) x (filter p xs) xs (each-filter k p xs)

-- one is kept by at most one of two tests
apart : {X : Type 0} (k a n : ℕ) (x : X) (below above xs : List X) → each k below + each k above ≤ each k xs
    → each k (cond (nat_lt a n) (x ∷ below) below) + each k (cond (nat_lt n a) (x ∷ above) above) ≤ k + each k xs
apart k a n x below above xs h = by (nat_lt a n) (nat_lt n a) refl refl
  where
    by : (b d : Bool) → nat_lt a n ≡ b → nat_lt n a ≡ d
        → each k (cond b (x ∷ below) below) + each k (cond d (x ∷ above) above) ≤ k + each k xs
    by true true e f = absurd (omega (arith, ltb-true a n e, ltb-true n a f))
    by true false e f = omega (arith, h)
    by false true e f = omega (arith, h)
    by false false e f = omega (arith, h)

filters-apart : {X : Type 0} (k n : ℕ) (number : X → ℕ) (xs : List X)
    → each k (filter (λ x. nat_lt (number x) n) xs) + each k (filter (λ x. nat_lt n (number x)) xs) ≤ each k xs
filters-apart k n number [] = omega arith
filters-apart k n number (x ∷ xs) = apart k (number x) n x (filter (λ y. nat_lt (number y) n) xs)
    (filter (λ y. nat_lt n (number y)) xs) xs (filters-apart k n number xs)

-- a list with one more, in place of an earlier one of its number
placed : {X : Type 0} (k n : ℕ) (number : X → ℕ) (new : X) (xs : List X)
    → each k (filter (λ x. nat_lt (number x) n) xs ++ new ∷ filter (λ x. nat_lt n (number x)) xs) ≤ each k xs + k
placed k n number new xs = omega (
  arith,
  each-append k (filter (λ x. nat_lt (number x) n) xs) (new ∷ filter (λ x. nat_lt n (number x)) xs),
  filters-apart k n number xs,
)

-- ---- an account

-- the most bytes of the row that a change adds
abbrev pub grown : Change → ℕ
grown (Retire way kind amount) = 78
grown (Trust other) = 29
grown (SetEmissions year tonnes) = 32
grown (Determine year) = 30
grown made = 0

-- an account, with what acts change taken from another one, takes at most so many bytes more
abbrev IsGrown : AccountValue → AccountValue → ℕ → Type 0
IsGrown v w more = block_most (with_changes v w) ≤ block_most v + more

listed-grown : (v : AccountValue) (other : ℕ) (day : Option ℕ) → IsGrown v (listed_from v other day) 29
listed-grown v other None = omega arith
listed-grown v other (Some day) =
    let new : TrustedEntry = record { account = other; effective = day } in
    omega (arith, placed 29 other (λ (t : TrustedEntry). t.account) new v.trusted)

assessed-grown : (v : AccountValue) (year : ℕ) (figure : Result ℤ FigureFault) → IsGrown v (assessed v year figure) 30
assessed-grown v year (Err fault) = omega arith
assessed-grown v year (Ok figure) =
    omega (arith, placed 30 year (λ (f : Figure). f.year) (record { year = year; tonnes = figure }) v.figures)

unretired-grown : (v : AccountValue) (number : ℕ) (found : Option RetirementRow)
    → IsGrown v (option_map_or (unretired_row number v) found v) 0
unretired-grown v number None = omega arith
unretired-grown v number (Some row) = omega (arith, each-mark 78 number v.rows)

made-grown : (c : Setting) (number : ℕ) (made : Change) (v : AccountValue)
    → IsGrown v (made_by c number made v) (grown made)
made-grown c number (Debit kind amount) v = omega arith
made-grown c number (Credit kind amount) v = omega arith
made-grown c number (Retire way kind amount) v =
    omega (arith, each-append 78 v.rows (new_row c number way kind amount ∷ []))
made-grown c number (Unretire reversed) v = unretired-grown v reversed (row_in v.rows reversed)
made-grown c number (Trust other) v = listed-grown v other (effective_day c)
made-grown c number (Untrust other) v =
    omega (arith, each-filter 29 (λ (t : TrustedEntry). not (eqb t.account other)) v.trusted)
made-grown c number (SetStatus status) v = omega arith
made-grown c number (SetEmissions year tonnes) v =
    omega (arith, placed 32 year (λ (e : Emission). e.year) (record { year = year; tonnes = tonnes }) v.emissions)
made-grown c number (Determine year) v = assessed-grown v year (figure_of c.rules v year)

given-grown : (v : AccountValue) (kind : AllowanceKind) (found : Option Share)
    → IsGrown v (option_map_or (λ (share : Share). credited v kind share.amount) found v) 0
given-grown v kind None = omega arith
given-grown v kind (Some share) = omega arith

-- ---- all accounts

module _ (c : Setting) (number : ℕ) (act : Act) where
  first-grown : (v : AccountValue) → block_most (changed_by c number act v) ≤ block_most v + grown (change_of act)
  first-grown v = by (eqb v.number (first act))
    where
      by : (b : Bool)
          → IsGrown v (cond b (made_by c number (change_of act) v) (given (movement_of act).kind (shares act) v))
          (grown (change_of act))
      by true = made-grown c number (change_of act) v
      by false = omega (arith, given-grown v (movement_of act).kind (share_of (shares act) v.number))

  other-same : (v : AccountValue) → eqb v.number (first act) ≡ false
      → block_most (changed_by c number act v) ≤ block_most v
  other-same v e = rw e (omega (arith, given-grown v (movement_of act).kind (share_of (shares act) v.number)))

  others-same : (a : ℕ) (s : State) → first act ≡ a → AllByRecursion (λ b. nat_eq a b ≡ false) (numbers s)
      → blocks_most (map (changed_by c number act) s) ≤ blocks_most s
  others-same a [] e h = omega arith
  others-same a (v ∷ vs) e h =
      let other = ne_eqb v.number (first act) (λ same. eqb-false a v.number h.0 (sym (same ∙ e))) in
      omega (arith, other-same v other, others-same a vs e h.1)

  -- no two accounts have one number, so that only one may have a row more
  pub all-grown : (s : State) → IsDistinct nat_eq (numbers s)
      → blocks_most (map (changed_by c number act) s) ≤ blocks_most s + grown (change_of act)
  unfolding IsDistinct
  all-grown [] d = omega arith
  all-grown (v ∷ vs) d = by (eqb v.number (first act)) refl (all-grown vs d.1)
    where
      by : (b : Bool) → eqb v.number (first act) ≡ b
          → blocks_most (map (changed_by c number act) vs) ≤ blocks_most vs + grown (change_of act)
          → block_most (changed_by c number act v) + blocks_most (map (changed_by c number act) vs)
          ≤ block_most v + blocks_most vs + grown (change_of act)
      by true e more =
          omega (arith, first-grown v, others-same v.number vs (sym (eqb-true v.number (first act) e)) d.0)
      by false e more = omega (arith, other-same v e, more)
