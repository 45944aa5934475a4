-- Rows and parcels in any order, once sorted, are the settled day.
use Rattle.std.proofs.Common.{◌≡◌, ℕ, ◌+◌, ◌≤◌, inl, inr, Bool, true, false, cond, eqb, leb, ◌||◌, List, [], ◌∷◌}
use Rattle.std.proofs.Common.{length, map, Option, Some, None, refl, sym, ap, subst, ◌∙◌, arith}
use Rattle.std.specs.Prelude.{IsPermutation, IfSome, not}
use Rattle.std.specs.List.{IsDistinct, AllByRecursion, list_any}
use Rattle.std.specs.List.Sorted.{IsNonDecreasingBy}
use Rattle.std.proofs.lemmas.Bool.{eq-eqb, eqb-true, ne_eqb, lt-leb}
use Rattle.std.proofs.lemmas.Option.{same_Some}
use Rattle.std.proofs.lemmas.List.Sorted.{IsPermutation-map}
use Rattle.std.proofs.lemmas.Map.Keys.{IsDistinct-IsPermutation}
use Rattle.std.specs.Cmp.{nat_eq_equiv}
use Rattle.reg_facts.proofs.lemmas.Members.{of_member, in_permuted, in_permuted_back, In}
use Rattle.reg_base.specs.declared.instruction.Instruction.{Instruction}
use Rattle.reg_base.specs.Footprint.{is_among}
use Rattle.reg_base.specs.Touches.{is_touched, last_toucher}
use Rattle.reg_account.specs.Account.{AccountValue}
use Rattle.reg_account.specs.Rows.{row_numbers, AreBelow}
use Rattle.reg_account.specs.declared.rows.RetirementRow.{RetirementRow}
use Rattle.reg_rules.specs.declared.reply.LogRow.{LogRow}
use Rattle.reg_rules.specs.State.{State, Setting, account, numbers}
use Rattle.reg_rules.specs.Step.{step}
use Rattle.reg_rules.specs.Effect.{IsBehind}
use Rattle.reg_book.specs.Book.{has_row_ahead}
use Rattle.reg_book.specs.Fold.{rows_of}
use Rattle.reg_book.specs.Day.{DayValue, IsDay, setting, value_at, log_of, settled_day}
use Rattle.reg_book.specs.Laws.{ValueIsLastTouchers, SettledAreTouched, SettledIsInOrder, SettledIsOfBook}
use Rattle.reg_book.proofs.lemmas.Logs.{length-rows_of}
use Rattle.reg_schedules.specs.Pool.{directory}
use Rattle.reg_tasks.specs.Gathering.{AreClosing, AreClosingValues, named_accounts, gathered, IsGathered, IsWhole}
use Rattle.reg_schedules.specs.Schedules.{AreLastValues}
use Rattle.reg_tasks.specs.declared.naming.Naming.{Ghosts}
use Rattle.reg_tasks.specs.declared.parcel.Parcel.{Parcel}
use Rattle.reg_tasks.specs.Parcels.{names_of, values_of}
use Rattle.reg_tasks.proofs.Rising.{Up, same_rising, up_distinct, up_sorted, up_rising}

rows_from : (c : Setting) (s : State) (n : ℕ) (is : List Instruction) (row : LogRow) → In row (rows_of c s n is)
    → n ≤ row.number
rows_from c s n [] row m = absurd m
rows_from c s n (i ∷ is) row (inl e) = omega (arith, ap (λ (r : LogRow). r.number) e)
rows_from c s n (i ∷ is) row (inr m) = omega (arith, rows_from c (step c s n i).0 (n + 1) is row m)

up_rows : (c : Setting) (s : State) (n : ℕ) (is : List Instruction)
    → Up (λ (row : LogRow). row.number) (rows_of c s n is)
up_rows c s n [] = tt
up_rows c s n (i ∷ is) = (
  (λ row m. omega (arith, rows_from c (step c s n i).0 (n + 1) is row m)),
  up_rows c (step c s n i).0 (n + 1) is,
)

pub rows_are : (day : DayValue) (rows : List LogRow) → IsPermutation (log_of day) rows
    → IsNonDecreasingBy (λ (row : LogRow). row.number) rows → rows ≡ log_of day
rows_are day rows same sorted =
    let key : LogRow → ℕ = λ row. row.number in
    let up = up_rows (setting day) day.book.accounts (day.batch.base + 1) day.batch.instructions in
    let distinct = IsDistinct-IsPermutation eqb nat_eq_equiv.symm (map key (log_of day)) (map key rows)
    (IsPermutation-map key (log_of day) rows same) (up_distinct key (log_of day) up) in
    same_rising key rows (log_of day) (up_sorted key rows sorted distinct) up
    (λ row m. in_permuted_back (log_of day) rows row same m)
    (λ row m. in_permuted (log_of day) rows row same m)

-- accounts by their numbers
pub in_account : (s : State) (a : ℕ) (v : AccountValue) → account s a ≡ Some v → In v s
in_account [] a v e = absurd cc
in_account (w ∷ ws) a v e = by (eqb w.number a) e (in_account ws a v) where
  by : (b : Bool) → cond b (Some w) (account ws a) ≡ Some v → (account ws a ≡ Some v → In v ws) → In v (w ∷ ws)
  by true h more = inl (same_Some w v h)
  by false h more = inr (more h)

pub account_in : (s : State) (v : AccountValue) → Up (λ (w : AccountValue). w.number) s → In v s
    → account s v.number ≡ Some v
account_in [] v up m = absurd m
account_in (w ∷ ws) v up (inl e) =
    ap (λ b. cond b (Some w) (account ws v.number)) (eq-eqb w.number v.number (ap (λ (x : AccountValue). x.number) e))
    ∙ ap Some e
account_in (w ∷ ws) v up (inr m) =
    ap (λ b. cond b (Some w) (account ws v.number)) (ne_eqb w.number v.number (λ e. omega (arith, e, up.0 v m)))
    ∙ account_in ws v up.1 m

among_in : (s : State) (v : AccountValue) → In v s → is_among (numbers s) v.number ≡ true
among_in [] v m = absurd m
among_in (w ∷ ws) v (inl e) =
    ap (λ b. b || is_among (numbers ws) v.number) (eq-eqb w.number v.number (ap (λ (x : AccountValue). x.number) e))
among_in (w ∷ ws) v (inr m) = by (eqb w.number v.number) (among_in ws v m) where
  by : (b : Bool) {c : Bool} → c ≡ true → (b || c) ≡ true
  by true e = refl
  by false e = e

pub in_among : (s : State) (a : ℕ) → is_among (numbers s) a ≡ true → (v : AccountValue) × In v s × (v.number ≡ a)
in_among [] a e = absurd cc
in_among (w ∷ ws) a e = by (eqb w.number a) refl e (in_among ws a) where
  by : (b : Bool) → eqb w.number a ≡ b → (b || is_among (numbers ws) a) ≡ true
      → (is_among (numbers ws) a ≡ true → (v : AccountValue) × In v ws × (v.number ≡ a)) → (v : AccountValue)
      × In v (w ∷ ws) × (v.number ≡ a)
  by true h e more = (w, inl refl, eqb-true w.number a h)
  by false h e more = let r : (v : AccountValue) × In v ws × (v.number ≡ a) = more e in (r.0, inr r.1, r.2)

module _ (settled : SettledAreTouched) (day : DayValue) where
  abbrev pub last : ℕ → Option AccountValue
  last a = value_at day a (length day.batch.instructions)

  is_settled : (v : AccountValue) → is_touched (directory day) day.batch.instructions v.number ≡ true
      → last v.number ≡ Some v → account (settled_day day).accounts v.number ≡ Some v
  is_settled v touched is = settled day v.number ∙ ap (λ b. cond b (last v.number) None) touched ∙ is

  was_touched : (v : AccountValue) → account (settled_day day).accounts v.number ≡ Some v
      → (is_touched (directory day) day.batch.instructions v.number ≡ true) × (last v.number ≡ Some v)
  was_touched v found = by (is_touched (directory day) day.batch.instructions v.number) refl (sym (settled day v.number)
      ∙ found) where
        by : (b : Bool) → is_touched (directory day) day.batch.instructions v.number ≡ b
            → cond b (last v.number) None ≡ Some v → (is_touched (directory day) day.batch.instructions v.number ≡ true)
            × (last v.number ≡ Some v)
        by true e h = (e, h)
        by false e h = absurd cc

  pub accounts_are : SettledIsInOrder → IsDay day → (before accounts : State) → AreLastValues day before
      → IsPermutation before accounts → IsNonDecreasingBy (λ (v : AccountValue). v.number) accounts
      → accounts ≡ (settled_day day).accounts
  accounts_are in_order is_day before accounts closing same sorted =
      let key : AccountValue → ℕ = λ v. v.number in
      let up : Up key (settled_day day).accounts =
      up_rising key (settled_day day).accounts (in_order day is_day).rising in
      let distinct = IsDistinct-IsPermutation eqb nat_eq_equiv.symm (map key before) (map key accounts)
      (IsPermutation-map key before accounts same) closing.once in
      same_rising key accounts (settled_day day).accounts (up_sorted key accounts sorted distinct) up
      (λ v m. there v (in_permuted_back before accounts v same m))
      (λ v m. in_permuted before accounts v same
      (back v (was_touched v (account_in (settled_day day).accounts v up m))))
    where
      there : (v : AccountValue) → In v before → In v (settled_day day).accounts
      there v m = in_account (settled_day day).accounts v.number v
          (is_settled v (sym (closing.touched v.number) ∙ among_in before v m)
          (of_member (λ (w : AccountValue). last w.number ≡ Some w) before v closing.values m))

      back : (v : AccountValue) → (is_touched (directory day) day.batch.instructions v.number ≡ true)
          × (last v.number ≡ Some v) → In v before
      back v known =
          let r = in_among before v.number (closing.touched v.number ∙ known.0) in
          let w : AccountValue = r.0 in
          let is : w ≡ v = same_Some w v
          (sym (of_member (λ (u : AccountValue). last u.number ≡ Some u) before w closing.values r.1) ∙ ap last r.2
          ∙ known.1) in
          subst (λ u. In u before) is r.1

  pub whole_from : SettledIsInOrder → SettledIsOfBook → IsDay day → (rows : List LogRow) (accounts : State)
      → rows ≡ log_of day → accounts ≡ (settled_day day).accounts → IsWhole day.book day.batch rows accounts
  whole_from in_order of_book is_day rows accounts rows_same accounts_same =
      subst (λ (s : State). IsWhole day.book day.batch rows s) (sym accounts_same)
      (subst (λ rs. IsWhole day.book day.batch rs (settled_day day).accounts) (sym rows_same)
      (record {
        each = length-rows_of (setting day) day.book.accounts (day.batch.base + 1) day.batch.instructions;
        in_order = in_order day is_day;
        of_book = of_book day is_day;
      }))

  pub day_gathered : (rows : List LogRow) (accounts : State) → rows ≡ log_of day → accounts ≡ (settled_day day).accounts
      → gathered day.batch rows accounts ≡ settled_day day
  day_gathered rows accounts rows_same accounts_same =
      λ i. record { base = day.batch.base; rows = rows_same i; accounts = accounts_same i }

-- the parcels that are left at the end have the values that the last instruction left
module _ {N : Type 0} {b : Ghosts N} where
  pub same_accounts : (ps : List (Parcel N b)) → named_accounts (names_of ps) ≡ numbers (values_of ps)
  same_accounts [] = refl
  same_accounts (p ∷ ps) = ap (λ ns. p.value.number ∷ ns) (same_accounts ps)

  pub closing_values : ValueIsLastTouchers → (ps : List (Parcel N b)) → AreClosing b.day (names_of ps)
      → AreClosingValues b.day (values_of ps)
  closing_values values ps closing = λ day e. let of = closing day e in record {
    once = subst (IsDistinct eqb) (same_accounts ps) of.once;
    touched = λ a. ap (λ ns. is_among ns a) (sym (same_accounts ps)) ∙ of.touched a;
    values = each day e ps of.last;
  } where
    each : (day : DayValue) → b.day ≡ Some day → (qs : List (Parcel N b))
        → AllByRecursion (λ (n : ℕ × ℕ). n.1
        ≡ last_toucher (directory day) day.batch.instructions n.0 (length day.batch.instructions)) (names_of qs)
        → AllByRecursion (λ v. value_at day v.number (length day.batch.instructions) ≡ Some v) (values_of qs)
    each day e [] h = tt
    each day e (p ∷ qs) h = (
      values day p.value.number (length day.batch.instructions) ∙ ap (value_at day p.value.number) (sym h.0)
          ∙ p.right day e,
      each day e qs h.1,
    )

-- no account is behind if a row is ahead
not_ahead : (n : ℕ) (rows : List RetirementRow) → AreBelow n (row_numbers rows)
    → list_any (λ (row : RetirementRow). leb n row.number) rows ≡ false
not_ahead n [] below = refl
not_ahead n (row ∷ rows) below =
    ap (λ b. b || list_any (λ (r : RetirementRow). leb n r.number) rows) (lt-leb n row.number below.0)
    ∙ not_ahead n rows below.1

pub behind_not_ahead : (n : ℕ) (v : AccountValue) → IsBehind n v → not (has_row_ahead n v) ≡ true
behind_not_ahead n v below = ap not (not_ahead n v.rows below)

-- what holds under a name
pub if_named : (name : Option DayValue) (P : DayValue → Type 0) → ((d : DayValue) → name ≡ Some d → P d) → IfSome name P
if_named None P h = tt
if_named (Some d) P h = h d refl

pub no_name : (name : Option DayValue) → ((d : DayValue) → name ≡ Some d → ⊥) → name ≡ None
no_name None h = refl
no_name (Some d) h = absurd (h d refl)

pub named_whole : SettledAreTouched → SettledIsInOrder → SettledIsOfBook → (name : Option DayValue) (day : DayValue)
    → IsDay day
    → ((d : DayValue) → name ≡ Some d → day ≡ d) → (rows : List LogRow) (accounts : State)
    → IsGathered name rows accounts → (d : DayValue) → name ≡ Some d → IsWhole day.book day.batch rows accounts
named_whole settled in_order of_book name day is_day named rows accounts is d e =
    subst (λ (x : DayValue). IsWhole x.book x.batch rows accounts) (sym (named d e))
    (whole_from settled d in_order of_book (subst IsDay (named d e) is_day) rows accounts (is.rows_are d e)
    (is.accounts_are d e))

pub named_settled : SettledAreTouched → (name : Option DayValue) (day : DayValue)
    → ((d : DayValue) → name ≡ Some d → day ≡ d)
    → (rows : List LogRow) (accounts : State)
    → IsGathered name rows accounts → (d : DayValue) → name ≡ Some d → gathered day.batch rows accounts ≡ settled_day d
named_settled settled name day named rows accounts is d e =
    ap (λ (x : DayValue). gathered x.batch rows accounts) (named d e)
    ∙ day_gathered settled d rows accounts (is.rows_are d e) (is.accounts_are d e)
