-- What the tests of rows and parcels say: that they are those of all places and of all touched accounts.
use Rattle.std.proofs.Common.{◌≡◌, ℕ, zero, suc, ◌+◌, ◌++◌, ◌<◌, ◌≤◌, inl, inr, Bool, true, false, not, ◌&&◌, eqb}
use Rattle.std.proofs.Common.{List, [], ◌∷◌, length, map, take, Some, arith, refl, sym, ap, subst, ◌∙◌, append_assoc}
use Rattle.std.specs.Prelude.{slice_get, IsPermutation}
use Rattle.std.specs.Option.{option_map}
use Rattle.std.specs.List.{IsDistinct, AllByRecursion}
use Rattle.std.specs.List.Sorted.{IsNonDecreasingBy}
use Rattle.std.proofs.Props.{props}
use Rattle.std.proofs.lemmas.Option.{same_Some}
use Rattle.std.proofs.lemmas.Bool.{eq-eqb, eqb-true, and_parts, and_from, not-true}
use Rattle.std.proofs.lemmas.List.{map-append}
use Rattle.std.proofs.lemmas.List.Sorted.{IsPermutation-map, IsPermutation-trans, IsPermutation-refl}
use Rattle.std.proofs.lemmas.List.Sorted.{list_any-IsPermutation}
use Rattle.std.proofs.lemmas.Map.Keys.{IsDistinct-IsPermutation}
use mathlib.Core.Logic.{∥∥₁_elim}
use Rattle.std.specs.Cmp.{nat_eq_equiv}
use Rattle.reg_facts.proofs.lemmas.Members.{of_member, of_each_member, in_permuted, in_permuted_back, In}
use Rattle.reg_facts.proofs.lemmas.Numbers.{clash}
use Rattle.reg_base.specs.Footprint.{is_among}
use Rattle.reg_base.specs.Rising.{IsRising, count_up}
use Rattle.reg_base.specs.Touches.{is_touched, last_toucher, LastToucherIsLast}
use Rattle.reg_base.proofs.lemmas.Among.{member_from_among, among_from_member}
use Rattle.reg_base.proofs.lemmas.Rising.{length-count_up, distinct-count_up}
use Rattle.reg_plan.specs.Arrows.{touches_place}
use Rattle.reg_plan.specs.Plans.{PlanValue, IsPlan}
use Rattle.reg_plan.specs.Laws.{TailsAreLastTouchers}
use Rattle.reg_rules.specs.declared.reply.LogRow.{LogRow}
use Rattle.reg_rules.specs.declared.reply.Reply.{Reply}
use Rattle.reg_account.specs.Account.{AccountValue}
use Rattle.reg_base.specs.declared.instruction.Instruction.{Instruction}
use Rattle.reg_rules.specs.State.{State, Setting}
use Rattle.reg_rules.specs.Step.{step, row_of}
use Rattle.reg_book.specs.Day.{DayValue, IsDay, setting, row_at, log_of, settled_day}
use Rattle.reg_book.specs.Fold.{rows_of}
use Rattle.reg_book.specs.Laws.{ValueIsLastTouchers, SettledAreTouched, SettledIsInOrder}
use Rattle.reg_book.proofs.lemmas.Logs.{length-rows_of}
use Rattle.reg_schedules.specs.Schedules.{AreLastValues}
use Rattle.reg_schedules.specs.Pool.{directory, footprint_at, leads_on}
use Rattle.reg_schedules.proofs.lemmas.Known.{footprint_touches}
use Rattle.reg_schedules.proofs.lemmas.Tails.{touched_somewhere, last_of_all, not_last, last_touches}
use Rattle.reg_tasks.specs.Gathering.{AreLast, AreOutcomes, AreWithin, named_accounts, places_of}
use Rattle.reg_tasks.specs.Gathering.{row_replied, rows_in, replies_by_number, replies_from, counts_up, is_last}
use Rattle.reg_tasks.specs.Gathering.{are_each, have_accounts, are_outcomes}
use Rattle.reg_tasks.specs.LastParcels.{parcels_in}
use Rattle.reg_tasks.specs.Slots.{name_of, opened_accounts}
use Rattle.reg_tasks.specs.declared.naming.Naming.{Ghosts}
use Rattle.reg_tasks.specs.declared.done.Done.{Done}
use Rattle.reg_tasks.specs.declared.last_parcel.LastParcel.{LastParcel}
use Rattle.reg_tasks.specs.declared.parcel.Parcel.{Parcel}
use Rattle.reg_tasks.specs.Parcels.{names_of, values_of}
use Rattle.reg_tasks.proofs.Rising.{Up, up_distinct, up_rising, up_keys}
use Rattle.reg_tasks.proofs.Rising.{keys_are, ascending}
use Rattle.reg_tasks.proofs.lemmas.Slotting.{Name, number_of, among_opening}
use Rattle.reg_tasks.proofs.lemmas.Gathering.{same_accounts, closing_values, accounts_are}
use Rattle.reg_tasks.proofs.lemmas.OrderSteps.{touched_opened, all_touched}

-- ---- numbers that count up

pub counted_is : (first : ℕ) (xs : List ℕ) → counts_up first xs ≡ true → xs ≡ count_up first (length xs)
counted_is first [] e = refl
counted_is first (x ∷ xs) e =
    let both = and_parts (eqb x first) (counts_up (first + 1) xs) e in
    ap (λ y. y ∷ xs) (eqb-true x first both.0) ∙ ap (λ ys. first ∷ ys) (counted_is (first + 1) xs both.1)

pub counts : (first n : ℕ) → counts_up first (count_up first n) ≡ true
counts first zero = refl
counts first (suc n) = and_from (eqb first first) (counts_up (first + 1) (count_up (first + 1) n))
    (eq-eqb first first refl) (counts (first + 1) n)

counted_from : (first n x : ℕ) → In x (count_up first n) → first ≤ x
counted_from first zero x m = absurd m
counted_from first (suc n) x (inl e) = omega (arith, e)
counted_from first (suc n) x (inr m) = omega (arith, counted_from (first + 1) n x m)

up_count : (first n : ℕ) → Up (λ x. x) (count_up first n)
up_count first zero = tt
up_count first (suc n) = ((λ y m. omega (arith, counted_from (first + 1) n y m)), up_count (first + 1) n)

-- sorted elements with the numbers 1 to n
pub sorted_count : {X : Type 0} (key : X → ℕ) (n : ℕ) (xs : List X) → IsPermutation (count_up 1 n) (map key xs)
    → IsNonDecreasingBy key xs → map key xs ≡ count_up 1 n
sorted_count key n xs same sorted =
    keys_are key xs (count_up 1 n) (up_count 1 n) sorted
    (IsDistinct-IsPermutation eqb nat_eq_equiv.symm (count_up 1 n) (map key xs) same (distinct-count_up 1 n))
    (λ x m. in_permuted_back (count_up 1 n) (map key xs) x same m)
    (λ x m. in_permuted (count_up 1 n) (map key xs) x same m)

-- ---- the last names

pub uneven : (accounts : List ℕ) (names : List (ℕ × ℕ)) → (length names ≡ length accounts → ⊥)
    → have_accounts accounts names ≡ false
uneven [] [] ne = absurd (ne refl)
uneven [] (n ∷ names) ne = refl
uneven (a ∷ more) [] ne = refl
uneven (a ∷ more) (n ∷ names) ne = by (eqb n.0 a) (uneven more names (λ e. ne (ap suc e))) where
  by : (b : Bool) {c : Bool} → c ≡ false → (b && c) ≡ false
  by true e = e
  by false e = refl

pub accounts_tested : (accounts : List ℕ) (names : List (ℕ × ℕ)) → have_accounts accounts names ≡ true
    → named_accounts names ≡ accounts
accounts_tested [] [] e = refl
accounts_tested [] (n ∷ names) e = absurd cc
accounts_tested (a ∷ more) [] e = absurd cc
accounts_tested (a ∷ more) (n ∷ names) e =
    let both = and_parts (eqb n.0 a) (have_accounts more names) e in
    ap (λ b. b ∷ named_accounts names) (eqb-true n.0 a both.0) ∙ ap (λ ns. a ∷ ns) (accounts_tested more names both.1)

pub tested_accounts : (accounts : List ℕ) (names : List (ℕ × ℕ)) → named_accounts names ≡ accounts
    → have_accounts accounts names ≡ true
tested_accounts [] [] e = refl
tested_accounts [] (n ∷ names) e = absurd cc
tested_accounts (a ∷ more) [] e = absurd cc
tested_accounts (a ∷ more) (n ∷ names) e =
    let head : n.0 ≡ a = cc in
    let tail : named_accounts names ≡ more = cc in
    and_from (eqb n.0 a) (have_accounts more names) (eq-eqb n.0 a head) (tested_accounts more names tail)

-- the last names in another order
pub last_permuted : (day : DayValue) (names others : List (ℕ × ℕ)) → IsPermutation names others → AreLast day names
    → AreLast day others
last_permuted day names others same is = record {
  once = IsDistinct-IsPermutation eqb nat_eq_equiv.symm (named_accounts names) (named_accounts others) accounts is.once;
  touched = λ a. sym (list_any-IsPermutation (λ n. eqb n a) (named_accounts names) (named_accounts others) accounts)
      ∙ is.touched a;
  last = of_each_member (λ n. n.1
      ≡ last_toucher (directory day) day.batch.instructions n.0 (length day.batch.instructions)) others
      (λ n m. of_member (λ n. n.1 ≡ last_toucher (directory day) day.batch.instructions n.0
      (length day.batch.instructions)) names n is.last (in_permuted_back names others n same m));
} where
  accounts : IsPermutation (named_accounts names) (named_accounts others)
  accounts = IsPermutation-map (λ (n : ℕ × ℕ). n.0) names others same

-- what the tests say, and when they pass
pub each_tested : (day : DayValue) (places : List ℕ) → are_each day places ≡ true
    → places ≡ count_up 1 (length day.batch.instructions)
each_tested day places e =
    let counted = and_parts (eqb (length places) (length day.batch.instructions)) (counts_up 1 places) e in
    counted_is 1 places counted.1 ∙ ap (count_up 1) (eqb-true (length places) (length day.batch.instructions) counted.0)

pub tested_each : (day : DayValue) (places : List ℕ) → places ≡ count_up 1 (length day.batch.instructions)
    → are_each day places ≡ true
tested_each day places e =
    and_from (eqb (length places) (length day.batch.instructions)) (counts_up 1 places)
    (eq-eqb (length places) (length day.batch.instructions)
    (ap length e ∙ length-count_up 1 (length day.batch.instructions)))
    (ap (counts_up 1) e ∙ counts 1 (length day.batch.instructions))

pub outcomes_tested : (day : DayValue) (accounts places : List ℕ) (names : List (ℕ × ℕ))
    → are_outcomes day accounts places names ≡ true
    → (places ≡ count_up 1 (length day.batch.instructions)) × (have_accounts accounts names ≡ true)
outcomes_tested day accounts places names e =
    let both = and_parts (are_each day places) (have_accounts accounts names) e in
    (each_tested day places both.0, both.1)

pub tested_outcomes : (day : DayValue) (accounts places : List ℕ) (names : List (ℕ × ℕ))
    → places ≡ count_up 1 (length day.batch.instructions) → have_accounts accounts names ≡ true
    → are_outcomes day accounts places names ≡ true
tested_outcomes day accounts places names e l =
    and_from (are_each day places) (have_accounts accounts names) (tested_each day places e) l

-- replies of all places pass the test once they are sorted
module _ {N : Type 0} {b : Ghosts N} (day : DayValue) where
  pub sorted_each : (done sorted : List (Done N b)) → IsPermutation done sorted
      → IsNonDecreasingBy (λ d. d.place) sorted
      → IsPermutation (count_up 1 (length day.batch.instructions)) (places_of done)
      → places_of sorted ≡ count_up 1 (length day.batch.instructions)
  sorted_each done sorted same rise each =
      let n : ℕ = length day.batch.instructions in
      sorted_count (λ (d : Done N b). d.place) n sorted
      (IsPermutation-trans (count_up 1 n) (places_of done) (places_of sorted) each
      (IsPermutation-map (λ (d : Done N b). d.place) done sorted same)) rise

module _ (tails : TailsAreLastTouchers) (last : LastToucherIsLast) (day : DayValue) (plan : PlanValue)
    (planned : ∥ IsPlan (directory day) day.batch.instructions plan ∥₁) where
  -- each touched account has an opening, and no other
  pub opened_touched : (a : ℕ) → is_among (opened_accounts plan.openings) a
      ≡ is_touched (directory day) day.batch.instructions a
  opened_touched a = by (is_among (opened_accounts plan.openings) a) refl
      (is_touched (directory day) day.batch.instructions a) refl where
        by : (b : Bool) → is_among (opened_accounts plan.openings) a ≡ b → (c : Bool)
            → is_touched (directory day) day.batch.instructions a ≡ c → b ≡ c
        by true h true g = refl
        by true h false g = let r = among_opening plan.openings a h in
            absurd (clash (ap (is_touched (directory day) day.batch.instructions) (sym r.2)
            ∙ all_touched tails last day plan planned r.0 r.1) g)
        by false h true g = absurd (clash (touched_opened tails last day plan planned a g) h)
        by false h false g = refl

  pub is_the_last : (a place : ℕ) → is_last day plan (a, place) ≡ true
      → place ≡ last_toucher (directory day) day.batch.instructions a (length day.batch.instructions)
  is_the_last a place e =
      let both = and_parts (is_among (footprint_at day place) a) (not (leads_on plan place a)) e in
      ∥∥₁_elim planned (Prim.hlevel props)
      (λ made. sym (last_of_all tails last (directory day) day.batch.instructions plan made a place
      (sym (footprint_touches day place a) ∙ both.0) (not-true (leads_on plan place a) both.1)))

  pub the_last_is : (a place : ℕ) → is_touched (directory day) day.batch.instructions a ≡ true
      → place ≡ last_toucher (directory day) day.batch.instructions a (length day.batch.instructions)
      → is_last day plan (a, place) ≡ true
  the_last_is a place touched e = ∥∥₁_elim planned (Prim.hlevel props) (λ made.
      let on : touches_place (directory day) day.batch.instructions a place ≡ true =
      subst (λ q. touches_place (directory day) day.batch.instructions a q ≡ true) (sym e)
      (last_touches tails last (directory day) day.batch.instructions plan made a one) in
      and_from (is_among (footprint_at day place) a) (not (leads_on plan place a)) (footprint_touches day place a ∙ on)
      (by (leads_on plan place a)
      (λ leads. not_last tails last (directory day) day.batch.instructions plan made a place leads (sym e))))
    where
      by : (b : Bool) → (b ≡ true → ⊥) → not b ≡ true
      by true ne = absurd (ne refl)
      by false ne = refl

      at_least : (t : ℕ) → last_toucher (directory day) day.batch.instructions a (length day.batch.instructions) ≡ t
          → (n : ℕ) → n < length day.batch.instructions → touches_place (directory day) day.batch.instructions a (suc n)
          ≡ true → 1 ≤ last_toucher (directory day) day.batch.instructions a (length day.batch.instructions)
      at_least (suc t) same n lt on = omega (arith, same)
      at_least zero same n lt on =
          absurd (clash on ((last (directory day) day.batch.instructions a (length day.batch.instructions)).none_later n
          (omega (arith, same)) lt))

      one : 1 ≤ last_toucher (directory day) day.batch.instructions a (length day.batch.instructions)
      one =
          let (n, lt, on) = touched_somewhere (directory day) day.batch.instructions a touched in
          at_least (last_toucher (directory day) day.batch.instructions a (length day.batch.instructions)) refl n lt on

  -- last names of the opened accounts are the last ones
  pub all_last : IsRising (opened_accounts plan.openings) → (names : List (ℕ × ℕ))
      → named_accounts names ≡ opened_accounts plan.openings
      → AllByRecursion (λ n. n.1
      ≡ last_toucher (directory day) day.batch.instructions n.0 (length day.batch.instructions)) names
      → AreLast day names
  all_last rising names accounts each = record {
    once = subst (IsDistinct eqb) (sym accounts)
        (up_distinct number_of plan.openings (up_rising number_of plan.openings rising));
    touched = λ a. ap (λ ns. is_among ns a) accounts ∙ opened_touched a;
    last = each;
  }

  module _ {N : Type 0} {b : Ghosts N} where
    keys_names : (ls : List (LastParcel N b)) → map (λ l. l.parcel.value.number) ls
        ≡ named_accounts (names_of (parcels_in ls))
    keys_names [] = refl
    keys_names (l ∷ ls) = ap (λ ns. l.parcel.value.number ∷ ns) (keys_names ls)

    -- the last parcels, sorted by account, are those of the opened accounts
    accounts_sorted : IsRising (opened_accounts plan.openings) → (ls : List (LastParcel N b))
        → AreLast day (names_of (parcels_in ls)) → IsNonDecreasingBy (λ l. l.parcel.value.number) ls
        → named_accounts (names_of (parcels_in ls)) ≡ opened_accounts plan.openings
    accounts_sorted rising ls is sorted =
        sym (keys_names ls)
        ∙ keys_are (λ l. l.parcel.value.number) ls (opened_accounts plan.openings)
        (up_keys number_of plan.openings (up_rising number_of plan.openings rising)) sorted
        (subst (IsDistinct eqb) (sym (keys_names ls)) is.once)
        (λ a m. member_from_among (opened_accounts plan.openings) a
        (sym (same a)
        ∙ among_from_member (named_accounts (names_of (parcels_in ls))) a (subst (In a) (keys_names ls) m)))
        (λ a m. subst (In a) (sym (keys_names ls))
        (member_from_among (named_accounts (names_of (parcels_in ls))) a
        (same a ∙ among_from_member (opened_accounts plan.openings) a m)))
      where
        same : (a : ℕ) → is_among (named_accounts (names_of (parcels_in ls))) a
            ≡ is_among (opened_accounts plan.openings) a
        same a = is.touched a ∙ sym (opened_touched a)

    -- what was sorted passes the tests if it is all that is needed
    pub outcomes_pass : IsRising (opened_accounts plan.openings)
        → (done sorted : List (Done N b)) (ls sorted_ls : List (LastParcel N b)) → IsPermutation done sorted
        → IsNonDecreasingBy (λ d. d.place) sorted
        → IsPermutation ls sorted_ls → IsNonDecreasingBy (λ l. l.parcel.value.number) sorted_ls
        → AreOutcomes day (places_of done) (names_of (parcels_in ls))
        → are_outcomes day (opened_accounts plan.openings) (places_of sorted) (names_of (parcels_in sorted_ls)) ≡ true
    outcomes_pass rising done sorted ls sorted_ls same rise same_ls rise_ls all =
        let places = sorted_each day done sorted same rise all.each in
        let parcels = IsPermutation-map (λ (l : LastParcel N b). l.parcel) ls sorted_ls same_ls in
        let is = last_permuted day (names_of (parcels_in ls)) (names_of (parcels_in sorted_ls))
        (IsPermutation-map (λ (p : Parcel N b). (p.value.number, p.after)) (parcels_in ls)
        (parcels_in sorted_ls) parcels) all.last in
        tested_outcomes day (opened_accounts plan.openings) (places_of sorted) (names_of (parcels_in sorted_ls)) places
        (tested_accounts (opened_accounts plan.openings) (names_of (parcels_in sorted_ls))
        (accounts_sorted rising sorted_ls is rise_ls))

-- each last parcel of a named day has the name of a last one
module _ {N : Type 0} {b : Ghosts N} (day : DayValue) (named : b.day ≡ Some day) where
  pub each_last : (ls : List (LastParcel N b))
      → AllByRecursion (λ n. n.1
      ≡ last_toucher (directory day) day.batch.instructions n.0 (length day.batch.instructions))
      (names_of (parcels_in ls))
  each_last [] = tt
  each_last (l ∷ ls) = ((l.closing day named).last, each_last ls)

-- one parcel more that is a last one
module _ {N : Type 0} {b : Ghosts N} where
  pub last_more : (before now : List (LastParcel N b)) (one : LastParcel N b) (p : Parcel N b)
      (rest all : List (Parcel N b)) → now ≡ before ++ one ∷ [] → one.parcel ≡ p
      → parcels_in before ++ p ∷ rest ≡ all → parcels_in now ++ rest ≡ all
  last_more before now one p rest all grown same so_far =
      ap (λ ls. parcels_in ls ++ rest) grown
      ∙ ap (λ ps. ps ++ rest) (map-append (λ (l : LastParcel N b). l.parcel) before (one ∷ []))
      ∙ append_assoc (parcels_in before) (one.parcel ∷ []) rest
      ∙ ap (λ q. parcels_in before ++ q ∷ rest) same
      ∙ so_far

  pub name_more : (before now : List (LastParcel N b)) (one : LastParcel N b) (n : Name) (rest all : List Name)
      → now ≡ before ++ one ∷ [] → Some (name_of one.parcel) ≡ n
      → map Some (names_of (parcels_in before)) ++ n ∷ rest ≡ all → map Some (names_of (parcels_in now)) ++ rest ≡ all
  name_more before now one n rest all grown same so_far =
      ap (λ ls. map Some (names_of (parcels_in ls)) ++ rest) grown
      ∙ ap (λ ps. map Some (names_of ps) ++ rest) (map-append (λ (l : LastParcel N b). l.parcel) before (one ∷ []))
      ∙ ap (λ ns. map Some ns ++ rest)
      (map-append (λ (q : Parcel N b). (q.value.number, q.after)) (parcels_in before) (one.parcel ∷ []))
      ∙ ap (λ ns. ns ++ rest) (map-append Some (names_of (parcels_in before)) (name_of one.parcel ∷ []))
      ∙ append_assoc (map Some (names_of (parcels_in before))) (Some (name_of one.parcel) ∷ []) rest
      ∙ ap (λ (m : Name). map Some (names_of (parcels_in before)) ++ m ∷ rest) same
      ∙ so_far

-- ---- the rows

rows_from : (day : DayValue) (rs : List LogRow) → (k : ℕ) → ((j : ℕ) → slice_get (log_of day) (k + j) ≡ slice_get rs j)
    → map (row_at day) (count_up (k + 1) (length rs)) ≡ map Some rs
rows_from day [] k at = refl
rows_from day (r ∷ rs) k at =
    ap (λ o. o ∷ map (row_at day) (count_up (k + 1 + 1) (length rs))) (ap (row_at day) one
    ∙ ap (slice_get (log_of day)) zero_is ∙ at 0)
    ∙ ap (λ os. Some r ∷ os) (rows_from day rs (k + 1) (λ j. ap (slice_get (log_of day)) (shift j) ∙ at (suc j)))
  where
    one : k + 1 ≡ suc k
    one = omega arith

    zero_is : k ≡ k + 0
    zero_is = omega arith

    shift : (j : ℕ) → k + 1 + j ≡ k + suc j
    shift j = omega arith

all_rows : (day : DayValue) → map (row_at day) (count_up 1 (length day.batch.instructions)) ≡ map Some (log_of day)
all_rows day =
    ap (λ n. map (row_at day) (count_up 1 n))
    (sym (length-rows_of (setting day) day.book.accounts (day.batch.base + 1) day.batch.instructions))
    ∙ rows_from day (log_of day) 0 (λ j. ap (slice_get (log_of day)) (zero_add j))
  where
    zero_add : (j : ℕ) → 0 + j ≡ j
    zero_add j = omega arith

same_some : {X : Type 0} (xs ys : List X) → map Some xs ≡ map Some ys → xs ≡ ys
same_some [] [] e = refl
same_some [] (y ∷ ys) e = absurd cc
same_some (x ∷ xs) [] e = absurd cc
same_some (x ∷ xs) (y ∷ ys) e =
    let head : x ≡ y = cc in
    let tail : map Some xs ≡ map Some ys = cc in
    ap (λ z. z ∷ xs) head ∙ ap (λ zs. y ∷ zs) (same_some xs ys tail)

take_whole : {X : Type 0} (xs : List X) → take (length xs) xs ≡ xs
take_whole [] = refl
take_whole (x ∷ xs) = ap (λ ys. x ∷ ys) (take_whole xs)

-- as many rows as there are instructions are the whole log
pub first_whole : (day : DayValue) (rows : List LogRow) → rows ≡ take (length day.batch.instructions) (log_of day)
    → rows ≡ log_of day
first_whole day rows e =
    e ∙ ap (λ n. take n (log_of day))
    (sym (length-rows_of (setting day) day.book.accounts (day.batch.base + 1) day.batch.instructions))
    ∙ take_whole (log_of day)

-- a row of the log is made again of its place and its reply
made_again : (c : Setting) (s : State) (n : ℕ) (is : List Instruction) (k : ℕ) (reply : Reply)
    → option_map (λ (row : LogRow). row.reply) (slice_get (rows_of c s n is) k) ≡ Some reply
    → option_map (λ i. row_of c (n + k) i reply) (slice_get is k) ≡ slice_get (rows_of c s n is) k
made_again c s n [] k reply e = absurd cc
made_again c s n (i ∷ is) zero reply e =
    let same : reply ≡ (step c s n i).1 = sym (same_Some (step c s n i).1 reply e) in
    let here : n + 0 ≡ n = omega arith in
    ap (λ m. Some (row_of c m i reply)) here ∙ ap (λ r. Some (row_of c n i r)) same
made_again c s n (i ∷ is) (suc k) reply e =
    let shift : n + suc k ≡ n + 1 + k = omega arith in
    ap (λ m. option_map (λ j. row_of c m j reply) (slice_get is k)) shift
    ∙ made_again c (step c s n i).0 (n + 1) is k reply e

row_again : (day : DayValue) (place : ℕ) (reply : Reply) → option_map (λ (row : LogRow). row.reply) (row_at day place)
    ≡ Some reply → row_replied day place reply ≡ row_at day place
row_again day zero reply e = refl
row_again day (suc k) reply e =
    let number : day.batch.base + suc k ≡ day.batch.base + 1 + k = omega arith in
    ap (λ n. option_map (λ i. row_of (setting day) n i reply) (slice_get day.batch.instructions k)) number
    ∙ made_again (setting day) day.book.accounts (day.batch.base + 1) day.batch.instructions k reply e

module _ {N : Type 0} {b : Ghosts N} where
  -- places that count up to the last are within
  count_within : (first n most : ℕ) (done : List (Done N b)) → places_of done ≡ count_up first n → 1 ≤ first
      → first + n ≤ most + 1 → AreWithin most done
  count_within first n most [] e low high = tt
  count_within first zero most (d ∷ done) e low high = absurd cc
  count_within first (suc n) most (d ∷ done) e low high =
      let head : d.place ≡ first = cc in
      let tail : places_of done ≡ count_up (first + 1) n = cc in (
        (omega (arith, low, head), omega (arith, high, head)),
        count_within (first + 1) n most done tail (omega arith) (omega (arith, high)),
      )

  pub all_within : (count : ℕ) (done : List (Done N b)) → places_of done ≡ count_up 1 count → AreWithin count done
  all_within count done e = count_within 1 count count done e (omega arith) (omega arith)

module _ {N : Type 0} {b : Ghosts N} (day : DayValue) (named : b.day ≡ Some day) where
  rows_right : (done : List (Done N b)) → rows_in day done ≡ map (row_at day) (places_of done)
  rows_right [] = refl
  rows_right (d ∷ done) = ap (λ o. o ∷ rows_in day done) (row_again day d.place d.reply (d.right day named))
      ∙ ap (λ os. row_at day d.place ∷ os) (rows_right done)

  -- rows of all places, made again of their replies, are the log
  pub log_from : (done : List (Done N b)) → places_of done ≡ count_up 1 (length day.batch.instructions)
      → (rows : List LogRow) → map Some rows ≡ rows_in day done → rows ≡ log_of day
  log_from done e rows made =
      same_some rows (log_of day) (made ∙ rows_right done ∙ ap (map (row_at day)) e ∙ all_rows day)

-- the values of the last parcels, by rising account, are the settled accounts
module _ {N : Type 0} {b : Ghosts N} where
  pub settled_from : SettledAreTouched → SettledIsInOrder → ValueIsLastTouchers → (day : DayValue) → IsDay day
      → b.day ≡ Some day → (ps : List (Parcel N b)) → AreLast day (names_of ps)
      → (accounts : List ℕ) → IsRising accounts → named_accounts (names_of ps) ≡ accounts
      → values_of ps ≡ (settled_day day).accounts
  settled_from settled in_order values day is_day named ps is accounts rising e =
      let key : AccountValue → ℕ = λ v. v.number in
      let closing : AreLastValues day (values_of ps) =
      closing_values values ps (λ x f.
      subst (λ (y : DayValue). AreLast y (names_of ps)) (same_Some day x (sym named ∙ f)) is) day named in
      let up : Up key (values_of ps) =
      up_rising key (values_of ps) (subst IsRising (sym e ∙ same_accounts ps) rising) in
      accounts_are settled day in_order is_day (values_of ps) (values_of ps) closing (IsPermutation-refl (values_of ps))
      (ascending key (values_of ps) up)

-- ---- rows without their places

-- the row is the day's row of the place that its record number tells
pub record IsLogged (day : DayValue) (row : LogRow) : Type 0 where
  pub place : ℕ
  pub number : place + day.batch.base ≡ row.number
  pub at : row_at day place ≡ Some row

row_index : (c : Setting) (s : State) (n : ℕ) (is : List Instruction) (row : LogRow) → In row (rows_of c s n is)
    → (k : ℕ) × (slice_get (rows_of c s n is) k ≡ Some row) × (row.number ≡ n + k) × (k < length is)
row_index c s n [] row m = absurd m
row_index c s n (i ∷ is) row (inl e) = let head : n ≡ row.number = ap (λ (r : LogRow). r.number) e in
    (0, ap Some e, omega (arith, head), omega arith)
row_index c s n (i ∷ is) row (inr m) =
    let (k, at, number, lt) = row_index c (step c s n i).0 (n + 1) is row m in
    (suc k, at, omega (arith, number), omega (arith, lt))

pub rows_logged : (d : DayValue) → (rows : List LogRow) → IsPermutation (log_of d) rows → (row : LogRow) → In row rows
    → IsLogged d row
rows_logged d rows same row m =
    let (k, at, number, lt) = row_index (setting d) d.book.accounts (d.batch.base + 1) d.batch.instructions row
    (in_permuted_back (log_of d) rows row same m) in
    record { place = suc k; number = omega (arith, number); at = at }

module _ {N : Type 0} {b : Ghosts N} where
  -- one row more that was taken apart
  pub reply_more : (base : ℕ) (before now : List (Done N b)) (one : Done N b) (row : LogRow) (rest all : List LogRow)
      → now ≡ before ++ one ∷ [] → one.place + base ≡ row.number → one.reply ≡ row.reply
      → replies_from base before ++ replies_by_number (row ∷ rest) ≡ replies_by_number all
      → replies_from base now ++ replies_by_number rest ≡ replies_by_number all
  reply_more base before now one row rest all grown number reply so_far =
      ap (λ ds. replies_from base ds ++ replies_by_number rest) grown
      ∙ ap (λ rs. rs ++ replies_by_number rest) (map-append (λ d. (d.place + base, d.reply)) before (one ∷ []))
      ∙ append_assoc (replies_from base before) ((one.place + base, one.reply) ∷ []) (replies_by_number rest)
      ∙ ap (λ n. replies_from base before ++ (n, one.reply) ∷ replies_by_number rest) number
      ∙ ap (λ r. replies_from base before ++ (row.number, r) ∷ replies_by_number rest) reply
      ∙ so_far
