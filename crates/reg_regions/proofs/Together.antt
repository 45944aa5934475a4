-- Regions that are a day together: what each of them leaves is what the day leaves.
use Rattle.std.proofs.Common.{◌≡◌, ℕ, zero, suc, ◌≤◌, true, false, cond, eqb, List, [], ◌∷◌}
use Rattle.std.proofs.Common.{◌++◌, ◌⊎◌, map, length, get_or, Some, refl, sym, ap, subst, ◌∙◌, inl, inr}
use Rattle.std.proofs.Common.{arith}
use Rattle.std.specs.Prelude.{All, Contains, slice_get}
use Rattle.std.specs.List.{IsDistinct}
use Rattle.std.proofs.lemmas.Bool.{eq-eqb, ne_eqb}
use Rattle.std.proofs.lemmas.Map.Keys.{IsDistinct-tail, apart_from_distinct}
use Rattle.std.proofs.lemmas.List.{map-append}
use Rattle.std.proofs.lemmas.List.Sorted.{Contains-permutation, IsPermutation-map}
use Rattle.std.specs.Option.{option_map_or}
use Rattle.reg_base.specs.Directory.{DirectoryValue}
use Rattle.std.proofs.lemmas.List.Elements.{All-contains, All-append, All-nil, All-cons}
use Rattle.std.proofs.lemmas.List.Elements.{Contains-append_left, Contains-append_right}
use Rattle.std.proofs.lemmas.List.Elements.{Contains-append_cases, Contains-get_or}
use Rattle.reg_base.proofs.lemmas.Among.{is_among-contained}
use Rattle.reg_account.specs.Account.{AccountValue}
use Rattle.reg_rules.specs.State.{State, account, numbers}
use Rattle.reg_rules.specs.Laws.{StepLaws}
use Rattle.reg_rules.proofs.lemmas.Accounts.{distinct-permutation, account-permutation, account-append_left}
use Rattle.reg_book.specs.Book.{directory_of}
use Rattle.reg_book.specs.Day.{DayValue, setting, closing_state}
use Rattle.reg_book.specs.Laws.{StaysReady}
use Rattle.reg_base.specs.declared.instruction.Instruction.{Instruction}
use Rattle.reg_base.specs.Touches.{touches}
use Rattle.reg_regions.specs.declared.instruction.Placed.{Placed}
use Rattle.reg_regions.specs.Regions.{Touches, IsRegion, accounts_after_all}
use Rattle.reg_regions.specs.Settling.{places_in, IsInside, IsRun}
use Rattle.reg_regions.specs.Days.{Run, all_opening, all_afterwards, all_replies, AreRuns, RegionsAreADay}
use Rattle.reg_regions.specs.Laws.{RegionEndsAsTheDay, RegionRepliesAsTheDay, reply_of}
use Rattle.reg_regions.proofs.Keeping.{numbers-all}

-- numbers that differ: what stands in front does not stand behind
apart : (xs ys : List ℕ) (a : ℕ) → IsDistinct eqb (xs ++ ys) → Contains xs a → Contains ys a → ⊥
apart [] ys a distinct (k, lt, is) there = omega arith
apart (x ∷ xs) ys a distinct (zero, lt, is) there =
    let (j, within, same) = Contains-append_right xs ys a there in
    let differ = apart_from_distinct eqb (x ∷ (xs ++ ys)) 0 (suc j) a distinct (omega arith) (omega (arith, within)) in
    let equal : eqb x (get_or (xs ++ ys) j a) ≡ true = eq-eqb x (get_or (xs ++ ys) j a) (is ∙ sym same) in
    absurd cc
apart (x ∷ xs) ys a distinct (suc k, lt, is) there =
    apart xs ys a (IsDistinct-tail eqb x (xs ++ ys) distinct) (k, omega arith, is) there

behind : (xs ys : List ℕ) → IsDistinct eqb (xs ++ ys) → IsDistinct eqb ys
behind [] ys distinct = distinct
behind (x ∷ xs) ys distinct = behind xs ys (IsDistinct-tail eqb x (xs ++ ys) distinct)

account-front : (xs ys : State) (a : ℕ) → Contains (numbers xs) a → account (xs ++ ys) a ≡ account xs a
account-front xs ys a there = account-append_left xs ys a (is_among-contained (numbers xs) a there)

account-behind : (xs ys : State) (a : ℕ) → (Contains (numbers xs) a → ⊥) → account (xs ++ ys) a ≡ account ys a
account-behind [] ys a none = refl
account-behind (x ∷ xs) ys a none =
    let other : eqb x.number a ≡ false = ne_eqb x.number a (λ e. none (zero, omega arith, e)) in
    ap (λ b. cond b (Some x) (account (xs ++ ys) a)) other
    ∙ account-behind xs ys a (λ there. let (k, lt, is) = there in none (suc k, omega arith, is))

-- some region has the place, and the account is one of its own
unfoldable pub CoveredBy : List State → List Run → ℕ → ℕ → Type 0
CoveredBy [] settled place a = ⊥
CoveredBy (o ∷ openings) [] place a = ⊥
CoveredBy (o ∷ openings) (s ∷ settled) place a =
    (Contains (places_in s.replies) place × Contains (numbers o) a) ⊎ CoveredBy openings settled place a

covered-in : (openings : List State) (settled : List Run) (place a : ℕ)
    → CoveredBy openings settled place a → Contains (numbers (all_opening openings)) a
unfolding CoveredBy
covered-in [] settled place a by = absurd by
covered-in (o ∷ openings) [] place a by = absurd by
covered-in (o ∷ openings) (s ∷ settled) place a by =
    let both = sym (map-append (λ (v : AccountValue). v.number) o (all_opening openings)) in
    subst (λ ns. Contains ns a) both (elim by [
      | inl here ↦ Contains-append_left (numbers o) (numbers (all_opening openings)) a here.1
      | inr later ↦ Contains-append_right (numbers o) (numbers (all_opening openings)) a
          (covered-in openings settled place a later)
    ])

-- each of these is a region of the day
abbrev pub AreRegions : DayValue → List State → List Run → Type 0
AreRegions day [] settled = Unit {0}
AreRegions day (o ∷ openings) [] = Unit {0}
AreRegions day (o ∷ openings) (s ∷ settled) =
    IsRegion day o (places_in s.replies) × AreRegions day openings settled

module _ (day : DayValue) where
  -- an instruction that was run touches accounts of its region
  pub covered : (openings : List State) (settled : List Run)
      → AreRuns (setting day) day.batch openings settled → (place a : ℕ)
      → Contains (places_in (all_replies settled)) place → Touches day place a → CoveredBy openings settled place a
  unfolding CoveredBy
  covered [] [] runs place a (k, lt, is) touched = absurd (omega arith)
  covered [] (s ∷ settled) runs place a there touched = absurd runs
  covered (o ∷ openings) [] runs place a there touched = absurd runs
  covered (o ∷ openings) (s ∷ settled) runs place a there touched =
      let both = map-append (λ (p : Placed). p.place) s.replies (all_replies settled) in
      elim (Contains-append_cases (places_in s.replies) (places_in (all_replies settled)) place
      (subst (λ ps. Contains ps place) both there)) [
        | inl here ↦ inl (
          here,
          All-contains (IsInside (setting day) day.batch (numbers o)) (places_in s.replies) place
              runs.0.inside here a touched,
        )
        | inr later ↦ inr (covered openings settled runs.1 place a later touched)
      ]

  pub regions : (openings : List State) (settled : List Run)
      → AreRuns (setting day) day.batch openings settled → IsDistinct eqb (numbers (all_opening openings))
      → ((a : ℕ) → Contains (numbers (all_opening openings)) a
      → account (all_opening openings) a ≡ account day.book.accounts a)
      → ((place a : ℕ) → Touches day place a → Contains (numbers (all_opening openings)) a
      → CoveredBy openings settled place a)
      → AreRegions day openings settled
  unfolding CoveredBy
  regions [] settled runs distinct same by = tt
  regions (o ∷ openings) [] runs distinct same by = tt
  regions (o ∷ openings) (s ∷ settled) runs distinct same by = (
    record {
      of_book = λ k d lt.
          let a = get_or (numbers o) k d in
          let here = Contains-get_or (numbers o) k d lt in
          sym (account-front o rest a here) ∙ same a (front-in a here);
      rising = runs.0.rising;
      inside = λ place a there. All-contains (IsInside (setting day) day.batch (numbers o))
          (places_in s.replies) place runs.0.inside there a;
      alone = λ place a own touched. elim (by place a touched (front-in a own)) [
        | inl here ↦ here.0
        | inr later ↦ absurd (apart (numbers o) (numbers rest) a different own
            (covered-in openings settled place a later))
      ];
    },
    regions openings settled runs.1 (behind (numbers o) (numbers rest) different)
        (λ a there. sym (account-behind o rest a (λ own. apart (numbers o) (numbers rest) a different own there))
        ∙ same a (back-in a there))
        (λ place a touched there. elim (by place a touched (back-in a there)) [
          | inl here ↦ absurd (apart (numbers o) (numbers rest) a different here.1 there)
          | inr later ↦ later
        ]),
  )
    where
      rest : State
      rest = all_opening openings

      both : numbers (o ++ rest) ≡ numbers o ++ numbers rest
      both = map-append (λ (v : AccountValue). v.number) o rest

      different : IsDistinct eqb (numbers o ++ numbers rest)
      different = subst (IsDistinct eqb) both distinct

      front-in : (a : ℕ) → Contains (numbers o) a → Contains (numbers (o ++ rest)) a
      front-in a here =
          subst (λ ns. Contains ns a) (sym both) (Contains-append_left (numbers o) (numbers rest) a here)

      back-in : (a : ℕ) → Contains (numbers rest) a → Contains (numbers (o ++ rest)) a
      back-in a there =
          subst (λ ns. Contains ns a) (sym both) (Contains-append_right (numbers o) (numbers rest) a there)

  -- no account of a region is added, removed or moved
  numbers-run : StepLaws → (o : State) (s : Run)
      → IsRun (setting day) day.batch o s.afterwards s.replies → numbers s.afterwards ≡ numbers o
  numbers-run laws o s run =
      ap numbers run.accounts ∙ numbers-all laws (setting day) day.batch o (places_in s.replies)

  pub numbers-closing : StepLaws → (openings : List State) (settled : List Run)
      → AreRuns (setting day) day.batch openings settled
      → numbers (all_afterwards settled) ≡ numbers (all_opening openings)
  numbers-closing laws [] [] runs = refl
  numbers-closing laws [] (s ∷ settled) runs = absurd runs
  numbers-closing laws (o ∷ openings) [] runs = absurd runs
  numbers-closing laws (o ∷ openings) (s ∷ settled) runs =
      map-append (λ (v : AccountValue). v.number) s.afterwards (all_afterwards settled)
      ∙ ap (λ ns. ns ++ numbers (all_afterwards settled)) (numbers-run laws o s runs.0)
      ∙ ap (λ ns. numbers o ++ ns) (numbers-closing laws openings settled runs.1)
      ∙ sym (map-append (λ (v : AccountValue). v.number) o (all_opening openings))

  -- each account is as the day leaves it
  pub ends : StepLaws → RegionEndsAsTheDay → (openings : List State) (settled : List Run)
      → AreRuns (setting day) day.batch openings settled → AreRegions day openings settled
      → IsDistinct eqb (numbers (all_opening openings)) → (a : ℕ) → Contains (numbers (all_opening openings)) a
      → account (all_afterwards settled) a ≡ account (closing_state day) a
  ends laws law [] settled runs are distinct a (k, lt, is) = absurd (omega arith)
  ends laws law (o ∷ openings) [] runs are distinct a there = absurd runs
  ends laws law (o ∷ openings) (s ∷ settled) runs are distinct a there =
      let both : numbers (o ++ all_opening openings) ≡ numbers o ++ numbers (all_opening openings) =
      map-append (λ (v : AccountValue). v.number) o (all_opening openings) in
      let different = subst (IsDistinct eqb) both distinct in
      let kept = numbers-run laws o s runs.0 in
      elim (Contains-append_cases (numbers o) (numbers (all_opening openings)) a
      (subst (λ ns. Contains ns a) both there)) [
        | inl here ↦
            account-front s.afterwards (all_afterwards settled) a (subst (λ ns. Contains ns a) (sym kept) here)
            ∙ ap (λ (t : State). account t a) runs.0.accounts
            ∙ All-contains (λ x. account (accounts_after_all (setting day) day.batch o (places_in s.replies)) x
            ≡ account (closing_state day) x) (numbers o) a
            (law day o (places_in s.replies) are.0 runs.0.within) here
        | inr later ↦
            account-behind s.afterwards (all_afterwards settled) a
            (λ own. apart (numbers o) (numbers (all_opening openings)) a different
            (subst (λ ns. Contains ns a) kept own) later)
            ∙ ends laws law openings settled runs.1 are.1
            (behind (numbers o) (numbers (all_opening openings)) different) a later
      ]

  -- each reply is the day's
  unfoldable pub IsOfTheDay : Placed → Type 0
  IsOfTheDay p = Some p.reply ≡ reply_of day p.place

  one-by-one : (replies : List Placed)
      → map (λ (p : Placed). Some p.reply) replies ≡ map (reply_of day) (places_in replies)
      → All IsOfTheDay replies
  unfolding IsOfTheDay
  one-by-one [] same = All-nil IsOfTheDay
  one-by-one (p ∷ replies) same =
      let first : Some p.reply ≡ reply_of day p.place = cc in
      let later : map (λ (q : Placed). Some q.reply) replies ≡ map (reply_of day) (places_in replies) = cc in
      All-cons IsOfTheDay p replies first (one-by-one replies later)

  pub answers : RegionRepliesAsTheDay → (openings : List State) (settled : List Run)
      → AreRuns (setting day) day.batch openings settled → AreRegions day openings settled
      → All IsOfTheDay (all_replies settled)
  answers law [] [] runs are = All-nil IsOfTheDay
  answers law [] (s ∷ settled) runs are = absurd runs
  answers law (o ∷ openings) [] runs are = absurd runs
  answers law (o ∷ openings) (s ∷ settled) runs are =
      All-append IsOfTheDay s.replies (all_replies settled)
      (one-by-one s.replies (sym runs.0.replied ∙ law day o (places_in s.replies) are.0))
      (answers law openings settled runs.1 are.1)

-- what touches an account is a place
touched-within : (day : DayValue) (place a : ℕ) → Touches day place a
    → (1 ≤ place) × (place ≤ length day.batch.instructions)
touched-within day zero a touched = absurd cc
touched-within day (suc k) a touched =
    (omega arith, there day.batch.instructions k (directory_of day.book.accounts) touched)
  where
    there : (is : List Instruction) (j : ℕ) (d : DirectoryValue)
        → option_map_or (λ i. touches d i a) (slice_get is j) false ≡ true → suc j ≤ length is
    there [] j d h = absurd cc
    there (i ∷ is) zero d h = omega arith
    there (i ∷ is) (suc j) d h = let more = there is j d h in omega (arith, more)

pub regions-day : StepLaws → StaysReady → RegionEndsAsTheDay → RegionRepliesAsTheDay → RegionsAreADay
unfolding IsOfTheDay
regions-day laws ready last replies day openings settled kept same runs each =
    let distinct = (ready day kept 0 (omega arith)).once in
    let different = distinct-permutation day.book.accounts (all_opening openings) distinct same in
    let found = account-permutation day.book.accounts (all_opening openings) distinct same in
    let are = regions day openings settled runs different (λ a there. sym (found a)) (λ place a touched there.
    let within = touched-within day place a touched in
    covered day openings settled runs place a (each place within.0 within.1) touched) in
    record {
      same_numbers = numbers-closing day laws openings settled runs;
      accounts = λ k d lt.
          let a = get_or (numbers day.book.accounts) k d in
          ends day laws last openings settled runs are different a
          (Contains-permutation (numbers day.book.accounts) (numbers (all_opening openings)) a
          (IsPermutation-map (λ (o : AccountValue). o.number) day.book.accounts (all_opening openings) same)
          (Contains-get_or (numbers day.book.accounts) k d lt));
      replies = answers day replies openings settled runs are;
    }
