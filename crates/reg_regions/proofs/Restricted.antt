-- Carrying out the instructions of a region on its own accounts is settling the day, as far as these accounts go.
use Rattle.std.proofs.Common.{◌≡◌, ℕ, zero, suc, ◌+◌, ◌-◌, ◌<◌, ◌≤◌, Bool, true, false, cond, leb, List, []}
use Rattle.std.proofs.Common.{◌∷◌, length}
use Rattle.std.proofs.Common.{map, get_or, Option, Some, None, add-zero, refl, sym, ap, subst, ◌∙◌, arith}
use Rattle.std.specs.Prelude.{Contains, slice_get}
use Rattle.std.specs.Option.{option_map, option_map_or}
use Rattle.std.proofs.lemmas.Bool.{leb-true, leb-false, false_from_ne_true}
use Rattle.std.proofs.lemmas.List.Elements.{All-contains, Contains-get_or}
use Rattle.reg_base.specs.declared.instruction.Instruction.{Instruction}
use Rattle.reg_base.specs.Footprint.{footprint}
use Rattle.reg_base.specs.Touches.{touches}
use Rattle.reg_base.proofs.lemmas.Among.{is_among-contained, not_contained}
use Rattle.reg_rules.specs.declared.reply.LogRow.{LogRow}
use Rattle.reg_rules.specs.State.{State, Setting, account, numbers}
use Rattle.reg_rules.specs.Step.{step}
use Rattle.reg_rules.specs.Laws.{StepLaws, AgreeOn, after_step, reply_to}
use Rattle.reg_book.specs.Book.{directory_of}
use Rattle.reg_book.specs.Fold.{state_after, rows_of}
use Rattle.reg_book.specs.Day.{DayValue, setting, state_at, closing_state}
use Rattle.reg_book.specs.Laws.{EachIsAStep}
use Rattle.reg_regions.specs.Regions.{accounts_after, reply_for, accounts_after_all, replies_for, RiseAbove}
use Rattle.reg_regions.specs.Regions.{up_to, Touches}
use Rattle.reg_regions.specs.Laws.{reply_of}
use Rattle.reg_regions.specs.Laws.{RegionIsAsTheDay, RegionEndsAsTheDay, RegionRepliesAsTheDay, RegionKeepsNumbers}
use Rattle.reg_regions.proofs.Membership.{contains_first, contains_later, above}
use Rattle.reg_regions.proofs.Keeping.{numbers-all}
use Rattle.reg_regions.proofs.Membership.{among_later, up_to-none, up_to-all, take_none}

-- both have the same account, or none, at each of these numbers
abbrev pub Same : List ℕ → State → State → Type 0
Same own s t = (a : ℕ) → Contains own a → account s a ≡ account t a

-- these are all places from here on whose instructions touch an account of these
abbrev pub AreAlone : DayValue → List ℕ → ℕ → List ℕ → Type 0
AreAlone day own low places =
    (place a : ℕ) → low < place → Contains own a → Touches day place a → Contains places place

-- these instructions touch no account but these
abbrev pub AreInside : DayValue → List ℕ → List ℕ → Type 0
AreInside day own places = (place a : ℕ) → Contains places place → Touches day place a → Contains own a

same-agree : (own : List ℕ) (s t : State) → Same own s t → AgreeOn own s t
same-agree own s t same k d lt = same (get_or own k d) (Contains-get_or own k d lt)

agree-same : (own : List ℕ) (s t : State) → AgreeOn own s t → Same own s t
agree-same own s t agree a there = All-contains (λ x. account s x ≡ account t x) own a agree there

-- beyond the last instruction there is no row
no-row : (c : Setting) (s : State) (n k : ℕ) (is : List Instruction) → slice_get is k ≡ None
    → slice_get (rows_of c s n is) k ≡ None
no-row c s n k [] none = refl
no-row c s n zero (i ∷ is) none = absurd cc
no-row c s n (suc k) (i ∷ is) none = no-row c (step c s n i).0 (n + 1) k is none

module _ (laws : StepLaws) (steps : EachIsAStep) (day : DayValue) (own : List ℕ) where
  -- an instruction that touches none of the accounts leaves them
  idle-one : (k : ℕ) → ((a : ℕ) → Contains own a → Touches day (suc k) a → ⊥)
      → Same own (state_at day k) (state_at day (suc k))
  idle-one k apart a there =
      by (slice_get day.batch.instructions k) refl (false_from_ne_true (touched (slice_get day.batch.instructions k))
      (apart a there))
    where
      touched : Option Instruction → Bool
      touched r = option_map_or (λ i. touches (directory_of day.book.accounts) i a) r false

      by : (r : Option Instruction) → slice_get day.batch.instructions k ≡ r → touched r ≡ false
          → account (state_at day k) a ≡ account (state_at day (suc k)) a
      by None none untouched =
          ap (λ is. account (state_after (setting day) day.book.accounts (day.batch.base + 1) is) a)
          (sym (take_none day.batch.instructions k none))
      by (Some i) at untouched =
          sym (ap (λ s. account s a) (steps day k i at).state
          ∙ laws.others_stay (setting day) (state_at day k) (day.batch.base + suc k) i a
          (not_contained (footprint (directory_of day.book.accounts) i.act) a untouched))

  -- so do several
  idle : (m i : ℕ) → ((place a : ℕ) → i < place → place ≤ i + m → Contains own a → Touches day place a → ⊥)
      → Same own (state_at day i) (state_at day (i + m))
  idle zero i none a there = ap (λ j. account (state_at day j) a) (sym (add-zero i))
  idle (suc m) i none a there =
      let one : suc (i + m) ≡ i + suc m = omega arith in
      idle m i (λ place b low high. none place b low (omega (arith, high))) a there
      ∙ idle-one (i + m) (λ b. none (suc (i + m)) b (omega arith) (omega arith)) a there
      ∙ ap (λ j. account (state_at day j) a) one

  -- up to the next place of the region nothing changes here
  waits : (s : State) (i j : ℕ) (places : List ℕ) → i ≤ j → RiseAbove j places → Same own s (state_at day i)
      → AreAlone day own i places → Same own s (state_at day j)
  waits s i j places le rising same alone a there =
      let whole : i + (j - i) ≡ j = omega (arith, le) in
      same a there
      ∙ idle (j - i) i (λ place b low high own_b touched.
      let lt = above j place places rising (alone place b low own_b touched) in omega (arith, high, whole, lt)) a there
      ∙ ap (λ n. account (state_at day n) a) whole

  -- the instruction at a place of the region gets the same reply here, and does the same
  meets : (k : ℕ) (s : State) → Same own s (state_at day k) → ((a : ℕ) → Touches day (suc k) a → Contains own a)
      → (reply_for (setting day) day.batch s (suc k) ≡ reply_of day (suc k))
      × Same own (accounts_after (setting day) day.batch s (suc k)) (state_at day (suc k))
  meets k s same inside = by (slice_get day.batch.instructions k) refl
    where
      by : (r : Option Instruction) → slice_get day.batch.instructions k ≡ r
          → (option_map (λ i. reply_to (setting day) s (day.batch.base + suc k) i) r ≡ reply_of day (suc k))
          × Same own (option_map_or (λ i. after_step (setting day) s (day.batch.base + suc k) i) r s)
          (state_at day (suc k))
      by None none = (
        sym (ap (option_map (λ (row : LogRow). row.reply))
            (no-row (setting day) day.book.accounts (day.batch.base + 1) k day.batch.instructions none)),
        λ a there. same a there
            ∙ ap (λ is. account (state_after (setting day) day.book.accounts (day.batch.base + 1) is) a)
            (sym (take_none day.batch.instructions k none)),
      )
      by (Some i) at =
          let own_of : (a : ℕ) → Contains (footprint (directory_of day.book.accounts) i.act) a → Contains own a =
          λ a touched. inside a
          (ap (λ r. option_map_or (λ x. touches (directory_of day.book.accounts) x a) r false) at
          ∙ is_among-contained (footprint (directory_of day.book.accounts) i.act) a touched) in
          let agree = same-agree (footprint (directory_of day.book.accounts) i.act) s (state_at day k)
          (λ a touched. same a (own_of a touched)) in
          let local = laws.local (setting day) s (state_at day k) (day.batch.base + suc k) i agree in (
            ap Some local.0 ∙ sym (ap (option_map (λ (row : LogRow). row.reply)) (steps day k i at).row),
            λ a there. local.1 a (same a there) ∙ ap (λ t. account t a) (sym (steps day k i at).state),
          )

  -- after the places up to j each account is as it is after the first j instructions of the day
  runs : (s : State) (i j : ℕ) (places : List ℕ) → i ≤ j → RiseAbove i places → Same own s (state_at day i)
      → AreInside day own places → AreAlone day own i places
      → Same own (accounts_after_all (setting day) day.batch s (up_to j places)) (state_at day j)
  runs s i j [] le rising same inside alone = waits s i j [] le tt same alone
  runs s i j (zero ∷ places) le rising same inside alone = absurd (omega (arith, rising.0))
  runs s i j (suc k ∷ places) le rising same inside alone =
      by (leb (suc k) j) refl (runs (accounts_after (setting day) day.batch s (suc k)) (suc k) j places)
    where
      after : State
      after = accounts_after (setting day) day.batch s (suc k)

      by : (b : Bool) → leb (suc k) j ≡ b
          → (suc k ≤ j → RiseAbove (suc k) places → Same own after (state_at day (suc k)) → AreInside day own places
          → AreAlone day own (suc k) places
          → Same own (accounts_after_all (setting day) day.batch after (up_to j places)) (state_at day j))
          → Same own (accounts_after_all (setting day) day.batch s (cond b (suc k ∷ up_to j places) (up_to j places)))
          (state_at day j)
      by true within later =
          let before = waits s i k (suc k ∷ places) (omega (arith, rising.0)) (omega arith, rising.1) same alone in
          let here = meets k s before (λ a. inside (suc k) a (contains_first (suc k) places)) in
          later (leb-true (suc k) j within) rising.1 here.1
          (λ place a there. inside place a (contains_later (suc k) place places there))
          (λ place a low own_a touched. among_later (suc k) place places low
          (alone place a (omega (arith, low, rising.0)) own_a touched))
      by false beyond later =
          let lt = leb-false (suc k) j beyond in
          subst (λ ps. Same own (accounts_after_all (setting day) day.batch s ps) (state_at day j))
          (sym (up_to-none (suc k) j places rising.1 (omega (arith, lt))))
          (waits s i j (suc k ∷ places) le (lt, rising.1) same alone)

  -- and each reply is the day's
  tells : (s : State) (i : ℕ) (places : List ℕ) → RiseAbove i places → Same own s (state_at day i)
      → AreInside day own places → AreAlone day own i places
      → replies_for (setting day) day.batch s places ≡ map (reply_of day) places
  tells s i [] rising same inside alone = refl
  tells s i (zero ∷ places) rising same inside alone = absurd (omega (arith, rising.0))
  tells s i (suc k ∷ places) rising same inside alone =
      let before = waits s i k (suc k ∷ places) (omega (arith, rising.0)) (omega arith, rising.1) same alone in
      let here = meets k s before (λ a. inside (suc k) a (contains_first (suc k) places)) in
      let later = tells (accounts_after (setting day) day.batch s (suc k)) (suc k) places rising.1 here.1
      (λ place a there. inside place a (contains_later (suc k) place places there))
      (λ place a low own_a touched. among_later (suc k) place places low
      (alone place a (omega (arith, low, rising.0)) own_a touched)) in
      ap (λ r. r ∷ replies_for (setting day) day.batch (accounts_after (setting day) day.batch s (suc k)) places) here.0
      ∙ ap (λ rs. reply_of day (suc k) ∷ rs) later

module _ (laws : StepLaws) (steps : EachIsAStep) where
  pub region-each : RegionIsAsTheDay
  region-each day opening places of j =
      same-agree (numbers opening) _ (state_at day j)
      (runs laws steps day (numbers opening) opening 0 j places (omega arith) of.rising
      (agree-same (numbers opening) opening day.book.accounts of.of_book) of.inside
      (λ place a low own_a touched. of.alone place a own_a touched))

  pub region-last : RegionEndsAsTheDay
  region-last day opening places of all =
      subst (λ ps. AgreeOn (numbers opening) (accounts_after_all (setting day) day.batch opening ps)
      (closing_state day))
      (up_to-all (length day.batch.instructions) places all)
      (region-each day opening places of (length day.batch.instructions))

  pub region-replies : RegionRepliesAsTheDay
  region-replies day opening places of =
      tells laws steps day (numbers opening) opening 0 places of.rising
      (agree-same (numbers opening) opening day.book.accounts of.of_book) of.inside
      (λ place a low own_a touched. of.alone place a own_a touched)

pub region-numbers : StepLaws → RegionKeepsNumbers
region-numbers laws day opening places = numbers-all laws (setting day) day.batch opening places
