-- What each instruction makes of a day's accounts, and an account as its last toucher left it.
use Rattle.std.proofs.Common.{◌≡◌, ℕ, zero, suc, ◌+◌, Bool, true, false, cond, ◌||◌, List, [], ◌∷◌, take, length, ◌≤◌}
use Rattle.std.proofs.Common.{add-zero, Some, refl, sym, ap, subst, ◌∙◌, arith}
use Rattle.std.specs.Prelude.{All, slice_get}
use Rattle.std.specs.List.{AllByRecursion}
use Rattle.std.proofs.lemmas.Option.{same_Some}
use Rattle.std.proofs.lemmas.List.{length-take-le}
use Rattle.std.proofs.lemmas.List.Elements.{All-take, recursion_from_All}
use Rattle.std.proofs.lemmas.Bool.{or_parts}
use Rattle.reg_base.specs.declared.instruction.Instruction.{Instruction}
use Rattle.reg_base.specs.declared.limits.TheConstants.{MOST_RECORD}
use Rattle.reg_base.specs.Numbers.{IsDayNo, IsRecordNo}
use Rattle.reg_base.specs.Directory.{DirectoryValue}
use Rattle.reg_base.specs.Footprint.{footprint, is_among}
use Rattle.reg_base.specs.Rules.{AreRules}
use Rattle.reg_base.specs.Instructions.{IsInstruction}
use Rattle.reg_base.proofs.lemmas.Among.{not_contained}
use Rattle.reg_rules.specs.State.{State, Setting, account}
use Rattle.reg_rules.specs.Step.{step, row_of}
use Rattle.reg_rules.specs.Effect.{IsBehind}
use Rattle.reg_rules.specs.Laws.{StepLaws, IsReady}
use Rattle.reg_book.specs.Book.{directory_of}
use Rattle.reg_base.specs.Touches.{is_touched, touches_at, last_toucher}
use Rattle.reg_book.specs.Fold.{state_after, rows_of}
use Rattle.reg_book.specs.Day.{DayValue, IsDay, setting, state_at, value_at}
use Rattle.reg_book.specs.Laws.{EachIsAStep, NumbersStay, UntouchedStay, ValueIsLastTouchers, StaysReady}
use Rattle.reg_book.proofs.Folds.{numbers-fold, others-fold}
use Rattle.reg_book.proofs.Lookups.{rising-distinct}

-- the state after the first instructions, and the one after
state-more : (c : Setting) (s : State) (n k : ℕ) (is : List Instruction) (i : Instruction) → slice_get is k ≡ Some i
    → state_after c s n (take (suc k) is) ≡ (step c (state_after c s n (take k is)) (n + k) i).0
state-more c s n zero [] i at = absurd cc
state-more c s n (suc k) [] i at = absurd cc
state-more c s n zero (x ∷ is) i at =
    let first : n ≡ n + zero = omega arith in
    ap (λ (y : Instruction). (step c s n y).0) (same_Some x i at) ∙ ap (λ m. (step c s m i).0) first
state-more c s n (suc k) (x ∷ is) i at =
    let later : n + 1 + k ≡ n + suc k = omega arith in
    state-more c (step c s n x).0 (n + 1) k is i at
    ∙ ap (λ m. (step c (state_after c (step c s n x).0 (n + 1) (take k is)) m i).0) later

row-more : (c : Setting) (s : State) (n k : ℕ) (is : List Instruction) (i : Instruction) → slice_get is k ≡ Some i
    → slice_get (rows_of c s n is) k ≡ Some (row_of c (n + k) i (step c (state_after c s n (take k is)) (n + k) i).1)
row-more c s n zero [] i at = absurd cc
row-more c s n (suc k) [] i at = absurd cc
row-more c s n zero (x ∷ is) i at =
    let first : n ≡ n + zero = omega arith in
    ap (λ (y : Instruction). Some (row_of c n y (step c s n y).1)) (same_Some x i at)
    ∙ ap (λ m. Some (row_of c m i (step c s m i).1)) first
row-more c s n (suc k) (x ∷ is) i at =
    let later : n + 1 + k ≡ n + suc k = omega arith in
    row-more c (step c s n x).0 (n + 1) k is i at
    ∙ ap (λ m. Some (row_of c m i (step c (state_after c (step c s n x).0 (n + 1) (take k is)) m i).1)) later

pub each-step : EachIsAStep
each-step day k i at =
    let same : day.batch.base + 1 + k ≡ day.batch.base + suc k = omega arith in
    record {
      state = state-more (setting day) day.book.accounts (day.batch.base + 1) k day.batch.instructions i at
          ∙ ap (λ m. (step (setting day) (state_at day k) m i).0) same;
      row = row-more (setting day) day.book.accounts (day.batch.base + 1) k day.batch.instructions i at
          ∙ ap (λ m. Some (row_of (setting day) m i (step (setting day) (state_at day k) m i).1)) same;
    }

-- of the first instructions none touches what no instruction touches
take-untouched : (d : DirectoryValue) (is : List Instruction) (a j : ℕ) → is_touched d is a ≡ false
    → is_touched d (take j is) a ≡ false
take-untouched d is a zero none = refl
take-untouched d [] a (suc j) none = refl
take-untouched d (i ∷ is) a (suc j) none =
    let apart = or_parts (is_among (footprint d i.act) a) (is_touched d is a) none in
    ap (λ b. b || is_touched d (take j is) a) apart.0 ∙ take-untouched d is a j apart.1

-- from this record number on there is one for each instruction
pub record HaveNumbers (n : ℕ) (is : List Instruction) : Type 0 where
  pub from_one : 1 ≤ n
  pub last : n + length is ≤ MOST_RECORD + 1

pub first-numbered : (n : ℕ) (i : Instruction) (is : List Instruction) → HaveNumbers n (i ∷ is) → IsRecordNo n
first-numbered n i is h = record { low = h.from_one; high = omega (arith, h.last) }

pub others-numbered : (n : ℕ) (i : Instruction) (is : List Instruction) → HaveNumbers n (i ∷ is)
    → HaveNumbers (n + 1) is
others-numbered n i is h = record { from_one = omega arith; last = omega (arith, h.last) }

pub numbered-day : (day : DayValue) → IsDay day → HaveNumbers (day.batch.base + 1) day.batch.instructions
numbered-day day kept = record { from_one = omega arith; last = omega (arith, kept.batch.numbered) }

numbered-before : (n j : ℕ) (is : List Instruction) → j ≤ length is → HaveNumbers n is → HaveNumbers n (take j is)
numbered-before n j is few h =
    record { from_one = h.from_one; last = let size = length-take-le j is few in omega (arith, size, few, h.last) }

module _ (laws : StepLaws) where
  pub numbers-day : NumbersStay
  numbers-day day j = numbers-fold laws (setting day) day.book.accounts (day.batch.base + 1)
      (take j day.batch.instructions)

  pub others-day : UntouchedStay
  others-day day a none j =
      others-fold laws (setting day) day.book.accounts (day.batch.base + 1) (take j day.batch.instructions) a
      (take-untouched (directory_of day.book.accounts) day.batch.instructions a j none)

  -- the instruction after k others, if it does not touch the account, leaves it
  passed_by : (c : Setting) (s : State) (n : ℕ) (is : List Instruction) (a k : ℕ)
      → touches_at c.directory is a k ≡ false
      → account (state_after c s n (take (suc k) is)) a ≡ account (state_after c s n (take k is)) a
  passed_by c s n [] a zero apart = refl
  passed_by c s n [] a (suc k) apart = refl
  passed_by c s n (i ∷ is) a zero apart =
      laws.others_stay c s n i a (not_contained (footprint c.directory i.act) a apart)
  passed_by c s n (i ∷ is) a (suc k) apart = passed_by c (step c s n i).0 (n + 1) is a k apart

  pub value-last_toucher : ValueIsLastTouchers
  value-last_toucher day a zero = refl
  value-last_toucher day a (suc k) =
      by (touches_at (directory_of day.book.accounts) day.batch.instructions a k) refl (value-last_toucher day a k)
    where
      by : (b : Bool) → touches_at (directory_of day.book.accounts) day.batch.instructions a k ≡ b
          → value_at day a k ≡ value_at day a (last_toucher (directory_of day.book.accounts) day.batch.instructions a k)
          → value_at day a (suc k) ≡ value_at day a
          (cond b (suc k) (last_toucher (directory_of day.book.accounts) day.batch.instructions a k))
      by true touched before = refl
      by false apart before = passed_by (setting day) day.book.accounts (day.batch.base + 1) day.batch.instructions a k
          apart ∙ before

  -- states stay ready for the next record number
  pub ready-fold : (c : Setting) (s : State) (n : ℕ) (is : List Instruction) → AreRules c.rules → IsDayNo c.day
      → HaveNumbers n is → AllByRecursion IsInstruction is → IsReady n s
      → IsReady (n + length is) (state_after c s n is)
  ready-fold c s n [] rules day numbered all ready = subst (λ m. IsReady m s) (sym (add-zero n)) ready
  ready-fold c s n (i ∷ is) rules day numbered all ready =
      let more : n + 1 + length is ≡ n + suc (length is) = omega arith in
      subst (λ m. IsReady m (state_after c (step c s n i).0 (n + 1) is)) more
      (ready-fold c (step c s n i).0 (n + 1) is rules day (others-numbered n i is numbered) all.1
      (laws.stays_ready c s n i rules day (first-numbered n i is numbered) all.0 ready))

  pub ready-book : (day : DayValue) → IsDay day → IsReady (day.batch.base + 1) day.book.accounts
  ready-book day kept = record {
    once = rising-distinct day.book.accounts kept.book.rising;
    fit = kept.book.within_limits;
    behind = subst (λ n. All (IsBehind n) day.book.accounts) (sym kept.follows) kept.book.behind;
  }

  pub ready-day : StaysReady
  ready-day day kept j few =
      subst (λ m. IsReady (day.batch.base + 1 + m) (state_at day j)) (length-take-le j day.batch.instructions few)
      (ready-fold (setting day) day.book.accounts (day.batch.base + 1) (take j day.batch.instructions) kept.rules
      kept.batch.settlement_day
      (numbered-before (day.batch.base + 1) j day.batch.instructions few (numbered-day day kept))
      (recursion_from_All IsInstruction (take j day.batch.instructions)
      (All-take IsInstruction j day.batch.instructions kept.batch.each)) (ready-book day kept))
