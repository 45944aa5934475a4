-- Settling the touched accounts alone is settling the day.
use Rattle.std.proofs.Common.{◌≡◌, ℕ, ◌+◌, Bool, true, false, cond, eqb, List, [], ◌∷◌, ◌++◌, filter, length, take}
use Rattle.std.proofs.Common.{drop, Option, Some, None, refl, sym, ap, subst, ◌∙◌, arith}
use Rattle.std.specs.Cmp.{nat_cmp_total}
use Rattle.std.specs.Prelude.{option_map}
use Rattle.std.specs.FinMap as fin
use Rattle.std.specs.List.{IsDistinct, AllByRecursion}
use Rattle.std.proofs.lemmas.Bool.{cond_both}
use Rattle.std.proofs.lemmas.List.{take_all}
use Rattle.std.proofs.lemmas.List.Kept.{IsStrictlyIncreasing-filter}
use Rattle.reg_facts.proofs.lemmas.Lists.{written_whole}
use Rattle.reg_base.specs.declared.instruction.Instruction.{Instruction}
use Rattle.reg_base.specs.Directory.{DirectoryValue}
use Rattle.reg_base.specs.Rising.{IsRising}
use Rattle.reg_base.specs.Batch.{BatchValue, IsBatch}
use Rattle.reg_base.specs.Instructions.{IsInstruction}
use Rattle.reg_account.specs.Account.{AccountValue, IsAccount}
use Rattle.reg_rules.specs.State.{State, Setting, account, numbers}
use Rattle.reg_rules.specs.Step.{step}
use Rattle.reg_rules.specs.Effect.{IsBehind}
use Rattle.reg_rules.specs.Laws.{Constants, constants_of, StepLaws, IsReady}
use Rattle.reg_rules.specs.declared.reply.LogRow.{LogRow}
use Rattle.reg_rules.specs.declared.reply.Reply.{Reply}
use Rattle.reg_rules.proofs.lemmas.Accounts.{found-by_number, length-numbers}
use Rattle.reg_book.specs.Book.{IsBook, directory_of}
use Rattle.reg_base.specs.Touches.{is_touched}
use Rattle.reg_book.specs.Fold.{state_after, rows_of, replies_in, rows_from, touched_of}
use Rattle.reg_book.specs.Settled.{SettledValue, IsSettled, IsOfBook}
use Rattle.reg_book.specs.Laws.{LogIsMadeAgain}
use Rattle.reg_book.specs.Day.{DayValue, IsDay, setting, log_of, rows_replied, closing_state, settled_day}
use Rattle.reg_book.proofs.lemmas.Listings.{listing, get-directory_of}
use Rattle.reg_book.proofs.lemmas.Logs.{length-rows_of}
use Rattle.reg_book.proofs.Lookups.{account-filter, numbers-filter, rising-distinct}
use Rattle.reg_book.proofs.Folds.{count-rows_of, rows-again, numbers-fold, others-fold, fold-local}
use Rattle.reg_book.proofs.Folds.{rows-local}
use Rattle.reg_book.proofs.StepFacts.{same-state}
use Rattle.reg_book.proofs.Values.{numbered-day, ready-fold, ready-book}
use Rattle.std.proofs.lemmas.List.Elements.{All-filter, recursion_from_All}

-- the log of a day is made again of its batch and its replies
pub log-again : LogIsMadeAgain
log-again day = rows-again (setting day) day.book.accounts (day.batch.base + 1) day.batch.instructions

-- log rows that were made of the replies are those of the instructions
pub log-made : (c : Setting) (s : State) (batch : BatchValue) (replies : List Reply) (rows : List LogRow)
    → c.day ≡ batch.day
    → replies ≡ replies_in (rows_of c s (batch.base + 1) batch.instructions) → rows ≡ rows_replied batch replies
    → rows ≡ rows_of c s (batch.base + 1) batch.instructions
log-made c s batch replies rows same_day replied made =
    made ∙ ap (rows_replied batch) replied
    ∙ ap (λ (d : ℕ). rows_from d (batch.base + 1) batch.instructions
    (replies_in (rows_of c s (batch.base + 1) batch.instructions))) (sym same_day)
    ∙ rows-again c s (batch.base + 1) batch.instructions

-- the touched accounts keep the order of their numbers
pub touched-rising : (directory : DirectoryValue) (is : List Instruction) (s : State) → IsRising (numbers s)
    → IsRising (numbers (touched_of directory is s))
touched-rising directory is s rising =
    subst IsRising (sym (numbers-filter (is_touched directory is) s))
    (IsStrictlyIncreasing-filter (is_touched directory is) (numbers s) rising)

-- a touched account is among them as it is among all
pub touched-account : (directory : DirectoryValue) (is : List Instruction) (s : State) (a : ℕ)
    → is_touched directory is a ≡ true → account (touched_of directory is s) a ≡ account s a
touched-account directory is s a touched =
    account-filter (is_touched directory is) s a ∙ ap (λ b. cond b (account s a) None) touched

pub untouched-account : (directory : DirectoryValue) (is : List Instruction) (s : State) (a : ℕ)
    → is_touched directory is a ≡ false → account (touched_of directory is s) a ≡ None
untouched-account directory is s a untouched =
    account-filter (is_touched directory is) s a ∙ ap (λ b. cond b (account s a) None) untouched

module _ (laws : StepLaws) where
  -- their log is that of all accounts
  pub touched-rows : (c : Setting) (is : List Instruction) (s : State) (n : ℕ)
      → rows_of c (touched_of c.directory is s) n is ≡ rows_of c s n is
  touched-rows c is s n = rows-local laws c (touched_of c.directory is s) s n is (touched-account c.directory is s)

  -- and so is their state after it
  pub touched-closing : (c : Setting) (is : List Instruction) (s : State) (n : ℕ) → IsDistinct eqb (numbers s)
      → IsDistinct eqb (numbers (touched_of c.directory is s))
      → state_after c (touched_of c.directory is s) n is ≡ touched_of c.directory is (state_after c s n is)
  touched-closing c is s n distinct distinct_touched =
      let before : numbers (touched_of c.directory is s) ≡ filter (is_touched c.directory is) (numbers s) =
      numbers-filter (is_touched c.directory is) s in
      let after : numbers (touched_of c.directory is (state_after c s n is))
      ≡ filter (is_touched c.directory is) (numbers s) =
      numbers-filter (is_touched c.directory is) (state_after c s n is)
      ∙ ap (filter (is_touched c.directory is)) (numbers-fold laws c s n is) in
      same-state laws (state_after c (touched_of c.directory is s) n is)
      (touched_of c.directory is (state_after c s n is))
      (subst (IsDistinct eqb) (before ∙ sym after) distinct_touched)
      (numbers-fold laws c (touched_of c.directory is s) n is ∙ before ∙ sym after)
      (λ a. at a (is_touched c.directory is a) refl)
    where
      at : (a : ℕ) (b : Bool) → is_touched c.directory is a ≡ b
          → account (state_after c (touched_of c.directory is s) n is) a
          ≡ account (touched_of c.directory is (state_after c s n is)) a
      at a true touched =
          fold-local laws c (touched_of c.directory is s) s n is (touched-account c.directory is s) a
          (touched-account c.directory is s a touched)
          ∙ sym (touched-account c.directory is (state_after c s n is) a touched)
      at a false untouched =
          others-fold laws c (touched_of c.directory is s) n is a untouched
          ∙ untouched-account c.directory is s a untouched
          ∙ sym (untouched-account c.directory is (state_after c s n is) a untouched)

-- what the directory says of an account is one of the constants of its day
listing_by : (o : Option AccountValue) → option_map (λ (k : Constants). (k.kind, k.holder)) (option_map constants_of o)
    ≡ option_map listing o
listing_by None = refl
listing_by (Some v) = refl

module _ (laws : StepLaws) where
  -- no instruction changes what the directory says of an account
  listing-step : (c : Setting) (s : State) (n : ℕ) (i : Instruction) (a : ℕ)
      → option_map listing (account (step c s n i).0 a) ≡ option_map listing (account s a)
  listing-step c s n i a =
      sym (listing_by (account (step c s n i).0 a))
      ∙ ap (option_map (λ (k : Constants). (k.kind, k.holder))) (laws.constants_stay c s n i a)
      ∙ listing_by (account s a)

  -- so the directory stays as it is
  pub directory-step : (c : Setting) (s : State) (n : ℕ) (i : Instruction)
      → directory_of (step c s n i).0 ≡ directory_of s
  directory-step c s n i =
      fin.same_map nat_cmp_total fin.nat_cmp-IsAntisymmetric _ _ (λ a.
      get-directory_of (step c s n i).0 a ∙ listing-step c s n i a ∙ sym (get-directory_of s a))

  pub directory-fold : (c : Setting) (s : State) (n : ℕ) (is : List Instruction) → directory_of (state_after c s n is)
      ≡ directory_of s
  directory-fold c s n [] = refl
  directory-fold c s n (i ∷ is) = directory-fold c (step c s n i).0 (n + 1) is ∙ directory-step c s n i

  pub listing-fold : (c : Setting) (s : State) (n : ℕ) (is : List Instruction) (a : ℕ)
      → option_map listing (account (state_after c s n is) a) ≡ option_map listing (account s a)
  listing-fold c s n [] a = refl
  listing-fold c s n (i ∷ is) a = listing-fold c (step c s n i).0 (n + 1) is a ∙ listing-step c s n i a

  -- each touched account is in the book, with the same constants
  pub touched-like : (c : Setting) (s : State) (n : ℕ) (is : List Instruction) → IsDistinct eqb (numbers s)
      → AllByRecursion (λ v. fin.get (directory_of s) v.number ≡ Some (v.kind, v.holder))
      (touched_of c.directory is (state_after c s n is))
  touched-like c s n is distinct =
      all_kept_values (λ v. is_touched c.directory is v.number) (state_after c s n is)
      (found-by_number (state_after c s n is) (subst (IsDistinct eqb) (sym (numbers-fold laws c s n is)) distinct))
    where
      at : (v : AccountValue) → account (state_after c s n is) v.number ≡ Some v
          → fin.get (directory_of s) v.number ≡ Some (v.kind, v.holder)
      at v found = get-directory_of s v.number ∙ sym (listing-fold c s n is v.number) ∙ ap (option_map listing) found

      all_kept_values : (p : AccountValue → Bool) (t : State)
          → AllByRecursion (λ v. account (state_after c s n is) v.number ≡ Some v) t
          → AllByRecursion (λ v. fin.get (directory_of s) v.number ≡ Some (v.kind, v.holder)) (filter p t)
      all_kept_values p [] all = tt
      all_kept_values p (v ∷ vs) all =
          let more = all_kept_values p vs all.1 in
          cond_both (p v) (v ∷ filter p vs) (filter p vs)
          (AllByRecursion (λ v. fin.get (directory_of s) v.number ≡ Some (v.kind, v.holder)))
          (λ _. (at v all.0, more)) (λ _. more)

-- the state after all instructions
pub closing-all : (day : DayValue)
    → closing_state day ≡ state_after (setting day) day.book.accounts (day.batch.base + 1) day.batch.instructions
closing-all day = ap (state_after (setting day) day.book.accounts (day.batch.base + 1))
    (take_all (length day.batch.instructions) day.batch.instructions (omega arith))

-- what the settlement of the touched accounts made: their state after the batch, and the log
pub record IsMade (day : DayValue) (own : State) (rows : List LogRow) : Type 0 where
  pub accounts : own ≡ state_after (setting day)
      (touched_of (directory_of day.book.accounts) day.batch.instructions day.book.accounts)
      (day.batch.base + 1) day.batch.instructions
  pub log : rows ≡ rows_of (setting day)
      (touched_of (directory_of day.book.accounts) day.batch.instructions day.book.accounts)
      (day.batch.base + 1) day.batch.instructions

module _ (laws : StepLaws) where
  made-accounts : (day : DayValue) (own : State) (rows : List LogRow) → IsBook day.book → IsMade day own rows
      → own ≡ (settled_day day).accounts
  made-accounts day own rows kept made =
      made.accounts
      ∙ touched-closing laws (setting day) day.batch.instructions day.book.accounts (day.batch.base + 1)
      (rising-distinct day.book.accounts kept.rising)
      (rising-distinct (touched_of (directory_of day.book.accounts) day.batch.instructions day.book.accounts)
      (touched-rising (directory_of day.book.accounts) day.batch.instructions day.book.accounts kept.rising))
      ∙ ap (touched_of (directory_of day.book.accounts) day.batch.instructions) (sym (closing-all day))

  made-rows : (day : DayValue) (own : State) (rows : List LogRow) → IsMade day own rows → rows ≡ (settled_day day).rows
  made-rows day own rows made =
      made.log ∙ touched-rows laws (setting day) day.batch.instructions day.book.accounts (day.batch.base + 1)

  made-day : (day : DayValue) (base : ℕ) (own : State) (rows : List LogRow) → IsBook day.book → base ≡ day.batch.base
      → IsMade day own rows
      → ◌≡◌ {A = SettledValue} (record { base = base; rows = rows; accounts = own }) (settled_day day)
  made-day day base own rows kept same made =
      λ i. record {
        base = same i;
        rows = made-rows day own rows made i;
        accounts = made-accounts day own rows kept made i;
      }

  pub settled-kept : (day : DayValue) → IsBook day.book → IsBatch day.batch → IsSettled (settled_day day)
  settled-kept day kept fits = record {
    rising = touched-rising (directory_of day.book.accounts) day.batch.instructions (closing_state day)
        (subst IsRising (sym (numbers-fold laws (setting day) day.book.accounts (day.batch.base + 1)
        (take (length day.batch.instructions) day.batch.instructions))) kept.rising);
    in_order = count-rows_of (setting day) day.book.accounts (day.batch.base + 1) day.batch.instructions;
    numbered = λ some. omega (
      arith,
      fits.numbered,
      length-rows_of (setting day) day.book.accounts (day.batch.base + 1) day.batch.instructions,
    );
  }

  pub settled-of_book : (day : DayValue) → IsDay day → IsOfBook day.book (settled_day day)
  settled-of_book day kept =
      let is = day.batch.instructions in
      let ready = ready-fold laws (setting day) day.book.accounts
      (day.batch.base + 1) is kept.rules kept.batch.settlement_day (numbered-day day kept)
      (recursion_from_All IsInstruction is kept.batch.each) (ready-book laws day kept) in
      let last : day.batch.base + 1 + length is ≡ day.batch.base + length (log_of day) + 1 =
      omega (arith, length-rows_of (setting day) day.book.accounts (day.batch.base + 1) is) in
      record {
        listed = subst (λ (s : State).
            AllByRecursion (λ v. fin.get (directory_of day.book.accounts) v.number ≡ Some (v.kind, v.holder))
            (touched_of (directory_of day.book.accounts) is s)) (sym (closing-all day))
            (touched-like laws (setting day) day.book.accounts (day.batch.base + 1) is
            (rising-distinct day.book.accounts kept.book.rising));
        behind = subst (λ (s : State). AllByRecursion (IsBehind (day.batch.base + length (log_of day) + 1))
            (touched_of (directory_of day.book.accounts) is s)) (sym (closing-all day))
            (subst (λ n. AllByRecursion (IsBehind n)
            (touched_of (directory_of day.book.accounts) is
            (state_after (setting day) day.book.accounts (day.batch.base + 1) is))) last
            (recursion_from_All (IsBehind (day.batch.base + 1 + length is)) _
            (All-filter (λ v. is_touched (directory_of day.book.accounts) is v.number)
            (IsBehind (day.batch.base + 1 + length is))
            (state_after (setting day) day.book.accounts (day.batch.base + 1) is) ready.behind)));
      }

  -- the touched accounts are ready for the first record number
  pub touched-ready : (day : DayValue) → IsDay day
      → IsReady (day.batch.base + 1)
      (touched_of (directory_of day.book.accounts) day.batch.instructions day.book.accounts)
  touched-ready day kept =
      let all = ready-book laws day kept in
      let touched = λ (v : AccountValue). is_touched (directory_of day.book.accounts) day.batch.instructions v.number in
      record {
        once = rising-distinct _ (touched-rising (directory_of day.book.accounts) day.batch.instructions
            day.book.accounts kept.book.rising);
        fit = All-filter touched IsAccount day.book.accounts all.fit;
        behind = All-filter touched (IsBehind (day.batch.base + 1)) day.book.accounts all.behind;
      }

  -- what is kept of the calls that settled the day: on, d, is and all are what the book and the batch gave, table are
  -- the copies, seen is their slice, own what it became
  pub day-made : (day : DayValue) (on : ℕ) (d : DirectoryValue) (is : List Instruction) (all table seen own : State)
      (rows : List LogRow) (base len : ℕ)
      → IsBook day.book → on ≡ day.batch.day → d ≡ directory_of day.book.accounts → is ≡ day.batch.instructions
      → all ≡ day.book.accounts
      → table ≡ touched_of (directory_of all) is all → seen ≡ table
      → rows ≡ rows_of (record { rules = day.rules; day = on; directory = d }) seen
      (day.batch.base + 1) day.batch.instructions
      → own ≡ state_after (record { rules = day.rules; day = on; directory = d }) seen
      (day.batch.base + 1) day.batch.instructions
      → base ≡ day.batch.base → len ≡ length table
      → ◌≡◌ {A = SettledValue} (record {
        base = base;
        rows = rows;
        accounts = take len (own ++ drop (length own) table);
      }) (settled_day day)
  day-made day on d is all table seen own rows base len kept same_day of_book listed among copied read logged closed
      same size =
      let given : Setting = record { rules = day.rules; day = on; directory = d } in
      let setting_is : given ≡ setting day =
      λ i. record { rules = day.rules; day = same_day i; directory = of_book i } in
      let seen_is : seen ≡ touched_of (directory_of day.book.accounts) day.batch.instructions day.book.accounts =
      read ∙ copied ∙ ap (λ js. touched_of (directory_of all) js all) listed
      ∙ ap (λ (s : State). touched_of (directory_of s) day.batch.instructions s) among in
      let made : IsMade day own rows = record {
        accounts = closed ∙ ap (λ (k : Setting). state_after k seen (day.batch.base + 1) day.batch.instructions)
            setting_is
            ∙ ap (λ (s : State). state_after (setting day) s (day.batch.base + 1) day.batch.instructions) seen_is;
        log = logged ∙ ap (λ (k : Setting). rows_of k seen (day.batch.base + 1) day.batch.instructions) setting_is
            ∙ ap (λ (s : State). rows_of (setting day) s (day.batch.base + 1) day.batch.instructions) seen_is;
      } in
      let numbers_own : numbers own ≡ numbers table = ap numbers closed
      ∙ numbers-fold laws given seen (day.batch.base + 1) day.batch.instructions ∙ ap numbers read in
      let length_own : length own ≡ length table =
      sym (length-numbers own) ∙ ap length numbers_own ∙ length-numbers table in
      ap (λ (s : State). made_record base rows s) (written_whole table own len size length_own)
      ∙ made-day day base own rows kept same made
    where
      made_record : ℕ → List LogRow → State → SettledValue
      made_record b r s = record { base = b; rows = r; accounts = s }
