-- A book on whose own accounts a day was settled.
use Rattle.std.proofs.Common.{◌≡◌, ℕ, ◌+◌, ◌++◌, length, take, drop, sym, ap, subst, ◌∙◌, arith}
use Rattle.std.specs.Prelude.{All}
use Rattle.std.proofs.lemmas.List.Elements.{recursion_from_All}
use Rattle.reg_facts.proofs.lemmas.Lists.{written_whole}
use Rattle.reg_base.specs.Directory.{DirectoryValue}
use Rattle.reg_base.specs.Instructions.{IsInstruction}
use Rattle.reg_base.specs.Rising.{IsRising}
use Rattle.reg_rules.specs.Effect.{IsBehind}
use Rattle.reg_rules.specs.State.{State, Setting, numbers}
use Rattle.reg_rules.specs.Laws.{StepLaws}
use Rattle.reg_rules.proofs.lemmas.Accounts.{length-numbers}
use Rattle.reg_book.specs.Book.{BookValue, IsBook, IsBookKept, directory_of}
use Rattle.reg_book.specs.Fold.{state_after}
use Rattle.reg_book.specs.Settled.{committed}
use Rattle.reg_book.specs.Day.{DayValue, IsDay, setting, settled_day}
use Rattle.reg_book.proofs.Commits.{committed-closing}
use Rattle.reg_book.proofs.Days.{closing-all, directory-fold}
use Rattle.reg_book.proofs.Folds.{numbers-fold}
use Rattle.reg_book.proofs.Values.{numbered-day, ready-fold, ready-book}

-- all accounts after the day
abbrev pub after_day : DayValue → State
after_day day = state_after (setting day) day.book.accounts (day.batch.base + 1) day.batch.instructions

module _ (laws : StepLaws) where
  -- what became of the slice of a book's accounts is what became of the accounts: on and d are what the batch and the
  -- book gave, seen is the slice of table, own what it became
  pub whole-after : (day : DayValue) (on : ℕ) (d : DirectoryValue) (table seen own : State) (len : ℕ)
      → on ≡ day.batch.day → d ≡ directory_of day.book.accounts → table ≡ day.book.accounts → seen ≡ table
      → len ≡ length table
      → own ≡ state_after (record { rules = day.rules; day = on; directory = d }) seen
      (day.batch.base + 1) day.batch.instructions
      → take len (own ++ drop (length own) table) ≡ after_day day
  whole-after day on d table seen own len same_day listed among read size closed =
      let given : Setting = record { rules = day.rules; day = on; directory = d } in
      let setting_is : given ≡ setting day =
      λ i. record { rules = day.rules; day = same_day i; directory = listed i } in
      let numbers_own : numbers own ≡ numbers table = ap numbers closed
      ∙ numbers-fold laws given seen (day.batch.base + 1) day.batch.instructions ∙ ap numbers read in
      let length_own : length own ≡ length table =
      sym (length-numbers own) ∙ ap length numbers_own ∙ length-numbers table in
      written_whole table own len size length_own
      ∙ closed ∙ ap (λ (k : Setting). state_after k seen (day.batch.base + 1) day.batch.instructions) setting_is
      ∙ ap (λ (s : State). state_after (setting day) s (day.batch.base + 1) day.batch.instructions) (read ∙ among)

  -- they are the accounts of a book, with the directory that it had
  pub kept-after_day : (day : DayValue) (accounts : State) (directory : DirectoryValue) (next count : ℕ) → IsDay day
      → accounts ≡ after_day day
      → directory ≡ directory_of day.book.accounts → next ≡ day.book.next → count ≡ length day.batch.instructions
      → IsBookKept accounts directory (next + count)
  kept-after_day day accounts directory next count of closed listed follows counted =
      let is = day.batch.instructions in
      let first = day.batch.base + 1 in
      let ready = ready-fold laws (setting day) day.book.accounts first is of.rules of.batch.settlement_day
      (numbered-day day of) (recursion_from_All IsInstruction is of.batch.each) (ready-book laws day of) in
      let same = numbers-fold laws (setting day) day.book.accounts first is in
      let size : length (after_day day) ≡ length day.book.accounts =
      sym (length-numbers (after_day day)) ∙ ap length same ∙ length-numbers day.book.accounts in
      let after : first + length is ≡ next + count = omega (arith, of.follows, follows, counted) in
      subst (λ (s : State). IsBookKept s directory (next + count)) (sym closed) (record {
        book = record {
          rising = subst IsRising (sym same) of.book.rising;
          few = omega (arith, size, of.book.few);
          within_limits = ready.fit;
          next = record { from_one = omega (arith, after); to_the_end = omega (arith, after, of.batch.numbered) };
          behind = subst (λ n. All (IsBehind n) (after_day day)) after ready.behind;
        };
        listed = listed ∙ sym (directory-fold laws (setting day) day.book.accounts first is);
      })

  -- and that book is the one to which the settled day was committed
  pub committed-after_day : (day : DayValue) (accounts : State) (next count : ℕ) → IsBook day.book
      → day.batch.base + 1 ≡ day.book.next
      → accounts ≡ after_day day → next ≡ day.book.next → count ≡ length day.batch.instructions
      → ◌≡◌ {A = BookValue} (record { accounts = accounts; next = next + count }) (committed day.book (settled_day day))
  committed-after_day day accounts next count kept begins closed follows counted =
      let last : next + count ≡ day.book.next + length day.batch.instructions = omega (arith, follows, counted) in
      let own = closed ∙ sym (closing-all day) in
      (λ i. record { accounts = own i; next = last i }) ∙ sym (committed-closing laws day kept begins)
