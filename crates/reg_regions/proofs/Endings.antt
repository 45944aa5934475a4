-- What regions leave, swapped back, is what the day leaves.
use Rattle.std.proofs.Common.{◌≡◌, ℕ, ◌+◌, ◌≤◌, eqb, List, length, get_or, Some, Vec, Global}
use Rattle.std.proofs.Common.{add-zero, sym, ap, subst, ◌∙◌, arith}
use Rattle.std.specs.Prelude.{All, Contains, IsPermutation, Option, MatchOption}
use Rattle.std.specs.List.{IsDistinct}
use Rattle.std.proofs.lemmas.Option.{slice_get-map}
use Rattle.reg_account.specs.Account.{AccountValue}
use Rattle.reg_rules.specs.declared.reply.LogRow.{LogRow}
use Rattle.reg_rules.specs.declared.reply.Reply.{Reply}
use Rattle.reg_rules.specs.State.{State, Setting, account, numbers}
use Rattle.reg_rules.specs.Laws.{StepLaws, AgreeOn, IsReady}
use Rattle.reg_base.specs.Batch.{BatchValue, IsBatch}
use Rattle.reg_base.specs.Directory.{DirectoryValue}
use Rattle.reg_base.specs.Rules.{AreRules}
use Rattle.reg_rules.proofs.lemmas.Accounts.{length-numbers, distinct-permutation, account-permutation}
use Rattle.reg_book.specs.Book.{BookValue, IsBook, IsBookKept, directory_of}
use Rattle.reg_book.specs.Day.{DayValue, IsDay, setting, closing_state, settled_day, replies_of, log_of}
use Rattle.reg_book.specs.Settled.{committed}
use Rattle.reg_book.specs.Laws.{StaysReady, NumbersStay, ClosingIsABook, CommittedIsClosing}
use Rattle.reg_book.proofs.lemmas.Logs.{length-replies_of}
use Rattle.reg_regions.specs.declared.instruction.Placed.{Placed}
use Rattle.reg_advice.specs.declared.dealing.Dealing.{Dealing}
use Rattle.reg_advice.specs.declared.dealing.Swap.{Swap}
use Rattle.reg_regions.specs.Days.{RegionsAreADay}
use Rattle.reg_regions.specs.Dealing.{AreDealt, AreInPlaces, AreTurned, IsAdmitted}
use Rattle.reg_regions.specs.Laws.{reply_of}
use Rattle.reg_regions.specs.Lists.{joined_lists}
use Rattle.reg_regions.specs.Settling.{places_in}
use Rattle.reg_regions.specs.Swaps.{IsSwapWithin, exchanged, exchanged_back}
use Rattle.reg_regions.proofs.Exchanged.{exchanged-same, exchanged-undone, back-same, map-exchanged, map-back}
use Rattle.reg_regions.proofs.Exchanged.{length-exchanged}
use Rattle.reg_regions.proofs.Marking.{once-contained}
use Rattle.reg_regions.proofs.Replying.{IsTold, told-in_places}

module _ (laws : StepLaws) (ready : StaysReady) (stay : NumbersStay) (regions : RegionsAreADay) (day : DayValue)
    (kept : IsDay day) (swaps : List Swap) (after : State) (replies : List Placed)
    (within : All (IsSwapWithin (length day.book.accounts)) swaps)
    (dealt : AreDealt (setting day) day.batch (exchanged swaps day.book.accounts) after replies)
    (each : (place : ℕ) → 1 ≤ place → place ≤ length day.batch.instructions → Contains (places_in replies) place) where
  distinct : IsDistinct eqb (numbers day.book.accounts)
  distinct = (ready day kept 0 (omega arith)).once

  same : IsPermutation day.book.accounts (exchanged swaps day.book.accounts)
  same = exchanged-same swaps day.book.accounts within

  are-numbers : numbers after ≡ numbers (exchanged swaps day.book.accounts)
  are-numbers =
      let are = regions day dealt.openings dealt.runs kept
      (subst (IsPermutation day.book.accounts) (sym dealt.cut) same) dealt.are
      (λ place low high. subst (λ rs. Contains (places_in rs) place) (sym dealt.told) (each place low high)) in
      ap numbers (sym dealt.joined) ∙ are.same_numbers ∙ ap numbers dealt.cut

  accounts-after : AgreeOn (numbers day.book.accounts) after (closing_state day)
  accounts-after =
      let are = regions day dealt.openings dealt.runs kept
      (subst (IsPermutation day.book.accounts) (sym dealt.cut) same) dealt.are
      (λ place low high. subst (λ rs. Contains (places_in rs) place) (sym dealt.told) (each place low high)) in
      subst (λ s. AgreeOn (numbers day.book.accounts) s (closing_state day)) dealt.joined are.accounts

  -- each reply is the day's
  pub replies-right : All (IsTold (reply_of day)) replies
  unfolding IsTold
  replies-right =
      let are = regions day dealt.openings dealt.runs kept
      (subst (IsPermutation day.book.accounts) (sym dealt.cut) same) dealt.are
      (λ place low high. subst (λ rs. Contains (places_in rs) place) (sym dealt.told) (each place low high)) in
      subst (All (λ p. Some p.reply ≡ reply_of day p.place)) dealt.told are.replies

  size : length after ≡ length day.book.accounts
  size = sym (length-numbers after) ∙ ap length are-numbers ∙ length-numbers (exchanged swaps day.book.accounts)
      ∙ length-exchanged swaps day.book.accounts

  within-after : All (IsSwapWithin (length after)) swaps
  within-after = subst (λ n. All (IsSwapWithin n) swaps) (sym size) within

  numbers-back : numbers (exchanged_back swaps after) ≡ numbers day.book.accounts
  numbers-back =
      map-back (λ (v : AccountValue). v.number) swaps after within-after
      ∙ ap (exchanged_back swaps) (are-numbers
      ∙ map-exchanged (λ (v : AccountValue). v.number) swaps day.book.accounts within)
      ∙ exchanged-undone swaps (numbers day.book.accounts)
      (subst (λ n. All (IsSwapWithin n) swaps) (sym (length-numbers day.book.accounts)) within)

  found : (a : ℕ) → account after a ≡ account (exchanged_back swaps after) a
  found = account-permutation after (exchanged_back swaps after)
      (subst (IsDistinct eqb) (sym are-numbers)
      (distinct-permutation day.book.accounts (exchanged swaps day.book.accounts) distinct same))
      (back-same swaps after within-after)

  agree : AgreeOn (numbers day.book.accounts) (exchanged_back swaps after) (closing_state day)
  agree k d lt = sym (found (get_or (numbers day.book.accounts) k d)) ∙ accounts-after k d lt

  -- the accounts are those after the day, in the book's order
  pub accounts-right : exchanged_back swaps after ≡ closing_state day
  accounts-right =
      let closing_numbers = stay day (length day.batch.instructions) in
      laws.same_state (exchanged_back swaps after) (closing_state day)
      (subst (IsDistinct eqb) (sym numbers-back) distinct)
      (numbers-back ∙ sym closing_numbers)
      (subst (λ ns. AgreeOn ns (exchanged_back swaps after) (closing_state day)) (sym numbers-back) agree)

-- at their places, they are the replies of the day
pub replies-are : (day : DayValue) (told : List Placed) (replies : List Reply)
    → AreInPlaces (length day.batch.instructions) told replies → All (IsTold (reply_of day)) told
    → replies ≡ replies_of day
replies-are day told replies in_places right =
    told-in_places (reply_of day) (length day.batch.instructions) told replies (replies_of day) in_places right
    (length-replies_of (setting day) day.book.accounts (day.batch.base + 1) day.batch.instructions)
    (λ k. sym (slice_get-map (λ (row : LogRow). row.reply) (log_of day) k))

-- a day, made of what is known of its parts
pub day-kept : {day : DayValue} → IsBook day.book → AreRules day.rules → IsBatch day.batch
    → day.batch.base + 1 ≡ day.book.next → IsDay day
day-kept book rules batch follows = record { book = book; rules = rules; batch = batch; follows = follows }

module _ (laws : StepLaws) (ready : StaysReady) (stay : NumbersStay) (regions : RegionsAreADay) {day : DayValue}
    (kept : IsDay day) {on : ℕ} {directory : DirectoryValue} {old new : State} {replies : List Reply}
    (dated : on ≡ day.batch.day) (listed : directory ≡ directory_of day.book.accounts)
    (opened : old ≡ day.book.accounts)
    (turned : AreTurned (record { rules = day.rules; day = on; directory = directory }) day.batch old new replies) where
  of_setting : ◌≡◌ {A = Setting} (record { rules = day.rules; day = on; directory = directory }) (setting day)
  of_setting = λ i. record { rules = day.rules; day = dated i; directory = listed i }

  of_day : AreTurned (setting day) day.batch day.book.accounts new replies
  of_day = subst (λ k. AreTurned k day.batch day.book.accounts new replies) of_setting
      (subst (λ s. AreTurned (record { rules = day.rules; day = on; directory = directory }) day.batch s new replies)
      opened turned)

  each-told : (place : ℕ) → 1 ≤ place → place ≤ length day.batch.instructions
      → Contains (places_in of_day.settled.told) place
  each-told = once-contained (length day.batch.instructions) (places_in of_day.settled.told) of_day.settled.each_once

  -- the accounts are those after the day
  pub turned-accounts : new ≡ closing_state day
  turned-accounts = of_day.back
      ∙ accounts-right laws ready stay regions day kept of_day.swaps of_day.after of_day.settled.told of_day.within
      of_day.settled.dealt each-told

  -- and the replies are those of the day
  pub turned-replies : replies ≡ replies_of day
  turned-replies = replies-are day of_day.settled.told replies of_day.settled.in_places
      (replies-right laws ready stay regions day kept of_day.swaps of_day.after of_day.settled.told of_day.within
      of_day.settled.dealt each-told)

-- the book after the day
pub book-after : ClosingIsABook → {day : DayValue} → IsDay day
    → {new : State} {directory : DirectoryValue} {next count : ℕ}
    → new ≡ closing_state day → directory ≡ directory_of day.book.accounts → next ≡ day.book.next
    → count ≡ length day.batch.instructions → IsBookKept new directory (next + count)
book-after closing {day} kept {new} {directory} {next} {count} is listed same many =
    subst (λ s. IsBookKept s directory (next + count)) (sym is)
    (subst (λ d. IsBookKept (closing_state day) d (next + count)) (sym listed)
    (subst (IsBookKept (closing_state day) (directory_of day.book.accounts)) (sym (λ i. same i + many i))
    (closing day kept)))

-- is that which a commit of the settled day gives
pub is-after : CommittedIsClosing → {day : DayValue} → IsDay day → {new : State} {next count : ℕ}
    → new ≡ closing_state day → next ≡ day.book.next → count ≡ length day.batch.instructions
    → ◌≡◌ {A = BookValue} (record { accounts = new; next = next + count }) (committed day.book (settled_day day))
is-after commits {day} kept is same many =
    (λ i. record { accounts = is i; next = same i + many i }) ∙ sym (commits day kept.book kept.follows)

-- the book before the day is ready for its first record number
pub ready-day : StaysReady → (day : DayValue) → IsDay day → IsReady (day.batch.base + 1) day.book.accounts
ready-day ready day kept =
    subst (λ n. IsReady n day.book.accounts) (add-zero (day.batch.base + 1)) (ready day kept 0 (omega arith))

-- advice that was admitted
pub admitted : (c : Setting) (b : BatchValue) (old : State) (new : List (Vec AccountValue Global))
    {found : Option Dealing} {d : Dealing} → found ≡ Some d
    → MatchOption found (joined_lists new ≡ old) (λ e. IsAdmitted c b e old new) → IsAdmitted c b d old new
admitted c b old new is known =
    subst (λ (o : Option Dealing). MatchOption o (joined_lists new ≡ old) (λ e. IsAdmitted c b e old new)) is known
