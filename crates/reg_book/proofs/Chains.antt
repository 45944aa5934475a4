-- Days one after another, by induction on the list of days.
use Rattle.std.proofs.Common.{◌≡◌, ℕ, zero, suc, ◌+◌, ◌<◌, ◌≤◌, List, [], ◌∷◌, ◌++◌, take, length, Some, refl, sym, ap}
use Rattle.std.proofs.Common.{subst, ◌∙◌, arith}
use Rattle.std.specs.Prelude.{All, slice_get}
use Rattle.std.specs.Option.{option_map}
use Rattle.std.proofs.lemmas.List.{map-append, take_all}
use Rattle.std.proofs.lemmas.Option.{same_Some}
use Rattle.std.proofs.lemmas.List.Sums.{sum_by-cons}
use Rattle.reg_base.specs.declared.kinds.AllowanceKind.{AllowanceKind}
use Rattle.reg_base.specs.declared.kinds.Status.TheVariants.{Closed}
use Rattle.reg_base.specs.Rising.{count_up}
use Rattle.reg_account.specs.Account.{AccountValue, IsAccount}
use Rattle.reg_rules.specs.declared.reply.LogRow.{LogRow}
use Rattle.reg_rules.specs.State.{State, account, numbers, status}
use Rattle.reg_rules.specs.Conservation.{number_of}
use Rattle.reg_book.specs.Book.{BookValue, IsBook}
use Rattle.reg_book.specs.Settled.{record_numbers}
use Rattle.reg_book.specs.Fold.{state_after}
use Rattle.reg_book.specs.Day.{DayValue, IsDay, setting, state_at, value_at, log_of, closing_state, settled_day}
use Rattle.reg_book.specs.Laws.{CommittedIsClosing, ClosedStays, NumbersStay, StaysReady, SettledIsOfBook}
use Rattle.reg_book.specs.Conservation.{created, deleted, undeleted, FoldConserves}
use Rattle.reg_book.specs.Chains.{book_after, book_after_days, book_at, IsChain, IsChainByHand, MayBecome}
use Rattle.reg_book.specs.Chains.{instructions_in, log_of_days, created_in, deleted_in, undeleted_in, ChainLeavesABook}
use Rattle.reg_book.specs.Chains.{ChainKeepsAccounts, ChainLaws}
use Rattle.reg_book.proofs.lemmas.Logs.{length-rows_of}
use Rattle.reg_book.proofs.Folds.{count-rows_of}
use Rattle.reg_book.proofs.Overlays.{kept_after}

-- so many numbers, and then more
counted_on : (first some more : ℕ) → count_up first (some + more) ≡ count_up first some ++ count_up (first + some) more
counted_on first zero more =
    let all : 0 + more ≡ more = omega arith in
    let same : first ≡ first + 0 = omega arith in
    ap (λ n. count_up first n) all ∙ ap (λ n. count_up n more) same
counted_on first (suc some) more =
    let all : suc some + more ≡ suc (some + more) = omega arith in
    let same : first + 1 + some ≡ first + suc some = omega arith in
    ap (λ n. count_up first n) all
    ∙ ap (λ ns. first ∷ ns) (counted_on (first + 1) some more
    ∙ ap (λ n. count_up (first + 1) some ++ count_up n more) same)

-- what days add up to is what the first adds, and then the others
instructions-first : (day : DayValue) (days : List DayValue)
    → instructions_in (day ∷ days) ≡ length day.batch.instructions + instructions_in days
instructions-first day days = sum_by-cons (λ (d : DayValue). length d.batch.instructions) day days

-- the log of a day has a number for each instruction, from the next record number on
day-numbers : (day : DayValue) → IsDay day
    → record_numbers (log_of day) ≡ count_up day.book.next (length day.batch.instructions)
day-numbers day kept =
    count-rows_of (setting day) day.book.accounts (day.batch.base + 1) day.batch.instructions
    ∙ ap (λ n. count_up n (length (log_of day))) kept.follows
    ∙ ap (λ n. count_up day.book.next n)
    (length-rows_of (setting day) day.book.accounts (day.batch.base + 1) day.batch.instructions)

-- the first days of a chain are one
pub some-days : (book : BookValue) (days : List DayValue) (j : ℕ) → IsChainByHand book days
    → IsChainByHand book (take j days)
some-days book [] zero chain = tt
some-days book [] (suc j) chain = tt
some-days book (day ∷ days) zero chain = tt
some-days book (day ∷ days) (suc j) chain = (chain.0, chain.1, some-days (book_after day) days j chain.2)

-- a book that is the same is one that it may become
same-book : (left begun : BookValue) → begun ≡ left → MayBecome left begun
same-book left begun is = record {
  next = ap (λ (b : BookValue). b.next) is;
  closed = λ a closed. ap (λ (b : BookValue). account b.accounts a) is;
  allowances = λ kind. ap (λ (b : BookValue). number_of kind b.accounts) is;
}

-- a chain without changes is one with them
pub plain-chain : (book : BookValue) (days : List DayValue) → IsChain book days → IsChainByHand book days
plain-chain book [] chain = tt
plain-chain book (day ∷ days) chain =
    (chain.0, same-book book day.book chain.1, plain-chain (book_after day) days chain.2)

-- an account that is the same is closed like the other
still_closed : (a : ℕ) (s t : State) → account t a ≡ account s a → status s a ≡ Some Closed → status t a ≡ Some Closed
still_closed a s t same closed = ap (option_map (λ (v : AccountValue). v.status)) same ∙ closed

module _ (closing : CommittedIsClosing) where
  -- what a day leaves
  accounts-after : (day : DayValue) → IsDay day → (book_after day).accounts ≡ closing_state day
  accounts-after day kept = ap (λ (b : BookValue). b.accounts) (closing day kept.book kept.follows)

  next-after : (day : DayValue) → IsDay day → (book_after day).next ≡ day.book.next + length day.batch.instructions
  next-after day kept = ap (λ (b : BookValue). b.next) (closing day kept.book kept.follows)

  numbered-days : (book : BookValue) (days : List DayValue) → IsChainByHand book days
      → record_numbers (log_of_days days) ≡ count_up book.next (instructions_in days)
  numbered-days book [] chain = refl
  numbered-days book (day ∷ days) chain =
      let today = length day.batch.instructions in
      let from : day.book.next ≡ book.next = chain.1.next in
      let later : (book_after day).next ≡ book.next + today = next-after day chain.0 ∙ ap (λ n. n + today) from in
      map-append (λ (row : LogRow). row.number) (log_of day) (log_of_days days)
      ∙ ap (λ ns. ns ++ record_numbers (log_of_days days)) (day-numbers day chain.0 ∙ ap (λ n. count_up n today) from)
      ∙ ap (λ ns. count_up book.next today ++ ns) (numbered-days (book_after day) days chain.2
      ∙ ap (λ n. count_up n (instructions_in days)) later)
      ∙ sym (ap (λ n. count_up book.next n) (instructions-first day days)
      ∙ counted_on book.next today (instructions_in days))

  next-days : (book : BookValue) (days : List DayValue) → IsChainByHand book days
      → (book_after_days book days).next ≡ book.next + instructions_in days
  next-days book [] chain = omega arith
  next-days book (day ∷ days) chain =
      let later = next-days (book_after day) days chain.2 in
      omega (arith, later, next-after day chain.0, chain.1.next, instructions-first day days)

  pub numbers-days : NumbersStay → ChainKeepsAccounts
  numbers-days stay book [] chain = refl
  numbers-days stay book (day ∷ days) chain =
      numbers-days stay (book_after day) days chain.2
      ∙ ap numbers (accounts-after day chain.0)
      ∙ stay day (length day.batch.instructions)
      ∙ ap (λ (b : BookValue). numbers b.accounts) chain.1

  module _ (stays : ClosedStays) where
    -- an account that some instruction left closed, or that was closed before, is so in the book that the day leaves
    closed-day : (day : DayValue) → IsDay day → (a i : ℕ) → status (state_at day i) a ≡ Some Closed
        → account (book_after day).accounts a ≡ value_at day a i
    closed-day day kept a i closed =
        let is = day.batch.instructions in
        let all : closing_state day ≡ state_at day (i + length is) =
        ap (state_after (setting day) day.book.accounts (day.batch.base + 1)) (take_all (length is) is (omega arith)
        ∙ sym (take_all (i + length is) is (omega arith))) in
        ap (λ (s : State). account s a) (accounts-after day kept ∙ all)
        ∙ stays day a i (i + length is) (omega arith) closed

    closed-days : (book : BookValue) (days : List DayValue) (a : ℕ) → IsChainByHand book days
        → status book.accounts a ≡ Some Closed
        → account (book_after_days book days).accounts a ≡ account book.accounts a
    closed-days book [] a chain closed = refl
    closed-days book (day ∷ days) a chain closed =
        let begun = chain.1.closed a closed in
        let still = closed-day day chain.0 a 0 (still_closed a book.accounts day.book.accounts begun closed) in
        closed-days (book_after day) days a chain.2
        (still_closed a book.accounts (book_after day).accounts (still ∙ begun) closed) ∙ still ∙ begun

    closed-between : (book : BookValue) (days : List DayValue) (a i j : ℕ) → IsChainByHand book days → i ≤ j
        → status (book_at book days i).accounts a ≡ Some Closed
        → account (book_at book days j).accounts a ≡ account (book_at book days i).accounts a
    closed-between book [] a zero zero chain le closed = refl
    closed-between book [] a zero (suc j) chain le closed = refl
    closed-between book [] a (suc i) zero chain le closed = refl
    closed-between book [] a (suc i) (suc j) chain le closed = refl
    closed-between book (day ∷ days) a zero j chain le closed =
        closed-days book (take j (day ∷ days)) a (some-days book (day ∷ days) j chain) closed
    closed-between book (day ∷ days) a (suc i) zero chain le closed = absurd (omega (arith, le))
    closed-between book (day ∷ days) a (suc i) (suc j) chain le closed =
        closed-between (book_after day) days a i j chain.2 (omega (arith, le)) closed

    closed-from : (book : BookValue) (days : List DayValue) (k : ℕ) (day : DayValue) (a i j : ℕ)
        → IsChainByHand book days
        → slice_get days k ≡ Some day → k < j
        → status (state_at day i) a ≡ Some Closed → account (book_at book days j).accounts a ≡ value_at day a i
    closed-from book [] zero day a i j chain at le closed = absurd cc
    closed-from book [] (suc k) day a i j chain at le closed = absurd cc
    closed-from book (x ∷ days) k day a i zero chain at le closed = absurd (omega (arith, le))
    closed-from book (x ∷ days) zero day a i (suc j) chain at le closed =
        let is : x ≡ day = same_Some x day at in
        let own : status (state_at x i) a ≡ Some Closed = ap (λ (d : DayValue). status (state_at d i) a) is ∙ closed in
        let left = closed-day x chain.0 a i own in
        closed-days (book_after x) (take j days) a (some-days (book_after x) days j chain.2)
        (still_closed a (state_at x i) (book_after x).accounts left own)
        ∙ left ∙ ap (λ (d : DayValue). value_at d a i) is
    closed-from book (x ∷ days) (suc k) day a i (suc j) chain at le closed =
        closed-from (book_after x) days k day a i j chain.2 at (omega (arith, le)) closed

  conserved-days : FoldConserves → (book : BookValue) (days : List DayValue) → IsChainByHand book days
      → (kind : AllowanceKind)
      → number_of kind (book_after_days book days).accounts + deleted_in days kind
      ≡ number_of kind book.accounts + created_in days kind + undeleted_in days kind
  conserved-days conserves book [] chain kind = omega arith
  conserved-days conserves book (day ∷ days) chain kind =
      let later = conserved-days conserves (book_after day) days chain.2 kind in
      let today = conserves day chain.0 kind in
      let left : number_of kind (book_after day).accounts ≡ number_of kind (closing_state day) =
      ap (number_of kind) (accounts-after day chain.0) in
      let begun : number_of kind day.book.accounts ≡ number_of kind book.accounts = chain.1.allowances kind in
      let created_first = sum_by-cons (λ (d : DayValue). created d kind) day days in
      let deleted_first = sum_by-cons (λ (d : DayValue). deleted d kind) day days in
      let undeleted_first = sum_by-cons (λ (d : DayValue). undeleted d kind) day days in
      omega (arith, later, today, left, begun, created_first, deleted_first, undeleted_first)

  pub laws-by_hand : ClosedStays → FoldConserves → ChainLaws IsChainByHand
  laws-by_hand stays conserves = record {
    numbered = numbered-days;
    next = next-days;
    closed = closed-between stays;
    closed_within = closed-from stays;
    conserved = conserved-days conserves;
  }

  pub laws-plain : ClosedStays → FoldConserves → ChainLaws IsChain
  laws-plain stays conserves = record {
    numbered = λ book days chain. numbered-days book days (plain-chain book days chain);
    next = λ book days chain. next-days book days (plain-chain book days chain);
    closed = λ book days a i j chain. closed-between stays book days a i j (plain-chain book days chain);
    closed_within = λ book days k day a i j chain.
        closed-from stays book days k day a i j (plain-chain book days chain);
    conserved = λ book days chain. conserved-days conserves book days (plain-chain book days chain);
  }

  -- what a day leaves is a book
  book-day : StaysReady → SettledIsOfBook → (day : DayValue) → IsDay day → IsBook (book_after day)
  book-day ready of_book day kept =
      let is = day.batch.instructions in
      let settled = settled_day day in
      let size : length (log_of day) ≡ length is =
      length-rows_of (setting day) day.book.accounts (day.batch.base + 1) is in
      let fits = of_book day kept in
      let after = day.batch.base + length (log_of day) + 1 in
      (kept_after day.book.accounts (book_after day).accounts settled.accounts _ day.book.next after
      (record { book = kept.book; listed = refl })
      refl
      (subst (All IsAccount) (sym (accounts-after day kept)) (ready day kept (length is) (omega arith)).fit)
      fits.listed
      (record { from_one = omega arith; to_the_end = omega (arith, size, kept.batch.numbered) })
      (omega (arith, kept.follows))
      fits.behind).book

  pub book-days : StaysReady → SettledIsOfBook → ChainLeavesABook
  book-days ready of_book book [] kept chain = kept
  book-days ready of_book book (day ∷ days) kept chain =
      book-days ready of_book (book_after day) days (book-day ready of_book day chain.0) chain.2
