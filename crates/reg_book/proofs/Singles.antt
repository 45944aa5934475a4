-- One instruction on all accounts of a book.
use Rattle.std.proofs.Common.{Result, Ok, Err, None, ◌≡◌, ℕ, ◌+◌, ◌-◌, ◌≤◌, ◌++◌, [], ◌∷◌, length, take, drop, refl}
use Rattle.std.proofs.Common.{sym, ap, ◌∙◌, arith}
use Rattle.std.specs.Result.{IfOk, OnErr}
use Rattle.std.proofs.lemmas.List.Elements.{All-from_recursion}
use Rattle.reg_facts.proofs.lemmas.Lists.{written_whole}
use Rattle.reg_base.specs.declared.instruction.Instruction.{Instruction}
use Rattle.reg_base.specs.declared.limits.TheConstants.{MOST_RECORD}
use Rattle.reg_base.specs.Directory.{DirectoryValue}
use Rattle.reg_base.specs.Instructions.{IsInstruction}
use Rattle.reg_base.specs.Numbers.{IsDayNo}
use Rattle.reg_base.specs.Rules.{RulesValue, AreRules}
use Rattle.reg_rules.specs.declared.reply.Reply.{Reply}
use Rattle.reg_rules.specs.declared.reply.LogRow.{LogRow}
use Rattle.reg_rules.specs.Checks.{refusal}
use Rattle.reg_rules.specs.Laws.{StepLaws}
use Rattle.reg_rules.specs.State.{State, Setting}
use Rattle.reg_rules.specs.Step.{step, row_of}
use Rattle.reg_rules.proofs.lemmas.Accounts.{length-numbers}
use Rattle.reg_book.specs.Book.{BookValue, IsBook, IsBookKept, directory_of}
use Rattle.reg_book.specs.Day.{IsDay, settled_day, log_of}
use Rattle.reg_book.specs.Settled.{committed}
use Rattle.reg_book.specs.Single.{setting_on, applied, row_applied, day_of_one, IsApplied}
use Rattle.reg_book.proofs.Closings.{kept-after_day, committed-after_day}
use Rattle.reg_book.proofs.Folds.{numbers_more}

module _ (laws : StepLaws) where
  -- what became of the slice of a list is what became of the list: own is what the slice became
  pub whole-step : {E : Type 0} (c : Setting) (s own : State) (n : ℕ) (i : Instruction) (r : Result Reply E) (len : ℕ)
      → len ≡ length s
      → IfOk r (λ reply. ◌≡◌ {A = State × Reply} (own, reply) (step c s n i))
      → IfOk r (λ reply. ◌≡◌ {A = State × Reply} (take len (own ++ drop (length own) s), reply) (step c s n i))
  whole-step c s own n i (Err e) len size stepped = tt
  whole-step c s own n i (Ok reply) len size stepped =
      let kept : length own ≡ length s =
      sym (length-numbers own) ∙ ap length (numbers_more laws c s own n i reply stepped) ∙ length-numbers s in
      (λ j. (written_whole s own len size kept j, reply)) ∙ stepped

-- nothing came of the slice, so nothing came of the list
pub whole-unchanged : {E : Type 0} (c : Setting) (s own : State) (i : Instruction) (r : Result Reply E) (len : ℕ)
    → len ≡ length s
    → OnErr r ((own ≡ s) × (refusal c s i ≡ None))
    → OnErr r ((take len (own ++ drop (length own) s) ≡ s) × (refusal c s i ≡ None))
whole-unchanged c s own i (Ok reply) len size kept = tt
whole-unchanged c s own i (Err e) len size kept =
    (written_whole s own len size (ap length kept.0) ∙ kept.0, kept.1)

-- what is known where an instruction is applied
pub record CanApply (book : BookValue) (rules : RulesValue) (day : ℕ) (i : Instruction) : Type 0 where
  pub kept : IsBook book
  pub by_rules : AreRules rules
  pub on_day : IsDayNo day
  pub sound : IsInstruction i
  pub numbered : book.next ≤ MOST_RECORD

again : (book : BookValue) → IsBook book → book.next - 1 + 1 ≡ book.next
again book kept = omega (arith, kept.next.from_one)

is_day : (book : BookValue) (rules : RulesValue) (day : ℕ) (i : Instruction) → CanApply book rules day i
    → IsDay (day_of_one book rules day i)
is_day book rules day i can = record {
  book = can.kept;
  rules = can.by_rules;
  batch = record {
    settlement_day = can.on_day;
    each = All-from_recursion IsInstruction (i ∷ []) (can.sound, tt);
    few = omega arith;
    numbered = omega (arith, can.numbered, can.kept.next.from_one);
  };
  follows = again book can.kept;
}

-- what became of the accounts, and the log row, are those of the instruction
pub record HasStepped (book : BookValue) (rules : RulesValue) (day : ℕ) (i : Instruction) (own : State)
    (row : LogRow) : Type 0 where
  pub closed : own ≡ (applied book rules day i).accounts
  pub logged : row ≡ row_applied book rules day i

-- it was carried out under the directory and the record number that stand in the book
pub has-stepped : (book : BookValue) (rules : RulesValue) (day n : ℕ) (d : DirectoryValue) (i : Instruction)
    (own : State) (reply : Reply) (row : LogRow)
    → d ≡ directory_of book.accounts → n ≡ book.next
    → ◌≡◌ {A = State × Reply} (own, reply)
    (step (record { rules = rules; day = day; directory = d }) book.accounts n i)
    → row ≡ record { number = n; day = day; instruction = i; reply = reply }
    → HasStepped book rules day i own row
has-stepped book rules day n d i own reply row listed numbered stepped made =
    let c = setting_on book rules day in
    let all : ◌≡◌ {A = State × Reply} (own, reply) (step c book.accounts book.next i) =
    stepped ∙ ap (λ e. step (record { rules = rules; day = day; directory = e }) book.accounts n i) listed
    ∙ ap (λ m. step c book.accounts m i) numbered in
    record {
      closed = ap (λ (p : State × Reply). p.0) all;
      logged = made ∙ ap (λ m. row_of c m i reply) numbered
          ∙ ap (λ (p : State × Reply). row_of c book.next i p.1) all;
    }

book-of_one : (book : BookValue) (rules : RulesValue) (day : ℕ) (i : Instruction) (own : State)
    → own ≡ (applied book rules day i).accounts
    → ◌≡◌ {A = BookValue} (record { accounts = own; next = book.next + 1 }) (applied book rules day i)
book-of_one book rules day i own closed = λ k. record { accounts = closed k; next = book.next + 1 }

-- no check fails, by the directory that stands in the book
pub unrefused-of_one : (book : BookValue) (rules : RulesValue) (day : ℕ) (d : DirectoryValue) (i : Instruction)
    → d ≡ directory_of book.accounts
    → refusal (record { rules = rules; day = day; directory = d }) book.accounts i ≡ None
    → refusal (setting_on book rules day) book.accounts i ≡ None
unrefused-of_one book rules day d i listed none =
    sym (ap (λ e. refusal (record { rules = rules; day = day; directory = e }) book.accounts i) listed) ∙ none

-- its log row alone is the log of its day
log-of_one : (book : BookValue) (rules : RulesValue) (day : ℕ) (i : Instruction) (row : LogRow) → IsBook book
    → row ≡ row_applied book rules day i → log_of (day_of_one book rules day i) ≡ row ∷ []
log-of_one book rules day i row kept is =
    let c = setting_on book rules day in
    ap (λ n. row_of c n i (step c book.accounts n i).1 ∷ []) (again book kept) ∙ ap (λ r. r ∷ []) (sym is)

module _ (laws : StepLaws) where
  -- the accounts after the step are those of a book again
  pub kept-after_one : (book : BookValue) (rules : RulesValue) (day : ℕ) (i : Instruction) (accounts : State)
      (directory : DirectoryValue)
      → CanApply book rules day i → accounts ≡ (applied book rules day i).accounts
      → directory ≡ directory_of book.accounts → IsBookKept accounts directory (book.next + 1)
  kept-after_one book rules day i accounts directory can closed listed =
      let c = setting_on book rules day in
      kept-after_day laws (day_of_one book rules day i) accounts directory book.next 1 (is_day book rules day i can)
      (closed ∙ ap (λ n. (step c book.accounts n i).0) (sym (again book can.kept))) listed refl (omega arith)

  -- and that book is the one to which its day was committed
  committed-after_one : (book : BookValue) (rules : RulesValue) (day : ℕ) (i : Instruction) → IsBook book
      → applied book rules day i ≡ committed book (settled_day (day_of_one book rules day i))
  committed-after_one book rules day i kept =
      let c = setting_on book rules day in
      committed-after_day laws (day_of_one book rules day i) (applied book rules day i).accounts book.next 1 kept
      (again book kept) (ap (λ n. (step c book.accounts n i).0) (sym (again book kept))) refl (omega arith)

  -- so it is applied
  pub applied-one : (book : BookValue) (rules : RulesValue) (day : ℕ) (i : Instruction) (own : State) (row : LogRow)
      → IsBook book → book.next ≤ MOST_RECORD → HasStepped book rules day i own row
      → IsApplied rules day i book (record { accounts = own; next = book.next + 1 }) row
  applied-one book rules day i own row kept numbered done =
      let after = book-of_one book rules day i own done.closed in
      record {
        numbered = numbered;
        book = after;
        row = done.logged;
        settled = after ∙ committed-after_one book rules day i kept;
        log = log-of_one book rules day i row kept done.logged;
      }
