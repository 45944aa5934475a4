-- The accounts at the end of an order or a schedule are those that the instructions leave one after another.
use Rattle.std.proofs.Common.{◌≡◌, ℕ, [], ◌∷◌, map, Option, arith, refl, ap, ◌∙◌}
use Rattle.std.specs.Prelude.{unwrap_or}
use Rattle.reg_account.specs.Account.{AccountValue}
use Rattle.reg_rules.specs.State.{State, account}
use Rattle.reg_rules.specs.Conservation.{number_of}
use Rattle.reg_book.specs.Day.{DayValue, IsDay, closing_state, settled_day}
use Rattle.reg_book.specs.Book.{BookValue}
use Rattle.reg_book.specs.Laws.{CommittedIsClosing}
use Rattle.reg_book.specs.Conservation.{FoldConserves}
use Rattle.reg_schedules.specs.Conserved.{closing_book, IsConserved}

module _ (committed : CommittedIsClosing) (conserves : FoldConserves) (day : DayValue) (is_day : IsDay day) where
  same-closing : (closing : ℕ → Option AccountValue) (s : State)
      → ((a : ℕ) → closing a ≡ account (settled_day day).accounts a)
      → map (λ v. unwrap_or (closing v.number) v) s
      ≡ map (λ v. unwrap_or (account (settled_day day).accounts v.number) v) s
  same-closing closing [] same = refl
  same-closing closing (v ∷ s) same =
      ap (λ o. unwrap_or o v ∷ map (λ v. unwrap_or (closing v.number) v) s) (same v.number)
      ∙ ap (λ vs. unwrap_or (account (settled_day day).accounts v.number) v ∷ vs) (same-closing closing s same)

  pub conserved-by : (closing : ℕ → Option AccountValue) → ((a : ℕ) → closing a ≡ account (settled_day day).accounts a)
      → IsConserved day (closing_book day closing)
  conserved-by closing same kind =
      let book = committed day is_day.book is_day.follows in
      let accounts : closing_book day closing ≡ closing_state day =
      same-closing closing day.book.accounts same ∙ ap (λ (b : BookValue). b.accounts) book in
      let counted : number_of kind (closing_book day closing) ≡ number_of kind (closing_state day) =
      ap (number_of kind) accounts in
      omega (arith, counted, conserves day is_day kind)
