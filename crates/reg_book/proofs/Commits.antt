-- A book with the settled day committed is the state after the instructions.
use Rattle.std.proofs.Common.{◌≡◌, ℕ, ◌+◌, Bool, true, false, eqb, List, length, Option, Some, None}
use Rattle.std.proofs.Common.{refl, sym, ap, subst, ◌∙◌, arith}
use Rattle.std.specs.Prelude.{option_map, unwrap_or}
use Rattle.std.specs.List.{IsDistinct}
use Rattle.reg_base.specs.declared.instruction.Instruction.{Instruction}
use Rattle.reg_account.specs.Account.{AccountValue}
use Rattle.reg_rules.specs.State.{State, Setting, account, numbers}
use Rattle.reg_rules.specs.Laws.{StepLaws}
use Rattle.reg_rules.proofs.lemmas.Accounts.{account-map, found_in}
use Rattle.reg_book.specs.Book.{overlay}
use Rattle.reg_base.specs.Touches.{is_touched}
use Rattle.reg_book.specs.Fold.{state_after, touched_of}
use Rattle.reg_book.specs.Laws.{CommittedIsClosing, SettledAreTouched}
use Rattle.reg_book.specs.Day.{setting, closing_state, log_of}
use Rattle.reg_book.proofs.lemmas.Listings.{listing}
use Rattle.reg_book.proofs.lemmas.Logs.{length-rows_of}
use Rattle.reg_book.proofs.Days.{touched-account, untouched-account, listing-fold, closing-all}
use Rattle.reg_book.proofs.Folds.{numbers-fold, others-fold}
use Rattle.reg_book.proofs.Lookups.{account-filter, rising-distinct}
use Rattle.reg_book.proofs.Overlays.{numbers-overlay, placed_number}
use Rattle.reg_book.proofs.StepFacts.{same-state}

-- an account of the overlaid list is the settled one, or the old one if it is not settled
laid_over : (later opening other : Option AccountValue) → option_map listing later ≡ option_map listing opening
    → (other ≡ later) → option_map (unwrap_or other) opening ≡ later
laid_over None None other same is = refl
laid_over None (Some v) other same is = absurd cc
laid_over (Some w) None other same is = absurd cc
laid_over (Some w) (Some v) other same is = ap (λ (o : Option AccountValue). option_map (unwrap_or o) (Some v)) is

pub left_alone : (opening other : Option AccountValue) → other ≡ None → option_map (unwrap_or other) opening ≡ opening
left_alone None other is = refl
left_alone (Some v) other is = ap (λ (o : Option AccountValue). option_map (unwrap_or o) (Some v)) is

at_number : (others : State) (a : ℕ) (o : Option AccountValue) → ((v : AccountValue) → o ≡ Some v → v.number ≡ a)
    → option_map (λ v. unwrap_or (account others v.number) v) o ≡ option_map (unwrap_or (account others a)) o
at_number others a None named = refl
at_number others a (Some v) named = ap (λ n. option_map (unwrap_or (account others n)) (Some v)) (named v refl)

pub account-overlay : (s others : State) (a : ℕ)
    → account (overlay s others) a ≡ option_map (unwrap_or (account others a)) (account s a)
account-overlay s others a =
    account-map (λ v. unwrap_or (account others v.number) v) (placed_number others) s a
    ∙ at_number others a (account s a) (λ v e. (found_in s a v e).1)

module _ (laws : StepLaws) where
  pub overlay-closing : (c : Setting) (s : State) (n : ℕ) (is : List Instruction) → IsDistinct eqb (numbers s)
      → overlay s (touched_of c.directory is (state_after c s n is)) ≡ state_after c s n is
  overlay-closing c s n is distinct =
      same-state laws (overlay s (touched_of c.directory is (state_after c s n is))) (state_after c s n is)
      (subst (IsDistinct eqb) (sym (numbers-fold laws c s n is)) distinct)
      (numbers-overlay s (touched_of c.directory is (state_after c s n is)) ∙ sym (numbers-fold laws c s n is))
      (λ a. account-overlay s (touched_of c.directory is (state_after c s n is)) a
      ∙ at a (is_touched c.directory is a) refl)
    where
      at : (a : ℕ) (b : Bool) → is_touched c.directory is a ≡ b
          → option_map (unwrap_or (account (touched_of c.directory is (state_after c s n is)) a)) (account s a)
          ≡ account (state_after c s n is) a
      at a true touched =
          laid_over (account (state_after c s n is) a) (account s a)
          (account (touched_of c.directory is (state_after c s n is)) a)
          (listing-fold laws c s n is a) (touched-account c.directory is (state_after c s n is) a touched)
      at a false untouched =
          left_alone (account s a) (account (touched_of c.directory is (state_after c s n is)) a)
          (untouched-account c.directory is (state_after c s n is) a untouched)
          ∙ sym (others-fold laws c s n is a untouched)

  pub committed-closing : CommittedIsClosing
  committed-closing day kept begins =
      let size = length-rows_of (setting day) day.book.accounts (day.batch.base + 1) day.batch.instructions in
      let counted : day.batch.base + length (log_of day) + 1 ≡ day.book.next + length day.batch.instructions =
      omega (arith, size, begins) in
      let laid : overlay day.book.accounts
      (touched_of (setting day).directory day.batch.instructions (closing_state day)) ≡ closing_state day =
      ap (λ (s : State). overlay day.book.accounts (touched_of (setting day).directory day.batch.instructions s))
      (closing-all day)
      ∙ overlay-closing (setting day) day.book.accounts (day.batch.base + 1) day.batch.instructions
      (rising-distinct day.book.accounts kept.rising)
      ∙ sym (closing-all day) in
      λ i. record { accounts = laid i; next = counted i }

-- a touched account is among the settled ones, and no other
pub settled-touched : SettledAreTouched
settled-touched day a = account-filter (is_touched (setting day).directory day.batch.instructions) (closing_state day) a
