-- Opening values.
use Rattle.std.proofs.Common.{Bor, IsSome, ◌≡◌, ℕ, true, List, [], ◌∷◌, map, Option, Some, None, refl}
use Rattle.std.proofs.Common.{ap, sym, subst, ◌∙◌}
use Rattle.std.specs.Prelude.{All}
use Rattle.std.proofs.lemmas.List.Elements.{All-from_recursion}
use Rattle.reg_base.specs.Footprint.{EachFootprintIsSound}
use Rattle.reg_base.specs.Touches.{is_touched}
use Rattle.reg_base.proofs.lemmas.Among.{all_among}
use Rattle.reg_rules.proofs.lemmas.Accounts.{account-number}
use Rattle.reg_schedules.specs.Pool.{directory, footprint_at}
use Rattle.reg_schedules.proofs.lemmas.Tails.{touched_from}
use Rattle.reg_schedules.proofs.lemmas.Known.{footprint_touches, touched_known}
use Rattle.reg_schedules.specs.Docks.{names_needed}
use Rattle.std.specs.Prelude.{is_some}
use Rattle.std.specs.Option.{option_copied}
use Rattle.reg_account.specs.Account.{AccountValue}
use Rattle.reg_rules.specs.State.{account}
use Rattle.reg_base.specs.Rules.{RulesValue}
use Rattle.reg_base.specs.Batch.{BatchValue}
use Rattle.reg_book.specs.Book.{BookValue}
use Rattle.reg_book.specs.Day.{DayValue, value_at}
use Rattle.reg_tasks.specs.Names.{IsNamed, IsValue}

pub some_copied : {T : Type 0} (o : Option (Bor T)) (x : Option T) → option_copied o ≡ x → is_some x ≡ true → IsSome o
some_copied None None e h = absurd cc
some_copied None (Some v) e h = absurd cc
some_copied (Some r) x e h = refl

-- the opening value of an account
pub opened : (name : Option DayValue) (book : BookValue) (rules : RulesValue) (batch : BatchValue) (a : ℕ)
    (value : AccountValue)
    → IsNamed name book rules batch → account book.accounts a ≡ Some value → IsValue name value 0
opened name book rules batch a value named found = λ day e.
    subst (λ (d : DayValue). value_at d value.number 0 ≡ Some value) (named day e)
    (ap (account book.accounts) (account-number book.accounts a value found) ∙ found)

-- an instruction to which no arrow leads needs opening values
pub needed_none : (accounts : List ℕ) → names_needed [] accounts ≡ map (λ a. (a, 0)) accounts
needed_none [] = refl
needed_none (a ∷ more) = ap (λ ns. (a, 0) ∷ ns) (needed_none more)

-- the accounts that an instruction touches are in the book
pub all_known : EachFootprintIsSound → (day : DayValue) (place : ℕ)
    → All (λ a. is_some (account day.book.accounts a) ≡ true) (footprint_at day place)
all_known sound day place =
    All-from_recursion _ _ (all_among (λ a. is_some (account day.book.accounts a) ≡ true) (footprint_at day place)
    (λ a e. touched_known sound day place a (sym (footprint_touches day place a) ∙ e)))
