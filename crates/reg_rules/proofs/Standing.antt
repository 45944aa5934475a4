-- What is found of an instruction, and the case that it is where all of its accounts are known and none is named twice.
use Rattle.std.proofs.Common.{◌≡◌, ℕ, Bool, true, false, cond, eqb, List, [], ◌∷◌, ◌++◌, map, refl, ap}
use Rattle.std.proofs.Common.{Option, Some, ℤ, Result, sym, subst, ◌∙◌}
use Rattle.std.specs.Prelude.{find}
use Rattle.std.specs.Option.{option_to_list}
use Rattle.std.specs.List.{IsDistinct, AllByRecursion, list_all}
use Rattle.reg_base.specs.declared.shares.Share.{Share}
use Rattle.reg_base.specs.declared.movement.Movement.{Movement}
use Rattle.reg_base.specs.declared.instruction.Instruction.{Instruction}
use Rattle.reg_base.specs.declared.refusals.Refusal.{Refusal}
use Rattle.reg_base.specs.Acts.{movement_of, first, shares, parties, also_known, other_known}
use Rattle.reg_base.specs.Calendar.{due}
use Rattle.reg_base.specs.Footprint.{must_be_known, all_known, each_once, footprint}
use Rattle.reg_base.specs.Refusals.{checks}
use Rattle.reg_account.specs.declared.rows.RetirementRow.{RetirementRow}
use Rattle.reg_account.specs.declared.figure.FigureFault.{FigureFault}
use Rattle.reg_account.specs.Account.{AccountValue, trusts}
use Rattle.reg_rules.specs.declared.found.Found.{Found}
use Rattle.reg_rules.specs.declared.rule.ActRule.{ActRule}
use Rattle.reg_rules.specs.ActRules.{rule_of}
use Rattle.reg_rules.specs.State.{State, Setting, Receiver, numbers, account, seen}
use Rattle.reg_rules.specs.Trust.{lag_by}
use Rattle.reg_rules.specs.Checks.{has_repeat, row_to_reverse, fails, refusal}
use Rattle.reg_rules.specs.Cases.{receiving, seeing, effect_day, figure_asked, found_of}
use Rattle.reg_rules.proofs.lemmas.Accounts.{found-by_number}
use Rattle.reg_rules.proofs.Repeats.{repeats-none}
use Rattle.reg_rules.proofs.Applied.{once-distinct}
use Rattle.reg_rules.proofs.Mapped.{trust-answer, row-seen}

-- all that is found
pub found-answer : (c : Setting) (i : Instruction) (m : Movement) (v : AccountValue) (vs : State)
    (rule : ActRule) (trusted : Bool) (falls : Option ℕ) (row : Option RetirementRow)
    (effective : Option ℕ) (figure : Result ℤ FigureFault)
    → m ≡ movement_of i.act → numbers vs ≡ map (λ share. share.to) (shares i.act)
    → rule ≡ rule_of i.act
    → trusted ≡ list_all (λ w. trusts v w.number w.holder c.day) vs
    → falls ≡ due c.rules.calendar i.proposed (lag_by c.rules rule.lag trusted)
    → row ≡ row_to_reverse m.change (seeing v [] [])
    → effective ≡ effect_day c m.change → figure ≡ figure_asked c.rules m.change (Some v)
    → ◌≡◌ {A = Found} (record {
      rule = rule;
      trusted = trusted;
      due = falls;
      row = row;
      effective = effective;
      figure = figure;
    })
    (found_of c i (seeing v vs (shares i.act)))
found-answer c i m v vs rule trusted falls row effective figure moved in_order as_rule as_trusted as_due as_row
    as_effective as_figure =
    let is-trusted = trust-answer c.day v vs (shares i.act) trusted in_order as_trusted in
    let is-due = as_due
    ∙ ap (λ (r : ActRule). due c.rules.calendar i.proposed (lag_by c.rules r.lag trusted)) as_rule
    ∙ ap (λ b. due c.rules.calendar i.proposed (lag_by c.rules (rule_of i.act).lag b)) is-trusted in
    let is-row = as_row ∙ row-seen m.change v [] (receiving vs (shares i.act))
    ∙ ap (λ (n : Movement). row_to_reverse n.change (seeing v vs (shares i.act))) moved in
    let is-effective = as_effective ∙ ap (λ (n : Movement). effect_day c n.change) moved in
    let is-figure = as_figure ∙ ap (λ (n : Movement). figure_asked c.rules n.change (Some v)) moved in
    λ j. record {
      rule = as_rule j;
      trusted = is-trusted j;
      due = is-due j;
      row = is-row j;
      effective = is-effective j;
      figure = is-figure j;
    }

-- where there are accounts, all that must be known are
all-there : (known : Bool) (x : ℕ) (xs ns : List ℕ) → x ∷ xs ≡ cond known (each_once ns) [] → known ≡ true
all-there true x xs ns own = refl
all-there false x xs ns own = absurd (cc)

-- an account that is named twice is found by the row of the act
pub repeat-of : (i : Instruction) (m : Movement) (r b : Bool) → m ≡ movement_of i.act
    → r ≡ has_repeat ((m.first ∷ map (λ share. share.to) m.shares) ++ option_to_list (other_known m.change)) → r ≡ b
    → has_repeat (must_be_known i.act) ≡ b
repeat-of i m r b moved is at =
    sym (ap (λ (n : Movement).
    has_repeat ((n.first ∷ map (λ share. share.to) n.shares) ++ option_to_list (other_known n.change))) moved)
    ∙ sym is ∙ at

module _ (c : Setting) (i : Instruction) (v : AccountValue) (vs : State)
    (own : numbers (v ∷ vs) ≡ footprint c.directory i.act) where
  pub is-known : all_known c.directory i.act ≡ true
  is-known = all-there (all_known c.directory i.act) v.number (numbers vs) (parties i.act) own

  module _ (apart : has_repeat (must_be_known i.act) ≡ false) (distinct : IsDistinct eqb (footprint c.directory i.act))
    where
      -- the accounts are the parties of the act
      stand : numbers (v ∷ vs) ≡ parties i.act
      stand = own ∙ ap (λ b. cond b (each_once (parties i.act)) []) is-known
          ∙ once-distinct (parties i.act) (repeats-none (parties i.act) (option_to_list (also_known i.act)) apart)

      pub in-order : numbers vs ≡ map (λ (share : Share). share.to) (shares i.act)
      in-order = cc stand

      each-found : AllByRecursion (λ w. account (v ∷ vs) w.number ≡ Some w) (v ∷ vs)
      each-found = found-by_number (v ∷ vs) (subst (IsDistinct eqb) (sym own) distinct)

      as-received : (ws : State) (shared : List Share) → numbers ws ≡ map (λ share. share.to) shared
          → AllByRecursion (λ w. account (v ∷ vs) w.number ≡ Some w) ws
          → receiving ws shared
          ≡ map (λ share. record { account = account (v ∷ vs) share.to; amount = share.amount }) shared
      as-received [] [] same found = refl
      as-received [] (x ∷ xs) same found = absurd (cc)
      as-received (w ∷ ws) [] same found = absurd (cc)
      as-received (w ∷ ws) (x ∷ xs) same found =
          let at : w.number ≡ x.to = cc in
          let more : numbers ws ≡ map (λ share. share.to) xs = cc in
          let here : Some w ≡ account (v ∷ vs) x.to = sym found.0 ∙ ap (account (v ∷ vs)) at in
          ap (λ o. record { account = o; amount = x.amount } ∷ receiving ws xs) here
          ∙ ap (λ (rs : List Receiver). record { account = account (v ∷ vs) x.to; amount = x.amount } ∷ rs)
          (as-received ws xs more found.1)

      -- these accounts are what the act sees
      pub as-seen : seeing v vs (shares i.act) ≡ seen (v ∷ vs) i.act
      as-seen =
          let at : v.number ≡ first i.act = cc stand in
          let here : Some v ≡ account (v ∷ vs) (first i.act) =
          sym each-found.0 ∙ ap (account (v ∷ vs)) at in
          ap (λ o. record { first = o; receivers = receiving vs (shares i.act) }) here
          ∙ ap (λ (rs : List Receiver). record { first = account (v ∷ vs) (first i.act); receivers = rs })
          (as-received vs (shares i.act) in-order each-found.1)

      -- what fails in the case fails
      pub case-answer : (r : Option Refusal) → r ≡ find (fails c (seeing v vs (shares i.act)) i) checks
          → r ≡ refusal c (v ∷ vs) i
      case-answer r is = is ∙ ap (λ e. find (fails c e i) checks) as-seen
