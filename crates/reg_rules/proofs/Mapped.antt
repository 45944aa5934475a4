-- A test of those that receive is a test of their accounts.
use Rattle.std.proofs.Common.{◌≡◌, ℕ, Bool, true, List, [], ◌∷◌, map, ◌&&◌, Some, refl, sym, ap, ◌∙◌}
use Rattle.std.specs.List.{list_all}
use Rattle.reg_base.specs.declared.kinds.AccountKind.{AccountKind}
use Rattle.reg_base.specs.declared.shares.Share.{Share}
use Rattle.reg_base.specs.declared.movement.Change.{Change}
use Rattle.reg_base.specs.declared.movement.Change.TheVariants.{Unretire}
use Rattle.reg_base.specs.declared.movement.Movement.{Movement}
use Rattle.reg_base.specs.Acts.{shares}
use Rattle.reg_account.specs.Account.{AccountValue, trusts}
use Rattle.reg_rules.specs.declared.found.Found.{Found}
use Rattle.reg_rules.specs.ActRules.{rule_of, fits_first, fits_receiver, fits_first_receiver, is_not_closed}
use Rattle.reg_rules.specs.State.{State, Receiver, numbers, passes}
use Rattle.reg_rules.specs.Checks.{has_right_kinds, destination_allows, row_to_reverse}
use Rattle.reg_rules.specs.Trust.{trusts_receivers}
use Rattle.reg_rules.specs.Cases.{receiving, seeing, seen_in, Case, IsCase}

pub all-receiving : (test : AccountValue → Bool) (vs : State) (shared : List Share)
    → numbers vs ≡ map (λ share. share.to) shared
    → list_all (λ (x : Receiver). passes test x.account) (receiving vs shared) ≡ list_all test vs
all-receiving test [] shared same = refl
all-receiving test (v ∷ vs) [] same = absurd (cc)
all-receiving test (v ∷ vs) (x ∷ xs) same =
    let more : numbers vs ≡ map (λ share. share.to) xs = cc in
    ap (λ b. test v && b) (all-receiving test vs xs more)

-- what the first account trusts
pub trust-answer : (day : ℕ) (v : AccountValue) (vs : State) (shared : List Share) (r : Bool)
    → numbers vs ≡ map (λ share. share.to) shared → r ≡ list_all (λ w. trusts v w.number w.holder day) vs
    → r ≡ trusts_receivers day (seeing v vs shared)
trust-answer day v vs shared r same is =
    is ∙ sym (all-receiving (λ w. trusts v w.number w.holder day) vs shared same)

-- the row that is to be reversed is one of the first account, whoever receives
pub row-seen : (made : Change) (v : AccountValue) (rs own : List Receiver)
    → row_to_reverse made (record { first = Some v; receivers = rs })
    ≡ row_to_reverse made (record { first = Some v; receivers = own })
row-seen (Unretire number) v rs own = refl
row-seen made v rs own = refl

second-answer : (a b f r : Bool) → f ≡ a → f ≡ true → r ≡ b → r ≡ (a && b)
second-answer a b f r is so rest = rest ∙ sym (ap (λ c. c && b) (sym is ∙ so))

module _ (k : Case) (m : Movement) (found : Found) (is : IsCase k m found) where
  same-rule : found.rule ≡ rule_of k.instruction.act
  same-rule = ap (λ (f : Found). f.rule) is.is_found

  -- the kinds of the first account and of those that receive
  pub kinds-answer : (own : Case) → k ≡ own → (kind : AccountKind) (f r : Bool) → kind ≡ k.first.kind
      → f ≡ fits_first found.rule.kinds kind → f ≡ true
      → r ≡ list_all (λ v. fits_receiver found.rule.kinds kind v.kind) k.receivers
      → r ≡ has_right_kinds (rule_of own.instruction.act) (seen_in own)
  kinds-answer own same kind f r first at so all =
      let kinds = (rule_of k.instruction.act).kinds in
      second-answer _ _ f r
      (at ∙ ap (λ g. fits_first g.kinds kind) same-rule ∙ ap (fits_first kinds) first) so
      (all ∙ ap (λ g. list_all (λ v. fits_receiver g.kinds kind v.kind) k.receivers) same-rule
      ∙ ap (λ g. list_all (λ v. fits_receiver kinds g v.kind) k.receivers) first
      ∙ sym (all-receiving (λ v. fits_receiver kinds k.first.kind v.kind) k.receivers (shares k.instruction.act)
      is.in_order))
      ∙ ap (λ (x : Case). has_right_kinds (rule_of x.instruction.act) (seen_in x)) same

  -- the statuses of those that receive
  pub closed-answer : (own : Case) → k ≡ own → (f r : Bool)
      → f ≡ fits_first_receiver found.rule.status k.first.status → f ≡ true
      → r ≡ list_all (λ v. is_not_closed v.status) k.receivers
      → r ≡ destination_allows (rule_of own.instruction.act) (seen_in own)
  closed-answer own same f r at so all =
      second-answer _ _ f r (at ∙ ap (λ g. fits_first_receiver g.status k.first.status) same-rule) so
      (all ∙ sym (all-receiving (λ v. is_not_closed v.status) k.receivers (shares k.instruction.act) is.in_order))
      ∙ ap (λ (x : Case). destination_allows (rule_of x.instruction.act) (seen_in x)) same
