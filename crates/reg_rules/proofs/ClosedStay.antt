-- An accepted instruction touches no closed account, so a closed account stays as it is.
use Rattle.std.proofs.Common.{◌≡◌, Bool, true, false, List, [], ◌∷◌, map, Option, Some, None, refl, sym, ap, subst, ◌∙◌}
use Rattle.std.specs.Option.{option_map}
use Rattle.std.specs.List.{AllByRecursion, list_all}
use Rattle.std.proofs.lemmas.Bool.{not-false, and_parts}
use Rattle.std.proofs.lemmas.Option.{same_Some, none-some}
use Rattle.std.proofs.lemmas.List.Elements.{All-from_recursion, All-contains}
use Rattle.reg_base.specs.declared.kinds.Status.{Status}
use Rattle.reg_base.specs.declared.kinds.Status.TheVariants.{Opened, Blocked, Excluded, Closed}
use Rattle.reg_base.specs.declared.shares.Share.{Share}
use Rattle.reg_base.specs.declared.instruction.Instruction.{Instruction}
use Rattle.reg_base.specs.declared.refusals.Refusal.{Refusal}
use Rattle.reg_base.specs.declared.refusals.Refusal.TheVariants.{SourceStatus, DestinationStatus}
use Rattle.reg_base.specs.Acts.{first, shares, parties}
use Rattle.reg_base.specs.Footprint.{footprint}
use Rattle.reg_account.specs.Account.{AccountValue}
use Rattle.reg_rules.specs.declared.rule.StatusRule.{StatusRule}
use Rattle.reg_rules.specs.declared.rule.StatusRule.TheVariants.{IsOpened, OpenedOrBlocked, NotClosed, AsReceiver}
use Rattle.reg_rules.specs.ActRules.{rule_of, fits_source, fits_first_receiver, is_not_closed}
use Rattle.reg_rules.specs.State.{State, Setting, Receiver, account, seen, passes}
use Rattle.reg_rules.specs.Checks.{source_allows, destination_allows, refusal}
use Rattle.reg_rules.specs.Step.{step_by}
use Rattle.reg_rules.specs.Closed.{NothingIsDoneOnClosed, ClosedStaysInStep, ClosedIsNeverLeftInStep}
use Rattle.reg_rules.proofs.Applied.{footprint-passed}
use Rattle.reg_rules.proofs.Locality.{other-stays}
use Rattle.reg_rules.proofs.Passed.{passed}

-- the account is there, and not closed
abbrev is-there_open : Option AccountValue → Bool
is-there_open o = passes (λ v. is_not_closed v.status) o

-- what the first account's status allows, as a source and as a receiver, closed does not
not-closed : (rule : StatusRule) (own : Status) → fits_source rule own ≡ true → fits_first_receiver rule own ≡ true
    → is_not_closed own ≡ true
not-closed rule Opened source receiver = refl
not-closed rule Blocked source receiver = refl
not-closed rule Excluded source receiver = refl
not-closed IsOpened Closed source receiver = source
not-closed OpenedOrBlocked Closed source receiver = source
not-closed NotClosed Closed source receiver = source
not-closed AsReceiver Closed source receiver = receiver

first-open : (rule : StatusRule) (o : Option AccountValue) → passes (λ v. fits_source rule v.status) o ≡ true
    → passes (λ v. fits_first_receiver rule v.status) o ≡ true → is-there_open o ≡ true
first-open rule None source receiver = source
first-open rule (Some v) source receiver = not-closed rule v.status source receiver

receivers-open : (s : State) (shared : List Share)
    → list_all (λ (r : Receiver). is-there_open r.account)
    (map (λ share. record { account = account s share.to; amount = share.amount }) shared) ≡ true
    → AllByRecursion (λ a. is-there_open (account s a) ≡ true) (map (λ share. share.to) shared)
receivers-open s [] all = tt
receivers-open s (x ∷ xs) all =
    let parts = and_parts (is-there_open (account s x.to))
    (list_all (λ (r : Receiver). is-there_open r.account)
    (map (λ share. record { account = account s share.to; amount = share.amount }) xs)) all in
    (parts.0, receivers-open s xs parts.1)

-- each account of an accepted act is there, and not closed
parties-open : (c : Setting) (s : State) (i : Instruction) → refusal c s i ≡ None
    → AllByRecursion (λ a. is-there_open (account s a) ≡ true) (parties i.act)
parties-open c s i none =
    let source = not-false (source_allows (rule_of i.act) (seen s i.act)) (passed c s i SourceStatus none refl) in
    let destination = not-false (destination_allows (rule_of i.act) (seen s i.act))
    (passed c s i DestinationStatus none refl) in
    let parts = and_parts (passes (λ v. fits_first_receiver (rule_of i.act).status v.status) (account s (first i.act)))
    (list_all (λ (r : Receiver). is-there_open r.account) (seen s i.act).receivers) destination in (
      first-open (rule_of i.act).status (account s (first i.act)) source parts.0,
      receivers-open s (shares i.act) parts.1,
    )

open-apart : (o : Option AccountValue) → is-there_open o ≡ true → option_map (λ (v : AccountValue). v.status) o
    ≡ Some Closed → ⊥
open-apart None there closed = absurd (none-some Closed closed)
open-apart (Some v) there closed = let e : false ≡ true =
    sym (ap is_not_closed (same_Some v.status Closed closed)) ∙ there in absurd (cc)

pub done-on_none : NothingIsDoneOnClosed
done-on_none c s i a none touched closed =
    let all = All-from_recursion (λ m. is-there_open (account s m) ≡ true) (footprint c.directory i.act)
    (subst (AllByRecursion (λ m. is-there_open (account s m) ≡ true)) (sym (footprint-passed c s i none))
    (parties-open c s i none)) in
    open-apart (account s a) (All-contains (λ m. is-there_open (account s m) ≡ true)
    (footprint c.directory i.act) a all touched) closed

pub closed-stays : ClosedStaysInStep
closed-stays c s n i a closed = go (refusal c s i) refl where
  go : (r : Option Refusal) → refusal c s i ≡ r → account (step_by c s n i r).0 a ≡ account s a
  go None none = ap (λ r. account (step_by c s n i r).0 a) (sym none)
      ∙ other-stays c s n i a (λ touched. done-on_none c s i a none touched closed)
  go (Some q) refused = refl

pub closed-never_left : ClosedIsNeverLeftInStep
closed-never_left c s n i a closed = ap (option_map (λ (v : AccountValue). v.status)) (closed-stays c s n i a closed)
    ∙ closed
