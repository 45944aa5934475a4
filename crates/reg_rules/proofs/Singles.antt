-- An accepted act of one account: the account is there, it changes as the act says, and all others stay.
use Rattle.std.proofs.Common.{◌≡◌, ℕ, Bool, true, false, cond, ◌&&◌, eqb, List, [], ◌∷◌, map, Option, Some, None, refl}
use Rattle.std.proofs.Common.{sym, ap, subst, ◌∙◌}
use Rattle.std.specs.Prelude.{◌≢◌}
use Rattle.std.specs.Option.{option_map}
use Rattle.std.specs.List.{All, AllByRecursion}
use Rattle.std.proofs.lemmas.Bool.{eqb-true, eqb-false, eq-eqb, ne_eqb, not-false}
use Rattle.std.proofs.lemmas.Option.{same_Some, none-some}
use Rattle.std.proofs.lemmas.List.Elements.{recursion_from_All}
use Rattle.reg_base.specs.declared.shares.Share.{Share}
use Rattle.reg_base.specs.declared.act.Act.{Act}
use Rattle.reg_base.specs.declared.instruction.Instruction.{Instruction}
use Rattle.reg_base.specs.declared.refusals.Refusal.TheVariants.{WrongAccountKind}
use Rattle.reg_base.specs.Acts.{movement_of, first, shares}
use Rattle.reg_account.specs.Account.{AccountValue}
use Rattle.reg_rules.specs.ActRules.{rule_of, fits_first}
use Rattle.reg_rules.specs.State.{State, Setting, account, seen}
use Rattle.reg_rules.specs.Checks.{receivers_fit, has_right_kinds, refusal}
use Rattle.reg_rules.specs.Effect.{first_after, given, with_changes, changed_by, effect, CanFirst, IsBehind}
use Rattle.reg_rules.specs.Step.{step_by}
use Rattle.reg_rules.specs.Laws.{after_step, IsReady}
use Rattle.reg_rules.proofs.lemmas.Accounts.{account-number}
use Rattle.reg_rules.proofs.Passed.{passed}
use Rattle.reg_rules.proofs.Effects.{account-effect}
use Rattle.reg_rules.proofs.Firsts.{can-first}
use Rattle.reg_rules.proofs.Moves.{there}
use Rattle.reg_rules.proofs.Locality.{not-named}

-- the first account of an accepted act is there
pub first-there : (c : Setting) (s : State) (i : Instruction) → refusal c s i ≡ None → (v : AccountValue)
    × (account s (first i.act) ≡ Some v)
first-there c s i none =
    there (λ v. fits_first (rule_of i.act).kinds v.kind && receivers_fit (rule_of i.act).kinds v.kind (seen s i.act))
    (account s (first i.act))
    (not-false (has_right_kinds (rule_of i.act) (seen s i.act)) (passed c s i WrongAccountKind none refl))

-- what holds of all accounts holds of the one that a number leads to
all-found : (P : AccountValue → Type 0) (s : State) (a : ℕ) (v : AccountValue) → AllByRecursion P s
    → account s a ≡ Some v → P v
all-found P [] a v all found = absurd (none-some v found)
all-found P (x ∷ xs) a v all found = go (eqb x.number a) found (all-found P xs a v all.1) where
  go : (b : Bool) → cond b (Some x) (account xs a) ≡ Some v → (account xs a ≡ Some v → P v) → P v
  go true here more = subst P (same_Some x v here) all.0
  go false here more = more here

pub found-all : (P : AccountValue → Type 0) (s : State) (a : ℕ) (v : AccountValue) → All P s → account s a ≡ Some v
    → P v
found-all P s a v all found = all-found P s a v (recursion_from_All P s all) found

-- what an accepted act of one account does
pub record IsSingle (c : Setting) (s t : State) (n : ℕ) (act : Act) (v : AccountValue) : Type 0 where
  pub was : account s (first act) ≡ Some v
  pub now : account t (first act) ≡ Some (with_changes v (first_after c n act v))
  pub others : (b : ℕ) → b ≢ first act → account t b ≡ account s b

changed-first : (c : Setting) (n : ℕ) (act : Act) (v : AccountValue) → v.number ≡ first act
    → changed_by c n act v ≡ with_changes v (first_after c n act v)
changed-first c n act v same =
    ap (λ b. with_changes v (cond b (first_after c n act v) (given (movement_of act).kind (shares act) v)))
    (eq-eqb v.number (first act) same)

single-effect : (c : Setting) (s : State) (n : ℕ) (i : Instruction) (v : AccountValue) → shares i.act ≡ []
    → account s (first i.act) ≡ Some v → IsSingle c s (effect c s n i) n i.act v
single-effect c s n i v none found = record {
  was = found;
  now = account-effect c s n i (first i.act) ∙ ap (option_map (changed_by c n i.act)) found
      ∙ ap Some (changed-first c n i.act v (account-number s (first i.act) v found));
  others = λ b apart. account-effect c s n i b ∙ stays b apart (account s b) refl;
} where
  stays : (b : ℕ) → b ≢ first i.act → (o : Option AccountValue) → account s b ≡ o → option_map (changed_by c n i.act) o
      ≡ o
  stays b apart None at = refl
  stays b apart (Some u) at =
      let other : eqb (first i.act) u.number ≡ false =
      ne_eqb (first i.act) u.number (λ same. apart (sym (same ∙ account-number s b u at))) in
      ap Some (not-named c n i.act u
      (subst (λ (xs : List Share).
      AllByRecursion (λ a. eqb a u.number ≡ false) (first i.act ∷ map (λ share. share.to) xs)) (sym none)
      (other, tt)))

-- the account of an accepted act of one account
pub single : (c : Setting) (s : State) (n : ℕ) (i : Instruction) (act : Act) → i.act ≡ act → shares act ≡ []
    → refusal c s i ≡ None
    → (v : AccountValue) × IsSingle c s (after_step c s n i) n act v
single c s n i act is alone none =
    let at = first-there c s i none in
    let done : IsSingle c s (effect c s n i) n i.act at.0 = single-effect c s n i at.0 (ap shares is ∙ alone) at.1 in (
      at.0,
      subst (λ x. IsSingle c s (after_step c s n i) n x at.0) is
          (subst (λ (r : State). IsSingle c s r n i.act at.0) (ap (λ r. (step_by c s n i r).0) (sym none)) done),
    )

-- in a state that is ready, it has what its change needs
pub single-can : (c : Setting) (s : State) (n : ℕ) (i : Instruction) (act : Act) (v : AccountValue) → i.act ≡ act
    → IsReady n s → refusal c s i ≡ None → account s (first act) ≡ Some v → CanFirst c n act v
single-can c s n i act v is ready none found =
    subst (λ x. CanFirst c n x v) is
    (can-first c s n i v none (ap (λ x. account s (first x)) is ∙ found)
    (found-all (IsBehind n) s (first act) v ready.behind found))

-- a map that shows the same of the account before and after shows the same of all
pub stays : {Y : Type 0} (s t : State) (a : ℕ) (v w : AccountValue) (m : Option AccountValue → Y) → account s a ≡ Some v
    → account t a ≡ Some w → ((b : ℕ) → b ≢ a → account t b ≡ account s b)
    → m (Some w) ≡ m (Some v) → (b : ℕ) → m (account t b) ≡ m (account s b)
stays s t a v w m was now others same b = go (eqb b a) refl where
  go : (e : Bool) → eqb b a ≡ e → m (account t b) ≡ m (account s b)
  go true at = ap (λ x. m (account t x)) (eqb-true b a at) ∙ ap m now ∙ same ∙ sym (ap m was)
      ∙ sym (ap (λ x. m (account s x)) (eqb-true b a at))
  go false apart = ap m (others b (eqb-false b a apart))
