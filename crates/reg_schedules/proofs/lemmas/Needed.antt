-- The values that an instruction needs, taken together, are a state that agrees with the whole one at its accounts.
use Rattle.std.proofs.Common.{◌≡◌, ℕ, suc, length, Bool, true, false, cond, ◌||◌, eqb, List, [], ◌∷◌, Option, Some}
use Rattle.std.proofs.Common.{None, refl, sym, ap, ◌∙◌}
use Rattle.std.specs.Prelude.{is_some}
use Rattle.std.proofs.lemmas.Bool.{eq-eqb, eqb-true, or_left, or_right}
use Rattle.reg_base.specs.Footprint.{is_among}
use Rattle.reg_account.specs.Account.{AccountValue}
use Rattle.reg_rules.specs.State.{State, account}
use Rattle.reg_plan.specs.declared.arrow.Arrow.{Arrow}
use Rattle.reg_plan.specs.Plans.{PlanValue}
use Rattle.reg_rules.proofs.lemmas.Accounts.{account-number}
use Rattle.reg_schedules.specs.Pool.{Pool, tail_of, and_more, needed}
use Rattle.reg_schedules.specs.Docks.{names_needed}

-- these are the accounts of a state at these numbers, and nothing else
pub record AreTaken (plan : PlanValue) (pool : Pool) (place : ℕ) (t : State) (accounts : List ℕ) (own : State) :
    Type 0 where
  pub taken : needed plan pool place accounts ≡ Some own
  pub agree : (b : ℕ) → account own b ≡ cond (is_among accounts b) (account t b) None

pub all_needed : (plan : PlanValue) (pool : Pool) (place : ℕ) (t : State) (accounts : List ℕ)
    → ((a : ℕ) → is_among accounts a ≡ true → pool a (tail_of plan place a) ≡ account t a)
    → ((a : ℕ) → is_among accounts a ≡ true → is_some (account t a) ≡ true)
    → (own : State) × AreTaken plan pool place t accounts own
all_needed plan pool place t [] there known = ([], record { taken = refl; agree = λ b. refl })
all_needed plan pool place t (a ∷ more) there known =
    by (account t a) refl (known a (or_left (eqb a a) (is_among more a) (eq-eqb a a refl)))
    (all_needed plan pool place t more (λ b e. there b (or_right (eqb a b) (is_among more b) e))
    (λ b e. known b (or_right (eqb a b) (is_among more b) e)))
  where
    here : (v : AccountValue) → account t a ≡ Some v → pool a (tail_of plan place a) ≡ Some v
    here v e = there a (or_left (eqb a a) (is_among more a) (eq-eqb a a refl)) ∙ e

    pick : (v : AccountValue) → account t a ≡ Some v → (rest : Option AccountValue) (b : ℕ) (c : Bool) → eqb a b ≡ c
        → rest ≡ cond (is_among more b) (account t b) None
        → cond c (Some v) rest ≡ cond (c || is_among more b) (account t b) None
    pick v e rest b true same r = sym e ∙ ap (account t) (eqb-true a b same)
    pick v e rest b false other r = r

    by : (o : Option AccountValue) → account t a ≡ o → is_some o ≡ true
        → (own : State) × AreTaken plan pool place t more own
        → (own : State) × AreTaken plan pool place t (a ∷ more) own
    by None e h rest = absurd cc
    by (Some v) e h rest = (
      v ∷ rest.0,
      record {
        taken = ap (λ o. and_more o (needed plan pool place more)) (here v e) ∙ ap (and_more (Some v)) rest.1.taken;
        agree = λ b. ap (λ n. cond (eqb n b) (Some v) (account rest.0 b)) (account-number t a v e)
            ∙ pick v e (account rest.0 b) b (eqb a b) refl (rest.1.agree b);
      },
    )

-- if one of them is not in the pool, they are not taken
pub one_missing : (plan : PlanValue) (pool : Pool) (place : ℕ) (accounts : List ℕ) (a : ℕ) → is_among accounts a ≡ true
    → pool a (tail_of plan place a) ≡ None → needed plan pool place accounts ≡ None
one_missing plan pool place [] a among none = absurd cc
one_missing plan pool place (b ∷ more) a among none = by (eqb b a) refl among (one_missing plan pool place more a) where
  no_more : (o : Option AccountValue) → and_more o None ≡ None
  no_more None = refl
  no_more (Some v) = refl

  by : (c : Bool) → eqb b a ≡ c → (c || is_among more a) ≡ true
      → (is_among more a ≡ true → pool a (tail_of plan place a) ≡ None → needed plan pool place more ≡ None)
      → needed plan pool place (b ∷ more) ≡ None
  by true same e rest = ap (λ o. and_more o (needed plan pool place more))
      (ap (λ n. pool n (tail_of plan place n)) (eqb-true b a same) ∙ none)
  by false other e rest = ap (and_more (pool b (tail_of plan place b))) (rest e none)
      ∙ no_more (pool b (tail_of plan place b))

-- as many names as accounts
pub length_needed : (arrows : List Arrow) (accounts : List ℕ) → length (names_needed arrows accounts) ≡ length accounts
length_needed arrows [] = refl
length_needed arrows (a ∷ more) = ap suc (length_needed arrows more)
