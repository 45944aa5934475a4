-- What an accepted act that moves allowances from one account to another makes of the state.
use Rattle.std.proofs.Common.{◌≡◌, ℕ, ◌+◌, ◌-◌, ◌≤◌, Bool, true, false, cond, ◌||◌, ◌&&◌, eqb, [], ◌∷◌, map, Option}
use Rattle.std.proofs.Common.{Some, None, refl, sym, ap, ◌∙◌, subst}
use Rattle.std.specs.Prelude.{◌≢◌}
use Rattle.std.specs.Option.{option_map, option_map_or, option_to_list}
use Rattle.std.proofs.lemmas.Bool.{eq-eqb, ne_eqb, eqb-false, ltb-false, not-false, and_parts}
use Rattle.reg_base.specs.declared.kinds.AllowanceKind.{AllowanceKind}
use Rattle.reg_base.specs.declared.kinds.AllowanceKind.TheVariants.{General, Aviation}
use Rattle.reg_base.specs.declared.shares.Share.{Share}
use Rattle.reg_base.specs.declared.movement.Movement.{Movement}
use Rattle.reg_base.specs.declared.refusals.Refusal.TheVariants.{SameAccount, WrongAccountKind, NotEnough}
use Rattle.reg_base.specs.declared.act.Act.{Act}
use Rattle.reg_base.specs.declared.instruction.Instruction.{Instruction}
use Rattle.reg_base.specs.Acts.{passing, movement_of, parties, also_known}
use Rattle.reg_account.specs.declared.account_parts.Holdings.{Holdings}
use Rattle.reg_account.specs.Trusted.{effective_in}
use Rattle.reg_account.specs.Years.{emissions_in, figure_in}
use Rattle.reg_account.specs.Account.{AccountValue, amount_of, with_amount, held_by, credited, debited}
use Rattle.reg_rules.specs.ActRules.{rule_of, fits_first, fits_receiver}
use Rattle.reg_rules.specs.State.{State, Setting, seen_by, account, held, passes}
use Rattle.reg_rules.specs.Checks.{has_repeat, receivers_fit, has_right_kinds, is_short, refusal}
use Rattle.reg_rules.specs.Effect.{made_by, first_after, given, with_changes, effect}
use Rattle.reg_rules.specs.Step.{step_by}
use Rattle.reg_rules.specs.Laws.{set_aside, after_step}
use Rattle.reg_rules.specs.ActLaws.{IsMoved}
use Rattle.reg_rules.proofs.lemmas.Accounts.{account-number}
use Rattle.reg_rules.proofs.Passed.{passed}
use Rattle.reg_rules.proofs.Repeats.{repeats-none}
use Rattle.reg_rules.proofs.Effects.{account-effect}
use Rattle.reg_rules.proofs.Firsts.{or-left}

-- the kind that was set, and the other one
pub amount-with : (h : Holdings) (kind : AllowanceKind) (n : ℕ) → amount_of (with_amount h kind n) kind ≡ n
amount-with h General n = refl
amount-with h Aviation n = refl

pub amount-without : (h : Holdings) (kind other : AllowanceKind) (n : ℕ) → other ≢ kind
    → amount_of (with_amount h kind n) other ≡ amount_of h other
amount-without h General General n apart = absurd (apart refl)
amount-without h General Aviation n apart = refl
amount-without h Aviation General n apart = refl
amount-without h Aviation Aviation n apart = absurd (apart refl)

-- a test that passes passes at an account
pub there : (test : AccountValue → Bool) (o : Option AccountValue) → passes test o ≡ true → (v : AccountValue)
    × (o ≡ Some v)
there test None h = absurd (let e : false ≡ true = h in cc)
there test (Some v) h = (v, refl)

-- what a change keeps of each account, a number leads to as before
pub mapped-or : {Y : Type 0} (m : AccountValue → Y) (d : Y) (f : AccountValue → AccountValue) (o : Option AccountValue)
    → ((v : AccountValue) → m (f v) ≡ m v) → option_map_or m (option_map f o) d ≡ option_map_or m o d
mapped-or m d f None same = refl
mapped-or m d f (Some v) same = same v

pub aside-mapped : (f : AccountValue → AccountValue) (o : Option AccountValue)
    → ((v : AccountValue) → set_aside (f v) ≡ set_aside v) → option_map set_aside (option_map f o)
    ≡ option_map set_aside o
aside-mapped f None same = refl
aside-mapped f (Some v) same = ap Some (same v)

pub status-mapped : (f : AccountValue → AccountValue) (o : Option AccountValue)
    → ((v : AccountValue) → (f v).status ≡ v.status) → option_map (λ (v : AccountValue). v.status) (option_map f o)
    ≡ option_map (λ (v : AccountValue). v.status) o
status-mapped f None same = refl
status-mapped f (Some v) same = ap Some (same v)

module _ (from to : ℕ) (kind : AllowanceKind) (amount : ℕ) where
  -- an account after the movement: the giver debited, and the other one with its share
  after : AccountValue → AccountValue
  after v = with_changes v (cond (eqb v.number from) (debited v kind amount)
      (given kind (record { to = to; amount = amount } ∷ []) v))

  -- an account after the movement, by whether it gives and whether it receives
  after-by : Bool → Bool → AccountValue → AccountValue
  after-by gives takes v = with_changes v
      (cond gives (debited v kind amount)
      (option_map_or (λ (share : Share). credited v kind share.amount)
      (cond takes (Some (record { to = to; amount = amount })) None) v))

  after-is : (v : AccountValue) (gives takes : Bool) → eqb v.number from ≡ gives → eqb to v.number ≡ takes
      → after v ≡ after-by gives takes v
  unfolding after after-by
  after-is v gives takes g t = ap (λ b. after-by b (eqb to v.number) v) g ∙ ap (λ b. after-by gives b v) t

  kept-other_kind : (other : AllowanceKind) → other ≢ kind → (gives takes : Bool) (v : AccountValue)
      → held_by (after-by gives takes v) other ≡ held_by v other
  unfolding after-by
  kept-other_kind other apart true takes v = amount-without v.held kind other (held_by v kind - amount) apart
  kept-other_kind other apart false true v = amount-without v.held kind other (held_by v kind + amount) apart
  kept-other_kind other apart false false v = refl

  after-other_kind : (other : AllowanceKind) → other ≢ kind → (v : AccountValue)
      → held_by (after v) other ≡ held_by v other
  after-other_kind other apart v =
      ap (λ (w : AccountValue). held_by w other) (after-is v (eqb v.number from) (eqb to v.number) refl refl)
      ∙ kept-other_kind other apart (eqb v.number from) (eqb to v.number) v

  -- what does not look at the holdings stays
  kept : {Y : Type 0} (m : AccountValue → Y) → ((v : AccountValue) (h : Holdings) → m (record v { held = h }) ≡ m v)
      → (gives takes : Bool) (v : AccountValue) → m (after-by gives takes v) ≡ m v
  unfolding after-by
  kept m same true takes v = same v _
  kept m same false true v = same v _
  kept m same false false v = refl

  after-keeps : {Y : Type 0} (m : AccountValue → Y)
      → ((v : AccountValue) (h : Holdings) → m (record v { held = h }) ≡ m v) → (v : AccountValue) → m (after v) ≡ m v
  after-keeps m same v = ap m (after-is v (eqb v.number from) (eqb to v.number) refl refl)
      ∙ kept m same (eqb v.number from) (eqb to v.number) v

  after-aside : (v : AccountValue) → set_aside (after v) ≡ set_aside v
  unfolding after
  after-aside v = refl

  after-giver : (v : AccountValue) → v.number ≡ from → held_by (after v) kind ≡ held_by v kind - amount
  unfolding after-by
  after-giver v is =
      ap (λ (w : AccountValue). held_by w kind) (after-is v true (eqb to v.number) (eq-eqb v.number from is) refl)
      ∙ amount-with v.held kind (held_by v kind - amount)

  after-taker : (v : AccountValue) → v.number ≢ from → v.number ≡ to → held_by (after v) kind ≡ held_by v kind + amount
  unfolding after-by
  after-taker v differs is =
      ap (λ (w : AccountValue). held_by w kind)
      (after-is v false true (ne_eqb v.number from differs) (eq-eqb to v.number (sym is)))
      ∙ amount-with v.held kind (held_by v kind + amount)

  after-neither : (v : AccountValue) → v.number ≢ from → v.number ≢ to → after v ≡ v
  unfolding after-by
  after-neither v not-from not-to =
      after-is v false false (ne_eqb v.number from not-from) (ne_eqb to v.number (λ same. not-to (sym same)))

  -- a state t in which each account of the state s is as the movement leaves it
  moved-state : (s t : State) → from ≢ to → ((a : ℕ) → account t a ≡ option_map after (account s a))
      → (giver taker : AccountValue) → account s from ≡ Some giver → account s to ≡ Some taker
      → amount ≤ held s from kind → IsMoved s t from to kind amount
  moved-state s t two changed giver taker gives takes enough = record {
    enough = enough;
    lowered =
        ap (λ o. option_map_or (λ w. held_by w kind) o 0) (changed from ∙ ap (option_map after) gives)
        ∙ after-giver giver (account-number s from giver gives)
        ∙ ap (λ o. option_map_or (λ w. held_by w kind) o 0 - amount) (sym gives);
    raised =
        ap (λ o. option_map_or (λ w. held_by w kind) o 0) (changed to ∙ ap (option_map after) takes)
        ∙ after-taker taker (λ same. two (sym same ∙ account-number s to taker takes)) (account-number s to taker takes)
        ∙ ap (λ o. option_map_or (λ w. held_by w kind) o 0 + amount) (sym takes);
    other_kinds = λ a other differs. ap (λ o. option_map_or (λ w. held_by w other) o 0) (changed a)
        ∙ mapped-or (λ v. held_by v other) 0 after (account s a) (after-other_kind other differs);
    other_accounts = λ a not-from not-to. changed a ∙ stays a not-from not-to (account s a) refl;
    rows_stay = λ a. ap (λ o. option_map_or (λ (w : AccountValue). w.rows) o []) (changed a)
        ∙ mapped-or (λ v. v.rows) [] after (account s a) (after-keeps (λ v. v.rows) (λ v h. refl));
    emissions_stay = λ a year. ap (λ o. option_map_or (λ (w : AccountValue). emissions_in w.emissions year) o None)
        (changed a) ∙ mapped-or (λ v. emissions_in v.emissions year) None after (account s a)
        (after-keeps (λ v. emissions_in v.emissions year) (λ v h. refl));
    figures_stay = λ a year. ap (λ o. option_map_or (λ (w : AccountValue). figure_in w.figures year) o None) (changed a)
        ∙ mapped-or (λ v. figure_in v.figures year) None after (account s a)
        (after-keeps (λ v. figure_in v.figures year) (λ v h. refl));
    lists_stay = λ a other. ap (λ o. option_map_or (λ (w : AccountValue). effective_in w.trusted other) o None)
        (changed a) ∙ mapped-or (λ v. effective_in v.trusted other) None after (account s a)
        (after-keeps (λ v. effective_in v.trusted other) (λ v h. refl));
    statuses_stay = λ a. ap (option_map (λ (w : AccountValue). w.status)) (changed a)
        ∙ status-mapped after (account s a) (after-keeps (λ v. v.status) (λ v h. refl));
    rest_stays = λ a. ap (option_map set_aside) (changed a) ∙ aside-mapped after (account s a) after-aside;
  } where
    stays : (a : ℕ) → a ≢ from → a ≢ to → (o : Option AccountValue) → account s a ≡ o → option_map after o ≡ o
    stays a not-from not-to None found = refl
    stays a not-from not-to (Some v) found =
        let number = account-number s a v found in
        ap Some (after-neither v (λ same. not-from (sym number ∙ same)) (λ same. not-to (sym number ∙ same)))

module _ (c : Setting) (s : State) (n : ℕ) (i : Instruction) (from to : ℕ) (kind : AllowanceKind) (amount : ℕ)
    (is : movement_of i.act ≡ passing from to kind amount) (debits : (v : AccountValue)
    → first_after c n i.act v ≡ debited v kind amount) (none : refusal c s i ≡ None) where
  two : from ≢ to
  two = λ same.
      eqb-false to from (or-left (eqb to from) false (or-left (eqb to from || false) false
      (ap (λ (m : Movement). has_repeat (m.first ∷ map (λ share. share.to) m.shares)) (sym is)
      ∙ repeats-none (parties i.act) (option_to_list (also_known i.act)) (passed c s i SameAccount none refl))))
      (sym same)

  kinds : has_right_kinds (rule_of i.act) (seen_by (passing from to kind amount) s) ≡ true
  kinds =
      ap (λ m. has_right_kinds (rule_of i.act) (seen_by m s)) (sym is)
      ∙ not-false (has_right_kinds (rule_of i.act) (seen_by (movement_of i.act) s))
      (passed c s i WrongAccountKind none refl)

  -- both accounts are there
  both : (giver : AccountValue) × (account s from ≡ Some giver) × ((taker : AccountValue) × (account s to ≡ Some taker))
  both =
      let giver = there (λ v. fits_first (rule_of i.act).kinds v.kind
      && receivers_fit (rule_of i.act).kinds v.kind (seen_by (passing from to kind amount) s))
      (account s from) kinds in
      let at : (fits_first (rule_of i.act).kinds giver.0.kind
      && receivers_fit (rule_of i.act).kinds giver.0.kind (seen_by (passing from to kind amount) s)) ≡ true =
      ap (passes (λ v. fits_first (rule_of i.act).kinds v.kind
      && receivers_fit (rule_of i.act).kinds v.kind (seen_by (passing from to kind amount) s))) (sym giver.1)
      ∙ kinds in
      let received = (and_parts (fits_first (rule_of i.act).kinds giver.0.kind)
      (receivers_fit (rule_of i.act).kinds giver.0.kind (seen_by (passing from to kind amount) s)) at).1 in
      let taker = there (λ v. fits_receiver (rule_of i.act).kinds giver.0.kind v.kind) (account s to)
      (and_parts (passes (λ v. fits_receiver (rule_of i.act).kinds giver.0.kind v.kind) (account s to)) true
      received).0 in
      (giver.0, giver.1, taker)

  enough : amount ≤ held s from kind
  enough = ltb-false (held s from kind) amount (ap (λ m. is_short m (seen_by m s)) (sym is)
      ∙ passed c s i NotEnough none refl)

  changed : (a : ℕ) → account (effect c s n i) a ≡ option_map (after from to kind amount) (account s a)
  unfolding after
  changed a =
      account-effect c s n i a
      ∙ ap (λ (m : Movement). option_map
      (λ v. with_changes v (cond (eqb v.number m.first) (first_after c n i.act v) (given m.kind m.shares v)))
      (account s a)) is
      ∙ ap (λ (f : AccountValue → AccountValue).
      option_map (λ v. with_changes v
      (cond (eqb v.number from) (f v) (given kind (record { to = to; amount = amount } ∷ []) v))) (account s a))
      (λ j v. debits v j)

  moved-effect : IsMoved s (effect c s n i) from to kind amount
  moved-effect = moved-state from to kind amount s (effect c s n i) two changed both.0 both.2.0 both.1 both.2.1 enough

-- an accepted act that is a movement between two accounts moves its amount
pub moves : (c : Setting) (s : State) (n : ℕ) (i : Instruction) (from to : ℕ) (kind : AllowanceKind) (amount : ℕ)
    (act : Act)
    → i.act ≡ act → movement_of act ≡ passing from to kind amount → refusal c s i ≡ None
    → IsMoved s (after_step c s n i) from to kind amount
moves c s n i from to kind amount act is made none =
    let moved : movement_of i.act ≡ passing from to kind amount = ap movement_of is ∙ made in
    subst (λ (r : State). IsMoved s r from to kind amount) (ap (λ r. (step_by c s n i r).0) (sym none))
    (moved-effect c s n i from to kind amount moved (λ v. ap (λ (m : Movement). made_by c n m.change v) moved) none)
