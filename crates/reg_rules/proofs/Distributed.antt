-- What an accepted distribution makes of the state.
use Rattle.std.proofs.Common.{◌≡◌, ℕ, ◌+◌, ◌-◌, ◌≤◌, Bool, true, false, cond, eqb, List, [], ◌∷◌, map, Option, Some}
use Rattle.std.proofs.Common.{None, refl, sym, ap, ◌∙◌, subst}
use Rattle.std.specs.Prelude.{◌≢◌}
use Rattle.std.specs.Option.{option_map, option_map_or, option_to_list}
use Rattle.std.specs.List.{AllByRecursion, list_any}
use Rattle.std.proofs.lemmas.Bool.{eq-eqb, ne_eqb, eqb-false, ltb-false}
use Rattle.std.proofs.lemmas.List.Elements.{All-from_recursion}
use Rattle.reg_base.specs.declared.kinds.AllowanceKind.{AllowanceKind}
use Rattle.reg_base.specs.declared.shares.Share.{Share}
use Rattle.reg_base.specs.declared.act.Act.{Act}
use Rattle.reg_base.specs.declared.act.Act.TheVariants.{Distribute}
use Rattle.reg_base.specs.declared.refusals.Refusal.TheVariants.{SameAccount, NotEnough}
use Rattle.reg_base.specs.declared.instruction.Instruction.{Instruction}
use Rattle.reg_base.specs.Acts.{total_of, movement_of, shares, parties, also_known}
use Rattle.reg_base.specs.Footprint.{is_among}
use Rattle.reg_account.specs.declared.account_parts.Holdings.{Holdings}
use Rattle.reg_account.specs.Trusted.{effective_in}
use Rattle.reg_account.specs.Years.{emissions_in, figure_in}
use Rattle.reg_account.specs.Account.{AccountValue, held_by, credited, debited}
use Rattle.reg_rules.specs.State.{State, Setting, seen_by, account, held}
use Rattle.reg_rules.specs.Checks.{has_repeat, is_short, refusal}
use Rattle.reg_rules.specs.Effect.{first_after, share_of, given, with_changes, effect}
use Rattle.reg_rules.specs.Step.{step_by}
use Rattle.reg_rules.specs.Laws.{set_aside}
use Rattle.reg_rules.specs.ActLaws.{IsDistributed, Distributes}
use Rattle.reg_rules.proofs.lemmas.Accounts.{account-number}
use Rattle.reg_rules.proofs.Passed.{passed}
use Rattle.reg_rules.proofs.Repeats.{repeats-none}
use Rattle.reg_rules.proofs.Effects.{account-effect}
use Rattle.reg_rules.proofs.Firsts.{or-left, or-right}
use Rattle.reg_rules.proofs.Moves.{amount-with, amount-without, mapped-or, aside-mapped, status-mapped}
use Rattle.reg_rules.proofs.Singles.{first-there}
use Rattle.reg_rules.proofs.Conserved.{no-share, receivers-there}

-- ---- each account that receives has its own share

keep-own : (x : Share) (xs ys : List Share) → list_any (λ a. eqb a x.to) (map (λ share. share.to) ys) ≡ false
    → AllByRecursion (λ y. share_of xs y.to ≡ Some y) ys → AllByRecursion (λ y. share_of (x ∷ xs) y.to ≡ Some y) ys
keep-own x xs [] apart own = tt
keep-own x xs (y ∷ ys) apart own =
    let here = or-left (eqb y.to x.to) (list_any (λ a. eqb a x.to) (map (λ share. share.to) ys)) apart in
    let later = or-right (eqb y.to x.to) (list_any (λ a. eqb a x.to) (map (λ share. share.to) ys)) apart in (
      ap (λ b. cond b (Some x) (share_of xs y.to)) (ne_eqb x.to y.to (λ same. eqb-false y.to x.to here (sym same)))
          ∙ own.0,
      keep-own x xs ys later own.1,
    )

each-own : (shared : List Share) → has_repeat (map (λ share. share.to) shared) ≡ false
    → AllByRecursion (λ y. share_of shared y.to ≡ Some y) shared
each-own [] once = tt
each-own (x ∷ xs) once =
    let apart = or-left (list_any (λ a. eqb a x.to) (map (λ share. share.to) xs))
    (has_repeat (map (λ share. share.to) xs)) once in
    let rest = or-right (list_any (λ a. eqb a x.to) (map (λ share. share.to) xs))
    (has_repeat (map (λ share. share.to) xs)) once in
    (ap (λ b. cond b (Some x) (share_of xs x.to)) (eq-eqb x.to x.to refl), keep-own x xs xs apart (each-own xs rest))

module _ (from : ℕ) (kind : AllowanceKind) (shared : List Share) where
  -- an account after the distribution: the giver debited, and each other one with its share
  after : AccountValue → AccountValue
  after v = with_changes v (cond (eqb v.number from) (debited v kind (total_of shared)) (given kind shared v))

  -- an account after the distribution, by whether it gives and what it receives
  after-by : Bool → Option Share → AccountValue → AccountValue
  after-by gives got v = with_changes v
      (cond gives (debited v kind (total_of shared))
      (option_map_or (λ (share : Share). credited v kind share.amount) got v))

  after-is : (v : AccountValue) (gives : Bool) (got : Option Share) → eqb v.number from ≡ gives
      → share_of shared v.number ≡ got → after v ≡ after-by gives got v
  unfolding after after-by
  after-is v gives got g t = ap (λ b. after-by b (share_of shared v.number) v) g ∙ ap (λ o. after-by gives o v) t

  kept-other_kind : (other : AllowanceKind) → other ≢ kind → (gives : Bool) (got : Option Share) (v : AccountValue)
      → held_by (after-by gives got v) other ≡ held_by v other
  unfolding after-by
  kept-other_kind other apart true got v = amount-without v.held kind other (held_by v kind - total_of shared) apart
  kept-other_kind other apart false (Some x) v = amount-without v.held kind other (held_by v kind + x.amount) apart
  kept-other_kind other apart false None v = refl

  after-other_kind : (other : AllowanceKind) → other ≢ kind → (v : AccountValue)
      → held_by (after v) other ≡ held_by v other
  after-other_kind other apart v =
      ap (λ (w : AccountValue). held_by w other) (after-is v (eqb v.number from) (share_of shared v.number) refl refl)
      ∙ kept-other_kind other apart (eqb v.number from) (share_of shared v.number) v

  -- what does not look at the holdings stays
  kept : {Y : Type 0} (m : AccountValue → Y) → ((v : AccountValue) (h : Holdings) → m (record v { held = h }) ≡ m v)
      → (gives : Bool) (got : Option Share) (v : AccountValue) → m (after-by gives got v) ≡ m v
  unfolding after-by
  kept m same true got v = same v _
  kept m same false (Some x) v = same v _
  kept m same false None v = refl

  after-keeps : {Y : Type 0} (m : AccountValue → Y)
      → ((v : AccountValue) (h : Holdings) → m (record v { held = h }) ≡ m v) → (v : AccountValue) → m (after v) ≡ m v
  after-keeps m same v = ap m (after-is v (eqb v.number from) (share_of shared v.number) refl refl)
      ∙ kept m same (eqb v.number from) (share_of shared v.number) v

  after-aside : (v : AccountValue) → set_aside (after v) ≡ set_aside v
  unfolding after
  after-aside v = refl

  after-giver : (v : AccountValue) → v.number ≡ from → held_by (after v) kind ≡ held_by v kind - total_of shared
  unfolding after-by
  after-giver v is =
      ap (λ (w : AccountValue). held_by w kind)
      (after-is v true (share_of shared v.number) (eq-eqb v.number from is) refl)
      ∙ amount-with v.held kind (held_by v kind - total_of shared)

  after-taker : (v : AccountValue) (x : Share) → v.number ≢ from → share_of shared v.number ≡ Some x
      → held_by (after v) kind ≡ held_by v kind + x.amount
  unfolding after-by
  after-taker v x differs own =
      ap (λ (w : AccountValue). held_by w kind) (after-is v false (Some x) (ne_eqb v.number from differs) own)
      ∙ amount-with v.held kind (held_by v kind + x.amount)

  after-neither : (v : AccountValue) → v.number ≢ from → share_of shared v.number ≡ None → after v ≡ v
  unfolding after-by
  after-neither v differs none = after-is v false None (ne_eqb v.number from differs) none

  -- a state t in which each account of the state s is as the distribution leaves it
  module _ (s t : State) (changed : (a : ℕ) → account t a ≡ option_map after (account s a)) where
    each-raised : (ys : List Share) → list_any (λ a. eqb a from) (map (λ share. share.to) ys) ≡ false
        → AllByRecursion (λ y. share_of shared y.to ≡ Some y) ys
        → AllByRecursion (λ share. (v : AccountValue) × (account s share.to ≡ Some v)) ys
        → AllByRecursion (λ share. held t share.to kind ≡ held s share.to kind + share.amount) ys
    each-raised [] apart own takers = tt
    each-raised (y ∷ ys) apart own takers =
        let v = takers.0.0 in
        let found = takers.0.1 in
        let number = account-number s y.to v found in
        let here = or-left (eqb y.to from) (list_any (λ a. eqb a from) (map (λ share. share.to) ys)) apart in
        let later = or-right (eqb y.to from) (list_any (λ a. eqb a from) (map (λ share. share.to) ys)) apart in (
          ap (λ o. option_map_or (λ w. held_by w kind) o 0) (changed y.to ∙ ap (option_map after) found)
              ∙ after-taker v y (λ same. eqb-false y.to from here (sym number ∙ same)) (ap (share_of shared) number
              ∙ own.0)
              ∙ ap (λ o. option_map_or (λ w. held_by w kind) o 0 + y.amount) (sym found),
          each-raised ys later own.1 takers.1,
        )

    distributed-state : list_any (λ a. eqb a from) (map (λ share. share.to) shared) ≡ false
        → has_repeat (map (λ share. share.to) shared) ≡ false
        → (giver : AccountValue) → account s from ≡ Some giver
        → AllByRecursion (λ share. (v : AccountValue) × (account s share.to ≡ Some v)) shared
        → total_of shared ≤ held s from kind → IsDistributed s t from kind shared
    distributed-state apart once giver gives takers enough = record {
      enough = enough;
      lowered =
          ap (λ o. option_map_or (λ w. held_by w kind) o 0) (changed from ∙ ap (option_map after) gives)
          ∙ after-giver giver (account-number s from giver gives)
          ∙ ap (λ o. option_map_or (λ w. held_by w kind) o 0 - total_of shared) (sym gives);
      raised = All-from_recursion _ shared (each-raised shared apart (each-own shared once) takers);
      other_kinds = λ a other differs. ap (λ o. option_map_or (λ w. held_by w other) o 0) (changed a)
          ∙ mapped-or (λ v. held_by v other) 0 after (account s a) (after-other_kind other differs);
      other_accounts = λ a not-from not-to. changed a ∙ stays a not-from not-to (account s a) refl;
      rows_stay = λ a. ap (λ o. option_map_or (λ (w : AccountValue). w.rows) o []) (changed a)
          ∙ mapped-or (λ v. v.rows) [] after (account s a) (after-keeps (λ v. v.rows) (λ v h. refl));
      emissions_stay = λ a year. ap (λ o. option_map_or (λ (w : AccountValue). emissions_in w.emissions year) o None)
          (changed a) ∙ mapped-or (λ v. emissions_in v.emissions year) None after (account s a)
          (after-keeps (λ v. emissions_in v.emissions year) (λ v h. refl));
      figures_stay = λ a year. ap (λ o. option_map_or (λ (w : AccountValue). figure_in w.figures year) o None)
          (changed a) ∙ mapped-or (λ v. figure_in v.figures year) None after (account s a)
          (after-keeps (λ v. figure_in v.figures year) (λ v h. refl));
      lists_stay = λ a other. ap (λ o. option_map_or (λ (w : AccountValue). effective_in w.trusted other) o None)
          (changed a) ∙ mapped-or (λ v. effective_in v.trusted other) None after (account s a)
          (after-keeps (λ v. effective_in v.trusted other) (λ v h. refl));
      statuses_stay = λ a. ap (option_map (λ (w : AccountValue). w.status)) (changed a)
          ∙ status-mapped after (account s a) (after-keeps (λ v. v.status) (λ v h. refl));
      rest_stays = λ a. ap (option_map set_aside) (changed a) ∙ aside-mapped after (account s a) after-aside;
    } where
      stays : (a : ℕ) → a ≢ from → is_among (map (λ share. share.to) shared) a ≡ false → (o : Option AccountValue)
          → account s a ≡ o → option_map after o ≡ o
      stays a not-from not-to None found = refl
      stays a not-from not-to (Some v) found =
          let number = account-number s a v found in
          ap Some (after-neither v (λ same. not-from (sym number ∙ same)) (ap (share_of shared) number
          ∙ no-share a shared not-to))

module _ (c : Setting) (s : State) (n : ℕ) (i : Instruction) (from : ℕ) (kind : AllowanceKind) (shared : List Share)
    (is : i.act ≡ Distribute from kind shared) (none : refusal c s i ≡ None) where
  once-each : has_repeat (from ∷ map (λ share. share.to) shared) ≡ false
  once-each = ap (λ act. has_repeat (parties act)) (sym is)
      ∙ repeats-none (parties i.act) (option_to_list (also_known i.act)) (passed c s i SameAccount none refl)

  enough-held : total_of shared ≤ held s from kind
  enough-held = ltb-false (held s from kind) (total_of shared)
      (ap (λ act. is_short (movement_of act) (seen_by (movement_of act) s)) (sym is) ∙ passed c s i NotEnough none refl)

  changed-each : (a : ℕ) → account (effect c s n i) a ≡ option_map (after from kind shared) (account s a)
  unfolding after
  changed-each a =
      account-effect c s n i a
      ∙ ap (λ act. option_map (λ v.
      with_changes v (cond (eqb v.number (movement_of act).first) (first_after c n act v)
      (given (movement_of act).kind (movement_of act).shares v))) (account s a)) is

  distributed-effect : IsDistributed s (effect c s n i) from kind shared
  distributed-effect =
      let giver = first-there c s i none in
      let takers = receivers-there c s i none in
      let apart = or-left (list_any (λ a. eqb a from) (map (λ share. share.to) shared))
      (has_repeat (map (λ share. share.to) shared)) once-each in
      let once = or-right (list_any (λ a. eqb a from) (map (λ share. share.to) shared))
      (has_repeat (map (λ share. share.to) shared)) once-each in
      distributed-state from kind shared s (effect c s n i) changed-each apart once giver.0
      (ap (λ act. account s (movement_of act).first) (sym is) ∙ giver.1)
      (subst (λ (act : Act). AllByRecursion (λ share. (v : AccountValue) × (account s share.to ≡ Some v)) (shares act))
      is takers) enough-held

-- an accepted distribution gives each account its share
pub distributes : Distributes
distributes c s n i from kind shared is none =
    subst (λ (r : State). IsDistributed s r from kind shared) (ap (λ r. (step_by c s n i r).0) (sym none))
    (distributed-effect c s n i from kind shared is none)
