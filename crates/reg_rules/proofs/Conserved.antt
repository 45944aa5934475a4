-- An accepted instruction changes the number of allowances only by what it creates, deletes and brings back.
use Rattle.std.proofs.Common.{◌≡◌, ℕ, ◌+◌, Bool, true, false, cond, ◌&&◌, eqb, List, [], ◌∷◌, map, ℤ, Option, Some}
use Rattle.std.proofs.Common.{None, Result, Ok, Err, refl, sym, ap, subst, ◌∙◌, arith}
use Rattle.std.specs.Prelude.{MatchOption}
use Rattle.std.specs.Option.{option_map_or, option_to_list}
use Rattle.std.specs.List.{sum_by, list_all, list_any, AllByRecursion, IsDistinct}
use Rattle.std.proofs.lemmas.Bool.{eqb-true, eqb-false, eq-eqb, ne_eqb, not-false, and_parts}
use Rattle.std.proofs.lemmas.Option.{same_Some, none-some}
use Rattle.std.proofs.lemmas.List.Elements.{recursion_from_All}
use Rattle.std.proofs.lemmas.List.Sums.{sum_by-cons}
use Rattle.reg_base.specs.declared.kinds.AllowanceKind.{AllowanceKind}
use Rattle.reg_base.specs.declared.shares.Share.{Share}
use Rattle.reg_base.specs.declared.movement.Change.{Change}
use Rattle.reg_base.specs.declared.movement.Change.TheVariants.{Debit, Credit, Retire, Unretire, Trust, Untrust}
use Rattle.reg_base.specs.declared.movement.Change.TheVariants.{SetStatus, SetEmissions, Determine}
use Rattle.reg_base.specs.declared.act.Act.{Act}
use Rattle.reg_base.specs.declared.act.Act.TheVariants.{Transfer}
use Rattle.reg_base.specs.declared.instruction.Instruction.{Instruction}
use Rattle.reg_base.specs.declared.refusals.Refusal.TheVariants.{SameAccount, WrongAccountKind}
use Rattle.reg_base.specs.Acts.{total_of, movement_of, change_of, first, shares, parties, also_known}
use Rattle.reg_base.specs.declared.kinds.Retirement.TheVariants.{Surrendered, Deleted}
use Rattle.reg_account.specs.declared.rows.RetirementRow.{RetirementRow}
use Rattle.reg_account.specs.declared.figure.FigureFault.{FigureFault}
use Rattle.reg_account.specs.Rows.{is_same_kind, amount_in, row_in}
use Rattle.reg_account.specs.Account.{AccountValue, IsAccount, credited, unretired_row, CanUnretireRow}
use Rattle.reg_account.specs.Figure.{figure_of}
use Rattle.reg_account.specs.Laws.{NumberLaws, counted, of_kind}
use Rattle.reg_rules.specs.ActRules.{rule_of, fits_first, fits_receiver}
use Rattle.reg_rules.specs.State.{State, Setting, Receiver, numbers, account, seen, passes}
use Rattle.reg_rules.specs.Checks.{has_repeat, receivers_fit, has_right_kinds, refusal}
use Rattle.reg_rules.specs.Trust.{effective_day}
use Rattle.reg_rules.specs.Effect.{new_row, listed_from, assessed, made_by, first_after, share_of, given, with_changes}
use Rattle.reg_rules.specs.Effect.{changed_by, effect, CanMake, CanFirst, CanChange, IsBehind}
use Rattle.reg_rules.specs.Step.{step_by}
use Rattle.reg_rules.specs.Laws.{IsReady}
use Rattle.reg_rules.specs.Conservation.{number_of, credits, created_by, deletes, deleted_by, undeletes, undeleted_by}
use Rattle.reg_rules.specs.Conservation.{StepConserves}
use Rattle.reg_rules.proofs.Applied.{can-change-each}
use Rattle.reg_rules.proofs.Firsts.{or-left, or-right}
use Rattle.reg_rules.proofs.Moves.{there}
use Rattle.reg_rules.proofs.Passed.{passed}
use Rattle.reg_rules.proofs.Repeats.{repeats-none}
use Rattle.reg_rules.proofs.Singles.{first-there}

-- how many allowances of the kind leave the first account for others
passed_on : AllowanceKind → Act → ℕ
passed_on kind act = sum_by (λ share. of_kind kind (movement_of act).kind share.amount) (shares act)

-- how many deleted allowances of the kind the reversal brings back to the account
brought_back : AllowanceKind → Change → AccountValue → ℕ
brought_back kind (Unretire number) v = option_map_or (amount_in Deleted kind) (row_in v.rows number) 0
brought_back kind made v = 0

-- how many allowances of the kind leave the account for others by the change
debits : AllowanceKind → Change → ℕ
debits kind (Debit own amount) = of_kind kind own amount
debits kind made = 0

of-one : (kind own : AllowanceKind) (to amount : ℕ)
    → sum_by (λ (share : Share). of_kind kind own share.amount) (record { to = to; amount = amount } ∷ [])
    ≡ of_kind kind own amount
of-one kind own to amount =
    let e : sum_by (λ (share : Share). of_kind kind own share.amount) (record { to = to; amount = amount } ∷ [])
    ≡ of_kind kind own amount + 0 =
    sum_by-cons (λ (share : Share). of_kind kind own share.amount) (record { to = to; amount = amount }) [] in
    omega (arith, e)

of-each : (b : Bool) (shared : List Share) → sum_by (λ (share : Share). cond b share.amount 0) shared
    ≡ cond b (total_of shared) 0
of-each true shared = refl
of-each false [] = refl
of-each false (x ∷ xs) =
    let all : sum_by (λ (share : Share). 0) (x ∷ xs) ≡ 0 + sum_by (λ (share : Share). 0) xs =
    sum_by-cons (λ (share : Share). 0) x xs in
    let more : sum_by (λ (share : Share). 0) xs ≡ 0 = of-each false xs in
    omega (arith, all, more)

own-kind : (b : Bool) (amount : ℕ) → cond (b && true) amount 0 ≡ cond b amount 0
own-kind true amount = refl
own-kind false amount = refl

-- no account has a share if its number is not among those that receive
pub no-share : (a : ℕ) (shared : List Share) → list_any (λ b. eqb b a) (map (λ share. share.to) shared) ≡ false
    → share_of shared a ≡ None
no-share a [] none = refl
no-share a (x ∷ xs) none =
    ap (λ b. cond b (Some x) (share_of xs a))
    (or-left (eqb x.to a) (list_any (λ b. eqb b a) (map (λ share. share.to) xs)) none)
    ∙ no-share a xs (or-right (eqb x.to a) (list_any (λ b. eqb b a) (map (λ share. share.to) xs)) none)

sum-elsewhere : (f : AccountValue → ℕ) (a : ℕ) (s : State) → AllByRecursion (λ n. eqb a n ≡ false) (numbers s)
    → sum_by (λ u. cond (eqb u.number a) (f u) 0) s ≡ 0
sum-elsewhere f a [] others = refl
sum-elsewhere f a (x ∷ xs) others =
    let g = λ (u : AccountValue). cond (eqb u.number a) (f u) 0 in
    let here : g x ≡ 0 = ap (λ b. cond b (f x) 0)
    (ne_eqb x.number a (λ same. eqb-false a x.number others.0 (sym same))) in
    let more : sum_by g xs ≡ 0 = sum-elsewhere f a xs others.1 in
    let all : sum_by g (x ∷ xs) ≡ g x + sum_by g xs = sum_by-cons g x xs in
    omega (arith, here, more, all)

-- what is counted at one number alone is counted once
sum-at : (f : AccountValue → ℕ) (s : State) (a : ℕ) (v : AccountValue) → IsDistinct eqb (numbers s)
    → account s a ≡ Some v → sum_by (λ u. cond (eqb u.number a) (f u) 0) s ≡ f v
unfolding IsDistinct
sum-at f [] a v distinct found = absurd (none-some v found)
sum-at f (x ∷ xs) a v distinct found = go (eqb x.number a) refl found (sum-at f xs a v distinct.1) where
  g : AccountValue → ℕ
  g u = cond (eqb u.number a) (f u) 0

  all : sum_by (λ u. cond (eqb u.number a) (f u) 0) (x ∷ xs)
      ≡ cond (eqb x.number a) (f x) 0 + sum_by (λ u. cond (eqb u.number a) (f u) 0) xs
  all = sum_by-cons (λ (u : AccountValue). cond (eqb u.number a) (f u) 0) x xs

  go : (b : Bool) → eqb x.number a ≡ b → cond b (Some x) (account xs a) ≡ Some v
      → (account xs a ≡ Some v → sum_by (λ u. cond (eqb u.number a) (f u) 0) xs ≡ f v)
      → sum_by (λ u. cond (eqb u.number a) (f u) 0) (x ∷ xs) ≡ f v
  go true same here more =
      let is : f x ≡ f v = ap f (same_Some x v here) in
      let own : cond (eqb x.number a) (f x) 0 ≡ f x = ap (λ b. cond b (f x) 0) same in
      let rest = sum-elsewhere f a xs
      (subst (λ m. AllByRecursion (λ n. eqb m n ≡ false) (numbers xs)) (eqb-true x.number a same) distinct.0) in
      let sum = all in
      omega (arith, is, own, rest, sum)
  go false other here more =
      let own : cond (eqb x.number a) (f x) 0 ≡ 0 = ap (λ b. cond b (f x) 0) other in
      let rest = more here in
      let sum = all in
      omega (arith, own, rest, sum)

sum-both : (f g h : AccountValue → ℕ) (s : State) → ((u : AccountValue) → f u ≡ g u + h u)
    → sum_by f s ≡ sum_by g s + sum_by h s
sum-both f g h [] same = refl
sum-both f g h (x ∷ xs) same =
    let here = same x in
    let more = sum-both f g h xs same in
    let a : sum_by f (x ∷ xs) ≡ f x + sum_by f xs = sum_by-cons f x xs in
    let b : sum_by g (x ∷ xs) ≡ g x + sum_by g xs = sum_by-cons g x xs in
    let d : sum_by h (x ∷ xs) ≡ h x + sum_by h xs = sum_by-cons h x xs in
    omega (arith, here, more, a, b, d)

sum-none : (s : State) → sum_by (λ (u : AccountValue). 0) s ≡ 0
sum-none [] = refl
sum-none (x ∷ xs) =
    let more = sum-none xs in
    let all : sum_by (λ (u : AccountValue). 0) (x ∷ xs) ≡ 0 + sum_by (λ (u : AccountValue). 0) xs =
    sum_by-cons (λ (u : AccountValue). 0) x xs in
    omega (arith, more, all)

-- the accounts of a state get what the shares add up to, if each that receives is there
shares-sum : (kind own : AllowanceKind) (shared : List Share) (s : State) → IsDistinct eqb (numbers s)
    → has_repeat (map (λ share. share.to) shared) ≡ false
    → AllByRecursion (λ share. (v : AccountValue) × (account s share.to ≡ Some v)) shared
    → sum_by (λ u. option_map_or (λ x. of_kind kind own x.amount) (share_of shared u.number) 0) s
    ≡ sum_by (λ x. of_kind kind own x.amount) shared
shares-sum kind own [] s distinct once found = sum-none s
shares-sum kind own (x ∷ xs) s distinct once found =
    let amount = of_kind kind own x.amount in
    let apart = or-left (list_any (λ a. eqb a x.to) (map (λ share. share.to) xs))
    (has_repeat (map (λ share. share.to) xs)) once in
    let rest = shares-sum kind own xs s distinct
    (or-right (list_any (λ a. eqb a x.to) (map (λ share. share.to) xs)) (has_repeat (map (λ share. share.to) xs))
    once) found.1 in
    let here = sum-at (λ u. amount) s x.to found.0.0 distinct found.0.1 in
    let both = sum-both (λ u. option_map_or (λ y. of_kind kind own y.amount) (share_of (x ∷ xs) u.number) 0)
    (λ u. cond (eqb u.number x.to) amount 0)
    (λ u. option_map_or (λ y. of_kind kind own y.amount) (share_of xs u.number) 0) s (λ u. with-share u apart) in
    let all : sum_by (λ (y : Share). of_kind kind own y.amount) (x ∷ xs)
    ≡ amount + sum_by (λ (y : Share). of_kind kind own y.amount) xs =
    sum_by-cons (λ (y : Share). of_kind kind own y.amount) x xs in
    omega (arith, rest, here, both, all) where
      with-share : (u : AccountValue) → list_any (λ a. eqb a x.to) (map (λ share. share.to) xs) ≡ false
          → option_map_or (λ y. of_kind kind own y.amount) (share_of (x ∷ xs) u.number) 0
          ≡ cond (eqb u.number x.to) (of_kind kind own x.amount) 0 + option_map_or (λ y. of_kind kind own y.amount)
          (share_of xs u.number) 0
      with-share u apart = go (eqb u.number x.to) refl where
        go : (b : Bool) → eqb u.number x.to ≡ b
            → option_map_or (λ y. of_kind kind own y.amount) (share_of (x ∷ xs) u.number) 0
            ≡ cond b (of_kind kind own x.amount) 0 + option_map_or (λ y. of_kind kind own y.amount)
            (share_of xs u.number) 0
        go true same =
            let at : u.number ≡ x.to = eqb-true u.number x.to same in
            let first-one : option_map_or (λ (y : Share). of_kind kind own y.amount) (share_of (x ∷ xs) u.number) 0
            ≡ of_kind kind own x.amount =
            ap (λ b. option_map_or (λ (y : Share). of_kind kind own y.amount) (cond b (Some x) (share_of xs u.number))
            0) (eq-eqb x.to u.number (sym at)) in
            let no-other : option_map_or (λ (y : Share). of_kind kind own y.amount) (share_of xs u.number) 0 ≡ 0 =
            ap (λ o. option_map_or (λ (y : Share). of_kind kind own y.amount) o 0) (ap (share_of xs) at
            ∙ no-share x.to xs apart) in
            omega (arith, first-one, no-other)
        go false other =
            let rest : option_map_or (λ (y : Share). of_kind kind own y.amount) (share_of (x ∷ xs) u.number) 0
            ≡ option_map_or (λ (y : Share). of_kind kind own y.amount) (share_of xs u.number) 0 =
            ap (λ b. option_map_or (λ (y : Share). of_kind kind own y.amount) (cond b (Some x) (share_of xs u.number))
            0) (ne_eqb x.to u.number (λ same. eqb-false u.number x.to other (sym same))) in
            omega (arith, rest)

-- each account that receives is there, if no check fails
pub receivers-there : (c : Setting) (s : State) (i : Instruction) → refusal c s i ≡ None
    → AllByRecursion (λ share. (v : AccountValue) × (account s share.to ≡ Some v)) (shares i.act)
receivers-there c s i none =
    let first-one = first-there c s i none in
    let all : (fits_first (rule_of i.act).kinds first-one.0.kind && receivers_fit (rule_of i.act).kinds first-one.0.kind
    (seen s i.act)) ≡ true =
    ap (passes (λ v. fits_first (rule_of i.act).kinds v.kind
    && receivers_fit (rule_of i.act).kinds v.kind (seen s i.act))) (sym first-one.1)
    ∙ not-false (has_right_kinds (rule_of i.act) (seen s i.act)) (passed c s i WrongAccountKind none refl) in
    go (λ v. fits_receiver (rule_of i.act).kinds first-one.0.kind v.kind) (shares i.act)
    (and_parts (fits_first (rule_of i.act).kinds first-one.0.kind)
    (receivers_fit (rule_of i.act).kinds first-one.0.kind (seen s i.act)) all).1 where
      go : (test : AccountValue → Bool) (shared : List Share)
          → list_all (λ (r : Receiver). passes test r.account)
          (map (λ share. record { account = account s share.to; amount = share.amount }) shared) ≡ true
          → AllByRecursion (λ share. (v : AccountValue) × (account s share.to ≡ Some v)) shared
      go test [] h = tt
      go test (x ∷ xs) h =
          let parts = and_parts (passes test (account s x.to))
          (list_all (λ (r : Receiver). passes test r.account)
          (map (λ share. record { account = account s share.to; amount = share.amount }) xs)) h in
          (there test (account s x.to) parts.0, go test xs parts.1)

-- what a reversal brings back is what the state shows of its row
back-at : (kind : AllowanceKind) (s : State) (a : ℕ) (made : Change) (v : AccountValue) → account s a ≡ Some v
    → brought_back kind made v ≡ undeletes kind s a made
unfolding brought_back
back-at kind s a (Unretire number) v found =
    sym (ap (λ o. option_map_or (amount_in Deleted kind)
    (row_in (option_map_or (λ (u : AccountValue). u.rows) o []) number) 0) found)
back-at kind s a made v found = refl

ruleset sums = (of-one, of-each)

-- what leaves the first account for others is what they receive; the last line stands for all other acts
passed-debits : (kind : AllowanceKind) (act : Act) → passed_on kind act ≡ debits kind (change_of act)
unfolding passed_on debits
passed-debits kind (Transfer from to own amount) = search sums
passed-debits kind act = search sums

module _ (laws : NumberLaws) where
  back : (v : AccountValue) (number : ℕ) (kind : AllowanceKind) (o : Option RetirementRow) → row_in v.rows number ≡ o
      → MatchOption o ⊥ (CanUnretireRow v) → IsAccount v
      → counted kind (option_map_or (unretired_row number v) o v)
      ≡ counted kind v + option_map_or (amount_in Deleted kind) o 0
  back v number kind None found can is = absurd can
  back v number kind (Some old) found can is = ap (λ o. counted kind (option_map_or (unretired_row number v) o v))
      (sym found) ∙ laws.unretire v number old kind is found can

  -- the balance of the first account, by its change
  change-balance : (c : Setting) (n : ℕ) (made : Change) (v : AccountValue) (kind : AllowanceKind) → CanMake c n made v
      → IsAccount v
      → counted kind (made_by c n made v) + (debits kind made + deletes kind made)
      ≡ counted kind v + (credits kind made + brought_back kind made v)
  unfolding debits brought_back
  change-balance c n (Debit own amount) v kind can is = let e = laws.debit v own amount kind can in omega (arith, e)
  change-balance c n (Credit own amount) v kind can is = let e = laws.credit v own amount kind in omega (arith, e)
  change-balance c n (Retire Surrendered own amount) v kind can is = let e =
      laws.retire v (new_row c n Surrendered own amount) kind can in omega (arith, e)
  change-balance c n (Retire Deleted own amount) v kind can is =
      let e = laws.retire v (new_row c n Deleted own amount) kind can in
      let w : amount_in Deleted kind (new_row c n Deleted own amount) ≡ of_kind kind own amount =
      own-kind (is_same_kind own kind) amount in
      omega (arith, e, w)
  change-balance c n (Unretire number) v kind can is = let e = back v number kind (row_in v.rows number) refl can is in
      omega (arith, e)
  change-balance c n (Trust other) v kind can is = by (effective_day c) where
    by : (o : Option ℕ) → counted kind (listed_from v other o) + (0 + 0) ≡ counted kind v + (0 + 0)
    by (Some day) = refl
    by None = refl
  change-balance c n (Untrust other) v kind can is = omega arith
  change-balance c n (SetStatus status) v kind can is = omega arith
  change-balance c n (SetEmissions year tonnes) v kind can is = omega arith
  change-balance c n (Determine year) v kind can is = by (figure_of c.rules v year) where
    by : (r : Result ℤ FigureFault) → counted kind (assessed v year r) + (0 + 0) ≡ counted kind v + (0 + 0)
    by (Ok figure) = refl
    by (Err fault) = refl

  first-balance : (c : Setting) (n : ℕ) (act : Act) (v : AccountValue) (kind : AllowanceKind) → CanFirst c n act v
      → IsAccount v
      → counted kind (first_after c n act v) + (passed_on kind act + deleted_by kind act)
      ≡ counted kind v + (created_by kind act + brought_back kind (change_of act) v)
  first-balance c n act v kind can is =
      let e = change-balance c n (change_of act) v kind can is in
      let w = passed-debits kind act in
      omega (arith, e, w)

  -- the balance of an account that receives
  given-balance : (kind own : AllowanceKind) (v : AccountValue) (o : Option Share)
      → counted kind (option_map_or (λ share. credited v own share.amount) o v)
      ≡ counted kind v + option_map_or (λ share. of_kind kind own share.amount) o 0
  given-balance kind own v None = omega arith
  given-balance kind own v (Some share) = laws.credit v own share.amount kind

  -- what leaves an account, and what comes to it
  module _ (c : Setting) (n : ℕ) (act : Act) (kind : AllowanceKind) where
    out : AccountValue → ℕ
    out v = cond (eqb v.number (first act)) (passed_on kind act + deleted_by kind act) 0

    into : AccountValue → ℕ
    into v = cond (eqb v.number (first act)) (created_by kind act + brought_back kind (change_of act) v) 0

    share : AccountValue → ℕ
    share v = option_map_or (λ x. of_kind kind (movement_of act).kind x.amount) (share_of (shares act) v.number) 0

    one-balance : (v : AccountValue) → list_any (λ a. eqb a (first act)) (map (λ x. x.to) (shares act)) ≡ false
        → CanChange c n act v → IsAccount v
        → counted kind (changed_by c n act v) + out v ≡ counted kind v + (into v + share v)
    unfolding out into share
    one-balance v apart can is = go (eqb v.number (first act)) refl where
      go : (b : Bool) → eqb v.number (first act) ≡ b
          → counted kind (with_changes v (cond b (first_after c n act v) (given (movement_of act).kind (shares act) v)))
          + cond b (passed_on kind act + deleted_by kind act) 0
          ≡ counted kind v + (cond b (created_by kind act + brought_back kind (change_of act) v) 0
          + option_map_or (λ x. of_kind kind (movement_of act).kind x.amount) (share_of (shares act) v.number) 0)
      go true same =
          let e = first-balance c n act v kind (can.as_first (eqb-true v.number (first act) same)) is in
          let none : option_map_or (λ x. of_kind kind (movement_of act).kind x.amount)
          (share_of (shares act) v.number) 0 ≡ 0 =
          ap (λ o. option_map_or (λ (x : Share). of_kind kind (movement_of act).kind x.amount) o 0)
          (ap (share_of (shares act)) (eqb-true v.number (first act) same)
          ∙ no-share (first act) (shares act) apart) in
          omega (arith, e, none)
      go false other = let e = given-balance kind (movement_of act).kind v (share_of (shares act) v.number) in
          omega (arith, e)

    all-balance : (s : State) → list_any (λ a. eqb a (first act)) (map (λ x. x.to) (shares act)) ≡ false
        → AllByRecursion (CanChange c n act) s → AllByRecursion IsAccount s
        → number_of kind (map (changed_by c n act) s) + sum_by out s
        ≡ number_of kind s + (sum_by into s + sum_by share s)
    all-balance [] apart can is = refl
    all-balance (v ∷ vs) apart can is =
        let here = one-balance v apart can.0 is.0 in
        let more = all-balance vs apart can.1 is.1 in
        let a : number_of kind (changed_by c n act v ∷ map (changed_by c n act) vs)
        ≡ counted kind (changed_by c n act v) + number_of kind (map (changed_by c n act) vs) =
        sum_by-cons (counted kind) (changed_by c n act v) (map (changed_by c n act) vs) in
        let b : sum_by out (v ∷ vs) ≡ out v + sum_by out vs = sum_by-cons out v vs in
        let d : number_of kind (v ∷ vs) ≡ counted kind v + number_of kind vs = sum_by-cons (counted kind) v vs in
        let e : sum_by into (v ∷ vs) ≡ into v + sum_by into vs = sum_by-cons into v vs in
        let f : sum_by share (v ∷ vs) ≡ share v + sum_by share vs = sum_by-cons share v vs in
        omega (arith, here, more, a, b, d, e, f)

  conserves : (c : Setting) (s : State) (n : ℕ) (i : Instruction) (kind : AllowanceKind) → IsReady n s
      → refusal c s i ≡ None
      → number_of kind (effect c s n i) + deleted_by kind i.act
      ≡ number_of kind s + created_by kind i.act + undeleted_by kind s i.act
  unfolding passed_on brought_back out into share
  conserves c s n i kind ready none =
      let at = first-there c s i none in
      let behind = recursion_from_All (IsBehind n) s ready.behind in
      let distinct = repeats-none (parties i.act) (option_to_list (also_known i.act))
      (passed c s i SameAccount none refl) in
      let apart = or-left (list_any (λ a. eqb a (first i.act)) (map (λ x. x.to) (shares i.act)))
      (has_repeat (map (λ x. x.to) (shares i.act))) distinct in
      let once = or-right (list_any (λ a. eqb a (first i.act)) (map (λ x. x.to) (shares i.act)))
      (has_repeat (map (λ x. x.to) (shares i.act))) distinct in
      let balance = all-balance c n i.act kind s apart (can-change-each c s n i none ready.once behind)
      (recursion_from_All IsAccount s ready.fit) in
      let leaves : sum_by (out c n i.act kind) s ≡ passed_on kind i.act + deleted_by kind i.act =
      sum-at (λ u. passed_on kind i.act + deleted_by kind i.act) s (first i.act) at.0 ready.once at.1 in
      let comes : sum_by (into c n i.act kind) s ≡ created_by kind i.act + brought_back kind (change_of i.act) at.0 =
      sum-at (λ u. created_by kind i.act + brought_back kind (change_of i.act) u) s
      (first i.act) at.0 ready.once at.1 in
      let shared : sum_by (share c n i.act kind) s ≡ passed_on kind i.act =
      shares-sum kind (movement_of i.act).kind (shares i.act) s ready.once once (receivers-there c s i none) in
      let back : brought_back kind (change_of i.act) at.0 ≡ undeleted_by kind s i.act =
      back-at kind s (first i.act) (change_of i.act) at.0 at.1 in
      omega (arith, balance, leaves, comes, shared, back)

pub step-conserves : NumberLaws → StepConserves
step-conserves laws c s n i kind ready none =
    ap (λ r. number_of kind (step_by c s n i r).0 + deleted_by kind i.act) none ∙ conserves laws c s n i kind ready none
