-- What has come of an order so far: which values are in the pool, and that each further instruction may be executed
-- exactly if the tails of the arrows to it were.
use Rattle.std.proofs.Common.{◌≡◌, ℕ, suc, ◌+◌, ◌-◌, ◌≤◌, inl, inr, ◌⊎◌, Bool, true, false, not, cond, ◌&&◌, ◌||◌, eqb}
use Rattle.std.proofs.Common.{List, [], ◌∷◌, ◌++◌, length, Option, Some, None, arith, refl, sym, ap, subst, ◌∙◌}
use Rattle.std.specs.Prelude.{is_some, slice_get}
use Rattle.std.specs.Option.{option_map}
use Rattle.std.proofs.lemmas.Bool.{cases_eq, eq-eqb, eqb-true, ne_eqb}
use Rattle.reg_facts.proofs.lemmas.Numbers.{clash}
use Rattle.reg_base.specs.declared.instruction.Instruction.{Instruction}
use Rattle.reg_base.specs.Footprint.{is_among, EachFootprintIsSound}
use Rattle.reg_base.specs.Touches.{is_touched, last_toucher, LastToucherIsLast}
use Rattle.reg_base.proofs.lemmas.Among.{among_push}
use Rattle.reg_account.specs.Account.{AccountValue}
use Rattle.reg_rules.specs.declared.reply.LogRow.{LogRow}
use Rattle.reg_rules.specs.State.{State, account}
use Rattle.reg_rules.specs.Step.{step, row_of}
use Rattle.reg_rules.specs.Laws.{StepLaws}
use Rattle.reg_plan.specs.Arrows.{touches_place}
use Rattle.reg_plan.specs.Plans.{PlanValue, IsPlan}
use Rattle.reg_plan.specs.Laws.{TailsAreLastTouchers}
use Rattle.reg_book.specs.Day.{DayValue, setting, state_at, value_at, row_at}
use Rattle.reg_book.specs.Laws.{EachIsAStep, NumbersStay, ValueIsLastTouchers}
use Rattle.reg_schedules.specs.Pool.{directory, footprint_at, run_at, tail_of, leads_on, Progress, at_first, needed}
use Rattle.reg_schedules.specs.Pool.{removed, laid, with_closing, with_log_row, after_place, executed_on, executed}
use Rattle.reg_schedules.proofs.lemmas.Tails as tails
use Rattle.reg_schedules.proofs.lemmas.Known.{footprint_touches, touched_known, stays_known}
use Rattle.reg_schedules.proofs.lemmas.Needed.{all_needed}
use Rattle.reg_schedules.proofs.lemmas.Ran.{ran_right}

-- all that is known of steps, days and plans
pub record Known : Type 0 where
  pub steps : StepLaws
  pub each_step : EachIsAStep
  pub numbers : NumbersStay
  pub values : ValueIsLastTouchers
  pub sound : EachFootprintIsSound
  pub last : LastToucherIsLast
  pub tails : TailsAreLastTouchers

-- a place is 0, or has been executed
abbrev pub has_come : List ℕ → ℕ → Bool
has_come done place = eqb place 0 || is_among done place

-- the value of a name, if it is in the pool: its place has come, and the place that needs it has not
abbrev pub pooled : Bool → Bool → Option AccountValue → Option AccountValue
pooled head tail value = cond head None (cond tail value None)

module _ (k : Known) (day : DayValue) (plan : PlanValue)
    (made : IsPlan (directory day) day.batch.instructions plan) where
  abbrev pub On : ℕ → ℕ → Type 0
  On a place = touches_place (directory day) day.batch.instructions a place ≡ true

  abbrev pub last_at : ℕ → ℕ
  last_at a = last_toucher (directory day) day.batch.instructions a (length day.batch.instructions)

  -- this is what has come of the instructions at these places
  pub record Follows (done : List ℕ) (p : Progress) : Type 0 where
    pub pool : (place a : ℕ) → On a place
        → p.pool a (tail_of plan place a)
        ≡ pooled (is_among done place) (has_come done (tail_of plan place a)) (value_at day a (tail_of plan place a))
    pub tails_came : (place a : ℕ) → On a place → is_among done place ≡ true → has_come done (tail_of plan place a)
        ≡ true
    pub closing : (a : ℕ) → p.closing a
        ≡ cond (is_among done (last_at a)) (value_at day a (length day.batch.instructions)) None
    pub rows : (place : ℕ) → p.rows place ≡ cond (is_among done place) (row_at day place) None
    pub places : (place : ℕ) → is_among done place ≡ true → (1 ≤ place) × (place ≤ length day.batch.instructions)

  -- this place may be next
  pub record MayFollow (done : List ℕ) (place : ℕ) : Type 0 where
    pub low : 1 ≤ place
    pub high : place ≤ length day.batch.instructions
    pub fresh : is_among done place ≡ false
    pub tails_came : (a : ℕ) → On a place → has_come done (tail_of plan place a) ≡ true

  -- the value that a place needs is the account's value before it
  pub needed_value : (a place : ℕ) → On a place → value_at day a (tail_of plan place a) ≡ value_at day a (place - 1)
  needed_value a place on =
      ap (value_at day a) (tails.tail_is_last k.tails k.last (directory day) day.batch.instructions plan made a place
      on)
      ∙ sym (k.values day a (place - 1))

  -- before the first instruction
  pub follows_at_first : Follows [] (at_first day)
  follows_at_first = record {
    pool = λ place a on. by a (is_touched (directory day) day.batch.instructions a)
        (tails.touched_from (directory day) day.batch.instructions a place on) (tail_of plan place a);
    tails_came = λ place a on e. absurd cc;
    closing = λ a. refl;
    rows = λ place. refl;
    places = λ place e. absurd cc;
  } where
    go : (a t : ℕ) (c : Bool) → eqb t 0 ≡ c → cond (c && true) (account day.book.accounts a) None
        ≡ cond (c || false) (value_at day a t) None
    go a t true zero_is = ap (value_at day a) (sym (eqb-true t 0 zero_is))
    go a t false other = refl

    by : (a : ℕ) (b : Bool) → b ≡ true → (t : ℕ) → cond (eqb t 0 && b) (account day.book.accounts a) None
        ≡ cond (eqb t 0 || false) (value_at day a t) None
    by a true e t = go a t (eqb t 0) refl
    by a false e t = absurd cc

  -- what an instruction that may follow makes of its own values
  pub record IsMade (done : List ℕ) (p : Progress) (place : ℕ) (own results : State) (row : LogRow) : Type 0 where
    pub taken : needed plan p.pool place (footprint_at day place) ≡ Some own
    pub run : run_at day place own ≡ Some (results, row)
    pub values : (a : ℕ) → is_among (footprint_at day place) a ≡ true → account results a ≡ value_at day a place
    pub row_is : row_at day place ≡ Some row

  pub record Makes (done : List ℕ) (p : Progress) (place : ℕ) : Type 0 where
    pub own : State
    pub results : State
    pub row : LogRow
    pub is_made : IsMade done p place own results row

  on_from : (place a : ℕ) → is_among (footprint_at day place) a ≡ true → On a place
  on_from place a e = sym (footprint_touches day place a) ∙ e

  in_pool : (done : List ℕ) (p : Progress) (place : ℕ) → Follows done p → MayFollow done place → (a : ℕ)
      → is_among (footprint_at day place) a ≡ true
      → p.pool a (tail_of plan place a) ≡ account (state_at day (place - 1)) a
  in_pool done p place f next a e =
      let on : On a place = on_from place a e in
      f.pool place a on
      ∙ ap (λ b. pooled b (has_come done (tail_of plan place a)) (value_at day a (tail_of plan place a))) next.fresh
      ∙ ap (λ b. cond b (value_at day a (tail_of plan place a)) None) (next.tails_came a on)
      ∙ needed_value a place on

  is_there : (place : ℕ) (a : ℕ) → is_among (footprint_at day place) a ≡ true
      → is_some (account (state_at day (place - 1)) a) ≡ true
  is_there place a e = stays_known k.numbers day (place - 1) a ∙ touched_known k.sound day place a (on_from place a e)

  pub makes_at : (done : List ℕ) (p : Progress) (n : ℕ) (i : Instruction) → slice_get day.batch.instructions n ≡ Some i
      → Follows done p → MayFollow done (suc n) → Makes done p (suc n)
  makes_at done p n i at f next =
      let there = all_needed plan p.pool (suc n) (state_at day n) (footprint_at day (suc n))
      (λ a e. in_pool done p (suc n) f next a e ∙ ap (λ m. account (state_at day m) a) minus)
      (λ a e. ap (λ m. is_some (account (state_at day m) a)) (sym minus) ∙ is_there (suc n) a e) in
      let own : State = there.0 in
      let one : State × _ = step (setting day) own (day.batch.base + suc n) i in
      let row : LogRow = row_of (setting day) (day.batch.base + suc n) i one.1 in
      let run : run_at day (suc n) own ≡ Some (one.0, row) =
      ap (λ o. option_map (λ (x : Instruction). (
        (step (setting day) own (day.batch.base + suc n) x).0,
        row_of (setting day) (day.batch.base + suc n) x (step (setting day) own (day.batch.base + suc n) x).1,
      )) o)
      at in
      let right = ran_right k.steps k.each_step day n i own one.0 row at there.1.agree run in
      record {
        own = own;
        results = one.0;
        row = row;
        is_made = record { taken = there.1.taken; run = run; values = right.values; row_is = right.row_is };
      }
    where
      minus : suc n - 1 ≡ n
      minus = omega arith

  -- an instruction that may follow is executed
  pub executed_is : (done : List ℕ) (p : Progress) (place : ℕ) → Follows done p → MayFollow done place
      → (m : Makes done p place)
      → executed day plan p place ≡ Some (after_place day plan p place (m.results, m.row))
  executed_is done p place f next m =
      ap (λ r. cond (is_some r) None (executed_on day plan p place (needed plan p.pool place (footprint_at day place))))
      (f.rows place ∙ ap (λ b. cond b (row_at day place) None) next.fresh)
      ∙ ap (executed_on day plan p place) m.is_made.taken
      ∙ ap (option_map (after_place day plan p place)) m.is_made.run

  -- one place more among those that have come
  pub among_other : (done : List ℕ) (x y : ℕ) → (x ≡ y → ⊥) → is_among (done ++ x ∷ []) y ≡ is_among done y
  among_other done x y ne =
      among_push done x y ∙ ap (λ b. is_among done y || b) (ne_eqb x y ne) ∙ or_false (is_among done y) where
        or_false : (b : Bool) → (b || false) ≡ b
        or_false true = refl
        or_false false = refl

  pub among_same : (done : List ℕ) (x y : ℕ) → x ≡ y → is_among (done ++ x ∷ []) y ≡ true
  among_same done x y e = among_push done x y ∙ ap (λ b. is_among done y || b) (eq-eqb x y e)
      ∙ or_true (is_among done y) where
        or_true : (b : Bool) → (b || true) ≡ true
        or_true true = refl
        or_true false = refl

  among_kept : (done : List ℕ) (x y : ℕ) → is_among done y ≡ true → is_among (done ++ x ∷ []) y ≡ true
  among_kept done x y e = among_push done x y ∙ ap (λ b. b || eqb x y) e

  come_kept : (done : List ℕ) (x y : ℕ) → has_come done y ≡ true → has_come (done ++ x ∷ []) y ≡ true
  come_kept done x y e = by (eqb y 0) e where
    by : (b : Bool) → (b || is_among done y) ≡ true → (b || is_among (done ++ x ∷ []) y) ≡ true
    by true h = refl
    by false h = among_kept done x y h

  come_other : (done : List ℕ) (x y : ℕ) → (x ≡ y → ⊥) → has_come (done ++ x ∷ []) y ≡ has_come done y
  come_other done x y ne = ap (λ b. eqb y 0 || b) (among_other done x y ne)

  come_same : (done : List ℕ) (x y : ℕ) → x ≡ y → has_come (done ++ x ∷ []) y ≡ true
  come_same done x y e = ap (λ b. eqb y 0 || b) (among_same done x y e) ∙ or_true (eqb y 0) where
    or_true : (b : Bool) → (b || true) ≡ true
    or_true true = refl
    or_true false = refl

  not_tail : (place q a : ℕ) → On a q → (On a place → ⊥) → 1 ≤ place → place ≡ tail_of plan q a → ⊥
  not_tail place q a on off one same =
      off (subst (On a) (sym same)
      (tails.tail_touches k.tails k.last (directory day) day.batch.instructions plan made a q on
      (omega (arith, same, one))))

  module _ (done : List ℕ) (p : Progress) (place : ℕ) (f : Follows done p) (next : MayFollow done place)
      (m : Makes done p place) where
    unchanged : (q a : ℕ) → (place ≡ q → ⊥) → (place ≡ tail_of plan q a → ⊥)
        → pooled (is_among done q) (has_come done (tail_of plan q a)) (value_at day a (tail_of plan q a))
        ≡ pooled (is_among (done ++ place ∷ []) q) (has_come (done ++ place ∷ []) (tail_of plan q a))
        (value_at day a (tail_of plan q a))
    unchanged q a ne ne_tail =
        ap (λ b. pooled b (has_come done (tail_of plan q a)) (value_at day a (tail_of plan q a)))
        (sym (among_other done place q ne))
        ∙ ap (λ b. pooled (is_among (done ++ place ∷ []) q) b (value_at day a (tail_of plan q a)))
        (sym (come_other done place (tail_of plan q a) ne_tail))

    has_not_come : has_come done place ≡ false
    has_not_come = ap (λ b. b || is_among done place) (ne_eqb place 0 (λ e. omega (arith, e, next.low))) ∙ next.fresh

    -- the value that the place itself took
    own_taken : (a : ℕ) → On a place
        → cond (eqb (tail_of plan place a) place && leads_on plan place a) (account m.results a)
        (cond (eqb (tail_of plan place a) (tail_of plan place a)) None (p.pool a (tail_of plan place a)))
        ≡ pooled (is_among (done ++ place ∷ []) place) (has_come (done ++ place ∷ []) (tail_of plan place a))
        (value_at day a (tail_of plan place a))
    own_taken a on =
        ap (λ b. cond (b && leads_on plan place a) (account m.results a)
        (cond (eqb (tail_of plan place a) (tail_of plan place a)) None (p.pool a (tail_of plan place a))))
        (ne_eqb (tail_of plan place a) place
        (λ e. omega (
          arith,
          e,
          tails.tail_before k.tails k.last (directory day) day.batch.instructions plan made a
              place on,
        )))
        ∙ ap (λ b. cond b None (p.pool a (tail_of plan place a)))
        (eq-eqb (tail_of plan place a) (tail_of plan place a) refl)
        ∙ ap (λ b. pooled b (has_come (done ++ place ∷ []) (tail_of plan place a))
        (value_at day a (tail_of plan place a))) (sym (among_same done place place refl))

    -- a value that the place left for another one
    newly_laid : (q a : ℕ) → On a q → On a place → is_among (footprint_at day place) a ≡ true → place ≡ tail_of plan q a
        → cond (eqb (tail_of plan q a) place && leads_on plan place a) (account m.results a)
        (cond (eqb (tail_of plan q a) (tail_of plan place a)) None (p.pool a (tail_of plan q a)))
        ≡ pooled (is_among (done ++ place ∷ []) q) (has_come (done ++ place ∷ []) (tail_of plan q a))
        (value_at day a (tail_of plan q a))
    newly_laid q a on_q on among same =
        let leads : leads_on plan place a ≡ true = subst (λ t. leads_on plan t a ≡ true) (sym same)
        (tails.tail_leads_on k.tails k.last (directory day) day.batch.instructions plan made a q on_q
        (omega (arith, same, next.low))) in
        let ne : place ≡ q → ⊥ = λ e.
        omega (
          arith,
          e,
          same,
          tails.tail_before k.tails k.last (directory day) day.batch.instructions plan made a q
              on_q,
        ) in
        ap (λ b. cond (b && leads_on plan place a) (account m.results a)
        (cond (eqb (tail_of plan q a) (tail_of plan place a)) None (p.pool a (tail_of plan q a))))
        (eq-eqb (tail_of plan q a) place (sym same))
        ∙ ap (λ b. cond b (account m.results a)
        (cond (eqb (tail_of plan q a) (tail_of plan place a)) None (p.pool a (tail_of plan q a)))) leads
        ∙ m.is_made.values a among
        ∙ ap (value_at day a) same
        ∙ ap (λ b. cond b (value_at day a (tail_of plan q a)) None) (sym (come_same done place (tail_of plan q a) same))
        ∙ ap (λ b. pooled b (has_come (done ++ place ∷ []) (tail_of plan q a)) (value_at day a (tail_of plan q a)))
        (sym (among_other done place q ne ∙ waits (is_among done q) refl))
      where
        waits : (b : Bool) → is_among done q ≡ b → is_among done q ≡ false
        waits false e = e
        waits true e = absurd (clash (f.tails_came q a on_q e) (ap (has_come done) (sym same) ∙ has_not_come))

    -- any other value
    not_moved : (q a : ℕ) → On a q → On a place → (place ≡ q → ⊥) → (place ≡ tail_of plan q a → ⊥)
        → cond (eqb (tail_of plan q a) place && leads_on plan place a) (account m.results a)
        (cond (eqb (tail_of plan q a) (tail_of plan place a)) None (p.pool a (tail_of plan q a)))
        ≡ pooled (is_among (done ++ place ∷ []) q) (has_come (done ++ place ∷ []) (tail_of plan q a))
        (value_at day a (tail_of plan q a))
    not_moved q a on_q on ne ne_tail =
        ap (λ b. cond (b && leads_on plan place a) (account m.results a)
        (cond (eqb (tail_of plan q a) (tail_of plan place a)) None (p.pool a (tail_of plan q a))))
        (ne_eqb (tail_of plan q a) place (λ e. ne_tail (sym e)))
        ∙ ap (λ b. cond b None (p.pool a (tail_of plan q a)))
        (ne_eqb (tail_of plan q a) (tail_of plan place a)
        (tails.tails_differ k.tails k.last (directory day) day.batch.instructions plan made a q place on_q on
        (λ e. ne (sym e))))
        ∙ f.pool q a on_q
        ∙ unchanged q a ne ne_tail

    pool_after : (q a : ℕ) → On a q
        → laid plan place (footprint_at day place) m.results (removed plan place (footprint_at day place) p.pool) a
        (tail_of plan q a)
        ≡ pooled (is_among (done ++ place ∷ []) q) (has_come (done ++ place ∷ []) (tail_of plan q a))
        (value_at day a (tail_of plan q a))
    pool_after q a on_q = by (is_among (footprint_at day place) a) refl where
      touched : is_among (footprint_at day place) a ≡ true → On a place
      touched e = on_from place a e

      by : (b : Bool) → is_among (footprint_at day place) a ≡ b
          → cond (b && (eqb (tail_of plan q a) place && leads_on plan place a)) (account m.results a)
          (cond (b && eqb (tail_of plan q a) (tail_of plan place a)) None (p.pool a (tail_of plan q a)))
          ≡ pooled (is_among (done ++ place ∷ []) q) (has_come (done ++ place ∷ []) (tail_of plan q a))
          (value_at day a (tail_of plan q a))
      by false e =
          let off : On a place → ⊥ = λ on. clash on (sym (footprint_touches day place a) ∙ e) in
          f.pool q a on_q ∙ unchanged q a (λ same. off (subst (On a) (sym same) on_q))
          (not_tail place q a on_q off next.low)
      by true e = elim (cases_eq place q) [
        | inl same ↦ subst
            (λ r. cond (eqb (tail_of plan r a) place && leads_on plan place a) (account m.results a)
            (cond (eqb (tail_of plan r a) (tail_of plan place a)) None (p.pool a (tail_of plan r a)))
            ≡ pooled (is_among (done ++ place ∷ []) r) (has_come (done ++ place ∷ []) (tail_of plan r a))
            (value_at day a (tail_of plan r a)))
            same (own_taken a (touched e))
        | inr ne ↦ elim (cases_eq place (tail_of plan q a)) [
          | inl same ↦ newly_laid q a on_q (touched e) e same
          | inr ne_tail ↦ not_moved q a on_q (touched e) ne ne_tail
        ]
      ]

    closing_after : (a : ℕ) → with_closing plan place (footprint_at day place) m.results p.closing a
        ≡ cond (is_among (done ++ place ∷ []) (last_at a)) (value_at day a (length day.batch.instructions)) None
    closing_after a = by (is_among (footprint_at day place) a) refl (leads_on plan place a) refl where
      stays : (place ≡ last_at a → ⊥)
          → p.closing a ≡ cond (is_among (done ++ place ∷ []) (last_at a))
          (value_at day a (length day.batch.instructions)) None
      stays ne = f.closing a ∙ ap (λ b. cond b (value_at day a (length day.batch.instructions)) None)
          (sym (among_other done place (last_at a) ne))

      by : (b : Bool) → is_among (footprint_at day place) a ≡ b → (c : Bool) → leads_on plan place a ≡ c
          → cond (b && not c) (account m.results a) (p.closing a)
          ≡ cond (is_among (done ++ place ∷ []) (last_at a)) (value_at day a (length day.batch.instructions)) None
      by false e c leads = stays (λ same.
          clash (subst (On a) (sym same)
          (tails.last_touches k.tails k.last (directory day) day.batch.instructions plan made a
          (omega (arith, same, next.low))))
          (sym (footprint_touches day place a) ∙ e))
      by true e true leads = stays
          (λ same. tails.not_last k.tails k.last (directory day) day.batch.instructions plan made a place leads
          (sym same))
      by true e false leads =
          let same : last_at a ≡ place =
          tails.last_of_all k.tails k.last (directory day) day.batch.instructions plan made a place
          (on_from place a e) leads in
          m.is_made.values a e
          ∙ ap (value_at day a) (sym same)
          ∙ sym (k.values day a (length day.batch.instructions))
          ∙ ap (λ b. cond b (value_at day a (length day.batch.instructions)) None)
          (sym (among_same done place (last_at a) (sym same)))

    rows_after : (q : ℕ) → with_log_row place m.row p.rows q
        ≡ cond (is_among (done ++ place ∷ []) q) (row_at day q) None
    rows_after q = elim (cases_eq place q) [
      | inl same ↦ ap (λ b. cond b (Some m.row) (p.rows q)) (eq-eqb q place (sym same)) ∙ sym m.is_made.row_is
          ∙ ap (row_at day) same
          ∙ ap (λ b. cond b (row_at day q) None) (sym (among_same done place q same))
      | inr ne ↦ ap (λ b. cond b (Some m.row) (p.rows q)) (ne_eqb q place (λ e. ne (sym e))) ∙ f.rows q
          ∙ ap (λ b. cond b (row_at day q) None) (sym (among_other done place q ne))
    ]

    -- a place that has come is one of those before, or this one
    either : (q : ℕ) → is_among (done ++ place ∷ []) q ≡ true → (is_among done q ≡ true) ⊎ (place ≡ q)
    either q e = by (is_among done q) refl (eqb place q) refl (sym (among_push done place q) ∙ e) where
      by : (b : Bool) → is_among done q ≡ b → (c : Bool) → eqb place q ≡ c → (b || c) ≡ true → (is_among done q ≡ true)
          ⊎ (place ≡ q)
      by true eb c ec h = inl eb
      by false eb true ec h = inr (eqb-true place q ec)
      by false eb false ec h = absurd cc

    pub follows_more : Follows (done ++ place ∷ []) (after_place day plan p place (m.results, m.row))
    follows_more = record {
      pool = pool_after;
      tails_came = λ q a on e. elim (either q e) [
        | inl before ↦ come_kept done place (tail_of plan q a) (f.tails_came q a on before)
        | inr same ↦ come_kept done place (tail_of plan q a)
            (subst (λ r. On a r → has_come done (tail_of plan r a) ≡ true) same (next.tails_came a) on)
      ];
      closing = closing_after;
      rows = rows_after;
      places = λ q e. elim (either q e) [
        | inl before ↦ f.places q before
        | inr same ↦ (omega (arith, same, next.low), omega (arith, same, next.high))
      ];
    }
