-- An order is defined as far as no number in it has a fault, and a legal one gives the settled day.
use Rattle.std.proofs.Common.{◌≡◌, ℕ, zero, suc, ◌+◌, ◌<◌, ◌≤◌, inl, inr, ◌⊎◌, Bool, true, false, not, cond, ◌&&◌, ◌||◌}
use Rattle.std.proofs.Common.{eqb, leb, List, [], ◌∷◌, ◌++◌, length, Option, Some, None, arith, refl, sym, ap, subst}
use Rattle.std.proofs.Common.{◌∙◌, append_assoc}
use Rattle.std.specs.Prelude.{is_some, is_none, slice_get, find, MatchOption}
use Rattle.std.specs.Option.{option_map, option_or}
use Rattle.std.proofs.lemmas.Bool.{cases_eq, eq-eqb, eqb-false, ne_eqb, le-leb, lt-leb, not-false, not-true}
use Rattle.std.proofs.lemmas.List.{append-nil}
use Rattle.std.proofs.lemmas.List.Sorted.{Contains-permutation}
use Rattle.std.proofs.lemmas.Option.{slice_get_past, slice_get_cases}
use Rattle.reg_facts.proofs.lemmas.Members.{In, in_from, contains_from, any_in, Missing, search_of}
use Rattle.reg_facts.proofs.lemmas.Numbers.{clash}
use Rattle.reg_base.specs.declared.instruction.Instruction.{Instruction}
use Rattle.reg_base.specs.Footprint.{is_among}
use Rattle.reg_base.specs.Rising.{count_up}
use Rattle.reg_base.specs.Touches.{is_touched, last_toucher}
use Rattle.reg_rules.specs.State.{State}
use Rattle.reg_plan.specs.declared.arrow.Arrow.{Arrow}
use Rattle.reg_plan.specs.declared.order.OrderFault.{OrderFault}
use Rattle.reg_plan.specs.declared.order.OrderFault.TheVariants.{Length, Number, Repeated}
use Rattle.reg_plan.specs.Plans.{PlanValue, IsPlan, inward}
use Rattle.reg_plan.specs.Orders.{IsLegalOrder, waits, fault_at, first_fault_after, first_order_fault}
use Rattle.reg_plan.specs.Laws.{NoFaultIsALegalOrder}
use Rattle.reg_rules.specs.Step.{step, row_of}
use Rattle.reg_book.specs.Day.{DayValue, setting, value_at, row_at}
use Rattle.reg_book.specs.Laws.{UntouchedStay, SettledAreTouched}
use Rattle.reg_schedules.specs.Pool.{directory, footprint_at, run_at, tail_of, Progress, at_first, after_place, needed}
use Rattle.reg_schedules.specs.Pool.{executed_on, executed, executed_all, meaning_of, IsSettledDay}
use Rattle.reg_schedules.specs.Laws.{OrderDecides}
use Rattle.reg_schedules.proofs.lemmas.Tails as tails
use Rattle.reg_schedules.proofs.lemmas.Known.{footprint_touches}
use Rattle.reg_schedules.proofs.lemmas.Needed.{one_missing}
use Rattle.reg_schedules.proofs.Executing.{Known, has_come, pooled, Follows, MayFollow, follows_at_first, makes_at}
use Rattle.reg_schedules.proofs.Executing.{executed_is, follows_more}

module _ (k : Known) (day : DayValue) (plan : PlanValue)
    (made : IsPlan (directory day) day.batch.instructions plan) where
  abbrev Next : List ℕ → Progress → Type 0
  Next done p = Follows k day plan made done p

  -- where a number has no fault, it may follow
  record GoesOn (done : List ℕ) (p : Progress) (x : ℕ) (fault : Option OrderFault) : Type 0 where
    pub none : fault ≡ None
    pub after : Progress
    pub is_defined : executed day plan p x ≡ Some after
    pub follows : Next (done ++ x ∷ []) after

  -- where it has one, it is undefined
  record Stops (p : Progress) (x : ℕ) (fault : Option OrderFault) : Type 0 where
    pub cause : OrderFault
    pub some : fault ≡ Some cause
    pub is_undefined : executed day plan p x ≡ None

  no_instruction : (p : Progress) (x : ℕ) → (x ≡ 0) ⊎ (length day.batch.instructions < x) → executed day plan p x ≡ None
  no_instruction p zero any = by (is_some (p.rows 0)) where
    by : (b : Bool) → cond b None (executed_on day plan p 0 (Some [])) ≡ None
    by true = refl
    by false = refl
  no_instruction p (suc n) any = by (is_some (p.rows (suc n))) where
    past : slice_get day.batch.instructions n ≡ None
    past = slice_get_past day.batch.instructions n (omega_of any) where
      omega_of : (suc n ≡ 0) ⊎ (length day.batch.instructions < suc n) → length day.batch.instructions ≤ n
      omega_of (inl e) = absurd (omega (arith, e))
      omega_of (inr lt) = omega (arith, lt)

    nothing : (own : State) → run_at day (suc n) own ≡ None
    nothing own = ap (option_map
        (λ (i : Instruction). (
          (step (setting day) own (day.batch.base + suc n) i).0,
          row_of (setting day) (day.batch.base + suc n) i (step (setting day) own (day.batch.base + suc n) i).1,
        )))
        past

    never : (own : Option State) → executed_on day plan p (suc n) own ≡ None
    never None = refl
    never (Some own) = ap (option_map (after_place day plan p (suc n))) (nothing own)

    by : (b : Bool) → cond b None
        (executed_on day plan p (suc n) (needed plan p.pool (suc n) (footprint_at day (suc n)))) ≡ None
    by true = refl
    by false = never (needed plan p.pool (suc n) (footprint_at day (suc n)))

  was_executed : (done : List ℕ) (p : Progress) (n : ℕ) (i : Instruction) → slice_get day.batch.instructions n ≡ Some i
      → Next done p → is_among done (suc n) ≡ true → executed day plan p (suc n) ≡ None
  was_executed done p n i at f e =
      ap (λ r. cond (is_some r) None
      (executed_on day plan p (suc n) (needed plan p.pool (suc n) (footprint_at day (suc n)))))
      (f.rows (suc n) ∙ ap (λ b. cond b (row_at day (suc n)) None) e ∙ (k.each_step day n i at).row)

  -- an arrow to this place whose tail has not come
  tail_missing : (done : List ℕ) (p : Progress) (x : ℕ) (w : Arrow) → Next done p → is_among done x ≡ false
      → In w (inward plan.arrows x) → is_among done w.from ≡ false → executed day plan p x ≡ None
  tail_missing done p x w f fresh there waiting =
      let (on, tail, one) = tails.inward_tail k.tails k.last (directory day) day.batch.instructions plan made x w
      there in
      let not_come : has_come done (tail_of plan x w.account) ≡ false =
      ap (has_come done) tail ∙ ap (λ b. b || is_among done w.from) (ne_eqb w.from 0 (λ e. omega (arith, e, one)))
      ∙ waiting in
      let absent : p.pool w.account (tail_of plan x w.account) ≡ None =
      f.pool x w.account on
      ∙ ap (λ b. pooled b (has_come done (tail_of plan x w.account))
      (value_at day w.account (tail_of plan x w.account))) fresh
      ∙ ap (λ b. cond b (value_at day w.account (tail_of plan x w.account)) None) not_come in
      ap (λ o. cond (is_some (p.rows x)) None (executed_on day plan p x o))
      (one_missing plan p.pool x (footprint_at day x) w.account (footprint_touches day x w.account ∙ on) absent)
      ∙ always (is_some (p.rows x))
    where
      nowhere : Option Progress
      nowhere = None

      always : (b : Bool) → cond b nowhere nowhere ≡ nowhere
      always true = refl
      always false = refl

  -- no arrow to this place waits
  tails_there : (done : List ℕ) (x a : ℕ) → Missing (λ (w : Arrow). not (is_among done w.from)) (inward plan.arrows x)
      → tails.Touches (directory day) day.batch.instructions a x → has_come done (tail_of plan x a) ≡ true
  tails_there done x a missing on = by (eqb (tail_of plan x a) 0) refl where
    by : (b : Bool) → eqb (tail_of plan x a) 0 ≡ b → (b || is_among done (tail_of plan x a)) ≡ true
    by true e = refl
    by false e =
        let some : tail_of plan x a ≡ 0 → ⊥ = eqb-false (tail_of plan x a) 0 e in
        let (w, there, from) = tails.tail_inward k.tails k.last (directory day) day.batch.instructions plan made a x on
        (omega (arith, some)) in
        ap (is_among done) (sym from) ∙ not-false (is_among done w.from) (missing.each_fails w there)

  abbrev fault_of : List ℕ → ℕ → Option OrderFault
  fault_of done x = fault_at plan.arrows (length day.batch.instructions) (is_among done) (suc (length done)) x

  -- a place that has not come
  fresh_place : (done : List ℕ) (p : Progress) (n : ℕ) (i : Instruction) → slice_get day.batch.instructions n ≡ Some i
      → suc n ≤ length day.batch.instructions → Next done p → is_among done (suc n) ≡ false
      → GoesOn done p (suc n) (option_map waits
      (find (λ (w : Arrow). not (is_among done w.from)) (inward plan.arrows (suc n))))
      ⊎ Stops p (suc n) (option_map waits
      (find (λ (w : Arrow). not (is_among done w.from)) (inward plan.arrows (suc n))))
  fresh_place done p n i at high f fresh =
      elim (search_of (λ (w : Arrow). not (is_among done w.from)) (inward plan.arrows (suc n))) [
        | inl missing ↦
            let next : MayFollow k day plan made done (suc n) = record {
              low = omega arith;
              high = high;
              fresh = fresh;
              tails_came = λ a on. tails_there done (suc n) a missing on;
            } in
            let m = makes_at k day plan made done p n i at f next in
            inl (record {
              none = ap (option_map waits) missing.none;
              after = after_place day plan p (suc n) (m.results, m.row);
              is_defined = executed_is k day plan made done p (suc n) f next m;
              follows = follows_more k day plan made done p (suc n) f next m;
            })
        | inr one ↦ inr (record {
          cause = waits one.0;
          some = ap (option_map waits) one.1.found;
          is_undefined = tail_missing done p (suc n) one.0 f fresh one.1.there
              (not-true (is_among done one.0.from) one.1.passes);
        })
      ]

  -- what comes of one number
  one_number : (done : List ℕ) (p : Progress) (x : ℕ) → Next done p → GoesOn done p x (fault_of done x)
      ⊎ Stops p x (fault_of done x)
  one_number done p zero f = inr (record {
    cause = Number (suc (length done));
    some = ap (λ b. cond (b && leb 0 (length day.batch.instructions))
        (cond (is_among done 0) (Some (Repeated (suc (length done))))
        (option_map waits (find (λ (w : Arrow). not (is_among done w.from)) (inward plan.arrows 0))))
        (Some (Number (suc (length done)))))
        (lt-leb 1 0 (omega arith));
    is_undefined = no_instruction p 0 (inl refl);
  })
  one_number done p (suc n) f = elim (slice_get_cases day.batch.instructions n).1 [
    | inr past ↦ inr (record {
      cause = Number (suc (length done));
      some = placed ∙ ap (λ b. cond b rest (Some (Number (suc (length done)))))
          (lt-leb (suc n) (length day.batch.instructions) (omega (arith, past.0)));
      is_undefined = no_instruction p (suc n) (inr (omega (arith, past.0)));
    })
    | inl within ↦
        let inside : fault_of done (suc n) ≡ rest = placed
        ∙ ap (λ b. cond b rest (Some (Number (suc (length done)))))
        (le-leb (suc n) (length day.batch.instructions) (omega (arith, within.1))) in
        by within.0 within.2 (omega (arith, within.1)) inside (is_among done (suc n)) refl
  ] where
    waiting : Option OrderFault
    waiting = option_map waits (find (λ (w : Arrow). not (is_among done w.from)) (inward plan.arrows (suc n)))

    rest : Option OrderFault
    rest = cond (is_among done (suc n)) (Some (Repeated (suc (length done)))) waiting

    placed : fault_of done (suc n)
        ≡ cond (leb (suc n) (length day.batch.instructions)) rest (Some (Number (suc (length done))))
    placed = ap (λ b. cond (b && leb (suc n) (length day.batch.instructions)) rest (Some (Number (suc (length done)))))
        (le-leb 1 (suc n) (omega arith))

    by : (i : Instruction) → slice_get day.batch.instructions n ≡ Some i → suc n ≤ length day.batch.instructions
        → fault_of done (suc n) ≡ rest
        → (b : Bool) → is_among done (suc n) ≡ b → GoesOn done p (suc n) (fault_of done (suc n))
        ⊎ Stops p (suc n) (fault_of done (suc n))
    by i at high inside true e = inr (record {
      cause = Repeated (suc (length done));
      some = inside ∙ ap (λ b. cond b (Some (Repeated (suc (length done)))) waiting) e;
      is_undefined = was_executed done p n i at f e;
    })
    by i at high inside false e = subst (λ o. GoesOn done p (suc n) o ⊎ Stops p (suc n) o)
        (sym (inside ∙ ap (λ b. cond b (Some (Repeated (suc (length done)))) waiting) e))
        (fresh_place done p n i at high f e)

  -- all numbers of a list are executed
  record Ends (done xs : List ℕ) (p : Progress) : Type 0 where
    pub none : first_fault_after plan.arrows (length day.batch.instructions) done xs ≡ None
    pub after : Progress
    pub is_defined : executed_all day plan (Some p) xs ≡ Some after
    pub follows : Next (done ++ xs) after

  -- some number of it is undefined
  record Breaks (done xs : List ℕ) (p : Progress) : Type 0 where
    pub cause : OrderFault
    pub some : first_fault_after plan.arrows (length day.batch.instructions) done xs ≡ Some cause
    pub is_undefined : executed_all day plan (Some p) xs ≡ None

  none_left : (xs : List ℕ) → executed_all day plan None xs ≡ None
  none_left [] = refl
  none_left (x ∷ xs) = refl

  all_numbers : (done xs : List ℕ) (p : Progress) → Next done p → Ends done xs p ⊎ Breaks done xs p
  all_numbers done [] p f =
      inl (record {
        none = refl;
        after = p;
        is_defined = refl;
        follows = subst (λ ys. Next ys p) (sym (append-nil done)) f;
      })
  all_numbers done (x ∷ xs) p f = elim (one_number done p x f) [
    | inl on ↦ elim (all_numbers (done ++ x ∷ []) xs on.after on.follows) [
      | inl end ↦ inl (record {
        none = ap (λ o. option_or o (later_fault)) on.none ∙ end.none;
        after = end.after;
        is_defined = ap (λ o. executed_all day plan o xs) on.is_defined ∙ end.is_defined;
        follows = subst (λ ys. Next ys end.after) (append_assoc done (x ∷ []) xs) end.follows;
      })
      | inr break ↦ inr (record {
        cause = break.cause;
        some = ap (λ o. option_or o (later_fault)) on.none ∙ break.some;
        is_undefined = ap (λ o. executed_all day plan o xs) on.is_defined ∙ break.is_undefined;
      })
    ]
    | inr stop ↦ inr (record {
      cause = stop.cause;
      some = ap (λ o. option_or o (later_fault)) stop.some;
      is_undefined = ap (λ o. executed_all day plan o xs) stop.is_undefined ∙ none_left xs;
    })
  ] where
    later_fault : Option OrderFault
    later_fault = first_fault_after plan.arrows (length day.batch.instructions) (done ++ x ∷ []) xs

  any_order : (order : List ℕ) → Ends [] order (at_first day) ⊎ Breaks [] order (at_first day)
  any_order order = all_numbers [] order (at_first day) (follows_at_first k day plan made)

  pub undefined_is_fault : (order : List ℕ) → is_none (meaning_of day plan order)
      ≡ is_some (first_fault_after plan.arrows (length day.batch.instructions) [] order)
  undefined_is_fault order = elim (any_order order) [
    | inl end ↦ ap is_none end.is_defined ∙ sym (ap is_some end.none)
    | inr break ↦ ap is_none break.is_undefined ∙ sym (ap is_some break.some)
  ]

  pub in_count : (first more x : ℕ) → first ≤ x → x < first + more → In x (count_up first more)
  in_count first zero x le lt = absurd (omega arith)
  in_count first (suc more) x le lt = elim (cases_eq first x) [
    | inl e ↦ inl e
    | inr ne ↦ inr (in_count (first + 1) more x (up ne) (omega arith))
  ] where
    up : (first ≡ x → ⊥) → first + 1 ≤ x
    up ne = omega (arith, ne)

  pub in_among : (xs : List ℕ) (x : ℕ) → In x xs → is_among xs x ≡ true
  in_among xs x m = any_in (λ n. eqb n x) xs x m (eq-eqb x x refl)

  -- if all places have come, the last toucher has come of each account that is touched
  pub among_last : (order : List ℕ) (p : Progress) → Next order p
      → ((place : ℕ) → 1 ≤ place → place ≤ length day.batch.instructions → is_among order place ≡ true)
      → (a : ℕ) → is_among order (last_toucher (directory day) day.batch.instructions a (length day.batch.instructions))
      ≡ is_touched (directory day) day.batch.instructions a
  among_last order p f all a =
      by (last_toucher (directory day) day.batch.instructions a (length day.batch.instructions)) refl where
        no_zero : (b : Bool) → is_among order 0 ≡ b → b ≡ false
        no_zero false e = refl
        no_zero true e = absurd (omega (arith, (f.places 0 e).0))

        no_touch : 0 ≡ last_toucher (directory day) day.batch.instructions a (length day.batch.instructions)
            → (b : Bool)
            → is_touched (directory day) day.batch.instructions a ≡ b → b ≡ false
        no_touch none false e = refl
        no_touch none true e =
            let (n, lt, on) = tails.touched_somewhere (directory day) day.batch.instructions a e in
            absurd (clash on ((k.last (directory day) day.batch.instructions a
            (length day.batch.instructions)).none_later n (omega (arith, none)) lt))

        by : (t : ℕ) → t ≡ last_toucher (directory day) day.batch.instructions a (length day.batch.instructions)
            → is_among order t ≡ is_touched (directory day) day.batch.instructions a
        by zero e = no_zero (is_among order 0) refl
            ∙ sym (no_touch e (is_touched (directory day) day.batch.instructions a) refl)
        by (suc t) e =
            let on : tails.Touches (directory day) day.batch.instructions a (suc t) =
            subst (tails.Touches (directory day) day.batch.instructions a) (sym e)
            (tails.last_touches k.tails k.last (directory day) day.batch.instructions plan made a (omega (arith, e))) in
            all (suc t) (omega arith) (tails.is_within (directory day) day.batch.instructions a (suc t) on)
            ∙ sym (tails.touched_from (directory day) day.batch.instructions a (suc t) on)

  -- an order has come to its end
  settled : UntouchedStay → SettledAreTouched → (order : List ℕ) (p : Progress) → Next order p
      → ((place : ℕ) → 1 ≤ place → place ≤ length day.batch.instructions → is_among order place ≡ true)
      → IsSettledDay day p
  settled untouched touched order p f all = record {
    rows = λ place low high. let is : p.rows place ≡ row_at day place =
        f.rows place ∙ ap (λ b. cond b (row_at day place) None) (all place low high) in
        (ap is_some is ∙ has_row place low high, is);
    closing = λ a. f.closing a
        ∙ ap (λ b. cond b (value_at day a (length day.batch.instructions)) None) (among_last order p f all a)
        ∙ sym (touched day a);
  } where
    has_row : (place : ℕ) → 1 ≤ place → place ≤ length day.batch.instructions → is_some (row_at day place) ≡ true
    has_row zero low high = absurd (omega arith)
    has_row (suc n) low high = elim (slice_get_cases day.batch.instructions n).1 [
      | inl within ↦ ap is_some (k.each_step day n within.0 within.2).row
      | inr past ↦ absurd (omega (arith, past.0, high))
    ]

  pub fault_is : (order : List ℕ) → length order ≡ length day.batch.instructions
      → first_order_fault plan order ≡ first_fault_after plan.arrows (length day.batch.instructions) [] order
  fault_is order size =
      ap (λ b. cond b (first_fault_after plan.arrows (length plan.levels) [] order) (Some Length))
      (eq-eqb (length order) (length plan.levels) (size ∙ sym made.places))
      ∙ ap (λ n. first_fault_after plan.arrows n [] order) made.places

  pub order_decides : UntouchedStay → SettledAreTouched → NoFaultIsALegalOrder → (order : List ℕ)
      → OrderDecides day plan order
  order_decides untouched touched legal order = record {
    legal = λ is_legal. elim (any_order order) [
      | inl end ↦ subst (λ o. MatchOption o ⊥ (IsSettledDay day)) (sym end.is_defined)
          (settled untouched touched order end.after end.follows (λ place low high.
          in_among order place (in_from order place
          (Contains-permutation (count_up 1 (length plan.levels)) order place is_legal.permutation
          (contains_from (count_up 1 (length plan.levels)) place
          (in_count 1 (length plan.levels) place low (omega (arith, high, made.places))))))))
      | inr break ↦ absurd (is_none_some (sym (none_of is_legal) ∙ break.some))
    ];
    other = λ size no. elim (any_order order) [
      | inl end ↦ absurd (no ((legal (directory day) day.batch.instructions plan order made).0 (fault_is order size
          ∙ end.none)))
      | inr break ↦ break.is_undefined
    ];
  } where
    is_none_some : {c : OrderFault} → None ≡ Some c → ⊥
    is_none_some e = cc

    none_by : (b : Bool) → cond b (first_fault_after plan.arrows (length plan.levels) [] order) (Some Length) ≡ None
        → first_fault_after plan.arrows (length plan.levels) [] order ≡ None
    none_by true e = e
    none_by false e = absurd cc

    none_of : IsLegalOrder plan order → first_fault_after plan.arrows (length day.batch.instructions) [] order ≡ None
    none_of is_legal =
        sym (ap (λ n. first_fault_after plan.arrows n [] order) made.places)
        ∙ none_by (eqb (length order) (length plan.levels))
        ((legal (directory day) day.batch.instructions plan order made).1 is_legal)
