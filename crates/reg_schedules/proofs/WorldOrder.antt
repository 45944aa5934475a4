-- Each world after a schedule is that of an order: of the places that were run, one after another.
use Rattle.std.proofs.Common.{◌≡◌, ℕ, zero, suc, ◌≤◌, Bool, true, false, not, cond, ◌||◌, ◌&&◌, eqb, List, [], ◌∷◌}
use Rattle.std.proofs.Common.{◌++◌, length, map, Option, Some, None, arith, refl, sym, ap, subst, ◌∙◌}
use Rattle.std.specs.Prelude.{slice_get, is_some, filter, replicate}
use Rattle.std.specs.Option.{option_map_or, option_or}
use Rattle.std.specs.List.{AllByRecursion, IsDistinct}
use Rattle.std.proofs.lemmas.Bool.{eq-eqb, eqb-true, ne_eqb}
use Rattle.std.proofs.lemmas.List.{map-append, length-append, append-nil}
use Rattle.std.proofs.lemmas.Option.{same_Some}
use Rattle.reg_facts.proofs.lemmas.Lists.{all-append, distinct-filter}
use Rattle.reg_facts.proofs.lemmas.Numbers.{clash}
use Rattle.reg_base.specs.Footprint.{is_among}
use Rattle.reg_base.proofs.lemmas.Among.{all_among}
use Rattle.reg_account.specs.Account.{AccountValue}
use Rattle.reg_rules.specs.declared.reply.LogRow.{LogRow}
use Rattle.reg_rules.specs.State.{State, account, numbers}
use Rattle.reg_plan.specs.Plans.{PlanValue, IsPlan, inward}
use Rattle.reg_rules.proofs.lemmas.Accounts.{account-number, found-among}
use Rattle.reg_book.specs.Day.{DayValue, value_at}
use Rattle.reg_schedules.specs.declared.event.Event.{Event}
use Rattle.reg_schedules.specs.Pool.{directory, footprint_at, run_at, tail_of, leads_on, Progress, at_first, and_more}
use Rattle.reg_schedules.specs.Pool.{needed, with_closing, with_log_row, after_place, executed, executed_all}
use Rattle.reg_schedules.specs.Docks.{ParcelValue, TaskValue, names_needed, complete}
use Rattle.reg_schedules.specs.World.{Holds, WorldValue, at_place, with_place, left_by, goes_on, after_run}
use Rattle.reg_schedules.specs.World.{after_delivery, at_start, is_in_dock, is_done, world_after}
use Rattle.reg_schedules.specs.Schedules.{IsRight, AreRight, in_hand, world_row_in, IsEachParcel, IsMadeBy}
use Rattle.reg_facts.specs.Counting.{one_if, total}
use Rattle.reg_facts.proofs.lemmas.Totals.{total-replicate}
use Rattle.reg_schedules.proofs.lemmas.Known.{footprint_touches, footprint_distinct}
use Rattle.reg_schedules.proofs.lemmas.Ran.{results_right}
use Rattle.reg_schedules.proofs.Executing as orders
use Rattle.reg_schedules.proofs.Executing.{Known, pooled, Follows, MayFollow, Makes, IsMade, follows_at_first, makes_at}
use Rattle.reg_schedules.proofs.Executing.{executed_is, follows_more, among_same, among_other}
use Rattle.reg_schedules.proofs.lemmas.Tails.{last_of_all}
use Rattle.reg_schedules.proofs.lemmas.WorldSums.{at-most-total, if-true, if-false, get-within, place-there, place-else}
use Rattle.reg_schedules.proofs.lemmas.WorldSums.{place-within}
use Rattle.reg_schedules.proofs.WorldSteps.{Step, moves, runs, delivers, pushes}
use Rattle.reg_schedules.proofs.lemmas.WorldCounts.{dock-of, in_hand_once}
use Rattle.reg_schedules.proofs.lemmas.WorldFits.{names_are, IsTask, IsHand, On, all-get}
use Rattle.reg_schedules.proofs.WorldReach.{come_in, has_come}
use Rattle.reg_schedules.proofs.lemmas.WorldSent.{run-numbers, numbers-of, firsts, held-undone}
use Rattle.reg_schedules.proofs.lemmas.WorldEnds.{Whole, whole-step, whole-start}
use Rattle.reg_schedules.proofs.WorldBound.{total-place, undone-row}
use Rattle.reg_schedules.proofs.WorldValues.{move-each, push-each, deliver-each, run-each, start-each}
use Rattle.reg_schedules.proofs.Schedules.{by-steps}

-- ---- accounts of two lists

account-append : (xs ys : State) (a : ℕ) → account (xs ++ ys) a ≡ option_or (account xs a) (account ys a)
account-append [] ys a = refl
account-append (x ∷ xs) ys a = by (eqb x.number a) (account-append xs ys a)
  where
    by : (b : Bool) → account (xs ++ ys) a ≡ option_or (account xs a) (account ys a)
        → cond b (Some x) (account (xs ++ ys) a) ≡ option_or (cond b (Some x) (account xs a)) (account ys a)
    by true rest = refl
    by false rest = rest

or-none : {X : Type 0} (o : Option X) → option_or o None ≡ o
or-none None = refl
or-none (Some x) = refl

distinct-append : (xs ys : List ℕ) → IsDistinct eqb xs → IsDistinct eqb ys
    → ((n : ℕ) → is_among ys n ≡ true → is_among xs n ≡ false) → IsDistinct eqb (xs ++ ys)
unfolding IsDistinct
distinct-append [] ys one two apart = two
distinct-append (x ∷ xs) ys one two apart = (
  all-append (λ m. eqb x m ≡ false) xs ys one.0
      (all_among (λ m. eqb x m ≡ false) ys (λ m e. first (eqb x m) (is_among xs m) (apart m e))),
  distinct-append xs ys one.1 two (λ m e. later (eqb x m) (is_among xs m) (apart m e)),
)
  where
    first : (b c : Bool) → (b || c) ≡ false → b ≡ false
    first true c e = absurd cc
    first false c e = refl

    later : (b c : Bool) → (b || c) ≡ false → c ≡ false
    later true c e = absurd cc
    later false c e = e

-- ---- the accounts of a run that are closing

abbrev closing_of : PlanValue → ℕ → State → State
closing_of plan place vs = map (λ p. p.value) (filter (λ p. not (goes_on plan p)) (left_by place vs))

numbers-closing : (plan : PlanValue) (place : ℕ) (vs : State) → numbers (closing_of plan place vs)
    ≡ filter (λ a. not (leads_on plan place a)) (numbers vs)
numbers-closing plan place [] = refl
numbers-closing plan place (v ∷ vs) = by (leads_on plan place v.number) (numbers-closing plan place vs)
  where
    by : (b : Bool) → numbers (closing_of plan place vs) ≡ filter (λ a. not (leads_on plan place a)) (numbers vs)
        → numbers (map (λ p. p.value)
        (cond (not b) (record { value = v; after = place } ∷ filter (λ p. not (goes_on plan p)) (left_by place vs))
        (filter (λ p. not (goes_on plan p)) (left_by place vs))))
        ≡ cond (not b) (v.number ∷ filter (λ a. not (leads_on plan place a)) (numbers vs))
        (filter (λ a. not (leads_on plan place a)) (numbers vs))
    by true rest = rest
    by false rest = ap (λ ns. v.number ∷ ns) rest

account-closing : (plan : PlanValue) (place a : ℕ) (vs : State) (b : Bool) → leads_on plan place a ≡ b
    → account (closing_of plan place vs) a ≡ cond b None (account vs a)
account-closing plan place a [] true on = refl
account-closing plan place a [] false on = refl
account-closing plan place a (v ∷ vs) b on =
    by b (leads_on plan place v.number) (eqb v.number a) on refl refl (account-closing plan place a vs b on)
  where
    by : (b c d : Bool) → leads_on plan place a ≡ b → leads_on plan place v.number ≡ c → eqb v.number a ≡ d
        → account (closing_of plan place vs) a ≡ cond b None (account vs a)
        → account (map (λ p. p.value)
        (cond (not c) (record { value = v; after = place } ∷ filter (λ p. not (goes_on plan p)) (left_by place vs))
        (filter (λ p. not (goes_on plan p)) (left_by place vs)))) a
        ≡ cond b None (cond d (Some v) (account vs a))
    by true true d e f g rest = rest
    by true false true e f g rest =
        absurd (clash (subst (λ n. leads_on plan place n ≡ true) (sym (eqb-true v.number a g)) e) f)
    by true false false e f g rest = ap (λ d. cond d (Some v) (account (closing_of plan place vs) a)) g ∙ rest
    by false true true e f g rest =
        absurd (clash f (subst (λ n. leads_on plan place n ≡ false) (sym (eqb-true v.number a g)) e))
    by false true false e f g rest = rest
    by false false true e f g rest = ap (λ d. cond d (Some v) (account (closing_of plan place vs) a)) g
    by false false false e f g rest = ap (λ d. cond d (Some v) (account (closing_of plan place vs) a)) g ∙ rest

-- ---- rows

abbrev rows-none : ℕ → List (Option LogRow)
rows-none n = replicate n None

none-at : (n place : ℕ) → option_map_or (λ row. row) (at_place (rows-none n) place) None ≡ None
none-at n zero = refl
none-at zero (suc k) = refl
none-at (suc n) (suc zero) = refl
none-at (suc n) (suc (suc k)) = none-at n (suc k)

pub row-done : (w : WorldValue) (place : ℕ) → is_some (world_row_in w place) ≡ is_done w place
row-done w place = by (at_place w.rows place)
  where
    by : (o : Option (Option LogRow)) → is_some (option_map_or (λ row. row) o None) ≡ option_map_or is_some o false
    by None = refl
    by (Some None) = refl
    by (Some (Some row)) = refl

left-right : (day : DayValue) (place : ℕ) (vs : State) → AllByRecursion (λ v. value_at day v.number place ≡ Some v) vs
    → AreRight day (left_by place vs)
left-right day place [] all = tt
left-right day place (v ∷ vs) all = (all.0, left-right day place vs all.1)

executed-more : (day : DayValue) (plan : PlanValue) (xs : List ℕ) (o : Option Progress) (p q : Progress) (place : ℕ)
    → executed_all day plan o xs ≡ Some p → executed day plan p place ≡ Some q
    → executed_all day plan o (xs ++ place ∷ []) ≡ Some q
executed-more day plan [] None p q place e f = absurd cc
executed-more day plan (x ∷ xs) None p q place e f = absurd cc
executed-more day plan [] (Some r) p q place e f = let same : r ≡ p = cc in
    ap (λ o. executed_all day plan o []) (ap (λ s. executed day plan s place) same ∙ f)
executed-more day plan (x ∷ xs) (Some r) p q place e f = executed-more day plan xs (executed day plan r x) p q place e f

module _ (k : Known) (day : DayValue) (plan : PlanValue)
    (made : IsPlan (directory day) day.batch.instructions plan) where
  abbrev pub WholeOf : ℕ → WorldValue → Type 0
  WholeOf workers w = Whole k.steps k.sound k.tails k.last day plan made workers w

  abbrev Touches : ℕ → ℕ → Type 0
  Touches a place = On k.tails k.last day plan made a place

  -- this order was run, and a world has what it has made
  pub record Ordered (order : List ℕ) (w : WorldValue) : Type 0 where
    pub progress : Progress
    pub is_of : IsMadeBy day plan order progress w
    pub follows : Follows k day plan made order progress
    pub many : length order ≡ total (λ r. one_if (is_some r)) w.rows
    pub once : IsDistinct eqb (numbers w.closing)
    pub right : IsEachParcel (IsRight day) w

  -- a place that is done stands in the order
  pub come-in-order : (order : List ℕ) (w : WorldValue) → Ordered order w → (t : ℕ) → come_in w.rows t ≡ true
      → orders.has_come order t ≡ true
  come-in-order order w h zero e = refl
  come-in-order order w h (suc t) e = ap (λ b. b || is_among order (suc t)) (ne_eqb (suc t) 0 (λ f. omega (arith, f)))
      ∙ h.is_of.done (suc t) ∙ e

  -- right parcels with the names that are needed are what a place takes from the pool
  taken-of : (p : Progress) (place : ℕ) (accounts : List ℕ) (ps : List ParcelValue)
      → names_are ps ≡ names_needed (inward plan.arrows place) accounts → AreRight day ps
      → AllByRecursion (λ a. p.pool a (tail_of plan place a) ≡ value_at day a (tail_of plan place a)) accounts
      → needed plan p.pool place accounts ≡ Some (map (λ q. q.value) ps)
  taken-of p place [] [] e right pool = refl
  taken-of p place [] (q ∷ qs) e right pool = absurd cc
  taken-of p place (a ∷ more) [] e right pool = absurd cc
  taken-of p place (a ∷ more) (q ∷ qs) e right pool =
      ap (λ o. and_more o (needed plan p.pool place more)) here
      ∙ ap (and_more (Some q.value)) (taken-of p place more qs tail right.1 pool.1)
    where
      head : ◌≡◌ {A = ℕ × ℕ} (q.value.number, q.after) (a, tail_of plan place a)
      head = cc

      tail : names_are qs ≡ names_needed (inward plan.arrows place) more
      tail = cc

      here : p.pool a (tail_of plan place a) ≡ Some q.value
      here = pool.0 ∙ sym (ap (λ (n : ℕ × ℕ). value_at day n.0 n.1) head) ∙ right.0

  module _ (workers : ℕ) (w : WorldValue) (worker : ℕ) (task : TaskValue) (out : State × LogRow)
      (whole : WholeOf workers w) (order : List ℕ) (h : Ordered order w)
      (in_it : slice_get w.hands worker ≡ Some (Holds task))
      (run : run_at day task.place (map (λ p. p.value) task.parcels) ≡ Some out) where
    abbrev own : State
    own = map (λ p. p.value) task.parcels

    is : IsTask k.tails k.last day plan made task
    is = all-get (IsHand k.tails k.last day plan made) w.hands worker (Holds task) whole.fits.hands in_it

    undone : is_done w task.place ≡ false
    undone = held-undone k.steps k.sound k.tails k.last day plan made (length day.batch.instructions) workers w worker
        task whole.stands is.low is.high in_it

    no-dock : is_in_dock w task.place ≡ false
    no-dock = if-false (is_in_dock w task.place)
        (omega (
          arith,
          ap one_if (eq-eqb task.place task.place refl),
          whole.stands.once task.place is.low is.high,
          at-most-total (in_hand_once task.place) w.hands worker (Holds task) in_it,
        ))

    -- the tails of a task that is in a hand have come
    tail-came : (a : ℕ) → Touches a task.place → orders.has_come order (tail_of plan task.place a) ≡ true
    tail-came a on = come-in-order order w h (tail_of plan task.place a)
        (if-true (has_come w (tail_of plan task.place a))
        (omega (arith, whole.reaches task.place a on, ap (λ b. one_if (not b)) no-dock)))

    may : MayFollow k day plan made order task.place
    may = record { low = is.low; high = is.high; fresh = h.is_of.done task.place ∙ undone; tails_came = tail-came }

    makes-at : (place : ℕ) → MayFollow k day plan made order place → Makes k day plan made order h.progress place
    makes-at zero next = absurd (omega (arith, next.low))
    makes-at (suc n) next = let i = get-within day.batch.instructions n (omega (arith, next.high)) in
        makes_at k day plan made order h.progress n i.0 i.1 h.follows next

    on-from : (a : ℕ) → is_among (footprint_at day task.place) a ≡ true → Touches a task.place
    on-from a e = sym (footprint_touches day task.place a) ∙ e

    taken : needed plan h.progress.pool task.place (footprint_at day task.place) ≡ Some own
    taken = taken-of h.progress task.place (footprint_at day task.place) task.parcels is.names
        (all-get (λ x. AreRight day (in_hand x)) w.hands worker (Holds task) h.right.hands in_it)
        (all_among (λ a. h.progress.pool a (tail_of plan task.place a) ≡ value_at day a (tail_of plan task.place a))
        (footprint_at day task.place) (λ a e.
        h.follows.pool task.place a (on-from a e)
        ∙ ap (λ b. pooled b (orders.has_come order (tail_of plan task.place a))
        (value_at day a (tail_of plan task.place a))) may.fresh
        ∙ ap (λ b. cond b (value_at day a (tail_of plan task.place a)) None) (tail-came a (on-from a e))))

    -- so the order makes of this place what the worker did
    makes : Makes k day plan made order h.progress task.place
    makes =
        let m = makes-at task.place may in
        let own-is : m.own ≡ own = same_Some m.own own (sym m.is_made.taken ∙ taken) in
        let out-is : (m.results, m.row) ≡ out =
        same_Some (m.results, m.row) out (sym m.is_made.run ∙ ap (run_at day task.place) own-is ∙ run) in
        record {
          own = own;
          results = out.0;
          row = out.1;
          is_made = subst (λ (o : State × LogRow). IsMade k day plan made order h.progress task.place own o.0 o.1)
              out-is
              (subst (λ s. IsMade k day plan made order h.progress task.place s m.results m.row) own-is m.is_made);
        }

    own-numbers : numbers own ≡ footprint_at day task.place
    own-numbers = numbers-of task.parcels ∙ ap (map (λ (n : ℕ × ℕ). n.0)) is.names
        ∙ firsts (inward plan.arrows task.place) (footprint_at day task.place)

    same-numbers : numbers out.0 ≡ numbers own
    same-numbers = run-numbers k.steps day task.place own out run

    row-then : (q : ℕ) → with_log_row task.place out.1 h.progress.rows q
        ≡ option_map_or (λ row. row) (at_place (with_place w.rows task.place (Some out.1)) q) None
    row-then q = by (eqb q task.place) refl
      where
        by : (b : Bool) → eqb q task.place ≡ b → cond b (Some out.1) (h.progress.rows q)
            ≡ option_map_or (λ row. row) (at_place (with_place w.rows task.place (Some out.1)) q) None
        by true e =
            let there = place-within w.rows task.place is.low (omega (arith, is.high, whole.stands.rows)) in
            sym (subst (λ n. option_map_or (λ row. row) (at_place (with_place w.rows task.place (Some out.1)) n) None
            ≡ Some out.1) (sym (eqb-true q task.place e))
            (ap (λ o. option_map_or (λ row. row) o None) (place-there w.rows task.place there.0 (Some out.1) there.1)))
        by false e = h.is_of.rows q
            ∙ sym (ap (λ o. option_map_or (λ row. row) o None)
            (place-else w.rows task.place q (Some out.1) (λ same. clash (eq-eqb q task.place (sym same)) e)))

    done-then : (q : ℕ) → is_among (order ++ task.place ∷ []) q
        ≡ option_map_or is_some (at_place (with_place w.rows task.place (Some out.1)) q) false
    done-then q = by (eqb task.place q) refl
      where
        by : (b : Bool) → eqb task.place q ≡ b → is_among (order ++ task.place ∷ []) q
            ≡ option_map_or is_some (at_place (with_place w.rows task.place (Some out.1)) q) false
        by true e =
            let same : task.place ≡ q = eqb-true task.place q e in
            let there = place-within w.rows task.place is.low (omega (arith, is.high, whole.stands.rows)) in
            among_same k day plan made order task.place q same
            ∙ sym (subst (λ n. option_map_or is_some (at_place (with_place w.rows task.place (Some out.1)) n) false
            ≡ true) same (ap (λ o. option_map_or is_some o false)
            (place-there w.rows task.place there.0 (Some out.1) there.1)))
        by false e =
            let other : task.place ≡ q → ⊥ = λ same. clash (eq-eqb task.place q same) e in
            among_other k day plan made order task.place q other ∙ h.is_of.done q
            ∙ sym (ap (λ o. option_map_or is_some o false) (place-else w.rows task.place q (Some out.1) other))

    -- an account from which no arrow leads on was not closing
    not-yet : (a : ℕ) → is_among (footprint_at day task.place) a ≡ true → leads_on plan task.place a ≡ false
        → account w.closing a ≡ None
    not-yet a e ends =
        let end = last_of_all k.tails k.last (directory day) day.batch.instructions plan made a task.place
        (on-from a e) ends in
        sym (h.is_of.closing a) ∙ h.follows.closing a
        ∙ ap (λ q. cond (is_among order q) (value_at day a (length day.batch.instructions)) None) end
        ∙ ap (λ b. cond b (value_at day a (length day.batch.instructions)) None) may.fresh

    not-found : (a : ℕ) → is_among (footprint_at day task.place) a ≡ false → account out.0 a ≡ None
    not-found a e = by (account out.0 a) (found-among out.0 a ∙ ap (λ ns. is_among ns a) (same-numbers ∙ own-numbers)
        ∙ e)
      where
        by : (o : Option AccountValue) → is_some o ≡ false → o ≡ None
        by None f = refl
        by (Some v) f = absurd cc

    closing-then : (a : ℕ) → with_closing plan task.place (footprint_at day task.place) out.0 h.progress.closing a
        ≡ account (w.closing ++ closing_of plan task.place out.0) a
    closing-then a = by (is_among (footprint_at day task.place) a) refl (leads_on plan task.place a) refl
        ∙ sym (account-append w.closing (closing_of plan task.place out.0) a)
      where
        by : (b : Bool) → is_among (footprint_at day task.place) a ≡ b → (c : Bool) → leads_on plan task.place a ≡ c
            → cond (b && not c) (account out.0 a) (h.progress.closing a)
            ≡ option_or (account w.closing a) (account (closing_of plan task.place out.0) a)
        by true e false leads = sym
            (ap (λ o. option_or o (account (closing_of plan task.place out.0) a)) (not-yet a e leads)
            ∙ account-closing plan task.place a out.0 false leads)
        by true e true leads = h.is_of.closing a ∙ sym (or-none (account w.closing a))
            ∙ sym (ap (option_or (account w.closing a)) (account-closing plan task.place a out.0 true leads))
        by false e c leads = h.is_of.closing a ∙ sym (or-none (account w.closing a))
            ∙ sym (ap (option_or (account w.closing a)) (account-closing plan task.place a out.0 c leads ∙ none c))
          where
            none : (c : Bool) → cond c None (account out.0 a) ≡ None
            none true = refl
            none false = not-found a e

    once-then : IsDistinct eqb (numbers (w.closing ++ closing_of plan task.place out.0))
    once-then = subst (IsDistinct eqb)
        (sym (map-append (λ (v : AccountValue). v.number) w.closing (closing_of plan task.place out.0)))
        (distinct-append (numbers w.closing) (numbers (closing_of plan task.place out.0)) h.once
        (subst (IsDistinct eqb) (sym (numbers-closing plan task.place out.0))
        (distinct-filter eqb (λ a. not (leads_on plan task.place a)) (numbers out.0)
        (subst (IsDistinct eqb) (sym (same-numbers ∙ own-numbers)) (footprint_distinct k.sound day task.place))))
        (λ a e. by a (found-among (closing_of plan task.place out.0) a ∙ e)))
      where
        by : (a : ℕ) → is_some (account (closing_of plan task.place out.0) a) ≡ true
            → is_among (numbers w.closing) a ≡ false
        by a e = at (leads_on plan task.place a) refl (is_among (footprint_at day task.place) a) refl
          where
            at : (c : Bool) → leads_on plan task.place a ≡ c → (b : Bool) → is_among (footprint_at day task.place) a ≡ b
                → is_among (numbers w.closing) a ≡ false
            at true leads b f = absurd (clash e (ap is_some (account-closing plan task.place a out.0 true leads)))
            at false leads true f = sym (found-among w.closing a) ∙ ap is_some (not-yet a f leads)
            at false leads false f = absurd
                (clash e (ap is_some (account-closing plan task.place a out.0 false leads ∙ not-found a f)))

    many-then : length (order ++ task.place ∷ [])
        ≡ total (λ r. one_if (is_some r)) (with_place w.rows task.place (Some out.1))
    many-then =
        let there = place-within w.rows task.place is.low (omega (arith, is.high, whole.stands.rows)) in
        let row = undone-row w.rows task.place there.0 there.1 undone in
        omega (
          arith,
          length-append order (task.place ∷ []),
          h.many,
          total-place (λ r. one_if (is_some r)) w.rows task.place None (Some out.1) row,
        )

    pub run-ordered : Ordered (order ++ task.place ∷ []) (after_run plan worker w task.place out)
    unfolding makes
    run-ordered = record {
      progress = after_place day plan h.progress task.place out;
      is_of = record {
        meaning = executed-more day plan order (Some (at_first day)) h.progress
            (after_place day plan h.progress task.place out) task.place h.is_of.meaning
            (executed_is k day plan made order h.progress task.place h.follows may makes);
        done = done-then;
        rows = row-then;
        closing = closing-then;
      };
      follows = follows_more k day plan made order h.progress task.place h.follows may makes;
      many = many-then;
      once = once-then;
      right = run-each (IsRight day) day plan w (after_run plan worker w task.place out) worker task out h.right
          (left-right day task.place out.0
          (results_right day task.place own out.0 out.1 k.sound
          (record { row_is = makes.is_made.row_is; values = makes.is_made.values; same_numbers = same-numbers })
          own-numbers))
          (record { hand = in_it; run = run; now = refl });
    }

  -- what does not run leaves rows and closing values as they are
  same-order : (order : List ℕ) (w x : WorldValue) → Ordered order w → w.rows ≡ x.rows → w.closing ≡ x.closing
      → IsEachParcel (IsRight day) x → Ordered order x
  same-order order w x h rows closing right = record {
    progress = h.progress;
    is_of = record {
      meaning = h.is_of.meaning;
      done = λ q. h.is_of.done q ∙ ap (λ r. option_map_or is_some (at_place r q) false) rows;
      rows = λ q. h.is_of.rows q ∙ ap (λ r. option_map_or (λ row. row) (at_place r q) None) rows;
      closing = λ a. h.is_of.closing a ∙ ap (λ s. account s a) closing;
    };
    follows = h.follows;
    many = h.many ∙ ap (total (λ r. one_if (is_some r))) rows;
    once = subst (λ s. IsDistinct eqb (numbers s)) closing h.once;
    right = right;
  }

  deliver-ordered : (order : List ℕ) (w : WorldValue) (worker : ℕ) (ps : List ParcelValue) (place : ℕ)
      (now : List ParcelValue) (o : Option TaskValue) → Ordered order w
      → IsEachParcel (IsRight day) (after_delivery worker w ps place now o)
      → Ordered order (after_delivery worker w ps place now o)
  deliver-ordered order w worker ps place now None h right =
      same-order order w (after_delivery worker w ps place now None) h refl refl right
  deliver-ordered order w worker ps place now (Some t) h right =
      same-order order w (after_delivery worker w ps place now (Some t)) h refl refl right

  -- a step adds a place to the order, or nothing
  pub record Extends (order : List ℕ) (x : WorldValue) : Type 0 where
    pub more : List ℕ
    pub ordered : Ordered (order ++ more) x

  silent : (order : List ℕ) (x : WorldValue) → Ordered order x → Extends order x
  silent order x h = record { more = []; ordered = subst (λ o. Ordered o x) (sym (append-nil order)) h }

  pub step-ordered : (workers : ℕ) (order : List ℕ) (w x : WorldValue) → WholeOf workers w → Ordered order w
      → Step day plan w x → Extends order x
  step-ordered workers order w x whole h (moves worker from task tasks m) =
      silent order x (same-order order w x h (ap (λ (y : WorldValue). y.rows) m.now)
      (ap (λ (y : WorldValue). y.closing) m.now) (move-each (IsRight day) w x worker from task tasks h.right m))
  step-ordered workers order w x whole h (runs worker task out r) =
      record {
        more = task.place ∷ [];
        ordered = subst (Ordered (order ++ task.place ∷ [])) r.now
            (run-ordered workers w worker task out whole order h r.hand r.run);
      }
  step-ordered workers order w x whole h (delivers worker p ps place came d) =
      silent order x (subst (Ordered order) d.now
      (deliver-ordered order w worker ps place (came ++ p ∷ []) (complete day plan place (came ++ p ∷ [])) h
      (deliver-each (IsRight day) day plan w worker p ps place came (complete day plan place (came ++ p ∷ [])) h.right
      d.hand (dock-of w place came d.dock) refl)))
  step-ordered workers order w x whole h (pushes worker task ps p) =
      silent order x (same-order order w x h (ap (λ (y : WorldValue). y.rows) p.now)
      (ap (λ (y : WorldValue). y.closing) p.now)
      (push-each (IsRight day) (length day.batch.instructions) workers w x worker task ps whole.stands h.right
      p))

  start-ordered : (workers : ℕ) → 1 ≤ workers → Ordered [] (at_start day plan workers)
  unfolding IsDistinct
  start-ordered workers some = record {
    progress = at_first day;
    is_of = record {
      meaning = refl;
      done = λ q. sym (ap is_some (none-at (length day.batch.instructions) q)) ∙ row-done (at_start day plan workers) q;
      rows = λ q. sym (none-at (length day.batch.instructions) q);
      closing = λ a. refl;
    };
    follows = follows_at_first k day plan made;
    many = sym (total-replicate (λ r. one_if (is_some r)) (length day.batch.instructions) no-row refl);
    once = tt;
    right = start-each (IsRight day) day plan
        (λ a v e. ap (account day.book.accounts) (account-number day.book.accounts a v e) ∙ e) workers some;
  }
    where
      no-row : Option LogRow
      no-row = None

  pub record IsOrdered (workers : ℕ) (w : WorldValue) : Type 0 where
    pub whole : WholeOf workers w
    pub order : List ℕ
    pub ordered : Ordered order w

  pub ordered-step : (workers : ℕ) (w y : WorldValue) → IsOrdered workers w → Step day plan w y → IsOrdered workers y
  ordered-step workers w y h s =
      let next = step-ordered workers h.order w y h.whole h.ordered s in
      record {
        whole = whole-step k.steps k.sound k.tails k.last day plan made workers w y h.whole s;
        order = h.order ++ next.more;
        ordered = next.ordered;
      }

  pub ordered-after : (workers : ℕ) → 1 ≤ workers → (events : List Event) (x : WorldValue)
      → world_after day plan workers events ≡ Some x → IsOrdered workers x
  ordered-after workers some events x e =
      by-steps day plan (IsOrdered workers) (ordered-step workers) events (at_start day plan workers) x
      (record {
        whole = whole-start k.steps k.sound k.tails k.last day plan made workers some;
        order = [];
        ordered = start-ordered workers some;
      }) e
