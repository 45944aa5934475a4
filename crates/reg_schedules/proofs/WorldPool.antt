-- Each parcel of a world is in the pool of its order.
use Rattle.std.proofs.Common.{◌≡◌, ℕ, zero, suc, ◌+◌, ◌≤◌, Bool, true, false, not, ◌&&◌, ◌||◌, cond, List, [], ◌∷◌}
use Rattle.std.proofs.Common.{Option, Some, None, arith, refl, sym, ap, subst, ◌∙◌}
use Rattle.std.specs.Prelude.{slice_get, is_some}
use Rattle.std.specs.List.{AllByRecursion}
use Rattle.std.proofs.lemmas.Bool.{eq-eqb, ne_eqb}
use Rattle.reg_facts.proofs.lemmas.Lists.{all-append, all-first, all-rest}
use Rattle.reg_base.specs.Footprint.{is_among}
use Rattle.reg_account.specs.Account.{AccountValue}
use Rattle.reg_plan.specs.Plans.{PlanValue, IsPlan}
use Rattle.reg_book.specs.Day.{DayValue, value_at}
use Rattle.reg_schedules.specs.Pool.{directory, tail_of}
use Rattle.reg_schedules.specs.Docks.{is_name, ParcelValue, TaskValue}
use Rattle.reg_schedules.specs.World.{HandValue, Holds, Carries, WorldValue, at_place, goes_on, is_in_dock, is_done}
use Rattle.reg_schedules.specs.Schedules.{IsRight, AreRight, in_dock, in_hand, times_named, IsEachParcel}
use Rattle.reg_schedules.specs.Schedules as world
use Rattle.reg_facts.specs.Counting.{one_if, total}
use Rattle.reg_schedules.proofs.lemmas.Known.{stays_known, touched_known}
use Rattle.reg_schedules.proofs.lemmas.WorldFits.{name_itself}
use Rattle.reg_schedules.proofs.WorldParcels.{task-awaits, value-once}
use Rattle.reg_schedules.proofs.Executing as orders
use Rattle.reg_schedules.proofs.Executing.{Known, pooled}
use Rattle.reg_schedules.proofs.lemmas.WorldSums.{at-most-total, one-most, if-true, if-false, is-true}
use Rattle.reg_schedules.proofs.lemmas.WorldSent.{counted}
use Rattle.reg_schedules.proofs.lemmas.WorldCounts.{in_list, in_hand_once}
use Rattle.reg_schedules.proofs.lemmas.WorldFits.{name_is, IsTask, IsHand, On, Awaits, all-get, head_awaits}
use Rattle.reg_schedules.proofs.WorldReach.{times, carried, sent, lying, docked, has_come}
use Rattle.reg_schedules.proofs.lemmas.WorldPossible.{head-of, waits-there}
use Rattle.reg_schedules.proofs.lemmas.Tails.{is_place, is_within}
use Rattle.reg_schedules.proofs.WorldOrder.{WholeOf, Ordered, come-in-order}

-- what holds of the item at each index holds of all
all-from : {X : Type 0} (P : X → Type 0) (xs : List X) → ((i : ℕ) (x : X) → slice_get xs i ≡ Some x → P x)
    → AllByRecursion P xs
all-from P [] each = tt
all-from P (x ∷ xs) each = (each 0 x refl, all-from P xs (λ i y e. each (suc i) y e))

-- a parcel among others counts there
times-there : (ps : List ParcelValue) (i : ℕ) (p : ParcelValue) → slice_get ps i ≡ Some p → 1 ≤ times (name_is p) ps
times-there ps i p e = omega (
  arith,
  ap one_if (name_itself (name_is p)),
  at-most-total (λ q. one_if (is_name (name_is q) (name_is p))) ps i p e,
)

module _ (k : Known) (day : DayValue) (plan : PlanValue)
    (made : IsPlan (directory day) day.batch.instructions plan) where
  abbrev Expects : ℕ → ParcelValue → Type 0
  Expects place p = Awaits k.tails k.last day plan made place p

  module _ (workers : ℕ) (order : List ℕ) (w : WorldValue) (whole : WholeOf k day plan made workers w)
      (h : Ordered k day plan made order w) where
    abbrev InPool : ParcelValue → Type 0
    InPool p = h.progress.pool p.value.number p.after ≡ Some p.value

    -- a parcel that has come and whose place is not done
    in-pool : (place : ℕ) (p : ParcelValue) → Expects place p → is_done w place ≡ false → has_come w p.after ≡ true
        → IsRight day p → InPool p
    in-pool place p awaits undone came right =
        subst (λ t. h.progress.pool p.value.number t
        ≡ pooled (is_among order place) (orders.has_come order t) (value_at day p.value.number t)) awaits.1
        (h.follows.pool place p.value.number awaits.0)
        ∙ ap (λ b. pooled b (orders.has_come order p.after) (value_at day p.value.number p.after)) (h.is_of.done place
        ∙ undone)
        ∙ ap (λ b. cond b (value_at day p.value.number p.after) None)
        (come-in-order k day plan made order w h p.after came)
        ∙ right

    counts : (place : ℕ) (p : ParcelValue) → Expects place p
        → sent w (name_is p) + (docked w place (name_is p) + one_if (not (is_in_dock w place)))
        ≡ one_if (has_come w p.after)
    counts place p awaits = counted k.steps k.sound k.tails k.last day plan made w whole.reaches place p awaits

    -- a task that is in a list or a hand is neither in its dock nor done
    record IsOut (place : ℕ) : Type 0 where
      pub no_dock : is_in_dock w place ≡ false
      pub undone : is_done w place ≡ false

    is-out : (t : TaskValue) → IsTask k.tails k.last day plan made t
        → 1 ≤ total (total (in_list t.place)) w.lists + total (in_hand_once t.place) w.hands → IsOut t.place
    is-out t is some = record {
      no_dock = if-false (is_in_dock w t.place) (omega (arith, some, whole.stands.once t.place is.low is.high));
      undone = if-false (is_done w t.place) (omega (arith, some, whole.stands.once t.place is.low is.high));
    }

    task-pool : (t : TaskValue) → IsTask k.tails k.last day plan made t → IsOut t.place → AreRight day t.parcels
        → AllByRecursion InPool t.parcels
    task-pool t is out right =
        all-from InPool t.parcels
        (λ i p e. by p (all-get (Expects t.place) t.parcels i p
        (task-awaits k.steps k.sound k.tails k.last day plan made t is) e)
        (all-get (IsRight day) t.parcels i p right e))
      where
        by : (p : ParcelValue) → Expects t.place p → IsRight day p → InPool p
        by p awaits right = in-pool t.place p awaits out.undone
            (if-true (has_come w p.after)
            (omega (arith, counts t.place p awaits, ap (λ b. one_if (not b)) out.no_dock))) right

    -- a place that waits in its dock is not done
    dock-undone : (place : ℕ) (p : ParcelValue) → Expects place p → is_in_dock w place ≡ true → is_done w place ≡ false
    dock-undone place p awaits waits =
        if-false (is_done w place)
        (omega (
          arith,
          ap one_if waits,
          whole.stands.once place (is_place (directory day) day.batch.instructions p.value.number place awaits.0)
              (is_within (directory day) day.batch.instructions p.value.number place awaits.0),
        ))

    dock-pool : (place : ℕ) (came : List ParcelValue) → at_place w.docks place ≡ Some (Some came) → AreRight day came
        → AllByRecursion InPool came
    dock-pool place came e right = all-from InPool came by
      where
        waits : is_in_dock w place ≡ true
        waits = rw e refl

        here : (n : ℕ × ℕ) → docked w place n ≡ times n came
        here n = ap (λ o. times n (lying o)) (waits-there w place came e)

        by : (i : ℕ) (p : ParcelValue) → slice_get came i ≡ Some p → InPool p
        by i p f =
            let awaits = all-get (Expects place) came i p (whole.fits.docks place came e).awaits f in
            let some : has_come w p.after
            ≡ true = if-true (has_come w p.after)
            (omega (arith, counts place p awaits, here (name_is p), times-there came i p f)) in
            in-pool place p awaits (dock-undone place p awaits waits) some (all-get (IsRight day) came i p right f)

    -- the parcels that a hand carries, beside a task that it may have
    carried-pool : (worker : ℕ) (hand : HandValue) → slice_get w.hands worker ≡ Some hand
        → AllByRecursion (λ p. goes_on plan p ≡ true) (carried hand) → AreRight day (carried hand)
        → AllByRecursion InPool (carried hand)
    carried-pool worker hand e goes right = all-from InPool (carried hand) by
      where
        by : (i : ℕ) (p : ParcelValue) → slice_get (carried hand) i ≡ Some p → InPool p
        by i p f =
            let head = head-of plan p.after p.value.number
            (all-get (λ q. goes_on plan q ≡ true) (carried hand) i p goes f) in
            let awaits = head_awaits k.tails k.last day plan made p head.0 head.1 in
            let held : 1 ≤ sent w (name_is p) =
            omega (
              arith,
              times-there (carried hand) i p f,
              at-most-total (λ x. times (name_is p) (carried x)) w.hands worker hand e,
            ) in
            let waits : is_in_dock w head.0
            ≡ true = is-true (is_in_dock w head.0)
            (omega (arith, counts head.0 p awaits, held, one-most (has_come w p.after))) in
            let came : has_come w p.after ≡ true =
            if-true (has_come w p.after) (omega (arith, counts head.0 p awaits, held)) in
            in-pool head.0 p awaits (dock-undone head.0 p awaits waits) came
            (all-get (IsRight day) (carried hand) i p right f)

    hand-pool : (worker : ℕ) (hand : HandValue) → slice_get w.hands worker ≡ Some hand
        → IsHand k.tails k.last day plan made hand → AreRight day (in_hand hand) → AllByRecursion InPool (in_hand hand)
    hand-pool worker (Holds t) e is right =
        task-pool t is (is-out t is
        (omega (
          arith,
          ap one_if (eq-eqb t.place t.place refl),
          at-most-total (in_hand_once t.place) w.hands worker (Holds t) e,
        ))) right
    hand-pool worker (Carries None ps) e is right = carried-pool worker (Carries None ps) e is right
    hand-pool worker (Carries (Some t) ps) e is right =
        all-append InPool t.parcels ps
        (task-pool t is.0 (is-out t is.0
        (omega (
          arith,
          ap one_if (eq-eqb t.place t.place refl),
          at-most-total (in_hand_once t.place) w.hands worker (Carries (Some t) ps) e,
        )))
        (all-first (IsRight day) t.parcels ps right))
        (carried-pool worker (Carries (Some t) ps) e is.1 (all-rest (IsRight day) t.parcels ps right))

    pub each-in-pool : IsEachParcel InPool w
    each-in-pool = record {
      docks = all-from (λ d. AllByRecursion InPool (in_dock d)) w.docks
          (λ i d e. docks i d e (all-get (λ x. AreRight day (in_dock x)) w.docks i d h.right.docks e));
      lists = all-from (AllByRecursion (λ t. AllByRecursion InPool t.parcels)) w.lists lists;
      hands = all-from (λ x. AllByRecursion InPool (in_hand x)) w.hands (λ i x e.
          hand-pool i x e (all-get (IsHand k.tails k.last day plan made) w.hands i x whole.fits.hands e)
          (all-get (λ y. AreRight day (in_hand y)) w.hands i x h.right.hands e));
    }
      where
        docks : (i : ℕ) (d : Option (List ParcelValue)) → slice_get w.docks i ≡ Some d → AreRight day (in_dock d)
            → AllByRecursion InPool (in_dock d)
        docks i None e right = tt
        docks i (Some came) e right = dock-pool (suc i) came e right

        lists : (i : ℕ) (l : List TaskValue) → slice_get w.lists i ≡ Some l
            → AllByRecursion (λ t. AllByRecursion InPool t.parcels) l
        lists i l e = all-from (λ t. AllByRecursion InPool t.parcels) l (λ j t f.
            let is = all-get (IsTask k.tails k.last day plan made) l j t
            (all-get (AllByRecursion (IsTask k.tails k.last day plan made)) w.lists i l whole.fits.lists e) f in
            task-pool t is (is-out t is
            (omega (
              arith,
              ap one_if (eq-eqb t.place t.place refl),
              at-most-total (in_list t.place) l j t f,
              at-most-total (total (in_list t.place)) w.lists i l e,
            )))
            (all-get (λ x. AreRight day x.parcels) l j t
            (all-get (AllByRecursion (λ x. AreRight day x.parcels)) w.lists i l h.right.lists e) f))

    -- a value of the pool that a place needs has come, and the place is not done
    pub each-lies : (place a : ℕ) → On k.tails k.last day plan made a place → times_named w (a, tail_of plan place a)
        ≡ one_if (is_some (h.progress.pool a (tail_of plan place a)))
    each-lies place a on = value-once k.steps k.sound k.tails k.last day plan made place a on workers w whole
        ∙ ap one_if (sym pooled-is)
      where
        come-is : (t : ℕ) → orders.has_come order t ≡ world.has_come w t
        come-is zero = refl
        come-is (suc t) = ap (λ b. b || is_among order (suc t)) (ne_eqb (suc t) 0 (λ f. omega (arith, f)))
            ∙ h.is_of.done (suc t)

        there : is_some (value_at day a (tail_of plan place a)) ≡ true
        there = stays_known k.numbers day (tail_of plan place a) a ∙ touched_known k.sound day place a on

        by : (b c : Bool) (o : Option AccountValue) → is_some o ≡ true → is_some (pooled c b o) ≡ (b && not c)
        by true true o e = refl
        by false true o e = refl
        by true false o e = e
        by false false o e = refl

        pooled-is : is_some (h.progress.pool a (tail_of plan place a))
            ≡ (world.has_come w (tail_of plan place a) && not (is_done w place))
        pooled-is = ap is_some (h.follows.pool place a on)
            ∙ by (orders.has_come order (tail_of plan place a)) (is_among order place)
            (value_at day a (tail_of plan place a)) there
            ∙ ap (λ b. b && not (is_among order place)) (come-is (tail_of plan place a))
            ∙ ap (λ c. world.has_come w (tail_of plan place a) && not c) (h.is_of.done place)
