-- What a worker has in hand it can go on with; so in a world that is not over some event is possible.
use Rattle.std.proofs.Common.{◌≡◌, ℕ, zero, suc, ◌+◌, ◌≤◌, ◌⊎◌, inl, inr, Bool, true, false, not, ◌||◌, eqb, List, []}
use Rattle.std.proofs.Common.{◌∷◌, length, map, Option, Some, None, arith, refl, ap, subst, ◌∙◌}
use Rattle.std.specs.Prelude.{slice_get, is_some, is_ok, IsOk}
use Rattle.std.specs.Option.{option_map}
use Rattle.std.specs.List.{AllByRecursion}
use Rattle.std.proofs.lemmas.Bool.{eqb-true}
use Rattle.std.proofs.lemmas.Option.{slice_get_within}
use Rattle.reg_facts.proofs.lemmas.Members.{In, in_filter, any_in, Found, Missing, search_of, of_any}
use Rattle.reg_facts.proofs.lemmas.Numbers.{clash}
use Rattle.reg_base.specs.Footprint.{is_among, EachFootprintIsSound}
use Rattle.reg_base.specs.Touches.{LastToucherIsLast}
use Rattle.reg_rules.specs.declared.reply.LogRow.{LogRow}
use Rattle.reg_rules.specs.State.{State}
use Rattle.reg_rules.specs.Step.{step, row_of}
use Rattle.reg_rules.specs.Laws.{StepLaws}
use Rattle.reg_plan.specs.declared.arrow.Arrow.{Arrow}
use Rattle.reg_plan.specs.Plans.{PlanValue, IsPlan, inward, outward}
use Rattle.reg_plan.specs.Laws.{TailsAreLastTouchers}
use Rattle.reg_book.specs.Day.{DayValue, setting}
use Rattle.reg_schedules.specs.Pool.{directory, footprint_at, run_at, tail_in, leads_on}
use Rattle.reg_schedules.specs.Docks.{is_name, ParcelValue, TaskValue, names_needed, awaited, of_name, still_awaited}
use Rattle.reg_schedules.specs.Docks.{is_not_awaited}
use Rattle.reg_schedules.specs.declared.event.Event.{Event}
use Rattle.reg_schedules.specs.declared.event.Event.TheVariants.{Pop, Run, Deliver, Push}
use Rattle.reg_schedules.specs.World.{HandValue, Holds, Carries, empty, WorldValue, at_place, head_of, arrived, goes_on}
use Rattle.reg_schedules.specs.World.{after_event, is_in_dock, is_over}
use Rattle.reg_schedules.specs.Schedules.{is_to_run, is_to_deliver, is_to_push, has_hand, FindsDock, HandsGoOn}
use Rattle.reg_facts.specs.Counting.{one_if}
use Rattle.reg_schedules.proofs.lemmas.Known.{footprint_touches}
use Rattle.reg_schedules.proofs.lemmas.WorldSums.{get-within, at-most-total, one-most, is-true}
use Rattle.reg_schedules.proofs.lemmas.WorldFits.{name_is, IsHand, Awaits, all-get, head_awaits, name_itself}
use Rattle.reg_schedules.proofs.WorldReach.{times, carried, sent, lying, docked, has_come, found-times}
use Rattle.reg_schedules.proofs.lemmas.WorldSent.{counted}
use Rattle.reg_schedules.proofs.lemmas.WorldEnds.{Whole, no-task-over, dock-open}

-- a worker that has something in hand
abbrev pub Busy : HandValue → Type 0
Busy (Holds t) = Unit {0}
Busy (Carries (Some t) ps) = Unit {0}
Busy (Carries None (p ∷ ps)) = Unit {0}
Busy (Carries None []) = ⊥

pub record BusyHand (hands : List HandValue) : Type 0 where
  pub worker : ℕ
  pub hand : HandValue
  pub there : slice_get hands worker ≡ Some hand
  pub busy : Busy hand

pub record FullList (lists : List (List TaskValue)) : Type 0 where
  pub worker : ℕ
  pub task : TaskValue
  pub tasks : List TaskValue
  pub there : slice_get lists worker ≡ Some (task ∷ tasks)

idle-or-busy : (h : HandValue) → (h ≡ empty) ⊎ Busy h
idle-or-busy (Holds t) = inr tt
idle-or-busy (Carries (Some t) ps) = inr tt
idle-or-busy (Carries None (p ∷ ps)) = inr tt
idle-or-busy (Carries None []) = inl refl

pub any-busy : (hands : List HandValue) → AllByRecursion (λ h. h ≡ empty) hands ⊎ BusyHand hands
any-busy [] = inl tt
any-busy (h ∷ hs) = by (idle-or-busy h) (any-busy hs)
  where
    by : (h ≡ empty) ⊎ Busy h → AllByRecursion (λ x. x ≡ empty) hs ⊎ BusyHand hs
        → AllByRecursion (λ x. x ≡ empty) (h ∷ hs) ⊎ BusyHand (h ∷ hs)
    by (inr busy) rest = inr (record { worker = 0; hand = h; there = refl; busy = busy })
    by (inl idle) (inl all) = inl (idle, all)
    by (inl idle) (inr one) =
        inr (record { worker = suc one.worker; hand = one.hand; there = one.there; busy = one.busy })

pub any-full : (lists : List (List TaskValue)) → AllByRecursion (λ l. l ≡ []) lists ⊎ FullList lists
any-full [] = inl tt
any-full ((t ∷ ts) ∷ ls) = inr (record { worker = 0; task = t; tasks = ts; there = refl })
any-full ([] ∷ ls) = by (any-full ls)
  where
    by : AllByRecursion (λ l. l ≡ []) ls ⊎ FullList ls → AllByRecursion (λ l. l ≡ []) ([] ∷ ls) ⊎ FullList ([] ∷ ls)
    by (inl all) = inl (refl, all)
    by (inr one) = inr (record { worker = suc one.worker; task = one.task; tasks = one.tasks; there = one.there })

-- a place can be run
pub runs-at : (day : DayValue) (place : ℕ) (own : State) → 1 ≤ place → place ≤ length day.batch.instructions
    → (made : State × LogRow) × (run_at day place own ≡ Some made)
runs-at day zero own low high = absurd (omega (arith, low))
runs-at day (suc k) own low high =
    let i = get-within day.batch.instructions k (omega (arith, high)) in
    let found = i.1 in (
      (
        (step (setting day) own (day.batch.base + suc k) i.0).0,
        row_of (setting day) (day.batch.base + suc k) i.0 (step (setting day) own (day.batch.base + suc k) i.0).1,
      ),
      rw found refl,
    )

-- an arrow that leads on has a head
pub head-of : (plan : PlanValue) (place a : ℕ) → leads_on plan place a ≡ true
    → (head : ℕ) × (head_of plan place a ≡ Some head)
head-of plan place a on = by (search_of (λ (w : Arrow). eqb w.account a) (outward plan.arrows place))
  where
    by : Missing (λ (w : Arrow). eqb w.account a) (outward plan.arrows place)
        ⊎ ((w : Arrow) × Found (λ (w : Arrow). eqb w.account a) (outward plan.arrows place) w)
        → (head : ℕ) × (head_of plan place a ≡ Some head)
    by (inl missing) = let (w, there, passes) =
        of_any (λ (v : Arrow). eqb v.account a) (outward plan.arrows place) on in
        absurd (clash passes (missing.each_fails w there))
    by (inr one) = let w : Arrow = one.0 in (w.to, ap (option_map (λ (v : Arrow). v.to)) one.1.found)

-- a name is not found among parcels that do not have it
not-found : (parcels : List ParcelValue) (n : ℕ × ℕ) → times n parcels ≡ 0 → is_some (of_name parcels n) ≡ false
not-found parcels n none = by (of_name parcels n) refl
  where
    by : (o : Option ParcelValue) → of_name parcels n ≡ o → is_some o ≡ false
    by (Some p) e = absurd (omega (arith, none, found-times parcels n p e))
    by None e = refl

-- a dock that has not let its task go waits
pub waits-there : (w : WorldValue) (place : ℕ) (came : List ParcelValue) → at_place w.docks place ≡ Some (Some came)
    → arrived w place ≡ Some came
waits-there w place came e = rw e refl

-- the name that is needed of an account
in-needed : (arrows : List Arrow) (accounts : List ℕ) (a : ℕ) → is_among accounts a ≡ true
    → In (a, tail_in arrows a) (names_needed arrows accounts)
in-needed arrows [] a e = absurd cc
in-needed arrows (b ∷ more) a e = by (eqb b a) refl e (in-needed arrows more a)
  where
    by : (c : Bool) → eqb b a ≡ c → (c || is_among more a) ≡ true
        → (is_among more a ≡ true → In (a, tail_in arrows a) (names_needed arrows more))
        → In (a, tail_in arrows a) (names_needed arrows (b ∷ more))
    by true same f rest = inl (ap (λ n. (n, tail_in arrows n)) (eqb-true b a same))
    by false other f rest = inr (rest f)

module _ (laws : StepLaws) (sound : EachFootprintIsSound) (tails : TailsAreLastTouchers) (last : LastToucherIsLast)
    (day : DayValue) (plan : PlanValue) (made : IsPlan (directory day) day.batch.instructions plan) where
  abbrev pub Possible : WorldValue → Type 0
  Possible w = (event : Event) × IsOk (after_event day plan w event)

  -- a task in hand can be run
  task-runs : (workers : ℕ) (w : WorldValue) (worker : ℕ) (t : TaskValue)
      → Whole laws sound tails last day plan made workers w → slice_get w.hands worker ≡ Some (Holds t)
      → (out : State × LogRow) × (run_at day t.place (map (λ p. p.value) t.parcels) ≡ Some out)
  task-runs workers w worker t whole h =
      let is = all-get (IsHand tails last day plan made) w.hands worker (Holds t) whole.fits.hands h in
      runs-at day t.place (map (λ p. p.value) t.parcels) is.low is.high

  -- a parcel that has not come where it is awaited is still awaited there
  still-awaited : (place : ℕ) (came : List ParcelValue) (p : ParcelValue) → Awaits tails last day plan made place p
      → times (name_is p) came ≡ 0 → is_not_awaited day plan place came p ≡ false
  still-awaited place came p awaits none =
      ap not (any_in (is_name (name_is p)) (still_awaited day plan place came) (name_is p) there
      (name_itself (name_is p)))
    where
      wanted : In (name_is p) (awaited day plan place)
      wanted = subst (λ t. In (p.value.number, t) (awaited day plan place)) awaits.1
          (in-needed (inward plan.arrows place) (footprint_at day place) p.value.number
          (footprint_touches day place p.value.number ∙ awaits.0))

      there : In (name_is p) (still_awaited day plan place came)
      there = in_filter (λ name. not (is_some (of_name came name))) (awaited day plan place) (name_is p)
          (ap not (not-found came (name_is p) none)) wanted

  -- a parcel that is the next to be delivered finds its dock
  pub finds-dock : (workers : ℕ) (w : WorldValue) (worker : ℕ) (p : ParcelValue) (ps : List ParcelValue)
      → Whole laws sound tails last day plan made workers w → slice_get w.hands worker ≡ Some (Carries None (p ∷ ps))
      → FindsDock day plan w p
  finds-dock workers w worker p ps whole h =
      record {
        place = head.0;
        came = dock.0;
        head = head.1;
        waits = waits-there w head.0 dock.0 dock.1;
        is_awaited = still-awaited head.0 dock.0 p awaits (none-came dock.0 dock.1);
      }
    where
      goes : AllByRecursion (λ q. goes_on plan q ≡ true) (p ∷ ps)
      goes = all-get (IsHand tails last day plan made) w.hands worker (Carries None (p ∷ ps)) whole.fits.hands h

      head : (head : ℕ) × (head_of plan p.after p.value.number ≡ Some head)
      head = head-of plan p.after p.value.number goes.0

      awaits : Awaits tails last day plan made head.0 p
      awaits = head_awaits tails last day plan made p head.0 head.1

      -- its tail has come at most once, and it is in this hand: so neither in the dock nor taken from there
      sum : sent w (name_is p) + (docked w head.0 (name_is p) + one_if (not (is_in_dock w head.0)))
          ≡ one_if (has_come w p.after)
      sum = counted laws sound tails last day plan made w whole.reaches head.0 p awaits

      held : 1 ≤ sent w (name_is p)
      held = omega (
        arith,
        ap one_if (name_itself (name_is p)),
        at-most-total (λ k. times (name_is p) (carried k)) w.hands worker (Carries None (p ∷ ps)) h,
      )

      dock : (came : List ParcelValue) × (at_place w.docks head.0 ≡ Some (Some came))
      dock = dock-open laws sound tails last day plan made w head.0
          (is-true (is_in_dock w head.0) (omega (arith, sum, held, one-most (has_come w p.after))))

      none-came : (came : List ParcelValue) → at_place w.docks head.0 ≡ Some (Some came) → times (name_is p) came ≡ 0
      none-came came e =
          let here : docked w head.0 (name_is p) ≡ times (name_is p) came =
          ap (λ o. times (name_is p) (lying o)) (waits-there w head.0 came e) in
          omega (arith, sum, held, here, one-most (has_come w p.after))

  pub hands-go-on : (workers : ℕ) (w : WorldValue) → Whole laws sound tails last day plan made workers w
      → HandsGoOn day plan w
  unfolding after_event
  hands-go-on workers w whole = record {
    run = λ worker. runs worker (slice_get w.hands worker) refl;
    deliver = λ worker. delivers worker (slice_get w.hands worker) refl;
    push = λ worker. pushes worker (slice_get w.hands worker) refl;
    finds_dock = λ worker p ps h. finds-dock workers w worker p ps whole h;
  }
    where
      runs : (worker : ℕ) (o : Option HandValue) → slice_get w.hands worker ≡ o
          → is_ok (after_event day plan w (Run worker)) ≡ has_hand w worker is_to_run
      runs worker None e = rw e refl
      runs worker (Some (Carries t ps)) e = rw e refl
      runs worker (Some (Holds t)) e = let ran = (task-runs workers w worker t whole e).1 in rw (e, ran) refl

      delivers : (worker : ℕ) (o : Option HandValue) → slice_get w.hands worker ≡ o
          → is_ok (after_event day plan w (Deliver worker)) ≡ has_hand w worker is_to_deliver
      delivers worker None e = rw e refl
      delivers worker (Some (Holds t)) e = rw e refl
      delivers worker (Some (Carries (Some t) ps)) e = rw e refl
      delivers worker (Some (Carries None [])) e = rw e refl
      delivers worker (Some (Carries None (p ∷ ps))) e =
          let dock = finds-dock workers w worker p ps whole e in
          let head = dock.head in
          let waits = dock.waits in
          rw (e, head, waits) refl

      pushes : (worker : ℕ) (o : Option HandValue) → slice_get w.hands worker ≡ o
          → is_ok (after_event day plan w (Push worker)) ≡ has_hand w worker is_to_push
      pushes worker None e = rw e refl
      pushes worker (Some (Holds t)) e = rw e refl
      pushes worker (Some (Carries None ps)) e = rw e refl
      pushes worker (Some (Carries (Some t) ps)) e = rw e refl

  pop-possible : (workers : ℕ) (w : WorldValue) → Whole laws sound tails last day plan made workers w
      → AllByRecursion (λ h. h ≡ empty) w.hands → FullList w.lists → Possible w
  unfolding after_event
  pop-possible workers w whole idle full =
      let h = get-within w.hands full.worker
      (omega (
        arith,
        slice_get_within w.lists full.worker (full.task ∷ full.tasks) full.there,
        whole.stands.lists,
        whole.stands.hands,
      )) in
      let free : slice_get w.hands full.worker ≡ Some empty =
      h.1 ∙ ap Some (all-get (λ x. x ≡ empty) w.hands full.worker h.0 idle h.1) in
      let list = full.there in
      (Pop full.worker, rw (free, list) refl)

  pub some-possible : (workers : ℕ) (w : WorldValue) → Whole laws sound tails last day plan made workers w
      → is_over w ≡ false → Possible w
  some-possible workers w whole going = by (any-busy w.hands) (any-full w.lists)
    where
      has : (worker : ℕ) (h : HandValue) (is_so : HandValue → Bool) → slice_get w.hands worker ≡ Some h
          → has_hand w worker is_so ≡ is_so h
      has worker h is_so e = rw e refl

      hands : HandsGoOn day plan w
      hands = hands-go-on workers w whole

      busy : (worker : ℕ) (h : HandValue) → slice_get w.hands worker ≡ Some h → Busy h → Possible w
      busy worker (Holds t) e b = (Run worker, hands.run worker ∙ has worker (Holds t) is_to_run e)
      busy worker (Carries (Some t) ps) e b =
          (Push worker, hands.push worker ∙ has worker (Carries (Some t) ps) is_to_push e)
      busy worker (Carries None (p ∷ ps)) e b =
          (Deliver worker, hands.deliver worker ∙ has worker (Carries None (p ∷ ps)) is_to_deliver e)
      busy worker (Carries None []) e b = absurd b

      by : AllByRecursion (λ h. h ≡ empty) w.hands ⊎ BusyHand w.hands → AllByRecursion (λ l. l ≡ []) w.lists
          ⊎ FullList w.lists → Possible w
      by (inr one) lists = busy one.worker one.hand one.there one.busy
      by (inl idle) (inr full) = pop-possible workers w whole idle full
      by (inl idle) (inl none) =
          absurd (clash (no-task-over laws sound tails last day plan made workers w whole (none, idle)) going)
