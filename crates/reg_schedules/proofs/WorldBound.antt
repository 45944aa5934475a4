-- No schedule has more events than three for each place and one for each arrow: each event uses up at least one of what
-- is left.
use Rattle.std.proofs.Common.{◌≡◌, ℕ, zero, suc, ◌+◌, ◌*◌, ◌<◌, ◌≤◌, Bool, true, false, cond, ◌||◌, eqb, List, [], ◌∷◌}
use Rattle.std.proofs.Common.{◌++◌, length, map, Option, Some, None, arith, refl, sym, ap, subst, ◌∙◌}
use Rattle.std.specs.Prelude.{slice_get, slice_set, is_some, filter, replicate, Result, Ok, Err, if◌then◌else◌}
use Rattle.std.specs.Option.{option_map_or}
use Rattle.std.specs.List.{IsDistinct, list_any}
use Rattle.std.proofs.lemmas.Bool.{eq-eqb, eqb-true}
use Rattle.std.proofs.lemmas.Option.{slice_get_within}
use Rattle.std.proofs.lemmas.List.{length-replicate}
use Rattle.reg_facts.proofs.lemmas.Numbers.{clash}
use Rattle.reg_base.specs.Footprint.{is_among, EachFootprintIsSound}
use Rattle.reg_base.specs.Touches.{LastToucherIsLast}
use Rattle.reg_rules.specs.declared.reply.LogRow.{LogRow}
use Rattle.reg_rules.specs.State.{State, numbers}
use Rattle.reg_rules.specs.Laws.{StepLaws}
use Rattle.reg_plan.specs.declared.arrow.Arrow.{Arrow}
use Rattle.reg_plan.specs.Plans.{PlanValue, IsPlan, inward, outward}
use Rattle.reg_plan.specs.Laws.{TailsAreLastTouchers}
use Rattle.reg_book.specs.Day.{DayValue}
use Rattle.reg_schedules.specs.Pool.{directory, footprint_at, leads_on}
use Rattle.reg_schedules.specs.declared.event.Event.{Event}
use Rattle.reg_schedules.specs.declared.event.EventFault.{EventFault}
use Rattle.reg_schedules.specs.Docks.{ParcelValue, TaskValue, complete}
use Rattle.reg_schedules.specs.World.{HandValue, Holds, Carries, empty, WorldValue, at_place, with_place, opened_at}
use Rattle.reg_schedules.specs.World.{docks_from, ready_from, before_some, pushed_to, left_by, goes_on, after_delivery}
use Rattle.reg_schedules.specs.World.{at_start, after_event, after_result, after_events, world_after}
use Rattle.reg_facts.specs.Counting.{one_if, total}
use Rattle.reg_schedules.proofs.lemmas.Known.{footprint_distinct}
use Rattle.reg_facts.proofs.lemmas.Totals.{total-set, total-append, total-replicate}
use Rattle.reg_schedules.proofs.lemmas.WorldSums.{place-within, get-within}
use Rattle.reg_schedules.proofs.WorldSteps.{Moves, Pushes, Runs, Step, moves, runs, delivers, pushes, step-of}
use Rattle.reg_schedules.proofs.lemmas.WorldCounts.{dock-of}
use Rattle.reg_schedules.proofs.WorldStart.{total-dealt}
use Rattle.reg_schedules.proofs.lemmas.WorldFits.{IsHand, all-get}
use Rattle.reg_schedules.proofs.WorldReach.{count, count-once, count-missing}
use Rattle.reg_schedules.proofs.lemmas.WorldSent.{run-numbers, numbers-of, firsts, held-undone}
use Rattle.reg_schedules.proofs.lemmas.WorldEnds.{Whole, whole-step, whole-start}

-- what is left to do: three events for a place in its dock or ready in a hand, two for one in a list, one for one in a
-- hand, and one for each parcel that is not delivered
abbrev pub dock_left : Option (List ParcelValue) → ℕ
dock_left None = 0
dock_left (Some came) = 3

abbrev pub hand_left : HandValue → ℕ
hand_left (Holds t) = 1
hand_left (Carries None ps) = length ps
hand_left (Carries (Some t) ps) = 3 + length ps

abbrev pub rows_left : List Arrow → ℕ → List (Option LogRow) → ℕ
rows_left arrows place [] = 0
rows_left arrows place (None ∷ rows) = length (outward arrows place) + rows_left arrows (suc place) rows
rows_left arrows place (Some row ∷ rows) = rows_left arrows (suc place) rows

abbrev pub left_to_do : PlanValue → WorldValue → ℕ
left_to_do plan w = total dock_left w.docks
    + (total (total (λ (t : TaskValue). 2)) w.lists + (total hand_left w.hands + rows_left plan.arrows 1 w.rows))

-- ---- arrows and accounts

-- no more of some different accounts have an arrow than there are arrows
length-filter-or : (p q : ℕ → Bool) (xs : List ℕ)
    → length (filter (λ x. p x || q x) xs) ≤ length (filter p xs) + length (filter q xs)
length-filter-or p q [] = omega arith
length-filter-or p q (x ∷ xs) = by (p x) (q x) (length-filter-or p q xs)
  where
    by : (b c : Bool) → length (filter (λ y. p y || q y) xs) ≤ length (filter p xs) + length (filter q xs)
        → length (cond (b || c) (x ∷ filter (λ y. p y || q y) xs) (filter (λ y. p y || q y) xs))
        ≤ length (cond b (x ∷ filter p xs) (filter p xs)) + length (cond c (x ∷ filter q xs) (filter q xs))
    by true true h = omega (arith, h)
    by true false h = omega (arith, h)
    by false true h = omega (arith, h)
    by false false h = h

length-none : (xs : List ℕ) → length (filter (λ x. false) xs) ≡ 0
length-none [] = refl
length-none (x ∷ xs) = length-none xs

-- an account stands at most once among different ones
count-most : (a : ℕ) (xs : List ℕ) → IsDistinct eqb xs → count a xs ≤ 1
count-most a xs distinct = by (is_among xs a) refl
  where
    by : (b : Bool) → is_among xs a ≡ b → count a xs ≤ 1
    by true e = let once = count-once a xs distinct e in omega (arith, once)
    by false e = let none = count-missing a xs e in omega (arith, none)

length-of-account : (a : ℕ) (xs : List ℕ) → length (filter (λ x. eqb a x) xs) ≡ count a xs
length-of-account a [] = refl
length-of-account a (x ∷ xs) = by (eqb a x) (eqb x a) refl refl (length-of-account a xs)
  where
    by : (b c : Bool) → eqb a x ≡ b → eqb x a ≡ c → length (filter (λ y. eqb a y) xs) ≡ count a xs
        → length (cond b (x ∷ filter (λ y. eqb a y) xs) (filter (λ y. eqb a y) xs)) ≡ one_if c + count a xs
    by true true e f h = omega (arith, h)
    by false false e f h = omega (arith, h)
    by true false e f h = absurd (clash (eq-eqb x a (sym (eqb-true a x e))) f)
    by false true e f h = absurd (clash (eq-eqb a x (sym (eqb-true x a f))) e)

pub few-arrows : (arrows : List Arrow) (xs : List ℕ) → IsDistinct eqb xs
    → length (filter (λ a. list_any (λ (w : Arrow). eqb w.account a) arrows) xs) ≤ length arrows
few-arrows [] xs distinct = let none = length-none xs in omega (arith, none)
few-arrows (w ∷ ws) xs distinct =
    omega (
      arith,
      length-filter-or (λ a. eqb w.account a) (λ a. list_any (λ (v : Arrow). eqb v.account a) ws) xs,
      few-arrows ws xs distinct,
      length-of-account w.account xs,
      count-most w.account xs distinct,
    )

length-left : (plan : PlanValue) (place : ℕ) (vs : State) → length (filter (goes_on plan) (left_by place vs))
    ≡ length (filter (leads_on plan place) (numbers vs))
length-left plan place [] = refl
length-left plan place (v ∷ vs) = by (leads_on plan place v.number) (length-left plan place vs)
  where
    by : (b : Bool) → length (filter (goes_on plan) (left_by place vs))
        ≡ length (filter (leads_on plan place) (numbers vs))
        → length (cond b (record { value = v; after = place } ∷ filter (goes_on plan) (left_by place vs))
        (filter (goes_on plan) (left_by place vs)))
        ≡ length (cond b (v.number ∷ filter (leads_on plan place) (numbers vs))
        (filter (leads_on plan place) (numbers vs)))
    by true h = omega (arith, h)
    by false h = h

-- a row comes where there was none
row-comes : (arrows : List Arrow) (first : ℕ) (rows : List (Option LogRow)) (k : ℕ) (row : LogRow) (place : ℕ)
    → first + k ≡ place → slice_get rows k ≡ Some None
    → rows_left arrows first (slice_set rows k (Some row)) + length (outward arrows place) ≡ rows_left arrows first rows
row-comes arrows first [] k row place e h = absurd cc
row-comes arrows first (None ∷ rows) zero row place e h = let same : first ≡ place = omega (arith, e) in
    omega (arith, ap (λ n. length (outward arrows n)) same)
row-comes arrows first (Some r ∷ rows) zero row place e h = absurd cc
row-comes arrows first (None ∷ rows) (suc k) row place e h =
    omega (arith, row-comes arrows (suc first) rows k row place (omega (arith, e)) h)
row-comes arrows first (Some r ∷ rows) (suc k) row place e h =
    row-comes arrows (suc first) rows k row place (omega (arith, e)) h

-- ---- arrows by their tails

abbrev pub sum_outward : List Arrow → ℕ → ℕ → ℕ
sum_outward arrows place zero = 0
sum_outward arrows place (suc more) = length (outward arrows place) + sum_outward arrows (suc place) more

one-tail : (w : Arrow) (place more : ℕ) → w.from < place → sum_outward (w ∷ []) place more ≡ 0
one-tail w place zero lt = refl
one-tail w place (suc more) lt = by (eqb w.from place) refl (one-tail w (suc place) more (omega (arith, lt)))
  where
    by : (b : Bool) → eqb w.from place ≡ b → sum_outward (w ∷ []) (suc place) more ≡ 0
        → length (cond b (w ∷ []) []) + sum_outward (w ∷ []) (suc place) more ≡ 0
    by true e rest = absurd (omega (arith, lt, eqb-true w.from place e))
    by false e rest = omega (arith, rest)

most-one : (w : Arrow) (place more : ℕ) → sum_outward (w ∷ []) place more ≤ 1
most-one w place zero = omega arith
most-one w place (suc more) = by (eqb w.from place) refl (most-one w (suc place) more)
  where
    by : (b : Bool) → eqb w.from place ≡ b → sum_outward (w ∷ []) (suc place) more ≤ 1
        → length (cond b (w ∷ []) []) + sum_outward (w ∷ []) (suc place) more ≤ 1
    by true e rest = omega (arith, one-tail w (suc place) more (omega (arith, eqb-true w.from place e)))
    by false e rest = omega (arith, rest)

sum-more : (w : Arrow) (ws : List Arrow) (place more : ℕ)
    → sum_outward (w ∷ ws) place more ≡ sum_outward (w ∷ []) place more + sum_outward ws place more
sum-more w ws place zero = omega arith
sum-more w ws place (suc more) = by (eqb w.from place) (sum-more w ws (suc place) more)
  where
    by : (b : Bool) → sum_outward (w ∷ ws) (suc place) more
        ≡ sum_outward (w ∷ []) (suc place) more + sum_outward ws (suc place) more
        → length (cond b (w ∷ outward ws place) (outward ws place)) + sum_outward (w ∷ ws) (suc place) more
        ≡ length (cond b (w ∷ []) []) + sum_outward (w ∷ []) (suc place) more
        + (length (outward ws place) + sum_outward ws (suc place) more)
    by true rest = omega (arith, rest)
    by false rest = omega (arith, rest)

none-out : (place more : ℕ) → sum_outward [] place more ≡ 0
none-out place zero = refl
none-out place (suc more) = omega (arith, none-out (suc place) more)

pub few-out : (arrows : List Arrow) (place more : ℕ) → sum_outward arrows place more ≤ length arrows
few-out [] place more = omega (arith, none-out place more)
few-out (w ∷ ws) place more = omega (arith, sum-more w ws place more, most-one w place more, few-out ws place more)

rows-start : (arrows : List Arrow) (place more : ℕ) → rows_left arrows place (replicate more None)
    ≡ sum_outward arrows place more
rows-start arrows place zero = refl
rows-start arrows place (suc more) = omega (arith, rows-start arrows (suc place) more)

pub total-place : {X : Type 0} (f : X → ℕ) (xs : List X) (place : ℕ) (x y : X) → at_place xs place ≡ Some x
    → total f (with_place xs place y) + f x ≡ total f xs + f y
total-place f xs zero x y e = absurd cc
total-place f xs (suc k) x y e = total-set f xs k x y e

-- a place without its row
pub undone-row : (rows : List (Option LogRow)) (place : ℕ) (x : Option LogRow) → at_place rows place ≡ Some x
    → option_map_or is_some (at_place rows place) false ≡ false → at_place rows place ≡ Some None
undone-row rows place None e undone = e
undone-row rows place (Some row) e undone = let done : option_map_or is_some (at_place rows place) false ≡ true =
    rw e refl in absurd (clash done undone)

row-placed : (arrows : List Arrow) (rows : List (Option LogRow)) (row : LogRow) (place : ℕ)
    → at_place rows place ≡ Some None
    → rows_left arrows 1 (with_place rows place (Some row)) + length (outward arrows place) ≡ rows_left arrows 1 rows
row-placed arrows rows row zero e = absurd cc
row-placed arrows rows row (suc k) e = row-comes arrows 1 rows k row (suc k) (omega arith) e

module _ (laws : StepLaws) (sound : EachFootprintIsSound) (tails : TailsAreLastTouchers) (last : LastToucherIsLast)
    (day : DayValue) (plan : PlanValue) (made : IsPlan (directory day) day.batch.instructions plan) where
  abbrev pub Held : ℕ → WorldValue → Type 0
  Held workers w = Whole laws sound tails last day plan made workers w

  abbrev pub Uses : WorldValue → WorldValue → Type 0
  Uses w y = suc (left_to_do plan y) ≤ left_to_do plan w

  move-uses : (w x : WorldValue) (worker from : ℕ) (task : TaskValue) (tasks : List TaskValue)
      → Moves w worker from task tasks x → Uses w x
  move-uses w x worker from task tasks m = subst (Uses w) m.now
      (omega (
        arith,
        total-set (total (λ (t : TaskValue). 2)) w.lists from (task ∷ tasks) tasks m.list,
        total-set hand_left w.hands worker empty (Holds task) m.hand,
      ))

  push-uses : (workers : ℕ) (w x : WorldValue) (worker : ℕ) (task : TaskValue) (ps : List ParcelValue) → Held workers w
      → Pushes w worker task ps x → Uses w x
  push-uses workers w x worker task ps whole p =
      let l = get-within w.lists worker
      (omega (
        arith,
        slice_get_within w.hands worker (Carries (Some task) ps) p.hand,
        whole.stands.hands,
        whole.stands.lists,
      )) in
      let more : pushed_to worker task w.lists ≡ slice_set w.lists worker (l.0 ++ task ∷ []) = rw l.1 refl in
      subst (Uses w) p.now
      (rw more (omega (
        arith,
        total-set (total (λ (t : TaskValue). 2)) w.lists worker l.0 (l.0 ++ task ∷ []) l.1,
        total-append (λ (t : TaskValue). 2) l.0 (task ∷ []),
        total-set hand_left w.hands worker (Carries (Some task) ps) (Carries None ps) p.hand,
      )))

  run-uses : (workers : ℕ) (w x : WorldValue) (worker : ℕ) (task : TaskValue) (out : State × LogRow) → Held workers w
      → Runs day plan w worker task out x → Uses w x
  run-uses workers w x worker task out whole ran =
      let is = all-get (IsHand tails last day plan made) w.hands worker (Holds task) whole.fits.hands ran.hand in
      let own : numbers out.0 ≡ footprint_at day task.place =
      run-numbers laws day task.place (map (λ p. p.value) task.parcels) out ran.run ∙ numbers-of task.parcels
      ∙ ap (map (λ (n : ℕ × ℕ). n.0)) is.names
      ∙ firsts (inward plan.arrows task.place) (footprint_at day task.place) in
      let few : length (filter (leads_on plan task.place) (numbers out.0)) ≤ length (outward plan.arrows task.place)
      = few-arrows (outward plan.arrows task.place) (numbers out.0)
      (subst (IsDistinct eqb) (sym own) (footprint_distinct sound day task.place)) in
      let there = place-within w.rows task.place is.low (omega (arith, is.high, whole.stands.rows)) in
      let row = undone-row w.rows task.place there.0 there.1
      (held-undone laws sound tails last day plan made (length day.batch.instructions) workers w worker task
      whole.stands is.low is.high ran.hand) in
      subst (Uses w) ran.now
      (omega (
        arith,
        few,
        length-left plan task.place out.0,
        row-placed plan.arrows w.rows out.1 task.place row,
        total-set hand_left w.hands worker (Holds task)
            (Carries None (filter (goes_on plan) (left_by task.place out.0))) ran.hand,
      ))

  deliver-uses : (w : WorldValue) (worker : ℕ) (p : ParcelValue) (ps : List ParcelValue) (place : ℕ)
      (came now : List ParcelValue) (o : Option TaskValue) → slice_get w.hands worker ≡ Some (Carries None (p ∷ ps))
      → at_place w.docks place ≡ Some (Some came) → Uses w (after_delivery worker w ps place now o)
  deliver-uses w worker p ps place came now None h d =
      omega (
        arith,
        total-place dock_left w.docks place (Some came) (Some now) d,
        total-set hand_left w.hands worker (Carries None (p ∷ ps)) (Carries None ps) h,
      )
  deliver-uses w worker p ps place came now (Some t) h d =
      omega (
        arith,
        total-place dock_left w.docks place (Some came) None d,
        total-set hand_left w.hands worker (Carries None (p ∷ ps)) (Carries (Some t) ps) h,
      )

  pub step-uses : (workers : ℕ) (w x : WorldValue) → Held workers w → Step day plan w x → Uses w x
  step-uses workers w x whole (moves worker from task tasks m) = move-uses w x worker from task tasks m
  step-uses workers w x whole (runs worker task out ran) = run-uses workers w x worker task out whole ran
  step-uses workers w x whole (delivers worker p ps place came d) =
      subst (Uses w) d.now (deliver-uses w worker p ps place came (came ++ p ∷ [])
      (complete day plan place (came ++ p ∷ [])) d.hand (dock-of w place came d.dock))
  step-uses workers w x whole (pushes worker task ps p) = push-uses workers w x worker task ps whole p

  events-use : (workers : ℕ) (events : List Event) (w x : WorldValue) → Held workers w
      → after_events day plan w events ≡ Some x → length events + left_to_do plan x ≤ left_to_do plan w
  events-use workers [] w x whole e = let same : w ≡ x = cc in omega (arith, ap (left_to_do plan) same)
  events-use workers (event ∷ events) w x whole e =
      by (after_event day plan w event) refl e (λ y held f. events-use workers events y x held f)
    where
      by : (r : Result WorldValue EventFault) → after_event day plan w event ≡ r
          → after_result (λ y. after_events day plan y events) r ≡ Some x
          → ((y : WorldValue) → Held workers y → after_events day plan y events ≡ Some x
          → length events + left_to_do plan x ≤ left_to_do plan y)
          → suc (length events) + left_to_do plan x ≤ left_to_do plan w
      by (Ok y) s f more =
          let step = step-of day plan event w y s in
          omega (
            arith,
            more y (whole-step laws sound tails last day plan made workers w y whole step) f,
            step-uses workers w y whole step,
          )
      by (Err why) s f more = absurd cc

  docks-start : (place more : ℕ)
      → total dock_left (docks_from day plan place more) + total (λ (t : TaskValue). 2) (ready_from day plan place more)
      ≤ 3 * more
  docks-start place zero = omega arith
  docks-start place (suc more) = by (complete day plan place (opened_at day plan place)) (docks-start (suc place) more)
    where
      by : (o : Option TaskValue)
          → total dock_left (docks_from day plan (suc place) more) + total (λ (t : TaskValue). 2)
          (ready_from day plan (suc place) more) ≤ 3 * more
          → dock_left (if is_some o then None else Some (opened_at day plan place))
          + total dock_left (docks_from day plan (suc place) more) + total (λ (t : TaskValue). 2)
          (before_some o (ready_from day plan (suc place) more)) ≤ 3 * suc more
      by None rest = omega (arith, rest)
      by (Some t) rest = omega (arith, rest)

  start-left : (workers : ℕ) → 1 ≤ workers
      → left_to_do plan (at_start day plan workers) ≤ 3 * length day.batch.instructions + length plan.arrows
  start-left workers some =
      omega (
        arith,
        docks-start 1 n,
        total-dealt (λ (t : TaskValue). 2) 0 (ready_from day plan 1 n) (replicate workers no-task)
            (omega (arith, some, long)),
        total-replicate (total (λ (t : TaskValue). 2)) workers no-task refl,
        total-replicate hand_left workers empty refl,
        rows-start plan.arrows 1 n,
        few-out plan.arrows 1 n,
      )
    where
      n : ℕ
      n = length day.batch.instructions

      no-task : List TaskValue
      no-task = []

      long : length (replicate workers no-task) ≡ workers
      long = length-replicate workers no-task

  pub events-bounded : (workers : ℕ) → 1 ≤ workers → (events : List Event) (x : WorldValue)
      → world_after day plan workers events ≡ Some x
      → length events ≤ 3 * length day.batch.instructions + length plan.arrows
  events-bounded workers some events x e =
      omega (
        arith,
        events-use workers events (at_start day plan workers) x
            (whole-start laws sound tails last day plan made workers some) e,
        start-left workers some,
      )
