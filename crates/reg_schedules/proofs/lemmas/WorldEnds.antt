-- A world in which no worker has anything is over; in any other, some event is possible.
use Rattle.std.proofs.Common.{◌≡◌, ℕ, zero, suc, ◌+◌, ◌<◌, ◌≤◌, Bool, true, false, cond, ◌&&◌, eqb, List, [], ◌∷◌}
use Rattle.std.proofs.Common.{length, Option, Some, None, arith, refl, sym, ap, ◌∙◌}
use Rattle.std.specs.Prelude.{slice_get, is_some}
use Rattle.std.specs.Option.{option_map_or}
use Rattle.std.specs.List.{AllByRecursion, list_all}
use Rattle.std.proofs.lemmas.Bool.{eq-eqb, eqb-true}
use Rattle.reg_facts.proofs.lemmas.Numbers.{clash}
use Rattle.reg_base.specs.Footprint.{EachFootprintIsSound}
use Rattle.reg_base.specs.Touches.{LastToucherIsLast}
use Rattle.reg_base.proofs.lemmas.Among.{all_among}
use Rattle.reg_rules.specs.declared.reply.LogRow.{LogRow}
use Rattle.reg_rules.specs.Laws.{StepLaws}
use Rattle.reg_plan.specs.declared.arrow.Arrow.{Arrow}
use Rattle.reg_plan.specs.Plans.{PlanValue, IsPlan, inward}
use Rattle.reg_plan.specs.Laws.{TailsAreLastTouchers}
use Rattle.reg_book.specs.Day.{DayValue}
use Rattle.reg_schedules.specs.Pool.{directory, footprint_at, tail_of, tail_in}
use Rattle.reg_schedules.specs.Docks.{names_needed, is_name, ParcelValue, TaskValue, of_name, of_names, awaited}
use Rattle.reg_schedules.specs.Docks.{complete}
use Rattle.reg_schedules.specs.World.{HandValue, empty, WorldValue, at_place, at_start, is_in_dock, is_done, is_over}
use Rattle.reg_schedules.specs.World.{world_after}
use Rattle.reg_facts.specs.Counting.{one_if, total}
use Rattle.reg_schedules.specs.Schedules.{HasNoTask}
use Rattle.reg_schedules.proofs.lemmas.Known.{footprint_touches, footprint_distinct}
use Rattle.reg_schedules.proofs.lemmas.Tails.{tail_before}
use Rattle.reg_schedules.proofs.WorldSteps.{Step}
use Rattle.reg_schedules.proofs.lemmas.WorldCounts.{Stands, in_list, in_hand_once, step-stands}
use Rattle.reg_schedules.proofs.WorldStart.{start-stands}
use Rattle.reg_schedules.proofs.lemmas.WorldFits.{name_is, Fits, Awaits, On, step-fits}
use Rattle.reg_schedules.proofs.WorldReach.{times, carried, sent, has_come, count, count-once, name_differs}
use Rattle.reg_schedules.proofs.lemmas.WorldSent.{Reaches, step-reaches}
use Rattle.reg_schedules.proofs.WorldBegin.{start-fits, start-reaches}
use Rattle.reg_schedules.proofs.Schedules.{by-steps}
use Rattle.reg_schedules.specs.declared.event.Event.{Event}

-- ---- a dock to which all came

some-found : (parcels : List ParcelValue) (n : ℕ × ℕ) → 1 ≤ times n parcels → (p : ParcelValue)
    × (of_name parcels n ≡ Some p)
some-found [] n h = absurd (omega (arith, h))
some-found (q ∷ qs) n h = by (is_name (name_is q) n) refl h (some-found qs n)
  where
    by : (b : Bool) → is_name (name_is q) n ≡ b → 1 ≤ one_if b + times n qs
        → (1 ≤ times n qs → (p : ParcelValue) × (of_name qs n ≡ Some p)) → (p : ParcelValue)
        × (cond b (Some q) (of_name qs n) ≡ Some p)
    by true e g rest = (q, refl)
    by false e g rest = rest (omega (arith, g))

some-names : (parcels : List ParcelValue) (wanted : List (ℕ × ℕ)) → AllByRecursion (λ n. 1 ≤ times n parcels) wanted
    → (ps : List ParcelValue) × (of_names parcels wanted ≡ Some ps)
some-names parcels [] all = ([], refl)
some-names parcels (n ∷ more) all =
    let one = some-found parcels n all.0 in
    let rest = some-names parcels more all.1 in
    let first = one.1 in
    let others = rest.1 in
    (one.0 ∷ rest.0, rw (first, others) refl)

sum-of : (p : ParcelValue) (ps : List ParcelValue) (wanted : List (ℕ × ℕ)) → total (λ n. times n (p ∷ ps)) wanted
    ≡ total (λ n. one_if (is_name (name_is p) n)) wanted + total (λ n. times n ps) wanted
sum-of p ps [] = omega arith
sum-of p ps (n ∷ more) = omega (arith, sum-of p ps more)

none-of : (wanted : List (ℕ × ℕ)) → total (λ n. times n []) wanted ≡ 0
none-of [] = refl
none-of (n ∷ more) = omega (arith, none-of more)

-- a name that is wanted, among the names of accounts
wanted-times : (p : ParcelValue) (arrows : List Arrow) (accounts : List ℕ) → tail_in arrows p.value.number ≡ p.after
    → total (λ n. one_if (is_name (name_is p) n)) (names_needed arrows accounts) ≡ count p.value.number accounts
wanted-times p arrows [] e = refl
wanted-times p arrows (b ∷ more) e = by (eqb b p.value.number) refl (wanted-times p arrows more e)
  where
    here : b ≡ p.value.number → is_name (name_is p) (b, tail_in arrows b) ≡ true
    here same = let one = eq-eqb p.value.number b (sym same) in
        let two = eq-eqb p.after (tail_in arrows b) (sym e ∙ ap (tail_in arrows) (sym same)) in rw (one, two) refl

    by : (c : Bool) → eqb b p.value.number ≡ c → total (λ n. one_if (is_name (name_is p) n)) (names_needed arrows more)
        ≡ count p.value.number more
        → one_if (is_name (name_is p) (b, tail_in arrows b)) + total (λ n. one_if (is_name (name_is p) n))
        (names_needed arrows more) ≡ one_if c + count p.value.number more
    by true f rest = omega (arith, rest, ap one_if (here (eqb-true b p.value.number f)))
    by false f rest = omega (
      arith,
      rest,
      ap one_if (name_differs (name_is p) (b, tail_in arrows b)
          (λ g. clash (eq-eqb b p.value.number (sym (ap (λ (n : ℕ × ℕ). n.0) g))) f)),
    )

ones : (f : ℕ × ℕ → ℕ) (wanted : List (ℕ × ℕ)) → AllByRecursion (λ n. f n ≡ 1) wanted → total f wanted ≡ length wanted
ones f [] all = refl
ones f (n ∷ more) all = omega (arith, all.0, ones f more all.1)

pub at-each : (P : ℕ × ℕ → Type 0) (arrows : List Arrow) (accounts : List ℕ)
    → AllByRecursion (λ a. P (a, tail_in arrows a)) accounts → AllByRecursion P (names_needed arrows accounts)
at-each P arrows [] all = tt
at-each P arrows (a ∷ more) all = (all.0, at-each P arrows more all.1)

at-least : (f : ℕ × ℕ → ℕ) (wanted : List (ℕ × ℕ)) → AllByRecursion (λ n. f n ≡ 1) wanted
    → AllByRecursion (λ n. 1 ≤ f n) wanted
at-least f [] all = tt
at-least f (n ∷ more) all = (omega (arith, all.0), at-least f more all.1)

module _ (laws : StepLaws) (sound : EachFootprintIsSound) (tails : TailsAreLastTouchers) (last : LastToucherIsLast)
    (day : DayValue) (plan : PlanValue) (made : IsPlan (directory day) day.batch.instructions plan) where
  abbrev pub places : ℕ
  places = length day.batch.instructions

  -- all that holds after every schedule
  pub record Whole (workers : ℕ) (w : WorldValue) : Type 0 where
    pub stands : Stands places workers w
    pub fits : Fits tails last day plan made w
    pub reaches : Reaches laws sound tails last day plan made w

  pub whole-step : (workers : ℕ) (w y : WorldValue) → Whole workers w → Step day plan w y → Whole workers y
  whole-step workers w y p s = record {
    stands = step-stands day plan places workers w y p.stands s;
    fits = step-fits tails last day plan made workers w y p.stands p.fits s;
    reaches = step-reaches laws sound tails last day plan made workers w y p.stands p.fits p.reaches s;
  }

  pub whole-start : (workers : ℕ) → 1 ≤ workers → Whole workers (at_start day plan workers)
  whole-start workers some = record {
    stands = start-stands day plan workers some;
    fits = start-fits laws sound tails last day plan made workers some;
    reaches = start-reaches laws sound tails last day plan made workers;
  }

  pub whole-after : (workers : ℕ) → 1 ≤ workers → (events : List Event) (x : WorldValue)
      → world_after day plan workers events ≡ Some x → Whole workers x
  whole-after workers some events x e = by-steps day plan (Whole workers) (whole-step workers) events
      (at_start day plan workers) x (whole-start workers some) e

  pub came-many : (place : ℕ) (came : List ParcelValue) → AllByRecursion (Awaits tails last day plan made place) came
      → total (λ n. times n came) (awaited day plan place) ≡ length came
  came-many place [] all = none-of (awaited day plan place)
  came-many place (p ∷ ps) all =
      let once = count-once p.value.number (footprint_at day place) (footprint_distinct sound day place)
      (footprint_touches day place p.value.number ∙ all.0.0) in
      omega (
        arith,
        sum-of p ps (awaited day plan place),
        came-many place ps all.1,
        wanted-times p (inward plan.arrows place) (footprint_at day place) all.0.1,
        once,
      )

  -- a dock is complete if each parcel that it awaits came
  all-came : (place : ℕ) (came : List ParcelValue) → AllByRecursion (Awaits tails last day plan made place) came
      → AllByRecursion (λ n. times n came ≡ 1) (awaited day plan place)
      → complete day plan place came ≡ None → ⊥
  all-came place came awaits each none =
      let many : eqb (length came) (length (awaited day plan place))
      ≡ true = eq-eqb (length came) (length (awaited day plan place)) (sym (came-many place came awaits)
      ∙ ones (λ n. times n came) (awaited day plan place) each) in
      let found = some-names came (awaited day plan place)
      (at-least (λ n. times n came) (awaited day plan place) each) in
      let is = found.1 in
      let some : complete day plan place came ≡ Some (record { place = place; parcels = found.0 }) =
      rw (many, is) refl in
      absurd cc

  nothing-sent : (hands : List HandValue) (n : ℕ × ℕ) → AllByRecursion (λ h. h ≡ empty) hands
      → total (λ h. times n (carried h)) hands ≡ 0
  nothing-sent [] n all = refl
  nothing-sent (h ∷ hs) n all = omega (arith, ap (λ x. times n (carried x)) all.0, nothing-sent hs n all.1)

  nothing-held : (hands : List HandValue) (q : ℕ) → AllByRecursion (λ h. h ≡ empty) hands
      → total (in_hand_once q) hands ≡ 0
  nothing-held [] q all = refl
  nothing-held (h ∷ hs) q all = omega (arith, ap (in_hand_once q) all.0, nothing-held hs q all.1)

  nothing-listed : (lists : List (List TaskValue)) (q : ℕ) → AllByRecursion (λ l. l ≡ []) lists
      → total (total (in_list q)) lists ≡ 0
  nothing-listed [] q all = refl
  nothing-listed (l ∷ ls) q all = omega (arith, ap (total (in_list q)) all.0, nothing-listed ls q all.1)

  -- a dock that waits
  pub dock-open : (w : WorldValue) (place : ℕ) → is_in_dock w place ≡ true → (came : List ParcelValue)
      × (at_place w.docks place ≡ Some (Some came))
  dock-open w place e = by (at_place w.docks place) refl e
    where
      by : (o : Option (Option (List ParcelValue))) → at_place w.docks place ≡ o → option_map_or is_some o false ≡ true
          → (came : List ParcelValue) × (at_place w.docks place ≡ Some (Some came))
      by (Some (Some came)) f g = (came, f)
      by (Some None) f g = absurd cc
      by None f g = absurd cc

  -- no place is left behind
  done-below : (workers : ℕ) (w : WorldValue) → Whole workers w → HasNoTask w → (m place : ℕ) → place ≤ m → 1 ≤ place
      → place ≤ places → is_done w place ≡ true
  done-below workers w whole none zero place under low high = absurd (omega (arith, under, low))
  done-below workers w whole none (suc m) place under low high =
      by (is_done w place) refl (is_in_dock w place) refl
      (λ q lower from_one. done-below workers w whole none m q (omega (arith, lower, under)) from_one
      (omega (arith, lower, high)))
    where
      by : (b : Bool) → is_done w place ≡ b → (c : Bool) → is_in_dock w place ≡ c
          → ((q : ℕ) → q < place → 1 ≤ q → is_done w q ≡ true) → b ≡ true
      by true e c f lower = refl
      by false e false f lower =
          absurd (omega (
            arith,
            whole.stands.once place low high,
            ap one_if e,
            ap one_if f,
            nothing-listed w.lists place none.0,
            nothing-held w.hands place none.1,
          ))
      by false e true f lower =
          let dock = dock-open w place f in
          let is = whole.fits.docks place dock.0 dock.1 in
          absurd (all-came place dock.0 is.awaits
          (at-each (λ n. times n dock.0 ≡ 1) (inward plan.arrows place) (footprint_at day place)
          (all_among (λ a. times (a, tail_of plan place a) dock.0 ≡ 1) (footprint_at day place)
          (λ a g. each a (sym (footprint_touches day place a) ∙ g) dock.0 dock.1))) is.open_yet)
        where
          each : (a : ℕ) → On tails last day plan made a place → (came : List ParcelValue)
              → at_place w.docks place ≡ Some (Some came) → times (a, tail_of plan place a) came ≡ 1
          each a on came d =
              let old : sent w (a, tail_of plan place a) + (times (a, tail_of plan place a) came + 0)
              ≡ one_if (has_come w (tail_of plan place a)) = rw d at (whole.reaches place a on) in
              omega (
                arith,
                old,
                nothing-sent w.hands (a, tail_of plan place a) none.1,
                ap one_if (tail-came (tail_of plan place a)
                    (tail_before tails last (directory day) day.batch.instructions plan made a place on)),
              )
            where
              tail-came : (t : ℕ) → t < place → has_come w t ≡ true
              tail-came zero lt = refl
              tail-came (suc k) lt = lower (suc k) lt (omega arith)

  rows-all : (rows : List (Option LogRow))
      → ((k : ℕ) → k < length rows → option_map_or is_some (slice_get rows k) false ≡ true)
      → list_all is_some rows ≡ true
  rows-all [] h = refl
  rows-all (r ∷ rs) h = both (is_some r) (h 0 (omega arith)) (rows-all rs (λ k lt. h (suc k) (omega (arith, lt))))
    where
      both : (b : Bool) → b ≡ true → list_all is_some rs ≡ true → (b && list_all is_some rs) ≡ true
      both true e rest = rest
      both false e rest = absurd cc

  pub no-task-over : (workers : ℕ) (w : WorldValue) → Whole workers w → HasNoTask w → is_over w ≡ true
  no-task-over workers w whole none =
      rows-all w.rows (λ k lt. done-below workers w whole none places (suc k) (omega (arith, lt, whole.stands.rows))
      (omega arith) (omega (arith, lt, whole.stands.rows)))
