-- Each value that a place awaits lies in one place, from when it is made until its instruction is done.
use Rattle.std.proofs.Common.{◌≡◌, ℕ, zero, suc, ◌+◌, Bool, true, false, not, ◌&&◌, eqb, List, [], ◌∷◌, Option, Some}
use Rattle.std.proofs.Common.{None, arith, refl, sym, ap, subst, ◌∙◌}
use Rattle.std.specs.Prelude.{slice_get, ◌≢◌}
use Rattle.std.specs.Option.{option_map_or}
use Rattle.std.specs.List.{AllByRecursion}
use Rattle.std.proofs.lemmas.Bool.{eq-eqb, eqb-true}
use Rattle.reg_facts.proofs.lemmas.Lists.{all-weaker}
use Rattle.reg_facts.proofs.lemmas.Numbers.{clash}
use Rattle.reg_base.specs.Footprint.{EachFootprintIsSound}
use Rattle.reg_base.specs.Touches.{LastToucherIsLast}
use Rattle.reg_base.proofs.lemmas.Among.{all_among}
use Rattle.reg_rules.specs.Laws.{StepLaws}
use Rattle.reg_plan.specs.declared.arrow.Arrow.{Arrow}
use Rattle.reg_plan.specs.Plans.{PlanValue, IsPlan, inward}
use Rattle.reg_plan.specs.Laws.{TailsAreLastTouchers}
use Rattle.reg_book.specs.Day.{DayValue}
use Rattle.reg_schedules.specs.Pool.{directory, footprint_at, tail_in, tail_of}
use Rattle.reg_schedules.specs.Docks.{is_name, ParcelValue, TaskValue, names_needed, awaited}
use Rattle.reg_schedules.specs.World.{HandValue, Holds, Carries, WorldValue, is_in_dock, is_done}
use Rattle.reg_schedules.specs.Schedules.{in_dock, in_hand, times_named, has_come}
use Rattle.reg_facts.specs.Counting.{one_if, total}
use Rattle.reg_facts.proofs.lemmas.Totals.{total-append}
use Rattle.reg_schedules.proofs.lemmas.Known.{footprint_touches, footprint_distinct}
use Rattle.reg_schedules.proofs.lemmas.Tails.{is_place, is_within}
use Rattle.reg_schedules.proofs.lemmas.WorldCounts.{in_list, in_hand_once}
use Rattle.reg_schedules.proofs.lemmas.WorldFits.{name_is, names_are, IsTask, IsHand, On, Awaits, name_itself}
use Rattle.reg_schedules.proofs.WorldReach.{times, carried, lying, sent, docked, count, count-once}
use Rattle.reg_schedules.proofs.WorldReach.{name_differs}
use Rattle.reg_schedules.proofs.WorldReach as reach
use Rattle.reg_schedules.proofs.lemmas.WorldSent.{one-head}
use Rattle.reg_schedules.proofs.lemmas.WorldEnds.{Whole}

-- ---- sums

total-same : {X : Type 0} (f g : X → ℕ) (xs : List X) → AllByRecursion (λ x. f x ≡ g x) xs → total f xs ≡ total g xs
total-same f g [] all = refl
total-same f g (x ∷ xs) all = omega (arith, all.0, total-same f g xs all.1)

total-sum : {X : Type 0} (f g h : X → ℕ) (xs : List X) → AllByRecursion (λ x. f x ≡ g x + h x) xs
    → total f xs ≡ total g xs + total h xs
total-sum f g h [] all = refl
total-sum f g h (x ∷ xs) all = omega (arith, all.0, total-sum f g h xs all.1)

total-none : {X : Type 0} (f : X → ℕ) (xs : List X) → ((i : ℕ) (x : X) → slice_get xs i ≡ Some x → f x ≡ 0)
    → total f xs ≡ 0
total-none f [] none = refl
total-none f (x ∷ xs) none = omega (arith, none 0 x refl, total-none f xs (λ i y e. none (suc i) y e))

-- only one item counts
total-only : {X : Type 0} (f : X → ℕ) (xs : List X) (k : ℕ)
    → ((i : ℕ) (x : X) → slice_get xs i ≡ Some x → i ≢ k → f x ≡ 0) → total f xs ≡ option_map_or f (slice_get xs k) 0
total-only f [] k none = refl
total-only f (x ∷ xs) zero none =
    omega (arith, total-none f xs (λ i y e. none (suc i) y e (λ same. absurd (omega (arith, same)))))
total-only f (x ∷ xs) (suc k) none = omega (
  arith,
  none 0 x refl (λ same. absurd (omega (arith, same))),
  total-only f xs k (λ i y e ne. none (suc i) y e (λ same. ne (omega (arith, same)))),
)

-- ---- names

-- among the names that are needed of accounts, each is as often as its account
times-needed : (arrows : List Arrow) (accounts : List ℕ) (ps : List ParcelValue) (a : ℕ)
    → names_are ps ≡ names_needed arrows accounts → times (a, tail_in arrows a) ps ≡ count a accounts
times-needed arrows [] [] a e = refl
times-needed arrows [] (p ∷ ps) a e = absurd cc
times-needed arrows (b ∷ more) [] a e = absurd cc
times-needed arrows (b ∷ more) (p ∷ ps) a e = by (eqb b a) refl (times-needed arrows more ps a tail)
  where
    head : ◌≡◌ {A = ℕ × ℕ} (p.value.number, p.after) (b, tail_in arrows b)
    head = cc

    tail : names_are ps ≡ names_needed arrows more
    tail = cc

    one : one_if (is_name (name_is p) (a, tail_in arrows a))
        ≡ one_if (is_name (b, tail_in arrows b) (a, tail_in arrows a))
    one = ap (λ n. one_if (is_name n (a, tail_in arrows a))) head

    by : (c : Bool) → eqb b a ≡ c → times (a, tail_in arrows a) ps ≡ count a more
        → one_if (is_name (name_is p) (a, tail_in arrows a)) + times (a, tail_in arrows a) ps ≡ one_if c + count a more
    by true same rest =
        let is : is_name (b, tail_in arrows b) (a, tail_in arrows a)
        ≡ true = subst (λ n. is_name (b, tail_in arrows b) (n, tail_in arrows n) ≡ true) (eqb-true b a same)
        (name_itself (b, tail_in arrows b)) in
        omega (arith, one, ap one_if is, rest)
    by false other rest =
        let is : is_name (b, tail_in arrows b) (a, tail_in arrows a)
        ≡ false = name_differs (b, tail_in arrows b) (a, tail_in arrows a)
        (λ f. clash (eq-eqb b a (ap (λ (n : ℕ × ℕ). n.0) f)) other) in
        omega (arith, one, ap one_if is, rest)

module _ (laws : StepLaws) (sound : EachFootprintIsSound) (tails : TailsAreLastTouchers) (last : LastToucherIsLast)
    (day : DayValue) (plan : PlanValue) (made : IsPlan (directory day) day.batch.instructions plan) where
  abbrev pub Touched : ℕ → ℕ → Type 0
  Touched a place = On tails last day plan made a place

  -- a task's parcels are those that its place awaits
  needed-awaits : (place : ℕ) (accounts : List ℕ) (ps : List ParcelValue)
      → names_are ps ≡ names_needed (inward plan.arrows place) accounts → AllByRecursion (λ a. Touched a place) accounts
      → AllByRecursion (Awaits tails last day plan made place) ps
  needed-awaits place accounts [] e on = tt
  needed-awaits place [] (p ∷ ps) e on = absurd cc
  needed-awaits place (a ∷ more) (p ∷ ps) e on = (
    (subst (λ n. Touched n place) (sym number) on.0, ap (tail_of plan place) number ∙ sym after),
    needed-awaits place more ps tail on.1,
  )
    where
      head : ◌≡◌ {A = ℕ × ℕ} (p.value.number, p.after) (a, tail_of plan place a)
      head = cc

      tail : names_are ps ≡ names_needed (inward plan.arrows place) more
      tail = cc

      number : p.value.number ≡ a
      number = ap (λ (n : ℕ × ℕ). n.0) head

      after : p.after ≡ tail_of plan place a
      after = ap (λ (n : ℕ × ℕ). n.1) head

  pub task-awaits : (t : TaskValue) → IsTask tails last day plan made t
      → AllByRecursion (Awaits tails last day plan made t.place) t.parcels
  task-awaits t is = needed-awaits t.place (footprint_at day t.place) t.parcels is.names
      (all_among (λ a. Touched a t.place) (footprint_at day t.place) (λ a e. sym (footprint_touches day t.place a) ∙ e))

  module _ (place a : ℕ) (on : Touched a place) where
    abbrev name : ℕ × ℕ
    name = (a, tail_of plan place a)

    -- no other place awaits the parcel
    not-elsewhere : (j : ℕ) (ps : List ParcelValue) → (j ≡ place → ⊥)
        → AllByRecursion (Awaits tails last day plan made j) ps → times name ps ≡ 0
    not-elsewhere j [] ne all = refl
    not-elsewhere j (p ∷ ps) ne all =
        let differs = name_differs (name_is p) name
        (λ same. ne (one-head laws sound tails last day plan made p j place a all.0 on (sym same))) in
        omega (arith, ap one_if differs, not-elsewhere j ps ne all.1)

    in-task : (t : TaskValue) → IsTask tails last day plan made t → times name t.parcels ≡ in_list place t
    in-task t is = by (eqb t.place place) refl
      where
        by : (b : Bool) → eqb t.place place ≡ b → times name t.parcels ≡ one_if b
        by true e =
            times-needed (inward plan.arrows place) (footprint_at day place) t.parcels a
            (subst (λ j. names_are t.parcels ≡ awaited day plan j) (eqb-true t.place place e) is.names)
            ∙ count-once a (footprint_at day place) (footprint_distinct sound day place) (footprint_touches day place a
            ∙ on)
        by false e = not-elsewhere t.place t.parcels (λ same. clash (eq-eqb t.place place same) e) (task-awaits t is)

    in-a-hand : (h : HandValue) → IsHand tails last day plan made h
        → times name (in_hand h) ≡ in_hand_once place h + times name (carried h)
    in-a-hand (Holds t) is = omega (arith, in-task t is)
    in-a-hand (Carries None ps) is = omega arith
    in-a-hand (Carries (Some t) ps) is =
        omega (arith, total-append (λ p. one_if (is_name (name_is p) name)) t.parcels ps, in-task t is.0)

    in-a-dock : (workers : ℕ) (w : WorldValue) → Whole laws sound tails last day plan made workers w → (q : ℕ)
        → q ≡ place → total (λ d. times name (in_dock d)) w.docks ≡ docked w q name
    in-a-dock workers w whole zero same =
        absurd (omega (arith, same, is_place (directory day) day.batch.instructions a place on))
    in-a-dock workers w whole (suc k) same =
        total-only (λ d. times name (in_dock d)) w.docks k other ∙ by (slice_get w.docks k)
      where
        other : (i : ℕ) (d : Option (List ParcelValue)) → slice_get w.docks i ≡ Some d → i ≢ k
            → times name (in_dock d) ≡ 0
        other i None e ne = refl
        other i (Some came) e ne =
            not-elsewhere (suc i) came (λ f. ne (omega (arith, f, same))) (whole.fits.docks (suc i) came e).awaits

        by : (o : Option (Option (List ParcelValue))) → option_map_or (λ d. times name (in_dock d)) o 0
            ≡ times name (lying (option_map_or (λ d. d) o None))
        by None = refl
        by (Some None) = refl
        by (Some (Some came)) = refl

    named-once : (workers : ℕ) (w : WorldValue) → Whole laws sound tails last day plan made workers w
        → times_named w name + one_if (is_done w place) ≡ one_if (reach.has_come w (tail_of plan place a))
    named-once workers w whole =
        omega (
          arith,
          in-a-dock workers w whole place refl,
          total-same (total (λ t. times name t.parcels)) (total (in_list place)) w.lists
              (all-weaker (AllByRecursion (IsTask tails last day plan made)) (λ l. total (λ t. times name t.parcels) l
              ≡ total (in_list place) l)
              (λ l each. total-same (λ t. times name t.parcels) (in_list place) l
              (all-weaker (IsTask tails last day plan made) (λ t. times name t.parcels ≡ in_list place t) in-task l
              each)) w.lists whole.fits.lists),
          total-sum (λ h. times name (in_hand h)) (in_hand_once place) (λ h. times name (carried h)) w.hands
              (all-weaker (IsHand tails last day plan made)
              (λ h. times name (in_hand h) ≡ in_hand_once place h + times name (carried h)) in-a-hand w.hands
              whole.fits.hands),
          whole.reaches place a on,
          whole.stands.once place (is_place (directory day) day.batch.instructions a place on)
              (is_within (directory day) day.batch.instructions a place on),
          either (is_in_dock w place),
        )
      where
        either : (b : Bool) → one_if b + one_if (not b) ≡ 1
        either true = refl
        either false = refl

    come-is : (w : WorldValue) (t : ℕ) → reach.has_come w t ≡ has_come w t
    come-is w zero = refl
    come-is w (suc k) = refl

    pub value-once : (workers : ℕ) (w : WorldValue) → Whole laws sound tails last day plan made workers w
        → times_named w name ≡ one_if (has_come w (tail_of plan place a) && not (is_done w place))
    value-once workers w whole = by (has_come w (tail_of plan place a)) (is_done w place) (named-once workers w whole
        ∙ ap one_if (come-is w (tail_of plan place a)))
      where
        by : (b c : Bool) → times_named w name + one_if c ≡ one_if b → times_named w name ≡ one_if (b && not c)
        by true true e = omega (arith, e)
        by true false e = omega (arith, e)
        by false c e = omega (arith, e)
