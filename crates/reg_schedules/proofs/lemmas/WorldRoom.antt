-- The room that a world needs: a dock that waits has fewer parcels than its place touches accounts, and a list has
-- fewer tasks than there are places as long as a task is in a hand.
use Rattle.std.proofs.Common.{◌≡◌, ℕ, zero, suc, ◌+◌, ◌<◌, ◌≤◌, Bool, true, false, eqb, List, [], ◌∷◌, ◌++◌, length}
use Rattle.std.proofs.Common.{Some, None, arith, refl, sym, ap, ◌∙◌}
use Rattle.std.specs.Prelude.{slice_get, slice_set}
use Rattle.std.specs.List.{AllByRecursion}
use Rattle.std.proofs.lemmas.Bool.{eq-eqb, eqb-true}
use Rattle.reg_facts.proofs.lemmas.Lists.{all-append}
use Rattle.reg_facts.proofs.lemmas.Members.{In, of_any, of_filter, in_filter}
use Rattle.reg_facts.proofs.lemmas.Numbers.{clash}
use Rattle.reg_base.specs.Footprint.{EachFootprintIsSound}
use Rattle.reg_base.specs.Touches.{LastToucherIsLast}
use Rattle.reg_base.proofs.lemmas.Among.{all_among}
use Rattle.reg_rules.specs.Laws.{StepLaws}
use Rattle.reg_plan.specs.declared.arrow.Arrow.{Arrow}
use Rattle.reg_plan.specs.Plans.{PlanValue, IsPlan, inward, outward}
use Rattle.reg_plan.specs.Laws.{TailsAreLastTouchers}
use Rattle.reg_book.specs.Day.{DayValue}
use Rattle.reg_schedules.specs.Pool.{directory, footprint_at, tail_of}
use Rattle.reg_schedules.specs.Docks.{is_name, ParcelValue, TaskValue, awaited}
use Rattle.reg_schedules.proofs.lemmas.Needed.{length_needed}
use Rattle.reg_schedules.specs.World.{Carries, WorldValue, at_place, head_of, arrived, goes_on, is_task}
use Rattle.reg_facts.specs.Counting.{one_if, total}
use Rattle.reg_schedules.proofs.lemmas.Known.{footprint_touches}
use Rattle.reg_schedules.proofs.lemmas.Tails.{is_within, tail_before, inward_tail}
use Rattle.reg_facts.proofs.lemmas.Totals.{total-set, total-append}
use Rattle.reg_schedules.proofs.lemmas.WorldSums.{at-most-total, one-most}
use Rattle.reg_schedules.proofs.lemmas.WorldCounts.{dock-of, in_list, in_hand_once}
use Rattle.reg_schedules.proofs.lemmas.WorldFits.{name_is, Awaits, On, IsTask, all-get, head_awaits}
use Rattle.reg_schedules.proofs.WorldReach.{times, carried, sent, has_come}
use Rattle.reg_schedules.proofs.lemmas.WorldEnds.{Whole, came-many, at-each}

at-most-one : (f : ℕ × ℕ → ℕ) (wanted : List (ℕ × ℕ)) → AllByRecursion (λ n. f n ≤ 1) wanted
    → total f wanted ≤ length wanted
at-most-one f [] all = omega arith
at-most-one f (n ∷ more) all = omega (arith, all.0, at-most-one f more all.1)

length-more : (ps : List ParcelValue) (p : ParcelValue) → length (ps ++ p ∷ []) ≡ length ps + 1
length-more [] p = refl
length-more (q ∷ qs) p = omega (arith, length-more qs p)

-- ---- the tasks of a list, by their places

-- a number of each of the places from 1 to the last one, together
abbrev pub upto : (ℕ → ℕ) → ℕ → ℕ
upto f zero = 0
upto f (suc k) = f (suc k) + upto f k

upto-zero : (n : ℕ) → upto (λ q. 0) n ≡ 0
upto-zero zero = refl
upto-zero (suc k) = omega (arith, upto-zero k)

upto-sum : (f g : ℕ → ℕ) (n : ℕ) → upto (λ q. f q + g q) n ≡ upto f n + upto g n
upto-sum f g zero = refl
upto-sum f g (suc k) = omega (arith, upto-sum f g k)

-- one task stands at its own place
upto-none : (t : TaskValue) (n : ℕ) → n < t.place → upto (λ q. one_if (is_task q t)) n ≡ 0
upto-none t zero lt = refl
upto-none t (suc k) lt = by (eqb t.place (suc k)) refl (upto-none t k (omega (arith, lt)))
  where
    by : (b : Bool) → eqb t.place (suc k) ≡ b → upto (λ q. one_if (is_task q t)) k ≡ 0
        → one_if b + upto (λ q. one_if (is_task q t)) k ≡ 0
    by true e rest = absurd (omega (arith, lt, eqb-true t.place (suc k) e))
    by false e rest = omega (arith, rest)

upto-one : (t : TaskValue) (n : ℕ) → 1 ≤ t.place → t.place ≤ n → upto (λ q. one_if (is_task q t)) n ≡ 1
upto-one t zero low high = absurd (omega (arith, low, high))
upto-one t (suc k) low high = by (eqb t.place (suc k)) refl (upto-one t k low)
  where
    by : (b : Bool) → eqb t.place (suc k) ≡ b → (t.place ≤ k → upto (λ q. one_if (is_task q t)) k ≡ 1)
        → one_if b + upto (λ q. one_if (is_task q t)) k ≡ 1
    by true e rest = omega (arith, upto-none t k (omega (arith, eqb-true t.place (suc k) e)))
    by false e rest = omega (arith, rest (under (λ same. clash (eq-eqb t.place (suc k) same) e)))
      where
        under : (t.place ≡ suc k → ⊥) → t.place ≤ k
        under ne = omega (arith, high, ne)

abbrev Placed : ℕ → TaskValue → Type 0
Placed n t = (1 ≤ t.place) × (t.place ≤ n)

-- the tasks of a list are as many as stand at the places
listed-upto : (n : ℕ) (tasks : List TaskValue) → AllByRecursion (Placed n) tasks → upto (λ q. total (in_list q) tasks) n
    ≡ length tasks
listed-upto n [] all = upto-zero n
listed-upto n (t ∷ ts) all = omega (
  arith,
  upto-sum (λ q. one_if (is_task q t)) (λ q. total (in_list q) ts) n,
  upto-one t n all.0.0 all.0.1,
  listed-upto n ts all.1,
)

upto-most : (f : ℕ → ℕ) (n : ℕ) → ((q : ℕ) → 1 ≤ q → q ≤ n → f q ≤ 1) → upto f n ≤ n
upto-most f zero each = omega arith
upto-most f (suc k) each =
    omega (
      arith,
      each (suc k) (omega arith) (omega arith),
      upto-most f k (λ q low high. each q low (omega (arith, high))),
    )

-- with one place at which there is nothing
upto-fewer : (f : ℕ → ℕ) (n place : ℕ) → 1 ≤ place → place ≤ n → f place ≡ 0 → ((q : ℕ) → 1 ≤ q → q ≤ n → f q ≤ 1)
    → upto f n + 1 ≤ n
upto-fewer f zero place low high none each = absurd (omega (arith, low, high))
upto-fewer f (suc k) place low high none each =
    by (eqb place (suc k)) refl
    (λ under. upto-fewer f k place low under none (λ q from_one to. each q from_one (omega (arith, to))))
  where
    by : (b : Bool) → eqb place (suc k) ≡ b → (place ≤ k → upto f k + 1 ≤ k) → f (suc k) + upto f k + 1 ≤ suc k
    by true e rest =
        let same : f (suc k) ≡ 0 = ap f (sym (eqb-true place (suc k) e)) ∙ none in
        omega (arith, same, upto-most f k (λ q from_one to. each q from_one (omega (arith, to))))
    by false e rest = omega (
      arith,
      each (suc k) (omega arith) (omega arith),
      rest (below (λ same. clash (eq-eqb place (suc k) same) e)),
    )
      where
        below : (place ≡ suc k → ⊥) → place ≤ k
        below ne = omega (arith, high, ne)

module _ (laws : StepLaws) (sound : EachFootprintIsSound) (tails : TailsAreLastTouchers) (last : LastToucherIsLast)
    (day : DayValue) (plan : PlanValue) (made : IsPlan (directory day) day.batch.instructions plan) where
  -- a parcel that is delivered finds room in its dock
  pub dock-room : (workers : ℕ) (w : WorldValue) → Whole laws sound tails last day plan made workers w
      → (worker : ℕ) (p : ParcelValue) (ps : List ParcelValue) (place : ℕ) (came : List ParcelValue)
      → slice_get w.hands worker ≡ Some (Carries None (p ∷ ps)) → head_of plan p.after p.value.number ≡ Some place
      → arrived w place ≡ Some came
      → length came < length (footprint_at day place)
  dock-room workers w whole worker p ps place came h head dock =
      omega (
        arith,
        length-more came p,
        length_needed (inward plan.arrows place) (footprint_at day place),
        came-many laws sound tails last day plan made place (came ++ p ∷ []) all,
        at-most-one (λ n. times n (came ++ p ∷ [])) (awaited day plan place)
            (at-each (λ n. times n (came ++ p ∷ []) ≤ 1) (inward plan.arrows place) (footprint_at day place)
            (all_among (λ a. times (a, tail_of plan place a) (came ++ p ∷ []) ≤ 1) (footprint_at day place)
            (λ a g. each a (sym (footprint_touches day place a) ∙ g)))),
      )
    where
      awaits : Awaits tails last day plan made place p
      awaits = head_awaits tails last day plan made p place head

      there : at_place w.docks place ≡ Some (Some came)
      there = dock-of w place came dock

      all : AllByRecursion (Awaits tails last day plan made place) (came ++ p ∷ [])
      all = all-append (Awaits tails last day plan made place) came (p ∷ []) (whole.fits.docks place came there).awaits
          (awaits, tt)

      each : (a : ℕ) → On tails last day plan made a place → times (a, tail_of plan place a) (came ++ p ∷ []) ≤ 1
      each a on =
          let n : ℕ × ℕ = (a, tail_of plan place a) in
          let old : sent w n + (times n came + 0) ≡ one_if (has_come w (tail_of plan place a)) =
          rw there at (whole.reaches place a on) in
          let held : total (λ k. times n (carried k)) (slice_set w.hands worker (Carries None ps))
          + (one_if (is_name (name_is p) n) + times n ps) ≡ sent w n + times n ps =
          total-set (λ k. times n (carried k)) w.hands worker (Carries None (p ∷ ps)) (Carries None ps) h in
          let more : times n (came ++ p ∷ []) ≡ times n came + (one_if (is_name (name_is p) n) + 0) =
          total-append (λ q. one_if (is_name (name_is q) n)) came (p ∷ []) in
          omega (arith, old, held, more, one-most (has_come w (tail_of plan place a)))

  -- a task that is in a hand finds room in each list
  pub list-room : (workers : ℕ) (w : WorldValue) → Whole laws sound tails last day plan made workers w
      → (worker from : ℕ) (t : TaskValue) (ps : List ParcelValue) (tasks : List TaskValue)
      → slice_get w.hands worker ≡ Some (Carries (Some t) ps) → slice_get w.lists from ≡ Some tasks
      → length tasks + 1 ≤ length day.batch.instructions
  list-room workers w whole worker from t ps tasks h l =
      let is : IsTask tails last day plan made t =
      (all-get _ w.hands worker (Carries (Some t) ps) whole.fits.hands h).0 in
      let placed : AllByRecursion (Placed (length day.batch.instructions)) tasks =
      each-placed tasks (all-get _ w.lists from tasks whole.fits.lists l) in
      omega (
        arith,
        listed-upto (length day.batch.instructions) tasks placed,
        upto-fewer (λ q. total (in_list q) tasks) (length day.batch.instructions) t.place is.low is.high
            (nowhere is.low is.high) once,
      )
    where
      each-placed : (ts : List TaskValue) → AllByRecursion (IsTask tails last day plan made) ts
          → AllByRecursion (Placed (length day.batch.instructions)) ts
      each-placed [] all = tt
      each-placed (x ∷ xs) all = ((all.0.low, all.0.high), each-placed xs all.1)

      once : (q : ℕ) → 1 ≤ q → q ≤ length day.batch.instructions → total (in_list q) tasks ≤ 1
      once q low high = omega (
        arith,
        whole.stands.once q low high,
        at-most-total (total (in_list q)) w.lists from tasks l,
      )

      here : in_hand_once t.place (Carries (Some t) ps) ≡ 1
      here = ap one_if (eq-eqb t.place t.place refl)

      nowhere : 1 ≤ t.place → t.place ≤ length day.batch.instructions → total (in_list t.place) tasks ≡ 0
      nowhere low high = omega (
        arith,
        whole.stands.once t.place low high,
        at-most-total (total (in_list t.place)) w.lists from tasks l,
        at-most-total (in_hand_once t.place) w.hands worker (Carries (Some t) ps) h,
        here,
      )

  -- a parcel from which an arrow leads on stands after a place
  pub sent-after : (p : ParcelValue) → goes_on plan p ≡ true → (1 ≤ p.after) × (p.after ≤ length day.batch.instructions)
  sent-after p on =
      let (w, out, passes) = of_any (λ (v : Arrow). eqb v.account p.value.number) (outward plan.arrows p.after) on in
      let there = of_filter (λ (v : Arrow). eqb v.from p.after) plan.arrows w out in
      let into : In w (inward plan.arrows w.to) =
      in_filter (λ (v : Arrow). eqb v.to w.to) plan.arrows w (eq-eqb w.to w.to refl) there.0 in
      let tail = inward_tail tails last (directory day) day.batch.instructions plan made w.to w into in
      let from : w.from ≡ p.after = eqb-true w.from p.after there.1 in
      let before = tail_before tails last (directory day) day.batch.instructions plan made w.account w.to tail.0 in
      let high = is_within (directory day) day.batch.instructions w.account w.to tail.0 in
      (omega (arith, tail.2, from), omega (arith, tail.1, from, before, high))
