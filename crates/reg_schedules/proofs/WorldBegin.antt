-- What holds at the start.
use Rattle.std.proofs.Common.{◌≡◌, ℕ, zero, suc, ◌+◌, ◌<◌, ◌≤◌, Bool, true, false, not, cond, eqb, List, [], ◌∷◌, ◌++◌}
use Rattle.std.proofs.Common.{length, map, Option, Some, None, arith, refl, sym, ap, subst, ◌∙◌}
use Rattle.std.specs.Prelude.{slice_get, slice_set, is_some, filter, replicate, if◌then◌else◌}
use Rattle.std.specs.Option.{option_map}
use Rattle.std.specs.List.{AllByRecursion}
use Rattle.std.proofs.lemmas.Bool.{eq-eqb, eqb-true}
use Rattle.std.proofs.lemmas.List.{length-replicate, length-set}
use Rattle.reg_facts.proofs.lemmas.Lists.{all-append}
use Rattle.reg_base.specs.Footprint.{is_among, EachFootprintIsSound}
use Rattle.reg_base.specs.Touches.{LastToucherIsLast}
use Rattle.reg_base.proofs.lemmas.Among.{all_among}
use Rattle.reg_account.specs.Account.{AccountValue}
use Rattle.reg_rules.specs.State.{account}
use Rattle.reg_rules.specs.Laws.{StepLaws}
use Rattle.reg_plan.specs.Plans.{PlanValue, IsPlan}
use Rattle.reg_plan.specs.Laws.{TailsAreLastTouchers}
use Rattle.reg_rules.proofs.lemmas.Accounts.{account-number}
use Rattle.reg_book.specs.Day.{DayValue}
use Rattle.reg_schedules.specs.Pool.{directory, footprint_at, tail_of}
use Rattle.reg_schedules.specs.Docks.{is_name, ParcelValue, TaskValue, awaited, complete}
use Rattle.reg_schedules.specs.World.{empty, WorldValue, at_place, arrived, opening_of, known_of, opened_at, docks_from}
use Rattle.reg_schedules.specs.World.{ready_from, before_some, pushed_to, dealt, at_start, is_in_dock}
use Rattle.reg_facts.specs.Counting.{one_if, total}
use Rattle.reg_schedules.proofs.lemmas.Known.{footprint_touches, footprint_distinct, touched_known}
use Rattle.reg_schedules.proofs.lemmas.Tails.{is_place, is_within}
use Rattle.reg_facts.proofs.lemmas.Totals.{total-replicate}
use Rattle.reg_schedules.proofs.lemmas.WorldSums.{get-within, at_within}
use Rattle.reg_schedules.proofs.lemmas.WorldCounts.{complete-place}
use Rattle.reg_schedules.proofs.WorldStart.{next_worker, length-docks}
use Rattle.reg_schedules.proofs.lemmas.WorldFits.{Fits, IsTask, IsHand, IsDock, Awaits, On, all-set, all-get}
use Rattle.reg_schedules.proofs.lemmas.WorldFits.{complete_names}
use Rattle.reg_schedules.proofs.WorldReach.{times, carried, sent, lying, come_in, count, count-once, name_differs}
use Rattle.reg_schedules.proofs.WorldReach.{complete-has}
use Rattle.reg_schedules.proofs.lemmas.WorldSent.{Reaches}

pub all-dealt : (P : TaskValue → Type 0) (worker : ℕ) (tasks : List TaskValue) (lists : List (List TaskValue))
    → worker < length lists → AllByRecursion P tasks → AllByRecursion (AllByRecursion P) lists
    → AllByRecursion (AllByRecursion P) (dealt worker tasks lists)
all-dealt P worker [] lists lt all there = there
all-dealt P worker (t ∷ ts) lists lt all there =
    let l = get-within lists worker lt in
    let more : pushed_to worker t lists ≡ slice_set lists worker (l.0 ++ t ∷ []) = rw l.1 refl in
    let long = length-set lists worker (l.0 ++ t ∷ []) in
    rw more (all-dealt P (if eqb (suc worker) (length lists) then 0 else suc worker) ts
    (slice_set lists worker (l.0 ++ t ∷ [])) (rw long (next_worker worker (length lists) lt)) all.1
    (all-set (AllByRecursion P) lists worker (l.0 ++ t ∷ []) there
    (all-append P l.0 (t ∷ []) (all-get (AllByRecursion P) lists worker l.0 there l.1) (all.0, tt))))

pub all-replicate : {X : Type 0} (P : X → Type 0) (n : ℕ) (x : X) → P x → AllByRecursion P (replicate n x)
all-replicate P zero x h = tt
all-replicate P (suc n) x h = (h, all-replicate P n x h)

-- no row is there
none-come : (n t : ℕ) → 1 ≤ t → come_in (replicate n None) t ≡ false
none-come n zero low = absurd (omega (arith, low))
none-come zero (suc k) low = refl
none-come (suc n) (suc zero) low = refl
none-come (suc n) (suc (suc k)) low = none-come n (suc k) (omega arith)

module _ (day : DayValue) (plan : PlanValue) where
  -- a dock waits if what lies there is not all
  abbrev pub opened_dock : ℕ → Option (List ParcelValue)
  opened_dock place = if is_some (complete day plan place (opened_at day plan place)) then None else Some
      (opened_at day plan place)

  pub dock-at : (k place more q : ℕ) → k < more → place + k ≡ q → slice_get (docks_from day plan place more) k
      ≡ Some (opened_dock q)
  dock-at k place zero q lt e = absurd (omega (arith, lt))
  dock-at zero place (suc more) q lt e = let same : place ≡ q = omega (arith, e) in ap (λ n. Some (opened_dock n)) same
  dock-at (suc k) place (suc more) q lt e = dock-at k (suc place) more q (omega (arith, lt)) (omega (arith, e))

  pub dock-at-start : (workers place : ℕ) → 1 ≤ place → place ≤ length day.batch.instructions
      → at_place (at_start day plan workers).docks place ≡ Some (opened_dock place)
  dock-at-start workers zero low high = absurd (omega (arith, low))
  dock-at-start workers (suc k) low high =
      dock-at k 1 (length day.batch.instructions) (suc k) (omega (arith, high)) (omega arith)

  -- ---- the opening values

  abbrev pub opened : ℕ → List ℕ → List ParcelValue
  opened place accounts = known_of (map (opening_of day) (filter (λ a. eqb (tail_of plan place a) 0) accounts))

  -- none has another name than those of the accounts and 0
  pub late-none : (place a t : ℕ) (accounts : List ℕ) → 1 ≤ t → times (a, t) (opened place accounts) ≡ 0
  late-none place a t [] low = refl
  late-none place a t (b ∷ more) low =
      by (eqb (tail_of plan place b) 0) (account day.book.accounts b) (late-none place a t more low)
    where
      differs : (v : AccountValue) → is_name (v.number, 0) (a, t) ≡ false
      differs v = name_differs (v.number, 0) (a, t) (λ e. omega (arith, low, ap (λ (n : ℕ × ℕ). n.1) e))

      by : (c : Bool) (o : Option AccountValue) → times (a, t) (opened place more) ≡ 0
          → times (a, t) (known_of (map (opening_of day)
          (cond c (b ∷ filter (λ x. eqb (tail_of plan place x) 0) more)
          (filter (λ x. eqb (tail_of plan place x) 0) more)))) ≡ 0
      by false o rest = rest
      by true o rest = at (account day.book.accounts b)
        where
          at : (o : Option AccountValue)
              → times (a, t) (known_of (option_map (λ v. record { value = v; after = 0 }) o
              ∷ map (opening_of day) (filter (λ x. eqb (tail_of plan place x) 0) more))) ≡ 0
          at None = rest
          at (Some v) = omega (arith, rest, ap one_if (differs v))

  -- an account that no arrow leads to is there as often as it is touched
  pub opened-times : (place a : ℕ) (accounts : List ℕ) → tail_of plan place a ≡ 0
      → is_some (account day.book.accounts a) ≡ true → times (a, 0) (opened place accounts) ≡ count a accounts
  opened-times place a [] none known = refl
  opened-times place a (b ∷ more) none known = by (eqb b a) refl (opened-times place a more none known)
    where
      rest_of : List ParcelValue
      rest_of = opened place more

      same-name : (v : AccountValue) → account day.book.accounts b ≡ Some v → eqb v.number a ≡ eqb b a
      same-name v e = ap (λ n. eqb n a) (account-number day.book.accounts b v e)

      here : (v : AccountValue) → eqb v.number a ≡ true → is_name (v.number, 0) (a, 0) ≡ true
      here v e = rw e refl

      not-here : (v : AccountValue) → eqb v.number a ≡ false → is_name (v.number, 0) (a, 0) ≡ false
      not-here v e = rw e refl

      is-some : (o : Option AccountValue) → is_some o ≡ true → (v : AccountValue) × (o ≡ Some v)
      is-some (Some v) e = (v, refl)
      is-some None e = absurd cc

      by : (c : Bool) → eqb b a ≡ c → times (a, 0) (opened place more) ≡ count a more
          → times (a, 0) (opened place (b ∷ more)) ≡ one_if c + count a more
      by true e rest =
          let same : b ≡ a = eqb-true b a e in
          let leads : eqb (tail_of plan place b) 0 ≡ true =
          eq-eqb (tail_of plan place b) 0 (ap (tail_of plan place) same ∙ none) in
          let v = is-some (account day.book.accounts b) (ap (λ n. is_some (account day.book.accounts n)) same
          ∙ known) in
          let name = here v.0 (same-name v.0 v.1 ∙ e) in
          let found = v.1 in
          rw (leads, found) (omega (arith, rest, ap one_if name))
      by false e rest = other (eqb (tail_of plan place b) 0) (account day.book.accounts b) refl
        where
          other : (c : Bool) (o : Option AccountValue) → account day.book.accounts b ≡ o
              → times (a, 0) (known_of (map (opening_of day)
              (cond c (b ∷ filter (λ x. eqb (tail_of plan place x) 0) more)
              (filter (λ x. eqb (tail_of plan place x) 0) more)))) ≡ 0 + count a more
          other false o f = omega (arith, rest)
          other true None f = rw f (omega (arith, rest))
          other true (Some v) f = rw f (omega (arith, rest, ap one_if (not-here v (same-name v f ∙ e))))

module _ (laws : StepLaws) (sound : EachFootprintIsSound) (tails : TailsAreLastTouchers) (last : LastToucherIsLast)
    (day : DayValue) (plan : PlanValue) (made : IsPlan (directory day) day.batch.instructions plan) where
  abbrev pub Start : ℕ → WorldValue
  Start workers = at_start day plan workers

  -- an opening value is awaited where it lies
  opened-awaited : (place : ℕ) (accounts : List ℕ) → AllByRecursion (λ a. On tails last day plan made a place) accounts
      → AllByRecursion (Awaits tails last day plan made place) (opened day plan place accounts)
  opened-awaited place [] all = tt
  opened-awaited place (a ∷ more) all = by (eqb (tail_of plan place a) 0) refl (opened-awaited place more all.1)
    where
      by : (c : Bool) → eqb (tail_of plan place a) 0 ≡ c
          → AllByRecursion (Awaits tails last day plan made place) (opened day plan place more)
          → AllByRecursion (Awaits tails last day plan made place)
          (known_of (map (opening_of day)
          (cond c (a ∷ filter (λ x. eqb (tail_of plan place x) 0) more)
          (filter (λ x. eqb (tail_of plan place x) 0) more))))
      by false e rest = rest
      by true e rest = at (account day.book.accounts a) refl
        where
          at : (o : Option AccountValue) → account day.book.accounts a ≡ o
              → AllByRecursion (Awaits tails last day plan made place)
              (known_of (option_map (λ v. record { value = v; after = 0 }) o
              ∷ map (opening_of day) (filter (λ x. eqb (tail_of plan place x) 0) more)))
          at None f = rest
          at (Some v) f =
              let same : a ≡ v.number = sym (account-number day.book.accounts a v f) in (
                (
                  subst (λ b. On tails last day plan made b place) same all.0,
                  ap (tail_of plan place) (sym same)
                      ∙ eqb-true (tail_of plan place a) 0 e,
                ),
                rest,
              )

  touched-all : (place : ℕ) → AllByRecursion (λ a. On tails last day plan made a place) (footprint_at day place)
  touched-all place = all_among (λ a. On tails last day plan made a place) (footprint_at day place)
      (λ a e. sym (footprint_touches day place a) ∙ e)

  -- the tasks that are ready at the start
  ready-tasks : (place more : ℕ) → 1 ≤ place → place + more ≤ length day.batch.instructions + 1
      → AllByRecursion (IsTask tails last day plan made) (ready_from day plan place more)
  ready-tasks place zero low high = tt
  ready-tasks place (suc more) low high = by (complete day plan place (opened_at day plan place)) refl
      (ready-tasks (suc place) more (omega arith) (omega (arith, high)))
    where
      by : (o : Option TaskValue) → complete day plan place (opened_at day plan place) ≡ o
          → AllByRecursion (IsTask tails last day plan made) (ready_from day plan (suc place) more)
          → AllByRecursion (IsTask tails last day plan made) (before_some o (ready_from day plan (suc place) more))
      by None e rest = rest
      by (Some t) e rest =
          let of = complete-place day plan place (opened_at day plan place) t e in (
            record {
              low = omega (arith, of, low);
              high = omega (arith, of, high);
              names = complete_names day plan place (opened_at day plan place) t e ∙ ap (awaited day plan) (sym of);
            },
            rest,
          )

  pub start-fits : (workers : ℕ) → 1 ≤ workers → Fits tails last day plan made (Start workers)
  start-fits workers some = record {
    lists = all-dealt (IsTask tails last day plan made) 0 (ready_from day plan 1 (length day.batch.instructions))
        (replicate workers no-task) (omega (arith, some, long))
        (ready-tasks 1 (length day.batch.instructions) (omega arith) (omega arith))
        (all-replicate (AllByRecursion (IsTask tails last day plan made)) workers no-task tt);
    hands = all-replicate (IsHand tails last day plan made) workers empty tt;
    docks = docks;
  }
    where
      no-task : List TaskValue
      no-task = []

      long : length (replicate workers no-task) ≡ workers
      long = length-replicate workers no-task

      docks : (place : ℕ) (came : List ParcelValue)
          → at_place (docks_from day plan 1 (length day.batch.instructions)) place ≡ Some (Some came)
          → IsDock tails last day plan made place came
      docks place came e =
          let within = at_within (docks_from day plan 1 (length day.batch.instructions)) place (Some came) e in
          by (complete day plan place (opened_at day plan place)) refl
          (sym (dock-at-start day plan workers place within.0
          (omega (arith, within.1, length-docks day plan 1 (length day.batch.instructions)))) ∙ e)
        where
          by : (o : Option TaskValue) → complete day plan place (opened_at day plan place) ≡ o
              → Some (if is_some o then None else Some (opened_at day plan place)) ≡ Some (Some came)
              → IsDock tails last day plan made place came
          by None f g =
              let is : opened_at day plan place ≡ came = cc in
              subst (IsDock tails last day plan made place) is
              (record { awaits = opened-awaited place (footprint_at day place) (touched-all place); open_yet = f })
          by (Some t) f g = absurd cc

  pub start-reaches : (workers : ℕ) → Reaches laws sound tails last day plan made (Start workers)
  start-reaches workers place a on =
      by (complete day plan place (opened_at day plan place)) refl (tail_of plan place a) refl
    where
      low : 1 ≤ place
      low = is_place (directory day) day.batch.instructions a place on

      high : place ≤ length day.batch.instructions
      high = is_within (directory day) day.batch.instructions a place on

      dock : at_place (docks_from day plan 1 (length day.batch.instructions)) place ≡ Some (opened_dock day plan place)
      dock = dock-at-start day plan workers place low high

      among : is_among (footprint_at day place) a ≡ true
      among = footprint_touches day place a ∙ on

      nothing : (n : ℕ × ℕ) → total (λ h. times n (carried h)) (replicate workers empty) ≡ 0
      nothing n = total-replicate (λ h. times n (carried h)) workers empty refl

      by : (o : Option TaskValue) → complete day plan place (opened_at day plan place) ≡ o → (t : ℕ)
          → tail_of plan place a ≡ t
          → sent (Start workers) (a, t)
          + (times (a, t) (lying (arrived (Start workers) place)) + one_if (not (is_in_dock (Start workers) place)))
          ≡ one_if (come_in (replicate (length day.batch.instructions) None) t)
      by None e zero f =
          let open_dock : at_place (docks_from day plan 1 (length day.batch.instructions)) place
          ≡ Some (Some (opened_at day plan place)) =
          dock ∙ ap (λ o. Some (if is_some o then None else Some (opened_at day plan place))) e in
          rw open_dock (omega (
            arith,
            nothing (a, 0),
            opened-times day plan place a (footprint_at day place) f (touched_known sound day place a on),
            count-once a (footprint_at day place) (footprint_distinct sound day place) among,
          ))
      by (Some t) e zero f =
          let shut : at_place (docks_from day plan 1 (length day.batch.instructions)) place ≡ Some None =
          dock ∙ ap (λ o. Some (if is_some o then None else Some (opened_at day plan place))) e in
          rw shut (omega (arith, nothing (a, 0)))
      by None e (suc k) f =
          let open_dock : at_place (docks_from day plan 1 (length day.batch.instructions)) place
          ≡ Some (Some (opened_at day plan place)) =
          dock ∙ ap (λ o. Some (if is_some o then None else Some (opened_at day plan place))) e in
          rw open_dock (omega (
            arith,
            nothing (a, suc k),
            late-none day plan place a (suc k) (footprint_at day place) (omega arith),
            ap one_if (none-come (length day.batch.instructions) (suc k) (omega arith)),
          ))
      by (Some t) e (suc k) f =
          let has = complete-has day plan place a (opened_at day plan place) t e among in
          let names : times (a, tail_of plan place a) (opened_at day plan place)
          ≡ 0 = ap (λ n. times (a, n) (opened_at day plan place)) f
          ∙ late-none day plan place a (suc k) (footprint_at day place) (omega arith) in
          absurd (omega (arith, has, names))
