-- What holds of each parcel of a world, after every step.
use Rattle.std.proofs.Common.{◌≡◌, ℕ, zero, suc, ◌≤◌, Bool, true, false, cond, eqb, List, [], ◌∷◌, ◌++◌, length, map}
use Rattle.std.proofs.Common.{Option, Some, None, arith, refl, subst}
use Rattle.std.specs.Prelude.{slice_get, slice_set, is_some, filter, replicate, if◌then◌else◌}
use Rattle.std.proofs.lemmas.List.{length-replicate}
use Rattle.reg_facts.proofs.lemmas.Lists.{all-append, all-first, all-rest, all-filter}
use Rattle.reg_account.specs.Account.{AccountValue}
use Rattle.std.specs.Option.{option_map}
use Rattle.std.specs.List.{AllByRecursion}
use Rattle.std.proofs.lemmas.Option.{slice_get_within}
use Rattle.reg_rules.specs.declared.reply.LogRow.{LogRow}
use Rattle.reg_rules.specs.State.{State, account}
use Rattle.reg_plan.specs.Plans.{PlanValue}
use Rattle.reg_book.specs.Day.{DayValue}
use Rattle.reg_schedules.specs.Pool.{footprint_at, tail_of}
use Rattle.reg_schedules.specs.Docks.{ParcelValue, TaskValue, of_name, of_names, before_all, awaited, complete}
use Rattle.reg_schedules.specs.World.{Holds, Carries, empty, WorldValue, at_place, with_place, opening_of, known_of}
use Rattle.reg_schedules.specs.World.{opened_at, docks_from, ready_from, before_some, at_start, pushed_to, left_by}
use Rattle.reg_schedules.specs.World.{goes_on, after_delivery}
use Rattle.reg_schedules.specs.Schedules.{in_dock, in_hand, IsEachParcel}
use Rattle.reg_schedules.proofs.lemmas.WorldSums.{get-within}
use Rattle.reg_schedules.proofs.WorldSteps.{Moves, Pushes, Runs}
use Rattle.reg_schedules.proofs.lemmas.WorldCounts.{Stands}
use Rattle.reg_schedules.proofs.lemmas.WorldFits.{all-get, all-set}
use Rattle.reg_schedules.proofs.WorldBegin.{all-dealt, all-replicate}

-- ---- lists

all-place : {X : Type 0} (P : X → Type 0) (xs : List X) (place : ℕ) (y : X) → AllByRecursion P xs → P y
    → AllByRecursion P (with_place xs place y)
all-place P xs zero y all h = all
all-place P xs (suc k) y all h = all-set P xs k y all h

at-place : {X : Type 0} (P : X → Type 0) (xs : List X) (place : ℕ) (x : X) → AllByRecursion P xs
    → at_place xs place ≡ Some x → P x
at-place P xs zero x all e = absurd cc
at-place P xs (suc k) x all e = all-get P xs k x all e

found-all : (P : ParcelValue → Type 0) (parcels : List ParcelValue) (n : ℕ × ℕ) (p : ParcelValue)
    → AllByRecursion P parcels → of_name parcels n ≡ Some p → P p
found-all P [] n p all e = absurd cc
found-all P (q ∷ qs) n p all e = by _ e (found-all P qs n p all.1)
  where
    by : (b : Bool) → cond b (Some q) (of_name qs n) ≡ Some p → (of_name qs n ≡ Some p → P p) → P p
    by true f rest = let is : q ≡ p = cc in subst P is all.0
    by false f rest = rest f

names-all : (P : ParcelValue → Type 0) (parcels ps : List ParcelValue) (wanted : List (ℕ × ℕ))
    → AllByRecursion P parcels → of_names parcels wanted ≡ Some ps → AllByRecursion P ps
names-all P parcels ps [] all e = let none : [] ≡ ps = cc in subst (AllByRecursion P) none tt
names-all P parcels ps (n ∷ more) all e =
    by (of_name parcels n) (of_names parcels more) refl refl e (λ qs f. names-all P parcels qs more all f)
  where
    by : (o : Option ParcelValue) (os : Option (List ParcelValue)) → of_name parcels n ≡ o → of_names parcels more ≡ os
        → before_all o os ≡ Some ps
        → ((qs : List ParcelValue) → of_names parcels more ≡ Some qs → AllByRecursion P qs) → AllByRecursion P ps
    by (Some q) (Some qs) f g h rest = let is : q ∷ qs ≡ ps = cc in
        subst (AllByRecursion P) is (found-all P parcels n q all f, rest qs g)
    by (Some q) None f g h rest = absurd cc
    by None os f g h rest = absurd cc

pub complete-all : (P : ParcelValue → Type 0) (day : DayValue) (plan : PlanValue) (place : ℕ)
    (parcels : List ParcelValue)
    (t : TaskValue) → AllByRecursion P parcels → complete day plan place parcels ≡ Some t → AllByRecursion P t.parcels
complete-all P day plan place parcels t all e =
    by (eqb (length parcels) (length (awaited day plan place))) (of_names parcels (awaited day plan place)) refl e
  where
    by : (b : Bool) (o : Option (List ParcelValue)) → of_names parcels (awaited day plan place) ≡ o
        → (if b then option_map (λ ps. record { place = place; parcels = ps }) o else None) ≡ Some t
        → AllByRecursion P t.parcels
    by true (Some ps) f g = let is : ps ≡ t.parcels = cc in
        subst (AllByRecursion P) is (names-all P parcels ps (awaited day plan place) all f)
    by true None f g = absurd cc
    by false o f g = absurd cc

-- ---- steps

module _ (P : ParcelValue → Type 0) where
  abbrev pub All : WorldValue → Type 0
  All w = IsEachParcel P w

  abbrev Each : List ParcelValue → Type 0
  Each ps = AllByRecursion P ps

  pub move-each : (w x : WorldValue) (worker from : ℕ) (task : TaskValue) (tasks : List TaskValue) → All w
      → Moves w worker from task tasks x → All x
  move-each w x worker from task tasks r m =
      let list = all-get (AllByRecursion (λ t. Each t.parcels)) w.lists from (task ∷ tasks) r.lists m.list in
      subst All m.now (record {
        docks = r.docks;
        lists = all-set (AllByRecursion (λ t. Each t.parcels)) w.lists from tasks r.lists list.1;
        hands = all-set (λ h. Each (in_hand h)) w.hands worker (Holds task) r.hands list.0;
      })

  pub push-each : (places workers : ℕ) (w x : WorldValue) (worker : ℕ) (task : TaskValue) (ps : List ParcelValue)
      → Stands places workers w → All w → Pushes w worker task ps x → All x
  push-each places workers w x worker task ps s r p =
      let hand = all-get (λ h. Each (in_hand h)) w.hands worker (Carries (Some task) ps) r.hands p.hand in
      let l = get-within w.lists worker
      (omega (arith, slice_get_within w.hands worker (Carries (Some task) ps) p.hand, s.hands, s.lists)) in
      let more : pushed_to worker task w.lists ≡ slice_set w.lists worker (l.0 ++ task ∷ []) = rw l.1 refl in
      subst All p.now (record {
        docks = r.docks;
        lists = rw more (all-set (AllByRecursion (λ t. Each t.parcels)) w.lists worker (l.0 ++ task ∷ []) r.lists
            (all-append (λ t. Each t.parcels) l.0 (task ∷ [])
            (all-get (AllByRecursion (λ t. Each t.parcels)) w.lists worker l.0 r.lists l.1)
            (all-first P task.parcels ps hand, tt)));
        hands = all-set (λ h. Each (in_hand h)) w.hands worker (Carries None ps) r.hands
            (all-rest P task.parcels ps hand);
      })

  pub deliver-each : (day : DayValue) (plan : PlanValue) (w : WorldValue) (worker : ℕ) (p : ParcelValue)
      (ps : List ParcelValue) (place : ℕ) (came : List ParcelValue) (o : Option TaskValue) → All w
      → slice_get w.hands worker ≡ Some (Carries None (p ∷ ps))
      → at_place w.docks place ≡ Some (Some came) → complete day plan place (came ++ p ∷ []) ≡ o
      → All (after_delivery worker w ps place (came ++ p ∷ []) o)
  deliver-each day plan w worker p ps place came None r h d c =
      let hand = all-get (λ x. Each (in_hand x)) w.hands worker (Carries None (p ∷ ps)) r.hands h in
      let there = at-place (λ x. Each (in_dock x)) w.docks place (Some came) r.docks d in
      record {
        docks = all-place (λ x. Each (in_dock x)) w.docks place (Some (came ++ p ∷ [])) r.docks
            (all-append P came (p ∷ []) there (hand.0, tt));
        lists = r.lists;
        hands = all-set (λ x. Each (in_hand x)) w.hands worker (Carries None ps) r.hands hand.1;
      }
  deliver-each day plan w worker p ps place came (Some t) r h d c =
      let hand = all-get (λ x. Each (in_hand x)) w.hands worker (Carries None (p ∷ ps)) r.hands h in
      let there = at-place (λ x. Each (in_dock x)) w.docks place (Some came) r.docks d in
      let task = complete-all P day plan place (came ++ p ∷ []) t (all-append P came (p ∷ []) there (hand.0, tt)) c in
      record {
        docks = all-place (λ x. Each (in_dock x)) w.docks place None r.docks tt;
        lists = r.lists;
        hands = all-set (λ x. Each (in_hand x)) w.hands worker (Carries (Some t) ps) r.hands
            (all-append P t.parcels ps task hand.1);
      }

  pub run-each : (day : DayValue) (plan : PlanValue) (w x : WorldValue) (worker : ℕ) (task : TaskValue)
      (out : State × LogRow) → All w → Each (left_by task.place out.0) → Runs day plan w worker task out x → All x
  run-each day plan w x worker task out r left ran = subst All ran.now (record {
    docks = r.docks;
    lists = r.lists;
    hands = all-set (λ h. Each (in_hand h)) w.hands worker
        (Carries None (filter (goes_on plan) (left_by task.place out.0))) r.hands
        (all-filter P (goes_on plan) (left_by task.place out.0) left);
  })

  -- ---- the start

  module _ (day : DayValue) (plan : PlanValue)
      (opening : (a : ℕ) (v : AccountValue) → account day.book.accounts a ≡ Some v
      → P (record { value = v; after = 0 })) where
    opened-each : (accounts : List ℕ) → Each (known_of (map (opening_of day) accounts))
    opened-each [] = tt
    opened-each (a ∷ more) = by (account day.book.accounts a) refl (opened-each more)
      where
        by : (o : Option AccountValue) → account day.book.accounts a ≡ o → Each (known_of (map (opening_of day) more))
            → Each (known_of (option_map (λ v. record { value = v; after = 0 }) o ∷ map (opening_of day) more))
        by None e rest = rest
        by (Some v) e rest = (opening a v e, rest)

    opened-at : (place : ℕ) → Each (opened_at day plan place)
    opened-at place = opened-each (filter (λ a. eqb (tail_of plan place a) 0) (footprint_at day place))

    docks-each : (place more : ℕ) → AllByRecursion (λ d. Each (in_dock d)) (docks_from day plan place more)
    docks-each place zero = tt
    docks-each place (suc more) = (by (complete day plan place (opened_at day plan place)), docks-each (suc place) more)
      where
        by : (o : Option TaskValue) → Each (in_dock (if is_some o then None else Some (opened_at day plan place)))
        by None = opened-at place
        by (Some t) = tt

    ready-each : (place more : ℕ) → AllByRecursion (λ t. Each t.parcels) (ready_from day plan place more)
    ready-each place zero = tt
    ready-each place (suc more) =
        by (complete day plan place (opened_at day plan place)) refl (ready-each (suc place) more)
      where
        by : (o : Option TaskValue) → complete day plan place (opened_at day plan place) ≡ o
            → AllByRecursion (λ t. Each t.parcels) (ready_from day plan (suc place) more)
            → AllByRecursion (λ t. Each t.parcels) (before_some o (ready_from day plan (suc place) more))
        by None e rest = rest
        by (Some t) e rest = (complete-all P day plan place (opened_at day plan place) t (opened-at place) e, rest)

    pub start-each : (workers : ℕ) → 1 ≤ workers → All (at_start day plan workers)
    start-each workers some = record {
      docks = docks-each 1 (length day.batch.instructions);
      lists = all-dealt (λ t. Each t.parcels) 0 (ready_from day plan 1 (length day.batch.instructions))
          (replicate workers no-task) (omega (arith, some, long)) (ready-each 1 (length day.batch.instructions))
          (all-replicate (AllByRecursion (λ t. Each t.parcels)) workers no-task tt);
      hands = all-replicate (λ h. Each (in_hand h)) workers empty tt;
    }
      where
        no-task : List TaskValue
        no-task = []

        long : length (replicate workers no-task) ≡ workers
        long = length-replicate workers no-task
