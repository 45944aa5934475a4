-- What the tasks, the parcels in hand and those in docks are, after every step.
use Rattle.std.proofs.Common.{◌≡◌, ℕ, zero, suc, ◌≤◌, ◌⊎◌, inl, inr, Bool, true, false, cond, eqb, List, [], ◌∷◌, ◌++◌}
use Rattle.std.proofs.Common.{length, map, Option, Some, None, arith, refl, sym, ap, subst, ◌∙◌}
use Rattle.std.specs.Prelude.{slice_get, slice_set, filter, find, if◌then◌else◌}
use Rattle.std.specs.Option.{option_map}
use Rattle.std.specs.List.{AllByRecursion}
use Rattle.std.proofs.lemmas.Bool.{eq-eqb, eqb-true, and_parts}
use Rattle.reg_facts.proofs.lemmas.Lists.{all-append, all-kept}
use Rattle.reg_facts.proofs.lemmas.Members.{In, in_filter, of_filter, Found, Missing, search_of}
use Rattle.reg_facts.proofs.lemmas.Numbers.{clash}
use Rattle.reg_base.specs.Touches.{LastToucherIsLast}
use Rattle.reg_rules.specs.declared.reply.LogRow.{LogRow}
use Rattle.reg_rules.specs.State.{State}
use Rattle.reg_plan.specs.declared.arrow.Arrow.{Arrow}
use Rattle.reg_plan.specs.Arrows.{touches_place}
use Rattle.reg_plan.specs.Plans.{PlanValue, IsPlan, inward, outward}
use Rattle.reg_plan.specs.Laws.{TailsAreLastTouchers}
use Rattle.reg_book.specs.Day.{DayValue}
use Rattle.reg_schedules.specs.Pool.{directory, tail_of}
use Rattle.reg_schedules.specs.Docks.{is_name, ParcelValue, TaskValue, of_name, of_names, before_all, awaited, complete}
use Rattle.reg_schedules.specs.World.{HandValue, Holds, Carries, WorldValue, at_place, with_place, head_of, pushed_to}
use Rattle.reg_schedules.specs.World.{left_by, goes_on, after_delivery}
use Rattle.reg_schedules.proofs.lemmas.Tails.{inward_tail}
use Rattle.std.proofs.lemmas.Option.{slice_get_within}
use Rattle.reg_schedules.proofs.lemmas.WorldSums.{place-there, place-else, get-within, at_within}
use Rattle.reg_schedules.proofs.WorldSteps.{Moves, Pushes, Runs, Step, moves, runs, delivers, pushes}
use Rattle.reg_schedules.proofs.lemmas.WorldCounts.{Stands, dock-of, complete-place}

-- ---- what holds of each item of a list

pub all-get : {X : Type 0} (P : X → Type 0) (xs : List X) (k : ℕ) (x : X) → AllByRecursion P xs
    → slice_get xs k ≡ Some x → P x
all-get P [] k x all e = absurd cc
all-get P (y ∷ ys) zero x all e = let same : y ≡ x = cc in subst P same all.0
all-get P (y ∷ ys) (suc k) x all e = all-get P ys k x all.1 e

pub all-set : {X : Type 0} (P : X → Type 0) (xs : List X) (k : ℕ) (y : X) → AllByRecursion P xs → P y
    → AllByRecursion P (slice_set xs k y)
all-set P [] k y all h = tt
all-set P (x ∷ xs) zero y all h = (h, all.1)
all-set P (x ∷ xs) (suc k) y all h = (all.0, all-set P xs k y all.1 h)

-- ---- names

abbrev pub name_is : ParcelValue → ℕ × ℕ
name_is p = (p.value.number, p.after)

abbrev pub names_are : List ParcelValue → List (ℕ × ℕ)
names_are ps = map name_is ps

-- the task of a place that needs these parcels
abbrev pub task_with : ℕ → List ParcelValue → TaskValue
task_with place parcels = record { place = place; parcels = parcels }

pub same_name : (x y : ℕ × ℕ) → is_name x y ≡ true → x ≡ y
same_name x y e =
    let both = and_parts (eqb x.0 y.0) (eqb x.1 y.1) e in
    let one = eqb-true x.0 y.0 both.0 in
    let two = eqb-true x.1 y.1 both.1 in
    ap (λ n. (n, x.1)) one ∙ ap (λ n. (y.0, n)) two

pub name_itself : (x : ℕ × ℕ) → is_name x x ≡ true
name_itself x = let one = eq-eqb x.0 x.0 refl in let two = eq-eqb x.1 x.1 refl in rw (one, two) refl

found_name : (parcels : List ParcelValue) (name : ℕ × ℕ) (p : ParcelValue) → of_name parcels name ≡ Some p
    → name_is p ≡ name
found_name [] name p e = absurd cc
found_name (q ∷ qs) name p e = by (is_name (name_is q) name) refl e (found_name qs name p)
  where
    by : (b : Bool) → is_name (name_is q) name ≡ b → cond b (Some q) (of_name qs name) ≡ Some p
        → (of_name qs name ≡ Some p → name_is p ≡ name) → name_is p ≡ name
    by true same f more = let is : q ≡ p = cc in subst (λ r. name_is r ≡ name) is (same_name (name_is q) name same)
    by false other f more = more f

found_names : (parcels ps : List ParcelValue) (wanted : List (ℕ × ℕ)) → of_names parcels wanted ≡ Some ps
    → names_are ps ≡ wanted
found_names parcels ps [] e = let none : [] ≡ ps = cc in ap names_are (sym none)
found_names parcels ps (name ∷ more) e =
    by (of_name parcels name) (of_names parcels more) refl refl e (λ qs f. found_names parcels qs more f)
  where
    by : (o : Option ParcelValue) (os : Option (List ParcelValue)) → of_name parcels name ≡ o
        → of_names parcels more ≡ os → before_all o os ≡ Some ps
        → ((qs : List ParcelValue) → of_names parcels more ≡ Some qs → names_are qs ≡ more) → names_are ps ≡ name ∷ more
    by (Some q) (Some qs) f g h rest =
        let is : q ∷ qs ≡ ps = cc in
        ap names_are (sym is) ∙ ap (λ n. n ∷ names_are qs) (found_name parcels name q f)
        ∙ ap (λ ns. name ∷ ns) (rest qs g)
    by (Some q) None f g h rest = absurd cc
    by None os f g h rest = absurd cc

pub complete_names : (day : DayValue) (plan : PlanValue) (place : ℕ) (parcels : List ParcelValue) (t : TaskValue)
    → complete day plan place parcels ≡ Some t → names_are t.parcels ≡ awaited day plan place
complete_names day plan place parcels t e =
    by (eqb (length parcels) (length (awaited day plan place))) (of_names parcels (awaited day plan place)) refl e
  where
    by : (b : Bool) (o : Option (List ParcelValue)) → of_names parcels (awaited day plan place) ≡ o
        → (if b then option_map (λ ps. record { place = place; parcels = ps }) o else None) ≡ Some t
        → names_are t.parcels ≡ awaited day plan place
    by true (Some ps) f g = let is : ps ≡ t.parcels = cc in
        ap names_are (sym is) ∙ found_names parcels ps (awaited day plan place) f
    by true None f g = absurd cc
    by false o f g = absurd cc

-- ---- the invariant

module _ (tails : TailsAreLastTouchers) (last : LastToucherIsLast) (day : DayValue) (plan : PlanValue)
    (made : IsPlan (directory day) day.batch.instructions plan) where
  -- the instruction at this place touches the account
  abbrev pub On : ℕ → ℕ → Type 0
  On a place = touches_place (directory day) day.batch.instructions a place ≡ true

  -- a task of a place, with the parcels that it awaits
  pub record IsTask (t : TaskValue) : Type 0 where
    pub low : 1 ≤ t.place
    pub high : t.place ≤ length day.batch.instructions
    pub names : names_are t.parcels ≡ awaited day plan t.place

  abbrev pub Goes : ParcelValue → Type 0
  Goes p = goes_on plan p ≡ true

  abbrev pub IsHand : HandValue → Type 0
  IsHand (Holds t) = IsTask t
  IsHand (Carries None ps) = AllByRecursion Goes ps
  IsHand (Carries (Some t) ps) = IsTask t × AllByRecursion Goes ps

  -- the instruction at this place awaits the parcel
  abbrev pub Awaits : ℕ → ParcelValue → Type 0
  Awaits place p = On p.value.number place × (tail_of plan place p.value.number ≡ p.after)

  pub record IsDock (place : ℕ) (came : List ParcelValue) : Type 0 where
    pub awaits : AllByRecursion (Awaits place) came
    pub open_yet : complete day plan place came ≡ None

  pub record Fits (w : WorldValue) : Type 0 where
    pub lists : AllByRecursion (AllByRecursion IsTask) w.lists
    pub hands : AllByRecursion IsHand w.hands
    pub docks : (place : ℕ) (came : List ParcelValue) → at_place w.docks place ≡ Some (Some came) → IsDock place came

  -- the head of an arrow awaits what its tail left
  pub head_awaits : (p : ParcelValue) (place : ℕ) → head_of plan p.after p.value.number ≡ Some place → Awaits place p
  head_awaits p place e = by (search_of (λ (w : Arrow). eqb w.account p.value.number) (outward plan.arrows p.after)) e
    where
      by : Missing (λ (w : Arrow). eqb w.account p.value.number) (outward plan.arrows p.after)
          ⊎ ((w : Arrow) × Found (λ (w : Arrow). eqb w.account p.value.number) (outward plan.arrows p.after) w)
          → option_map (λ (w : Arrow). w.to)
          (find (λ (w : Arrow). eqb w.account p.value.number) (outward plan.arrows p.after)) ≡ Some place
          → Awaits place p
      by (inl missing) f = let none = missing.none in absurd cc
      by (inr one) f =
          let w : Arrow = one.0 in
          let there = of_filter (λ (v : Arrow). eqb v.from p.after) plan.arrows w one.1.there in
          let found = one.1.found in
          let to : w.to ≡ place = cc in
          let into : In w (inward plan.arrows place) =
          in_filter (λ (v : Arrow). eqb v.to place) plan.arrows w (eq-eqb w.to place to) there.0 in
          let tail = inward_tail tails last (directory day) day.batch.instructions plan made place w into in
          let same : w.account ≡ p.value.number = eqb-true w.account p.value.number one.1.passes in (
            subst (λ a. On a place) same tail.0,
            ap (tail_of plan place) (sym same) ∙ tail.1
                ∙ eqb-true w.from p.after there.1,
          )

  move-fits : (w x : WorldValue) (worker from : ℕ) (task : TaskValue) (tasks : List TaskValue) → Fits w
      → Moves w worker from task tasks x → Fits x
  move-fits w x worker from task tasks f m =
      let list = all-get (AllByRecursion IsTask) w.lists from (task ∷ tasks) f.lists m.list in
      subst Fits m.now (record {
        lists = all-set (AllByRecursion IsTask) w.lists from tasks f.lists list.1;
        hands = all-set IsHand w.hands worker (Holds task) f.hands list.0;
        docks = f.docks;
      })

  run-fits : (w x : WorldValue) (worker : ℕ) (task : TaskValue) (made : State × LogRow) → Fits w
      → Runs day plan w worker task made x → Fits x
  run-fits w x worker task made f r = subst Fits r.now (record {
    lists = f.lists;
    hands = all-set IsHand w.hands worker (Carries None (filter (goes_on plan) (left_by task.place made.0))) f.hands
        (all-kept (λ q. goes_on plan q ≡ true) (goes_on plan) (λ q e. e) (left_by task.place made.0));
    docks = f.docks;
  })

  push-fits : (places workers : ℕ) (w x : WorldValue) (worker : ℕ) (task : TaskValue) (ps : List ParcelValue)
      → Stands places workers w → Fits w → Pushes w worker task ps x → Fits x
  push-fits places workers w x worker task ps s f p =
      let hand = all-get IsHand w.hands worker (Carries (Some task) ps) f.hands p.hand in
      let l = get-within w.lists worker
      (omega (arith, slice_get_within w.hands worker (Carries (Some task) ps) p.hand, s.hands, s.lists)) in
      let more : pushed_to worker task w.lists ≡ slice_set w.lists worker (l.0 ++ task ∷ []) = rw l.1 refl in
      subst Fits p.now (record {
        lists = rw more (all-set (AllByRecursion IsTask) w.lists worker (l.0 ++ task ∷ []) f.lists
            (all-append IsTask l.0 (task ∷ []) (all-get (AllByRecursion IsTask) w.lists worker l.0 f.lists l.1)
            (hand.0, tt)));
        hands = all-set IsHand w.hands worker (Carries None ps) f.hands hand.1;
        docks = f.docks;
      })

  -- a dock is as it was, or as it is now
  dock-now : (docks : List (Option (List ParcelValue))) (place : ℕ) (before after : Option (List ParcelValue)) (q : ℕ)
      (came : List ParcelValue) → at_place docks place ≡ Some before
      → at_place (with_place docks place after) q ≡ Some (Some came) → ((place ≡ q) × (after ≡ Some came))
      ⊎ (at_place docks q ≡ Some (Some came))
  dock-now docks place before after q came was now = by (eqb place q) refl
    where
      by : (b : Bool) → eqb place q ≡ b → ((place ≡ q) × (after ≡ Some came)) ⊎ (at_place docks q ≡ Some (Some came))
      by true e =
          let same = eqb-true place q e in
          let there : at_place (with_place docks place after) q
          ≡ Some after = subst (λ n. at_place (with_place docks place after) n ≡ Some after) same
          (place-there docks place before after was) in
          inl (same, cc)
      by false e = inr (sym (place-else docks place q after (λ same. clash (eq-eqb place q same) e)) ∙ now)

  deliver-fits : (places workers : ℕ) (w : WorldValue) (worker : ℕ) (p : ParcelValue) (ps : List ParcelValue)
      (place : ℕ) (came : List ParcelValue) (o : Option TaskValue)
      → places ≡ length day.batch.instructions → Stands places workers w → Fits w
      → slice_get w.hands worker ≡ Some (Carries None (p ∷ ps)) → Awaits place p
      → at_place w.docks place ≡ Some (Some came)
      → complete day plan place (came ++ p ∷ []) ≡ o → Fits (after_delivery worker w ps place (came ++ p ∷ []) o)
  deliver-fits places workers w worker p ps place came None many s f h awaits d c =
      let hand = all-get IsHand w.hands worker (Carries None (p ∷ ps)) f.hands h in
      record {
        lists = f.lists;
        hands = all-set IsHand w.hands worker (Carries None ps) f.hands hand.1;
        docks = λ q there e. elim (dock-now w.docks place (Some came) (Some (came ++ p ∷ [])) q there d e) [
          | inl now ↦
              let is : came ++ p ∷ [] ≡ there = cc in
              subst (λ n. IsDock n there) now.0
              (subst (IsDock place) is (record {
                awaits = all-append (Awaits place) came (p ∷ []) (f.docks place came d).awaits (awaits, tt);
                open_yet = c;
              }))
          | inr was ↦ f.docks q there was
        ];
      }
  deliver-fits places workers w worker p ps place came (Some t) many s f h awaits d c =
      let hand = all-get IsHand w.hands worker (Carries None (p ∷ ps)) f.hands h in
      let of : t.place ≡ place = complete-place day plan place (came ++ p ∷ []) t c in
      let within = at_within w.docks place (Some came) d in
      record {
        lists = f.lists;
        hands = all-set IsHand w.hands worker (Carries (Some t) ps) f.hands (
          record {
            low = omega (arith, of, within.0);
            high = omega (arith, of, within.1, s.docks, many);
            names = complete_names day plan place (came ++ p ∷ []) t c ∙ ap (awaited day plan) (sym of);
          },
          hand.1,
        );
        docks = λ q there e. elim (dock-now w.docks place (Some came) None q there d e) [
          | inl now ↦ absurd cc
          | inr was ↦ f.docks q there was
        ];
      }

  pub step-fits : (workers : ℕ) (w x : WorldValue) → Stands (length day.batch.instructions) workers w → Fits w
      → Step day plan w x → Fits x
  step-fits workers w x s f (moves worker from task tasks m) = move-fits w x worker from task tasks f m
  step-fits workers w x s f (runs worker task made r) = run-fits w x worker task made f r
  step-fits workers w x s f (delivers worker p ps place came d) =
      subst Fits d.now (deliver-fits (length day.batch.instructions) workers w worker p ps place came
      (complete day plan place (came ++ p ∷ [])) refl s f d.hand (head_awaits p place d.head)
      (dock-of w place came d.dock) refl)
  step-fits workers w x s f (pushes worker task ps p) =
      push-fits (length day.batch.instructions) workers w x worker task ps s f p
