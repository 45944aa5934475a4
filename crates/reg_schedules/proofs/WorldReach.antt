-- Each parcel is in one place: in a hand, in the dock of its head, or taken from there, as soon as its tail has come.
use Rattle.std.proofs.Common.{◌≡◌, ℕ, zero, suc, ◌+◌, ◌≤◌, Bool, true, false, cond, ◌||◌, eqb, List, [], ◌∷◌, length}
use Rattle.std.proofs.Common.{Option, Some, None, arith, refl, sym, ap, subst}
use Rattle.std.specs.Prelude.{slice_get, ◌≢◌, is_some, filter, if◌then◌else◌}
use Rattle.std.specs.Option.{option_map, option_map_or}
use Rattle.std.specs.List.{AllByRecursion, IsDistinct}
use Rattle.std.proofs.lemmas.Bool.{eq-eqb, eqb-true}
use Rattle.reg_facts.proofs.lemmas.Numbers.{clash}
use Rattle.reg_base.specs.Footprint.{is_among}
use Rattle.reg_rules.specs.declared.reply.LogRow.{LogRow}
use Rattle.reg_rules.specs.State.{State, numbers}
use Rattle.reg_plan.specs.declared.arrow.Arrow.{Arrow}
use Rattle.reg_plan.specs.Plans.{PlanValue, inward}
use Rattle.reg_book.specs.Day.{DayValue}
use Rattle.reg_schedules.specs.Pool.{footprint_at, tail_of, tail_in, leads_on}
use Rattle.reg_schedules.specs.Docks.{names_needed, is_name, ParcelValue, TaskValue, of_name, of_names, before_all}
use Rattle.reg_schedules.specs.Docks.{awaited, complete}
use Rattle.reg_schedules.specs.World.{HandValue, Holds, Carries, WorldValue, arrived, left_by, goes_on}
use Rattle.reg_facts.specs.Counting.{one_if, total}
use Rattle.reg_schedules.proofs.lemmas.WorldFits.{name_is, same_name}

-- ---- how often a name is among parcels

abbrev pub times : ℕ × ℕ → List ParcelValue → ℕ
times n ps = total (λ p. one_if (is_name (name_is p) n)) ps

abbrev pub carried : HandValue → List ParcelValue
carried (Holds t) = []
carried (Carries None ps) = ps
carried (Carries (Some t) ps) = ps

abbrev pub sent : WorldValue → ℕ × ℕ → ℕ
sent w n = total (λ h. times n (carried h)) w.hands

abbrev pub lying : Option (List ParcelValue) → List ParcelValue
lying None = []
lying (Some ps) = ps

abbrev pub docked : WorldValue → ℕ → ℕ × ℕ → ℕ
docked w place n = times n (lying (arrived w place))

-- the place is 0, or has its row
abbrev pub come_in : List (Option LogRow) → ℕ → Bool
come_in rows zero = true
come_in rows (suc k) = option_map_or is_some (slice_get rows k) false

abbrev pub has_come : WorldValue → ℕ → Bool
has_come w place = come_in w.rows place

abbrev pub count : ℕ → List ℕ → ℕ
count a ns = total (λ n. one_if (eqb n a)) ns

pub name_differs : (x y : ℕ × ℕ) → x ≢ y → is_name x y ≡ false
name_differs x y ne = by (is_name x y) refl
  where
    by : (b : Bool) → is_name x y ≡ b → b ≡ false
    by true e = absurd (ne (same_name x y e))
    by false e = refl

count-none : (a : ℕ) (ns : List ℕ) → AllByRecursion (λ n. eqb a n ≡ false) ns → count a ns ≡ 0
count-none a [] all = refl
count-none a (n ∷ ns) all = by (eqb n a) refl (count-none a ns all.1)
  where
    by : (b : Bool) → eqb n a ≡ b → count a ns ≡ 0 → one_if b + count a ns ≡ 0
    by true e rest = absurd (clash (eq-eqb a n (sym (eqb-true n a e))) all.0)
    by false e rest = omega (arith, rest)

-- what stands once in a list is counted once
pub count-once : (a : ℕ) (ns : List ℕ) → IsDistinct eqb ns → is_among ns a ≡ true → count a ns ≡ 1
unfolding IsDistinct
count-once a [] distinct e = absurd cc
count-once a (n ∷ ns) distinct e = by (eqb n a) refl e (count-once a ns distinct.1)
  where
    by : (b : Bool) → eqb n a ≡ b → (b || is_among ns a) ≡ true → (is_among ns a ≡ true → count a ns ≡ 1)
        → one_if b + count a ns ≡ 1
    by true same f rest = let none =
        count-none a ns (subst (λ m. AllByRecursion (λ k. eqb m k ≡ false) ns) (eqb-true n a same) distinct.0) in
        omega (arith, none)
    by false other f rest = omega (arith, rest f)

pub count-missing : (a : ℕ) (ns : List ℕ) → is_among ns a ≡ false → count a ns ≡ 0
count-missing a [] e = refl
count-missing a (n ∷ ns) e = by (eqb n a) e (count-missing a ns)
  where
    by : (b : Bool) → (b || is_among ns a) ≡ false → (is_among ns a ≡ false → count a ns ≡ 0)
        → one_if b + count a ns ≡ 0
    by true f rest = absurd cc
    by false f rest = omega (arith, rest f)

-- ---- what a run leaves

-- an account that an arrow leads on from is in hand as often as it was touched
pub times-left : (plan : PlanValue) (place a : ℕ) (vs : State) → leads_on plan place a ≡ true
    → times (a, place) (filter (goes_on plan) (left_by place vs)) ≡ count a (numbers vs)
times-left plan place a [] on = refl
times-left plan place a (v ∷ vs) on =
    by (leads_on plan place v.number) (eqb v.number a) refl refl (times-left plan place a vs on)
  where
    here : eqb v.number a ≡ true → is_name (v.number, place) (a, place) ≡ true
    here e = let two = eq-eqb place place refl in rw (e, two) refl

    not-here : eqb v.number a ≡ false → is_name (v.number, place) (a, place) ≡ false
    not-here e = rw e refl

    by : (b c : Bool) → leads_on plan place v.number ≡ b → eqb v.number a ≡ c
        → times (a, place) (filter (goes_on plan) (left_by place vs)) ≡ count a (numbers vs)
        → times (a, place) (cond b (record { value = v; after = place } ∷ filter (goes_on plan) (left_by place vs))
        (filter (goes_on plan) (left_by place vs))) ≡ one_if c + count a (numbers vs)
    by true true e f rest = omega (arith, rest, ap one_if (here f))
    by true false e f rest = omega (arith, rest, ap one_if (not-here f))
    by false true e f rest = absurd
        (clash (subst (λ n. leads_on plan place n ≡ true) (sym (eqb-true v.number a f)) on) e)
    by false false e f rest = omega (arith, rest)

-- a run leaves no parcel of another place
pub times-other : (plan : PlanValue) (place a t : ℕ) (vs : State) → place ≢ t
    → times (a, t) (filter (goes_on plan) (left_by place vs)) ≡ 0
times-other plan place a t [] ne = refl
times-other plan place a t (v ∷ vs) ne = by (leads_on plan place v.number) (times-other plan place a t vs ne)
  where
    differs : is_name (v.number, place) (a, t) ≡ false
    differs = name_differs (v.number, place) (a, t) (λ e. ne (ap (λ (n : ℕ × ℕ). n.1) e))

    by : (b : Bool) → times (a, t) (filter (goes_on plan) (left_by place vs)) ≡ 0
        → times (a, t) (cond b (record { value = v; after = place } ∷ filter (goes_on plan) (left_by place vs))
        (filter (goes_on plan) (left_by place vs))) ≡ 0
    by true rest = omega (arith, rest, ap one_if differs)
    by false rest = rest

-- ---- what a complete dock has

pub found-times : (parcels : List ParcelValue) (n : ℕ × ℕ) (p : ParcelValue) → of_name parcels n ≡ Some p
    → 1 ≤ times n parcels
found-times [] n p e = absurd cc
found-times (q ∷ qs) n p e = by (is_name (name_is q) n) refl e (found-times qs n p)
  where
    by : (b : Bool) → is_name (name_is q) n ≡ b → cond b (Some q) (of_name qs n) ≡ Some p
        → (of_name qs n ≡ Some p → 1 ≤ times n qs) → 1 ≤ one_if b + times n qs
    by true f g rest = omega arith
    by false f g rest = omega (arith, rest g)

all-found : (parcels ps : List ParcelValue) (wanted : List (ℕ × ℕ)) → of_names parcels wanted ≡ Some ps
    → AllByRecursion (λ n. 1 ≤ times n parcels) wanted
all-found parcels ps [] e = tt
all-found parcels ps (n ∷ more) e =
    by (of_name parcels n) (of_names parcels more) refl refl e (λ qs f. all-found parcels qs more f)
  where
    by : (o : Option ParcelValue) (os : Option (List ParcelValue)) → of_name parcels n ≡ o → of_names parcels more ≡ os
        → before_all o os ≡ Some ps
        → ((qs : List ParcelValue) → of_names parcels more ≡ Some qs → AllByRecursion (λ m. 1 ≤ times m parcels) more)
        → AllByRecursion (λ m. 1 ≤ times m parcels) (n ∷ more)
    by (Some q) (Some qs) f g h rest = (found-times parcels n q f, rest qs g)
    by (Some q) None f g h rest = absurd cc
    by None os f g h rest = absurd cc

at-needed : (P : ℕ × ℕ → Type 0) (arrows : List Arrow) (accounts : List ℕ) (a : ℕ)
    → AllByRecursion P (names_needed arrows accounts) → is_among accounts a ≡ true → P (a, tail_in arrows a)
at-needed P arrows [] a all e = absurd cc
at-needed P arrows (b ∷ bs) a all e = by (eqb b a) refl e (at-needed P arrows bs a all.1)
  where
    by : (c : Bool) → eqb b a ≡ c → (c || is_among bs a) ≡ true → (is_among bs a ≡ true → P (a, tail_in arrows a))
        → P (a, tail_in arrows a)
    by true same f rest = subst (λ n. P (n, tail_in arrows n)) (eqb-true b a same) all.0
    by false other f rest = rest f

pub complete-has : (day : DayValue) (plan : PlanValue) (place a : ℕ) (parcels : List ParcelValue) (t : TaskValue)
    → complete day plan place parcels ≡ Some t → is_among (footprint_at day place) a ≡ true
    → 1 ≤ times (a, tail_of plan place a) parcels
complete-has day plan place a parcels t e among =
    by (eqb (length parcels) (length (awaited day plan place))) (of_names parcels (awaited day plan place)) refl e
  where
    by : (b : Bool) (o : Option (List ParcelValue)) → of_names parcels (awaited day plan place) ≡ o
        → (if b then option_map (λ ps. record { place = place; parcels = ps }) o else None) ≡ Some t
        → 1 ≤ times (a, tail_of plan place a) parcels
    by true (Some ps) f g = at-needed (λ n. 1 ≤ times n parcels) (inward plan.arrows place) (footprint_at day place) a
        (all-found parcels ps (awaited day plan place) f) among
    by true None f g = absurd cc
    by false o f g = absurd cc
