-- The arrow to a place leads from the last toucher of the account before it, and an arrow leads on from every toucher
-- but the last one.
use Rattle.std.proofs.Common.{◌≡◌, ℕ, zero, suc, ◌-◌, ◌<◌, ◌≤◌, ◌⊎◌, inl, inr, Bool, true, false, cond, ◌||◌, eqb, List}
use Rattle.std.proofs.Common.{[], ◌∷◌, length, Option, arith, refl, sym, ap, subst, ◌∙◌}
use Rattle.std.specs.Prelude.{slice_get}
use Rattle.std.specs.Option.{option_map_or}
use Rattle.std.proofs.lemmas.Bool.{cases_lt, eq-eqb, eqb-true}
use Rattle.reg_facts.proofs.lemmas.Members.{In, in_from, contains_from, in_filter, of_filter, Found, Missing, search_of}
use Rattle.reg_facts.proofs.lemmas.Members.{any_in, of_any}
use Rattle.reg_facts.proofs.lemmas.Numbers.{clash}
use Rattle.reg_base.specs.declared.instruction.Instruction.{Instruction}
use Rattle.reg_base.specs.Directory.{DirectoryValue}
use Rattle.reg_base.specs.Touches.{touches, touches_at, is_touched, last_toucher, IsLastToucher, LastToucherIsLast}
use Rattle.reg_plan.specs.declared.arrow.Arrow.{Arrow}
use Rattle.reg_plan.specs.Arrows.{IsArrow, touches_place}
use Rattle.reg_plan.specs.Plans.{PlanValue, IsPlan, inward, outward}
use Rattle.reg_plan.specs.Laws.{LeadsFromLastToucher, TailsAreLastTouchers}
use Rattle.reg_schedules.specs.Pool.{tail_of, leads_on}

module _ (d : DirectoryValue) (is : List Instruction) where
  -- the instruction at this place touches the account
  abbrev pub Touches : ℕ → ℕ → Type 0
  Touches a place = touches_place d is a place ≡ true

  pub is_place : (a place : ℕ) → Touches a place → 1 ≤ place
  is_place a zero h = absurd cc
  is_place a (suc k) h = omega arith

  -- a place from 1, as one counted from 0
  pub before_of : (a place : ℕ) → 1 ≤ place → touches_place d is a place ≡ touches_at d is a (place - 1)
  before_of a zero le = absurd (omega arith)
  before_of a (suc k) le = let same : k ≡ suc k - 1 = omega arith in ap (touches_at d is a) same

  within_at : (a k : ℕ) (js : List Instruction) → option_map_or (λ i. touches d i a) (slice_get js k) false ≡ true
      → k < length js
  within_at a k [] h = absurd cc
  within_at a zero (j ∷ js) h = omega arith
  within_at a (suc k) (j ∷ js) h = let lt : k < length js = within_at a k js h in omega (arith, lt)

  pub is_within : (a place : ℕ) → Touches a place → place ≤ length is
  is_within a zero h = absurd cc
  is_within a (suc k) h = within_at a k is h

pub touched_somewhere : (d : DirectoryValue) (is : List Instruction) (a : ℕ) → is_touched d is a ≡ true
    → (n : ℕ) × (n < length is) × (touches_at d is a n ≡ true)
touched_somewhere d [] a e = absurd cc
touched_somewhere d (i ∷ is) a e = by (touches d i a) refl e (touched_somewhere d is a) where
  by : (b : Bool) → touches d i a ≡ b → (b || is_touched d is a) ≡ true
      → (is_touched d is a ≡ true → (n : ℕ) × (n < length is) × (touches_at d is a n ≡ true))
      → (n : ℕ) × (n < length (i ∷ is)) × (touches_at d (i ∷ is) a n ≡ true)
  by true on e more = (0, omega arith, on)
  by false off e more = let r : (n : ℕ) × (n < length is) × (touches_at d is a n ≡ true) = more e in
      (suc r.0, omega (arith, r.1), r.2)

pub touched_from : (d : DirectoryValue) (is : List Instruction) (a place : ℕ) → touches_place d is a place ≡ true
    → is_touched d is a ≡ true
touched_from d is a zero on = absurd cc
touched_from d [] a (suc n) on = absurd cc
touched_from d (i ∷ is) a (suc zero) on = ap (λ b. b || is_touched d is a) on
touched_from d (i ∷ is) a (suc (suc n)) on =
    later (touches d i a) (is_touched d is a) (touched_from d is a (suc n) on) where
      later : (b c : Bool) → c ≡ true → (b || c) ≡ true
      later true c e = refl
      later false c e = e

module _ (tails : TailsAreLastTouchers) (last : LastToucherIsLast) (d : DirectoryValue) (is : List Instruction)
    (plan : PlanValue) (made : IsPlan d is plan) where
  is_arrow : (w : Arrow) → In w plan.arrows → IsArrow d is w
  is_arrow w m = (made.arrows.exactly w).0 (contains_from plan.arrows w m)

  from_last : (a place : ℕ) → Touches d is a place → 1 ≤ last_toucher d is a (place - 1)
      → In (record { to = place; from = last_toucher d is a (place - 1); account = a }) plan.arrows
  from_last a place on one =
      let w : Arrow = record { to = place; from = last_toucher d is a (place - 1); account = a } in
      in_from plan.arrows w ((made.arrows.exactly w).1
      ((tails d is w).1 (record { head = on; tail = refl; is_one = one })))

  -- the arrow that leads to a place at an account, if there is one
  pub tail_is_last : (a place : ℕ) → Touches d is a place → tail_of plan place a ≡ last_toucher d is a (place - 1)
  tail_is_last a place on = by (search_of (λ (w : Arrow). eqb w.account a) (inward plan.arrows place)) where
    none_leads : (t : ℕ) → t ≡ last_toucher d is a (place - 1)
        → Missing (λ (w : Arrow). eqb w.account a) (inward plan.arrows place) → 0 ≡ t
    none_leads zero e missing = refl
    none_leads (suc t) e missing =
        let w : Arrow = record { to = place; from = last_toucher d is a (place - 1); account = a } in
        absurd (clash (eq-eqb a a refl)
        (missing.each_fails w (in_filter (λ (v : Arrow). eqb v.to place) plan.arrows w (eq-eqb place place refl)
        (from_last a place on (omega (arith, e))))))

    by : Missing (λ (w : Arrow). eqb w.account a) (inward plan.arrows place)
        ⊎ ((w : Arrow) × Found (λ (w : Arrow). eqb w.account a) (inward plan.arrows place) w)
        → tail_of plan place a ≡ last_toucher d is a (place - 1)
    by (inl missing) =
        ap (λ (o : Option Arrow). option_map_or (λ (w : Arrow). w.from) o 0) missing.none
        ∙ none_leads (last_toucher d is a (place - 1)) refl missing
    by (inr one) =
        let w : Arrow = one.0 in
        let there : In w plan.arrows × (eqb w.to place ≡ true) =
        of_filter (λ (v : Arrow). eqb v.to place) plan.arrows w one.1.there in
        let leads : LeadsFromLastToucher d is w = (tails d is w).0 (is_arrow w there.0) in
        ap (λ (o : Option Arrow). option_map_or (λ (w : Arrow). w.from) o 0) one.1.found
        ∙ leads.tail
        ∙ ap (λ b. last_toucher d is b (w.to - 1)) (eqb-true w.account a one.1.passes)
        ∙ ap (λ k. last_toucher d is a (k - 1)) (eqb-true w.to place there.1)

  last_of : (a place : ℕ) → Touches d is a place → IsLastToucher d is a (place - 1) (tail_of plan place a)
  last_of a place on = subst (IsLastToucher d is a (place - 1)) (sym (tail_is_last a place on))
      (last d is a (place - 1))

  pub tail_before : (a place : ℕ) → Touches d is a place → tail_of plan place a < place
  tail_before a place on = omega (arith, (last_of a place on).among, is_place d is a place on)

  pub tail_touches : (a place : ℕ) → Touches d is a place → 1 ≤ tail_of plan place a
      → Touches d is a (tail_of plan place a)
  tail_touches a place on one =
      let k : tail_of plan place a ≡ suc (tail_of plan place a - 1) = omega arith in
      before_of d is a (tail_of plan place a) one ∙ (last_of a place on).toucher (tail_of plan place a - 1) k

  -- between a toucher and its tail there is no other
  pub tail_rises : (a j k : ℕ) → Touches d is a j → Touches d is a k → j < k → j ≤ tail_of plan k a
  tail_rises a j k on_j on_k lt = elim (cases_lt (tail_of plan k a) j) [
    | inr le ↦ le
    | inl early ↦ absurd (clash (sym (before_of d is a j (is_place d is a j on_j)) ∙ on_j)
        ((last_of a k on_k).none_later (j - 1) (omega arith) (omega (arith, is_place d is a j on_j, lt))))
  ]

  -- different instructions need different values
  pub tails_differ : (a j k : ℕ) → Touches d is a j → Touches d is a k → (j ≡ k → ⊥)
      → tail_of plan j a ≡ tail_of plan k a → ⊥
  tails_differ a j k on_j on_k other same = elim (cases_lt j k) [
    | inl lt ↦ omega (arith, tail_rises a j k on_j on_k lt, tail_before a j on_j, same)
    | inr le ↦ omega (arith, other, tail_rises a k j on_k on_j (omega (arith, other)), tail_before a k on_k, same)
  ]

  -- an arrow leads on from a tail
  pub tail_leads_on : (a place : ℕ) → Touches d is a place → 1 ≤ tail_of plan place a
      → leads_on plan (tail_of plan place a) a ≡ true
  tail_leads_on a place on one =
      let e = tail_is_last a place on in
      let w : Arrow = record { to = place; from = last_toucher d is a (place - 1); account = a } in
      any_in (λ (v : Arrow). eqb v.account a) (outward plan.arrows (tail_of plan place a)) w
      (in_filter (λ (v : Arrow). eqb v.from (tail_of plan place a)) plan.arrows w
      (eq-eqb (last_toucher d is a (place - 1)) (tail_of plan place a) (sym e))
      (from_last a place on (omega (arith, e, one))))
      (eq-eqb a a refl)

  -- where an arrow leads on, there is a later toucher
  pub later_of : (a place : ℕ) → leads_on plan place a ≡ true → (k : ℕ) × Touches d is a k × (place < k)
  later_of a place h =
      let (w, there, passes) = of_any (λ (v : Arrow). eqb v.account a) (outward plan.arrows place) h in
      let (among, tail) = of_filter (λ (v : Arrow). eqb v.from place) plan.arrows w there in
      let arrow : IsArrow d is w = is_arrow w among in (
        w.to,
        subst (λ b. Touches d is b w.to) (eqb-true w.account a passes) arrow.head,
        omega (arith, arrow.forward, eqb-true w.from place tail),
      )

  -- where none leads on, there is no later one
  none_later : (a place : ℕ) → Touches d is a place → leads_on plan place a ≡ false → (m : ℕ) → place ≤ m
      → last_toucher d is a m ≡ place
  none_later a place on h zero le = absurd (omega (arith, is_place d is a place on))
  none_later a place on h (suc m) le = elim (cases_lt place (suc m)) [
    | inr here ↦
        let same : place ≡ suc m = omega arith in
        let now : touches_at d is a m ≡ true = subst (Touches d is a) same on in
        ap (λ b. cond b (suc m) (last_toucher d is a m)) now ∙ sym same
    | inl lt ↦ by (touches_at d is a m) refl (none_later a place on h m (omega arith))
  ] where
    by : (b : Bool) → touches_at d is a m ≡ b → last_toucher d is a m ≡ place → cond b (suc m) (last_toucher d is a m)
        ≡ place
    by false off same = same
    by true now same =
        let here : Touches d is a (suc m) = now in
        let k : m ≡ suc m - 1 = omega arith in
        let tail : tail_of plan (suc m) a ≡ place =
        tail_is_last a (suc m) here ∙ sym (ap (last_toucher d is a) k) ∙ same in
        absurd (clash (subst (λ t. leads_on plan t a ≡ true) tail
        (tail_leads_on a (suc m) here (omega (arith, tail, is_place d is a place on)))) h)

  -- so the last toucher of all is the one from which no arrow leads on
  pub last_of_all : (a place : ℕ) → Touches d is a place → leads_on plan place a ≡ false
      → last_toucher d is a (length is) ≡ place
  last_of_all a place on h = none_later a place on h (length is) (is_within d is a place on)

  pub not_last : (a place : ℕ) → leads_on plan place a ≡ true → last_toucher d is a (length is) ≡ place → ⊥
  not_last a place h same =
      let (k, on, lt) = later_of a place h in
      let l : IsLastToucher d is a (length is) (last_toucher d is a (length is)) = last d is a (length is) in
      clash (sym (before_of d is a k (is_place d is a k on)) ∙ on)
      (l.none_later (k - 1) (omega (arith, same, lt)) (omega (arith, lt, is_within d is a k on)))

  -- the last toucher touches the account
  pub last_touches : (a : ℕ) → 1 ≤ last_toucher d is a (length is) → Touches d is a (last_toucher d is a (length is))
  last_touches a one =
      let l : IsLastToucher d is a (length is) (last_toucher d is a (length is)) = last d is a (length is) in
      let k : last_toucher d is a (length is) ≡ suc (last_toucher d is a (length is) - 1) = omega arith in
      before_of d is a (last_toucher d is a (length is)) one ∙ l.toucher (last_toucher d is a (length is) - 1) k

  -- the arrow from a tail
  pub tail_inward : (a place : ℕ) → Touches d is a place → 1 ≤ tail_of plan place a
      → (w : Arrow) × In w (inward plan.arrows place) × (w.from ≡ tail_of plan place a)
  tail_inward a place on one =
      let e = tail_is_last a place on in
      let w : Arrow = record { to = place; from = last_toucher d is a (place - 1); account = a } in (
        w,
        in_filter (λ (v : Arrow). eqb v.to place) plan.arrows w (eq-eqb place place refl)
            (from_last a place on (omega (arith, e, one))),
        sym e,
      )

  -- and every arrow to a place is from the tail at its account
  pub inward_tail : (place : ℕ) (w : Arrow) → In w (inward plan.arrows place) → Touches d is w.account place
      × (tail_of plan place w.account ≡ w.from) × (1 ≤ w.from)
  inward_tail place w there =
      let (among, head) = of_filter (λ (v : Arrow). eqb v.to place) plan.arrows w there in
      let to : w.to ≡ place = eqb-true w.to place head in
      let leads : LeadsFromLastToucher d is w = (tails d is w).0 (is_arrow w among) in
      let on : Touches d is w.account place = subst (Touches d is w.account) to leads.head in (
        on,
        tail_is_last w.account place on ∙ ap (λ k. last_toucher d is w.account (k - 1)) (sym to) ∙ sym leads.tail,
        leads.is_one,
      )
