-- What stands in the slots of an order that has no fault: for each instruction the parcels that it needs, and at the
-- end those that the last touchers left.
use Rattle.std.proofs.Common.{◌≡◌, ℕ, zero, suc, ◌-◌, ◌<◌, ◌≤◌, inl, inr, ◌⊎◌, Bool, true, false, not, cond, ◌&&◌, ◌||◌}
use Rattle.std.proofs.Common.{leb, List, [], ◌∷◌, ◌++◌, length, Option, Some, None, arith, refl, sym, ap, subst, ◌∙◌}
use Rattle.std.proofs.Common.{append_assoc}
use Rattle.std.specs.Prelude.{find}
use Rattle.std.specs.Option.{option_map, option_or}
use Rattle.std.proofs.lemmas.Bool.{cases_eq, cases_lt, eq-eqb, ne_eqb, le-leb, lt-leb, leb-true, leb-false, and_parts}
use Rattle.std.proofs.lemmas.List.{append-nil}
use Rattle.std.proofs.lemmas.Bool.{not-false}
use Rattle.reg_facts.proofs.lemmas.Members.{In, Found, Missing, search_of}
use Rattle.reg_facts.proofs.lemmas.Numbers.{clash}
use Rattle.reg_base.specs.Footprint.{is_among}
use Rattle.reg_base.specs.Touches.{is_touched, last_toucher, IsLastToucher, LastToucherIsLast}
use Rattle.reg_base.proofs.lemmas.Among.{among_push}
use Rattle.reg_plan.specs.declared.arrow.Arrow.{Arrow}
use Rattle.reg_plan.specs.declared.order.OrderFault.{OrderFault}
use Rattle.reg_plan.specs.declared.order.OrderFault.TheVariants.{Number, Repeated}
use Rattle.reg_plan.specs.Arrows.{touches_place}
use Rattle.reg_plan.specs.Plans.{PlanValue, IsPlan, inward}
use Rattle.reg_plan.specs.Orders.{waits, fault_at, first_fault_after}
use Rattle.reg_plan.specs.Laws.{TailsAreLastTouchers}
use Rattle.reg_book.specs.Day.{DayValue}
use Rattle.reg_schedules.specs.Pool.{directory, tail_of}
use Rattle.reg_tasks.specs.Slots.{last_of}
use Rattle.reg_schedules.proofs.lemmas.Tails as tails

-- a number after others that has no fault
pub record IsFaultless (arrows : List Arrow) (places : ℕ) (done : List ℕ) (x : ℕ) : Type 0 where
  pub low : 1 ≤ x
  pub high : x ≤ places
  pub fresh : is_among done x ≡ false
  pub none_waits : find (λ (w : Arrow). not (is_among done w.from)) (inward arrows x) ≡ None

pub faultless : (arrows : List Arrow) (places : ℕ) (done : List ℕ) (at x : ℕ)
    → fault_at arrows places (is_among done) at x ≡ None → IsFaultless arrows places done x
faultless arrows places done at x none = by (leb 1 x && leb x places) refl (is_among done x) refl none where
  search : Option Arrow
  search = find (λ (w : Arrow). not (is_among done w.from)) (inward arrows x)

  by : (b : Bool) → (leb 1 x && leb x places) ≡ b → (c : Bool) → is_among done x ≡ c
      → cond b (cond c (Some (Repeated at)) (option_map waits search)) (Some (Number at)) ≡ None
      → IsFaultless arrows places done x
  by false e c f h = absurd cc
  by true e true f h = absurd cc
  by true e false f h = record {
    low = leb-true 1 x (and_parts (leb 1 x) (leb x places) e).0;
    high = leb-true x places (and_parts (leb 1 x) (leb x places) e).1;
    fresh = f;
    none_waits = unmapped search h;
  } where
    unmapped : (o : Option Arrow) → option_map waits o ≡ None → o ≡ None
    unmapped None g = refl
    unmapped (Some w) g = absurd cc

-- the first numbers of a list without a fault, and those after them
pub record IsSplit (arrows : List Arrow) (places : ℕ) (done : List ℕ) (x : ℕ) (post : List ℕ) : Type 0 where
  pub here : IsFaultless arrows places done x
  pub later : first_fault_after arrows places (done ++ x ∷ []) post ≡ None

pub next_of : (arrows : List Arrow) (places : ℕ) (done : List ℕ) (x : ℕ) (post : List ℕ)
    → first_fault_after arrows places done (x ∷ post) ≡ None → IsSplit arrows places done x post
next_of arrows places done x post none =
    by (fault_at arrows places (is_among done) (suc (length done)) x) refl none where
      by : (o : Option OrderFault) → fault_at arrows places (is_among done) (suc (length done)) x ≡ o
          → option_or o (first_fault_after arrows places (done ++ x ∷ []) post) ≡ None
          → IsSplit arrows places done x post
      by None e h = record { here = faultless arrows places done (suc (length done)) x e; later = h }
      by (Some f) e h = absurd cc

pub later_none : (arrows : List Arrow) (places : ℕ) (done pre post : List ℕ)
    → first_fault_after arrows places done (pre ++ post) ≡ None → first_fault_after arrows places (done ++ pre) post
    ≡ None
later_none arrows places done [] post none =
    subst (λ xs. first_fault_after arrows places xs post ≡ None) (sym (append-nil done)) none
later_none arrows places done (y ∷ pre) post none =
    subst (λ xs. first_fault_after arrows places xs post ≡ None) (append_assoc done (y ∷ []) pre)
    (later_none arrows places (done ++ y ∷ []) pre post (next_of arrows places done y (pre ++ post) none).later)

pub last_push : (day : DayValue) (a before : ℕ) (done : List ℕ) (x : ℕ) → last_of day a before (done ++ x ∷ [])
    ≡ cond (touches_place (directory day) day.batch.instructions a x) x (last_of day a before done)
last_push day a before [] x = refl
last_push day a before (y ∷ done) x =
    last_push day a (cond (touches_place (directory day) day.batch.instructions a y) y before) done x

among_one : (done : List ℕ) (x y : ℕ) → (x ≡ y → ⊥) → is_among (done ++ x ∷ []) y ≡ is_among done y
among_one done x y ne = among_push done x y ∙ ap (λ b. is_among done y || b) (ne_eqb x y ne)
    ∙ or_false (is_among done y) where
      or_false : (b : Bool) → (b || false) ≡ b
      or_false true = refl
      or_false false = refl

among_self : (done : List ℕ) (x y : ℕ) → x ≡ y → is_among (done ++ x ∷ []) y ≡ true
among_self done x y e = among_push done x y ∙ ap (λ b. is_among done y || b) (eq-eqb x y e)
    ∙ or_true (is_among done y) where
      or_true : (b : Bool) → (b || true) ≡ true
      or_true true = refl
      or_true false = refl

module _ (tail_law : TailsAreLastTouchers) (last_law : LastToucherIsLast) (day : DayValue) (plan : PlanValue)
    (made : IsPlan (directory day) day.batch.instructions plan) where
  abbrev On : ℕ → ℕ → Type 0
  On a place = touches_place (directory day) day.batch.instructions a place ≡ true

  -- of the instructions that touch an account, those up to its last one have come, and no others
  pub record Covers (done : List ℕ) : Type 0 where
    pub covers : (a q : ℕ) → On a q → is_among done q ≡ leb q (last_of day a 0 done)
    pub touches : (a : ℕ) → 1 ≤ last_of day a 0 done → On a (last_of day a 0 done)

  covers_none : Covers []
  covers_none = record {
    covers = λ a q on. sym (lt-leb q 0 (tails.is_place (directory day) day.batch.instructions a q on));
    touches = λ a one. absurd (omega (arith, one));
  }

  tail_came : (done : List ℕ) (x a : ℕ) → IsFaultless plan.arrows (length day.batch.instructions) done x → On a x
      → 1 ≤ tail_of plan x a → is_among done (tail_of plan x a) ≡ true
  tail_came done x a next on one =
      let (w, there, from) = tails.tail_inward tail_law last_law (directory day) day.batch.instructions plan made a x on
      one in
      ap (is_among done) (sym from)
      ∙ not-false (is_among done w.from)
      (none_in w there (search_of (λ (v : Arrow). not (is_among done v.from)) (inward plan.arrows x)))
    where
      none_in : (w : Arrow) → In w (inward plan.arrows x)
          → Missing (λ (v : Arrow). not (is_among done v.from)) (inward plan.arrows x)
          ⊎ ((v : Arrow) × Found (λ (v : Arrow). not (is_among done v.from)) (inward plan.arrows x) v)
          → not (is_among done w.from) ≡ false
      none_in w there (inl missing) = missing.each_fails w there
      none_in w there (inr one) = absurd (some_none (sym one.1.found ∙ next.none_waits)) where
        some_none : {v : Arrow} → Some v ≡ None → ⊥
        some_none e = cc

  -- the last one so far is the one that the next needs
  pub stands_tail : (done : List ℕ) (x a : ℕ) → Covers done
      → IsFaultless plan.arrows (length day.batch.instructions) done x → On a x
      → last_of day a 0 done ≡ tail_of plan x a
  stands_tail done x a c next on =
      let below : last_of day a 0 done < x = leb-false x (last_of day a 0 done) (sym (c.covers a x on) ∙ next.fresh) in
      omega (arith, tail_up (tail_of plan x a) refl, tail_down (last_of day a 0 done) refl below)
    where
      tail_up : (u : ℕ) → tail_of plan x a ≡ u → u ≤ last_of day a 0 done
      tail_up zero e = omega arith
      tail_up (suc u) e =
          let one : 1 ≤ tail_of plan x a = omega (arith, e) in
          let on_tail = tails.tail_touches tail_law last_law (directory day) day.batch.instructions plan made a x on
          one in
          let le : tail_of plan x a ≤ last_of day a 0 done =
          leb-true (tail_of plan x a) (last_of day a 0 done) (sym (c.covers a (tail_of plan x a) on_tail)
          ∙ tail_came done x a next on one) in
          omega (arith, e, le)

      tail_down : (t : ℕ) → last_of day a 0 done ≡ t → last_of day a 0 done < x → t ≤ tail_of plan x a
      tail_down zero e below = omega arith
      tail_down (suc t) e below =
          let le = tails.tail_rises tail_law last_law (directory day) day.batch.instructions plan made a
          (last_of day a 0 done) x (c.touches a (omega (arith, e))) on below in
          omega (arith, e, le)

  covers_more : (done : List ℕ) (x : ℕ) → Covers done → IsFaultless plan.arrows (length day.batch.instructions) done x
      → Covers (done ++ x ∷ [])
  covers_more done x c next = record {
    covers = λ a q on. covered a q on (touches_place (directory day) day.batch.instructions a x) refl
        ∙ ap (leb q) (sym (last_push day a 0 done x));
    touches = λ a one. subst (On a) (sym (last_push day a 0 done x))
        (touched a (touches_place (directory day) day.batch.instructions a x) refl
        (subst (λ n. 1 ≤ n) (last_push day a 0 done x) one));
  } where
    touched : (a : ℕ) (b : Bool) → touches_place (directory day) day.batch.instructions a x ≡ b
        → 1 ≤ cond b x (last_of day a 0 done) → On a (cond b x (last_of day a 0 done))
    touched a true e one = e
    touched a false e one = c.touches a one

    covered : (a q : ℕ) → On a q → (b : Bool) → touches_place (directory day) day.batch.instructions a x ≡ b
        → is_among (done ++ x ∷ []) q ≡ leb q (cond b x (last_of day a 0 done))
    covered a q on false e = among_one done x q (λ same. clash (subst (On a) (sym same) on) e) ∙ c.covers a q on
    covered a q on true e = elim (cases_eq x q) [
      | inl same ↦ among_self done x q same ∙ sym (le-leb q x (omega (arith, same)))
      | inr ne ↦ among_one done x q ne ∙ c.covers a q on ∙ elim (cases_lt (last_of day a 0 done) q) [
        | inl later ↦ lt-leb q (last_of day a 0 done) later ∙ sym (lt-leb q x (past (cases_lt q x) ne later))
        | inr le ↦ le-leb q (last_of day a 0 done) le ∙ sym (le-leb q x (omega (arith, le, below)))
      ]
    ] where
      below : last_of day a 0 done < x
      below = leb-false x (last_of day a 0 done) (sym (c.covers a x e) ∙ next.fresh)

      past : (q < x) ⊎ (x ≤ q) → (x ≡ q → ⊥) → last_of day a 0 done < q → x < q
      past (inr le) ne later = omega (arith, le, ne)
      past (inl lt) ne later =
          let rises = tails.tail_rises tail_law last_law (directory day) day.batch.instructions plan made a q x on e
          lt in
          absurd (omega (arith, rises, stands_tail done x a c next e, later))

  pub covers_first : (done pre post : List ℕ) → Covers done
      → first_fault_after plan.arrows (length day.batch.instructions) done (pre ++ post) ≡ None → Covers (done ++ pre)
  covers_first done [] post c none = subst Covers (sym (append-nil done)) c
  covers_first done (y ∷ pre) post c none =
      let split = next_of plan.arrows (length day.batch.instructions) done y (pre ++ post) none in
      subst Covers (append_assoc done (y ∷ []) pre)
      (covers_first (done ++ y ∷ []) pre post (covers_more done y c split.here) split.later)

  -- each instruction of an order without a fault finds the parcels that it needs
  pub needed_stands : (pre : List ℕ) (x : ℕ) (post : List ℕ) (a : ℕ)
      → first_fault_after plan.arrows (length day.batch.instructions) [] (pre ++ x ∷ post) ≡ None → On a x
      → last_of day a 0 pre ≡ tail_of plan x a
  needed_stands pre x post a none on =
      stands_tail pre x a (covers_first [] pre (x ∷ post) covers_none none)
      (next_of plan.arrows (length day.batch.instructions) pre x post
      (later_none plan.arrows (length day.batch.instructions) [] pre (x ∷ post) none)).here on

  -- at the end the last touchers stand
  pub last_stands : (order : List ℕ) (a : ℕ) → first_fault_after plan.arrows (length day.batch.instructions) [] order
      ≡ None
      → ((place : ℕ) → 1 ≤ place → place ≤ length day.batch.instructions → is_among order place ≡ true)
      → is_touched (directory day) day.batch.instructions a ≡ true
      → last_of day a 0 order ≡ last_toucher (directory day) day.batch.instructions a (length day.batch.instructions)
  last_stands order a none all touched = omega (arith, last_up, last_down)
    where
      c : Covers order
      c = covers_first [] order [] covers_none
          (subst (λ xs. first_fault_after plan.arrows (length day.batch.instructions) [] xs ≡ None)
          (sym (append-nil order)) none)

      l : IsLastToucher (directory day) day.batch.instructions a (length day.batch.instructions)
          (last_toucher (directory day) day.batch.instructions a (length day.batch.instructions))
      l = last_law (directory day) day.batch.instructions a (length day.batch.instructions)

      reached : (q : ℕ) → On a q → q ≤ last_of day a 0 order
      reached q on = leb-true q (last_of day a 0 order) (sym (c.covers a q on)
          ∙ all q (tails.is_place (directory day) day.batch.instructions a q on)
          (tails.is_within (directory day) day.batch.instructions a q on))

      last_down : last_toucher (directory day) day.batch.instructions a (length day.batch.instructions)
          ≤ last_of day a 0 order
      last_down = by (last_toucher (directory day) day.batch.instructions a (length day.batch.instructions)) refl where
        by : (t : ℕ) → last_toucher (directory day) day.batch.instructions a (length day.batch.instructions) ≡ t
            → t ≤ last_of day a 0 order
        by zero e = omega arith
        by (suc t) e = let le = reached _
            (tails.last_touches tail_law last_law (directory day) day.batch.instructions plan made a
            (omega (arith, e))) in omega (arith, e, le)

      some : 1 ≤ last_of day a 0 order
      some = let (n, lt, on) = tails.touched_somewhere (directory day) day.batch.instructions a touched in
          let le = reached (suc n) on in omega (arith, le)

      last_up : last_of day a 0 order ≤ last_toucher (directory day) day.batch.instructions a
          (length day.batch.instructions)
      last_up =
          let on = c.touches a some in
          elim (cases_lt (last_toucher (directory day) day.batch.instructions a (length day.batch.instructions))
          (last_of day a 0 order)) [
            | inr le ↦ le
            | inl lt ↦ absurd (clash (sym
                (tails.before_of (directory day) day.batch.instructions a (last_of day a 0 order) some) ∙ on)
                (l.none_later (last_of day a 0 order - 1) (omega (arith, lt))
                (omega (
                  arith,
                  some,
                  tails.is_within (directory day) day.batch.instructions a
                      (last_of day a 0 order) on,
                ))))
          ]
