-- A list has no fault exactly where it is a legal order.
use Rattle.std.proofs.Common.{◌≡◌, ℕ, zero, suc, ◌+◌, ◌<◌, ◌≤◌, inl, inr, Bool, true, false, cond, ◌&&◌, ◌||◌, eqb, leb}
use Rattle.std.proofs.Common.{List, [], ◌∷◌, ◌++◌, length, take, Option, Some, None, arith, refl, sym, ap, subst, ◌∙◌}
use Rattle.std.proofs.Common.{append_assoc}
use Rattle.std.specs.Prelude.{slice_get, find, not}
use Rattle.std.specs.Option.{option_map, option_or}
use Rattle.std.specs.List.{IsDistinct}
use Rattle.std.proofs.lemmas.Bool.{eqb-true, eq-eqb, le-leb, not-false}
use Rattle.std.proofs.lemmas.List.{append-nil}
use Rattle.std.proofs.lemmas.List.Folds.{list_any-append}
use Rattle.std.proofs.lemmas.List.Sorted.{length_permutation}
use Rattle.std.proofs.lemmas.Map.Keys.{IsDistinct-IsPermutation, IsDistinct-head, IsDistinct-tail}
use Rattle.std.specs.Cmp.{nat_eq_equiv}
use Rattle.reg_facts.proofs.lemmas.Members.{in_filter, of_filter, In, in_from, contains_from, in_permuted, of_member}
use Rattle.reg_facts.proofs.lemmas.Members.{in_permuted_back, of_each_member}
use Rattle.reg_base.specs.Footprint.{is_among}
use Rattle.reg_base.specs.Rising.{count_up}
use Rattle.reg_base.proofs.lemmas.Rising.{length-count_up, distinct-count_up, in_count, of_count}
use Rattle.reg_plan.specs.declared.arrow.Arrow.{Arrow}
use Rattle.reg_plan.specs.declared.order.OrderFault.{OrderFault}
use Rattle.reg_plan.specs.declared.order.OrderFault.TheVariants.{Length, Number, Repeated}
use Rattle.reg_plan.specs.Plans.{inward, IsBetween}
use Rattle.reg_plan.specs.Orders.{IsLegalOrder, waits, fault_at, first_fault_after}
use Rattle.reg_plan.specs.Laws.{NoFaultIsALegalOrder}
use Rattle.reg_plan.proofs.Marking.{no_fault_place}
use Rattle.reg_plan.proofs.Results.{arrow_between_places}
use Rattle.reg_plan.proofs.Permutations.{all_places}

-- a number that may come next: a place that has not come, and every tail of an arrow to it has
record MayCome (arrows : List Arrow) (places : ℕ) (before : List ℕ) (number : ℕ) : Type 0 where
  pub low : 1 ≤ number
  pub high : number ≤ places
  pub fresh : is_among before number ≡ false
  pub tails : (w : Arrow) → In w arrows → w.to ≡ number → is_among before w.from ≡ true

-- each number may come after those before it
abbrev MayFollow : List Arrow → ℕ → List ℕ → List ℕ → Type 0
MayFollow arrows places before [] = Unit {0}
MayFollow arrows places before (x ∷ xs) = MayCome arrows places before x × MayFollow arrows places (before ++ x ∷ []) xs

find_none : {X : Type 0} (p : X → Bool) (xs : List X) → find p xs ≡ None → (x : X) → In x xs → p x ≡ false
find_none p [] e x m = absurd m
find_none {X = X} p (y ∷ ys) e x m = by (p y) refl e m (find_none p ys) where
  by : (b : Bool) → p y ≡ b → cond b (Some y) (find p ys) ≡ None → In x (y ∷ ys)
      → (find p ys ≡ None → (z : X) → In z ys → p z ≡ false) → p x ≡ false
  by true h e' n more = absurd cc
  by false h e' (inl same) more = ap p (sym same) ∙ h
  by false h e' (inr n) more = more e' x n

none_find : {X : Type 0} (p : X → Bool) (xs : List X) → ((x : X) → In x xs → p x ≡ false) → find p xs ≡ None
none_find p [] h = refl
none_find p (y ∷ ys) h = ap (λ b. cond b (Some y) (find p ys)) (h y (inl refl)) ∙ none_find p ys (λ x m. h x (inr m))

module _ (arrows : List Arrow) (places : ℕ) where
  may_come : (before : List ℕ) (position x : ℕ) → fault_at arrows places (is_among before) position x ≡ None
      → MayCome arrows places before x
  may_come before position x none =
      by (is_among before x) refl (find (λ (w : Arrow). not (is_among before w.from)) (inward arrows x)) refl
      placed where
        place : (1 ≤ x) × (x ≤ places)
        place = no_fault_place arrows places (is_among before) position x none

        placed : cond (is_among before x) (Some (Repeated position))
            (option_map waits (find (λ (w : Arrow). not (is_among before w.from)) (inward arrows x))) ≡ None
        placed =
            sym (ap (λ b. cond b (cond (is_among before x) (Some (Repeated position))
            (option_map waits (find (λ (w : Arrow). not (is_among before w.from)) (inward arrows x))))
            (Some (Number position)))
            (ap (λ a. a && leb x places) (le-leb 1 x place.0) ∙ le-leb x places place.1))
            ∙ none

        by : (b : Bool) → is_among before x ≡ b → (o : Option Arrow)
            → find (λ (w : Arrow). not (is_among before w.from)) (inward arrows x) ≡ o
            → cond b (Some (Repeated position)) (option_map waits o) ≡ None → MayCome arrows places before x
        by true eb o eo h = absurd cc
        by false eb (Some w) eo h = absurd cc
        by false eb None eo h = record {
          low = place.0;
          high = place.1;
          fresh = eb;
          tails = λ w m e. not-false (is_among before w.from)
              (find_none (λ (w' : Arrow). not (is_among before w'.from)) (inward arrows x) eo w
              (in_filter (λ (w' : Arrow). eqb w'.to x) arrows w (eq-eqb w.to x e) m));
        }

  no_fault : (before : List ℕ) (position x : ℕ) → MayCome arrows places before x
      → fault_at arrows places (is_among before) position x ≡ None
  no_fault before position x h =
      ap (λ b. cond b (cond (is_among before x) (Some (Repeated position))
      (option_map waits (find (λ (w : Arrow). not (is_among before w.from)) (inward arrows x))))
      (Some (Number position)))
      (ap (λ a. a && leb x places) (le-leb 1 x h.low) ∙ le-leb x places h.high)
      ∙ ap (λ b. cond b (Some (Repeated position))
      (option_map waits (find (λ (w : Arrow). not (is_among before w.from)) (inward arrows x)))) h.fresh
      ∙ ap (option_map waits) (none_find (λ (w : Arrow). not (is_among before w.from)) (inward arrows x) (λ w m.
      let r : In w arrows × (eqb w.to x ≡ true) = of_filter (λ (w' : Arrow). eqb w'.to x) arrows w m in
      ap not (h.tails w r.0 (eqb-true w.to x r.1))))

  may_follow : (before xs : List ℕ) → first_fault_after arrows places before xs ≡ None
      → MayFollow arrows places before xs
  may_follow before [] none = tt
  may_follow before (x ∷ xs) none = by (fault_at arrows places (is_among before) (suc (length before)) x) refl none
      (may_follow (before ++ x ∷ []) xs) where
        by : (o : Option OrderFault) → fault_at arrows places (is_among before) (suc (length before)) x ≡ o
            → option_or o (first_fault_after arrows places (before ++ x ∷ []) xs) ≡ None
            → (first_fault_after arrows places (before ++ x ∷ []) xs ≡ None
            → MayFollow arrows places (before ++ x ∷ []) xs)
            → MayFollow arrows places before (x ∷ xs)
        by None e h more = (may_come before (suc (length before)) x e, more h)
        by (Some f) e h more = absurd cc

  none_after : (before xs : List ℕ) → MayFollow arrows places before xs → first_fault_after arrows places before xs
      ≡ None
  none_after before [] h = refl
  none_after before (x ∷ xs) h =
      ap (λ o. option_or o (first_fault_after arrows places (before ++ x ∷ []) xs))
      (no_fault before (suc (length before)) x h.0)
      ∙ none_after (before ++ x ∷ []) xs h.1

  -- numbers that follow are places, and differ from those before
  record Stands (before : List ℕ) (y : ℕ) : Type 0 where
    pub low : 1 ≤ y
    pub high : y ≤ places
    pub fresh : is_among before y ≡ false

  or_none : (a b : Bool) → (a || b) ≡ false → (a ≡ false) × (b ≡ false)
  or_none true b e = absurd cc
  or_none false b e = (refl, e)

  among_more : (before : List ℕ) (x y : ℕ) → is_among (before ++ x ∷ []) y ≡ false → (is_among before y ≡ false)
      × (eqb x y ≡ false)
  among_more before x y e =
      let r : (is_among before y ≡ false) × ((eqb x y || false) ≡ false) =
      or_none (is_among before y) (eqb x y || false) (sym (list_any-append (λ m. eqb m y) before (x ∷ [])) ∙ e) in
      (r.0, (or_none (eqb x y) false r.1).0)

  each_stands : (before xs : List ℕ) → MayFollow arrows places before xs → (y : ℕ) → In y xs → Stands before y
  each_stands before [] h y m = absurd m
  each_stands before (x ∷ xs) h y (inl e) =
      subst (Stands before) e (record { low = h.0.low; high = h.0.high; fresh = h.0.fresh })
  each_stands before (x ∷ xs) h y (inr m) =
      let s : Stands (before ++ x ∷ []) y = each_stands (before ++ x ∷ []) xs h.1 y m in
      record { low = s.low; high = s.high; fresh = (among_more before x y s.fresh).0 }

  distinct : (before xs : List ℕ) → MayFollow arrows places before xs → IsDistinct eqb xs
  unfolding IsDistinct
  distinct before [] h = tt
  distinct before (x ∷ xs) h = (
    of_each_member (λ y. eqb x y ≡ false) xs
        (λ y m. (among_more before x y (each_stands (before ++ x ∷ []) xs h.1 y m).fresh).1),
    distinct (before ++ x ∷ []) xs h.1,
  )

  in_at : (xs : List ℕ) (p y : ℕ) → slice_get xs p ≡ Some y → In y xs
  in_at [] p y e = absurd cc
  in_at (x ∷ xs) zero y e = inl (cc)
  in_at (x ∷ xs) (suc p) y e = inr (in_at xs p y e)

  tail_first : (w : Arrow) → In w arrows → (before xs : List ℕ) (p q : ℕ) → MayFollow arrows places before xs
      → is_among before w.from ≡ false
      → slice_get xs p ≡ Some w.from → slice_get xs q ≡ Some w.to → p < q
  tail_first w m before [] p q h fresh tail head = absurd cc
  tail_first w m before (x ∷ xs) p zero h fresh tail head =
      let e : x ≡ w.to = cc in
      let came : is_among before w.from ≡ true = h.0.tails w m (sym e) in
      absurd (cc)
  tail_first w m before (x ∷ xs) zero (suc q) h fresh tail head = omega arith
  tail_first w m before (x ∷ xs) (suc p) (suc q) h fresh tail head =
      let s : Stands (before ++ x ∷ []) w.from =
      each_stands (before ++ x ∷ []) xs h.1 w.from (in_at xs p w.from tail) in
      let lt : p < q = tail_first w m (before ++ x ∷ []) xs p q h.1 s.fresh tail head in
      omega (arith, lt)

  -- the other way round: by each position of the list
  by_indexes : (before xs : List ℕ)
      → ((k x : ℕ) → slice_get xs k ≡ Some x → MayCome arrows places (before ++ take k xs) x)
      → MayFollow arrows places before xs
  by_indexes before [] h = tt
  by_indexes before (x ∷ xs) h = (
    subst (λ b. MayCome arrows places b x) (append-nil before) (h 0 x refl),
    by_indexes (before ++ x ∷ []) xs
        (λ k y e. subst (λ b. MayCome arrows places b y) (sym (append_assoc before (x ∷ []) (take k xs)))
        (h (suc k) y e)),
  )

  index_of : (xs : List ℕ) (y : ℕ) → In y xs → (p : ℕ) × (slice_get xs p ≡ Some y)
  index_of [] y m = absurd m
  index_of (x ∷ xs) y (inl e) = (0, ap (λ z. Some z) e)
  index_of (x ∷ xs) y (inr m) = let r : (p : ℕ) × (slice_get xs p ≡ Some y) = index_of xs y m in (suc r.0, r.1)

  among_before : (xs : List ℕ) (p k y : ℕ) → slice_get xs p ≡ Some y → p < k → is_among (take k xs) y ≡ true
  among_before [] p k y e lt = absurd cc
  among_before (x ∷ xs) p zero y e lt = absurd (omega arith)
  among_before (x ∷ xs) zero (suc k) y e lt = let same : x ≡ y = cc in
      ap (λ b. b || is_among (take k xs) y) (eq-eqb x y same)
  among_before (x ∷ xs) (suc p) (suc k) y e lt =
      or_more (eqb x y) (is_among (take k xs) y) (among_before xs p k y e (omega arith)) where
        or_more : (a b : Bool) → b ≡ true → (a || b) ≡ true
        or_more true b h = refl
        or_more false b h = h

  fresh_at : (xs : List ℕ) (k y : ℕ) → IsDistinct eqb xs → slice_get xs k ≡ Some y → is_among (take k xs) y ≡ false
  fresh_at [] k y d e = absurd cc
  fresh_at (x ∷ xs) zero y d e = refl
  fresh_at (x ∷ xs) (suc k) y d e =
      ap (λ b. b || is_among (take k xs) y)
      (of_member (λ z. eqb x z ≡ false) xs y (IsDistinct-head eqb x xs d) (in_at xs k y e))
      ∙ fresh_at xs k y (IsDistinct-tail eqb x xs d) e

pub legal_orders : NoFaultIsALegalOrder
legal_orders d is plan order made = (
  (λ none. let both : (length order ≡ length plan.levels)
      × (first_fault_after plan.arrows (length plan.levels) [] order ≡ None) =
      right_length (eqb (length order) (length plan.levels)) refl none in
      let follow : MayFollow plan.arrows (length plan.levels) [] order =
      may_follow plan.arrows (length plan.levels) [] order both.1 in
      record {
        permutation = all_places (length plan.levels) order both.0
            (distinct plan.arrows (length plan.levels) [] order follow) (λ x m.
            let s : Stands plan.arrows (length plan.levels) [] x =
            each_stands plan.arrows (length plan.levels) [] order follow x m in (s.low, s.high));
        tails_first = λ w c p q tail head.
            tail_first plan.arrows (length plan.levels) w (in_from plan.arrows w c) [] order p q follow refl tail head;
      }),
  (λ legal.
      ap (λ b. cond b (first_fault_after plan.arrows (length plan.levels) [] order) (Some Length))
      (eq-eqb (length order) (length plan.levels)
      (length_permutation (count_up 1 (length plan.levels)) order legal.permutation
      ∙ length-count_up 1 (length plan.levels)))
      ∙ none_after plan.arrows (length plan.levels) [] order
      (by_indexes plan.arrows (length plan.levels) [] order (λ k x at. comes legal k x at))),
) where
  right_length : (b : Bool) → eqb (length order) (length plan.levels) ≡ b
      → cond b (first_fault_after plan.arrows (length plan.levels) [] order) (Some Length) ≡ None
      → (length order ≡ length plan.levels) × (first_fault_after plan.arrows (length plan.levels) [] order ≡ None)
  right_length true e h = (eqb-true (length order) (length plan.levels) e, h)
  right_length false e h = absurd cc

  placed : IsLegalOrder plan order → (x : ℕ) → In x order → (1 ≤ x) × (x < 1 + length plan.levels)
  placed legal x m = of_count 1 (length plan.levels) x
      (in_permuted_back (count_up 1 (length plan.levels)) order x legal.permutation m)

  comes : IsLegalOrder plan order → (k x : ℕ) → slice_get order k ≡ Some x
      → MayCome plan.arrows (length plan.levels) (take k order) x
  comes legal k x at = record {
    low = (placed legal x (in_at plan.arrows (length plan.levels) order k x at)).0;
    high = omega (arith, (placed legal x (in_at plan.arrows (length plan.levels) order k x at)).1);
    fresh = fresh_at plan.arrows (length plan.levels) order k x
        (IsDistinct-IsPermutation eqb nat_eq_equiv.symm (count_up 1 (length plan.levels)) order legal.permutation
        (distinct-count_up 1 (length plan.levels))) at;
    tails = λ w m e.
        let b : IsBetween (length is) w =
        arrow_between_places d is w ((made.arrows.exactly w).0 (contains_from plan.arrows w m)) in
        let there : In w.from order = in_permuted (count_up 1 (length plan.levels)) order w.from legal.permutation
        (in_count 1 (length plan.levels) w.from b.from_one (omega (arith, b.forward, b.within, made.places))) in
        let p : (i : ℕ) × (slice_get order i ≡ Some w.from) =
        index_of plan.arrows (length plan.levels) order w.from there in
        among_before plan.arrows (length plan.levels) order p.0 k w.from p.1
        (legal.tails_first w (contains_from plan.arrows w m) p.0 k p.1 (at ∙ ap (λ y. Some y) (sym e)));
  }
