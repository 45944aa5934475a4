-- The fault of a list is at the first position that has one.
use Rattle.std.proofs.Common.{◌≡◌, ℕ, suc, ◌+◌, ◌-◌, ◌<◌, ◌≤◌, inl, inr, Bool, true, false, cond, ◌&&◌, eqb, leb}
use Rattle.std.proofs.Common.{List, [], ◌∷◌, ◌++◌, length, get_or, take, Option, Some, None, arith, refl, sym, ap}
use Rattle.std.proofs.Common.{subst, ◌∙◌, append_assoc}
use Rattle.std.specs.Prelude.{find, not}
use Rattle.std.specs.Option.{option_map, option_or}
use Rattle.std.proofs.lemmas.Bool.{eqb-true, leb-false, not-true}
use Rattle.std.proofs.lemmas.List.{append-nil, length_push}
use Rattle.reg_facts.proofs.lemmas.Members.{of_filter, In, in_from, contains_from}
use Rattle.reg_facts.proofs.lemmas.Numbers.{clash}
use Rattle.reg_base.specs.Footprint.{is_among}
use Rattle.reg_base.proofs.lemmas.Among.{member_from_among, among_from_member}
use Rattle.reg_plan.specs.declared.arrow.Arrow.{Arrow}
use Rattle.reg_plan.specs.declared.order.OrderFault.{OrderFault}
use Rattle.reg_plan.specs.declared.order.OrderFault.TheVariants.{Length, Number, Repeated}
use Rattle.reg_plan.specs.Plans.{PlanValue, inward}
use Rattle.reg_plan.specs.Orders.{waits, fault_at, first_fault_after}
use Rattle.reg_plan.specs.Laws.{Says, IsAtPosition, FaultIsAtFirstPosition}

-- what a search finds
found_in : {X : Type 0} (p : X → Bool) (xs : List X) (x : X) → find p xs ≡ Some x → In x xs × (p x ≡ true)
found_in p [] x e = absurd cc
found_in {X = X} p (y ∷ ys) x e = by (p y) refl e (found_in p ys x) where
  by : (b : Bool) → p y ≡ b → cond b (Some y) (find p ys) ≡ Some x → (find p ys ≡ Some x → In x ys × (p x ≡ true))
      → In x (y ∷ ys) × (p x ≡ true)
  by true h e' more = let same : y ≡ x = cc in (inl same, ap p (sym same) ∙ h)
  by false h e' more = let r : In x ys × (p x ≡ true) = more e' in (inr r.0, r.1)

module _ (plan : PlanValue) where
  -- what is wrong with a number is so
  says : (before : List ℕ) (position number : ℕ) (fault : OrderFault)
      → fault_at plan.arrows (length plan.levels) (is_among before) position number ≡ Some fault
      → Says plan before position number fault
  says before position number fault e = by (leb 1 number) refl (leb number (length plan.levels)) refl e where
    early : (o : Option Arrow) → find (λ (w : Arrow). not (is_among before w.from)) (inward plan.arrows number) ≡ o
        → option_map waits o ≡ Some fault → Says plan before position number fault
    early None at h = absurd cc
    early (Some w) at h =
        let r : In w (inward plan.arrows number) × (not (is_among before w.from) ≡ true) =
        found_in (λ (x : Arrow). not (is_among before x.from)) (inward plan.arrows number) w at in
        let there : In w plan.arrows × (eqb w.to number ≡ true) =
        of_filter (λ (x : Arrow). eqb x.to number) plan.arrows w r.0 in
        let same : waits w ≡ fault = cc in
        subst (Says plan before position number) same (record {
          named = eqb-true w.to number there.1;
          arrow = (w.account, contains_from plan.arrows w there.0);
          missing = λ c. clash (among_from_member before w.from (in_from before w.from c))
              (not-true (is_among before w.from) r.1);
        })

    placed : (b : Bool) → is_among before number ≡ b
        → cond b (Some (Repeated position))
        (option_map waits (find (λ (w : Arrow). not (is_among before w.from)) (inward plan.arrows number)))
        ≡ Some fault
        → Says plan before position number fault
    placed true came h =
        let same : Repeated position ≡ fault = cc in
        subst (Says plan before position number) same
        (record { named = refl; come = contains_from before number (member_from_among before number came) })
    placed false fresh h = early (find (λ (w : Arrow). not (is_among before w.from)) (inward plan.arrows number)) refl h

    no_place : (1 ≤ number → length plan.levels < number) → Some (Number position) ≡ Some fault
        → Says plan before position number fault
    no_place outside h =
        let same : Number position ≡ fault = cc in
        subst (Says plan before position number) same (record { named = refl; outside = outside })

    by : (a : Bool) → leb 1 number ≡ a → (b : Bool) → leb number (length plan.levels) ≡ b
        → cond (a && b) (cond (is_among before number) (Some (Repeated position))
        (option_map waits (find (λ (w : Arrow). not (is_among before w.from)) (inward plan.arrows number))))
        (Some (Number position)) ≡ Some fault
        → Says plan before position number fault
    by true ea true eb h = placed (is_among before number) refl h
    by true ea false eb h = no_place (λ le. leb-false number (length plan.levels) eb) h
    by false ea b eb h = no_place (λ le. absurd (omega (arith, le, leb-false 1 number ea))) h

  -- the first of these numbers that has a fault, after others
  record FirstAt (before xs : List ℕ) (fault : OrderFault) : Type 0 where
    pub index : ℕ
    pub within : index < length xs
    pub none_before : first_fault_after plan.arrows (length plan.levels) before (take index xs) ≡ None
    pub with_it : first_fault_after plan.arrows (length plan.levels) before (take (suc index) xs) ≡ Some fault
    pub here : fault_at plan.arrows (length plan.levels) (is_among (before ++ take index xs))
        (suc (length before + index)) (get_or xs index 0) ≡ Some fault

  first_at : (before xs : List ℕ) (fault : OrderFault) → first_fault_after plan.arrows (length plan.levels) before xs
      ≡ Some fault → FirstAt before xs fault
  first_at before [] fault e = absurd cc
  first_at before (x ∷ xs) fault e =
      by (fault_at plan.arrows (length plan.levels) (is_among before) (suc (length before)) x) refl e
      (first_at (before ++ x ∷ []) xs fault) where
        by : (o : Option OrderFault)
            → fault_at plan.arrows (length plan.levels) (is_among before) (suc (length before)) x
            ≡ o
            → option_or o (first_fault_after plan.arrows (length plan.levels) (before ++ x ∷ []) xs) ≡ Some fault
            → (first_fault_after plan.arrows (length plan.levels) (before ++ x ∷ []) xs ≡ Some fault
            → FirstAt (before ++ x ∷ []) xs fault) → FirstAt before (x ∷ xs) fault
        by (Some f) at h more = record {
          index = 0;
          within = omega arith;
          none_before = refl;
          with_it = ap (λ o. option_or o None) at ∙ h;
          here =
              let same : suc (length before + 0) ≡ suc (length before) = omega arith in
              ap (λ ns. fault_at plan.arrows (length plan.levels) (is_among ns) (suc (length before + 0)) x)
              (append-nil before)
              ∙ ap (λ p. fault_at plan.arrows (length plan.levels) (is_among before) p x) same
              ∙ at ∙ h;
        }
        by None at h more =
            let r : FirstAt (before ++ x ∷ []) xs fault = more h in
            record {
              index = suc r.index;
              within = omega (arith, r.within);
              none_before = ap (λ o. option_or o
                  (first_fault_after plan.arrows (length plan.levels) (before ++ x ∷ []) (take r.index xs))) at
                  ∙ r.none_before;
              with_it = ap (λ o. option_or o
                  (first_fault_after plan.arrows (length plan.levels) (before ++ x ∷ []) (take (suc r.index) xs))) at
                  ∙ r.with_it;
              here =
                  let same : suc (length before + suc r.index) ≡ suc (length (before ++ x ∷ []) + r.index) =
                  omega (arith, length_push before x) in
                  ap (λ ns. fault_at plan.arrows (length plan.levels) (is_among ns) (suc (length before + suc r.index))
                  (get_or xs r.index 0)) (sym (append_assoc before (x ∷ []) (take r.index xs)))
                  ∙ ap (λ p. fault_at plan.arrows (length plan.levels)
                  (is_among ((before ++ x ∷ []) ++ take r.index xs)) p
                  (get_or xs r.index 0)) same
                  ∙ r.here;
            }

pub fault_position : FaultIsAtFirstPosition
fault_position plan order fault e other = by (eqb (length order) (length plan.levels)) e where
  by : (b : Bool) → cond b (first_fault_after plan.arrows (length plan.levels) [] order) (Some Length) ≡ Some fault
      → (position : ℕ) × IsAtPosition plan order fault position
  by false h = absurd (other (cc))
  by true h =
      let r : FirstAt plan [] order fault = first_at plan [] order fault h in
      let k : r.index ≡ suc r.index - 1 = omega arith in
      let same : suc r.index ≡ suc (0 + r.index) = omega arith in
      let here : fault_at plan.arrows (length plan.levels) (is_among (take r.index order)) (suc r.index)
      (get_or order r.index 0) ≡ Some fault =
      ap (λ p. fault_at plan.arrows (length plan.levels) (is_among (take r.index order)) p (get_or order r.index 0))
      same ∙ r.here in (
        suc r.index,
        record {
          from_one = omega arith;
          within = omega (arith, r.within);
          none_before = subst (λ j. first_fault_after plan.arrows (length plan.levels) [] (take j order) ≡ None) k
              r.none_before;
          with_it = r.with_it;
          says = subst (λ j. Says plan (take j order) (suc r.index) (get_or order j 0) fault) k
              (says plan (take r.index order) (suc r.index) (get_or order r.index 0) fault here);
        },
      )
