-- Slots: finding one, and what stands in the slots after one has changed.
use Rattle.std.proofs.Common.{◌≡◌, ℕ, zero, suc, ◌<◌, inl, inr, Bool, true, false, cond, eqb, ◌&&◌, ◌||◌, List, []}
use Rattle.std.proofs.Common.{◌∷◌, ◌++◌, length, get_or, set, map, Option, Some, None, Err, ⊎_elim, append_assoc, refl}
use Rattle.std.proofs.Common.{sym, ap, ◌∙◌, arith}
use Rattle.std.specs.Option.{option_map}
use Rattle.std.specs.Prelude.{is_some, Contains}
use Rattle.std.specs.List.{HoldsAt, IsDistinct, AllByRecursion, list_all}
use Rattle.std.specs.List.Sorted.{IsBinarySearchResult}
use Rattle.std.specs.Cmp.{ranked}
use Rattle.std.specs.Ordering.{nat_cmp}
use Rattle.std.specs.declared.cmp.Ordering.TheVariants.{Less, Equal, Greater}
use Rattle.std.proofs.lemmas.List.{map-append}
use Rattle.std.proofs.lemmas.Bool.{eq-eqb, eqb-true, ne_eqb, cases_lt, and_parts}
use Rattle.reg_facts.proofs.lemmas.Members.{In, contains_from}
use Rattle.reg_facts.proofs.lemmas.Numbers.{ordering-higher}
use Rattle.reg_base.specs.Footprint.{is_among}
use Rattle.reg_base.specs.Rising.{IsRising}
use Rattle.reg_base.specs.declared.instruction.Instruction.{Instruction}
use Rattle.reg_base.specs.Directory.{DirectoryValue}
use Rattle.reg_base.specs.Touches.{is_touched}
use Rattle.reg_plan.specs.declared.arrow.Opening.{Opening}
use Rattle.reg_plan.specs.Plans.{PlanValue, IsPlan}
use Rattle.reg_schedules.proofs.lemmas.Tails.{touched_from}
use Rattle.reg_tasks.specs.Slots.{opened_accounts, name_of, standing_in}
use Rattle.reg_tasks.specs.declared.naming.Naming.{Ghosts}
use Rattle.reg_tasks.specs.declared.parcel.Parcel.{Parcel}
use Rattle.reg_tasks.proofs.Rising.{Up, up_rising, ascending}

abbrev pub number_of : Opening → ℕ
number_of opening = opening.account

pub among_opening : (os : List Opening) (a : ℕ) → is_among (opened_accounts os) a ≡ true → (o : Opening) × In o os
    × (o.account ≡ a)
among_opening [] a e = absurd cc
among_opening (o ∷ os) a e = by (eqb o.account a) refl e (among_opening os a) where
  by : (c : Bool) → eqb o.account a ≡ c → (c || is_among (opened_accounts os) a) ≡ true
      → (is_among (opened_accounts os) a ≡ true → (w : Opening) × In w os × (w.account ≡ a))
      → (w : Opening) × In w (o ∷ os) × (w.account ≡ a)
  by true h e more = (o, inl refl, eqb-true o.account a h)
  by false h e more = let r : (w : Opening) × In w os × (w.account ≡ a) = more e in (r.0, inr r.1, r.2)

pub search_missed : (os : List Opening) (a i : ℕ) → IsRising (opened_accounts os)
    → IsBinarySearchResult (λ (o : Opening). nat_cmp o.account a) os (Err i) → is_among (opened_accounts os) a ≡ false
search_missed os a i rising searched = by (is_among (opened_accounts os) a) refl where
  by : (c : Bool) → is_among (opened_accounts os) a ≡ c → c ≡ false
  by false e = refl
  by true e =
      let parted = searched (λ p q d le lt. ordering-higher a (get_or os p d).account (get_or os q d).account
      (ascending number_of os (up_rising number_of os rising) p q d le lt)) in
      let (o, there, same) = among_opening os a e in
      let at = contains_from os o there in
      let number : (get_or os at.0 o).account ≡ a = ap number_of at.2 ∙ same in
      absurd (⊎_elim
      (λ before. let h : (get_or os at.0 o).account < a = ranked (get_or os at.0 o).account a Less
      (sym (parted.0 at.0 o (omega arith) before)) in omega (arith, h, number))
      (λ after. let h : a < (get_or os at.0 o).account = ranked (get_or os at.0 o).account a Greater
      (sym (parted.1 at.0 o after at.1)) in omega (arith, h, number))
      (cases_lt at.0 i))

pub search_found : (os : List Opening) (a p : ℕ) → p < length os
    → HoldsAt (λ (o : Opening). nat_cmp o.account a ≡ Equal) os p → get_or (opened_accounts os) p 0 ≡ a
search_found [] a p lt found = absurd (omega arith)
search_found (o ∷ os) a zero lt found = ranked o.account a Equal (sym (found o))
search_found (o ∷ os) a (suc p) lt found = search_found os a p (omega (arith, lt)) (λ d. found d)

pub opening_at : (os : List Opening) (k : ℕ) → k < length os → (o : Opening) × In o os
    × (o.account ≡ get_or (opened_accounts os) k 0)
opening_at [] k lt = absurd (omega arith)
opening_at (o ∷ os) zero lt = (o, inl refl, refl)
opening_at (o ∷ os) (suc k) lt = let r = opening_at os k (omega (arith, lt)) in (r.0, inr r.1, r.2)

module _ {N : Type 0} {b : Ghosts N} where
  -- there is no slot of the account
  pub stands_nowhere : (os : List Opening) (slots : List (Option (Parcel N b))) (a : ℕ)
      → is_among (opened_accounts os) a ≡ false → standing_in os slots a ≡ None
  stands_nowhere [] slots a e = refl
  stands_nowhere (o ∷ os) [] a e = refl
  stands_nowhere (o ∷ os) (s ∷ ss) a e = by (eqb o.account a) e (stands_nowhere os ss a) where
    by : (c : Bool) → (c || is_among (opened_accounts os) a) ≡ false
        → (is_among (opened_accounts os) a ≡ false → standing_in os ss a ≡ None)
        → cond c (option_map name_of s) (standing_in os ss a) ≡ None
    by true h more = absurd cc
    by false h more = more h

  -- what stands in a slot
  pub stands_at : (os : List Opening) (slots : List (Option (Parcel N b))) (k a : ℕ) (d : Option (Parcel N b))
      → Up number_of os → length slots ≡ length os → k < length os → get_or (opened_accounts os) k 0 ≡ a
      → standing_in os slots a ≡ option_map name_of (get_or slots k d)
  stands_at [] slots k a d up size lt is = absurd (omega arith)
  stands_at (o ∷ os) [] k a d up size lt is = absurd (omega (arith, size))
  stands_at (o ∷ os) (s ∷ ss) zero a d up size lt is =
      ap (λ c. cond c (option_map name_of s) (standing_in os ss a)) (eq-eqb o.account a is)
  stands_at (o ∷ os) (s ∷ ss) (suc k) a d up size lt is =
      let (w, there, same) = opening_at os k (omega (arith, lt)) in
      ap (λ c. cond c (option_map name_of s) (standing_in os ss a))
      (ne_eqb o.account a (λ e. omega (arith, e, same, is, up.0 w there)))
      ∙ stands_at os ss k a d up.1 (omega (arith, size)) (omega (arith, lt)) is

  -- after a slot has changed
  pub stands_after : (os : List Opening) (slots : List (Option (Parcel N b))) (k a : ℕ) (s : Option (Parcel N b))
      → Up number_of os → length slots ≡ length os → k < length os → get_or (opened_accounts os) k 0 ≡ a
      → (c : ℕ) → standing_in os (set slots k s) c ≡ cond (eqb a c) (option_map name_of s) (standing_in os slots c)
  stands_after [] slots k a s up size lt is c = absurd (omega arith)
  stands_after (o ∷ os) [] k a s up size lt is c = absurd (omega (arith, size))
  stands_after (o ∷ os) (t ∷ ts) zero a s up size lt is c = by (eqb o.account c) refl where
    by : (d : Bool) → eqb o.account c ≡ d → cond d (option_map name_of s) (standing_in os ts c)
        ≡ cond (eqb a c) (option_map name_of s) (cond d (option_map name_of t) (standing_in os ts c))
    by true e = sym (ap (λ d. cond d (option_map name_of s) (option_map name_of t)) (ap (λ n. eqb n c) (sym is) ∙ e))
    by false e = sym (ap (λ d. cond d (option_map name_of s) (standing_in os ts c)) (ap (λ n. eqb n c) (sym is) ∙ e))
  stands_after (o ∷ os) (t ∷ ts) (suc k) a s up size lt is c =
      by (eqb o.account c) refl (stands_after os ts k a s up.1 (omega (arith, size)) (omega (arith, lt)) is c)
      (opening_at os k (omega (arith, lt)))
    where
      by : (d : Bool) → eqb o.account c ≡ d
          → standing_in os (set ts k s) c ≡ cond (eqb a c) (option_map name_of s) (standing_in os ts c)
          → (w : Opening) × In w os × (w.account ≡ get_or (opened_accounts os) k 0)
          → cond d (option_map name_of t) (standing_in os (set ts k s) c)
          ≡ cond (eqb a c) (option_map name_of s) (cond d (option_map name_of t) (standing_in os ts c))
      by false e more at = more
      by true e more at = sym (ap (λ d. cond d (option_map name_of s) (option_map name_of t))
          (ne_eqb a c (λ same. omega (arith, same, eqb-true o.account c e, at.2, is, up.0 at.0 at.1))))

  -- nothing is taken where there is no slot
  pub none_taken : (os : List Opening) (slots : List (Option (Parcel N b))) (a : ℕ)
      → is_among (opened_accounts os) a ≡ false → (c : ℕ)
      → standing_in os slots c ≡ cond (eqb a c) None (standing_in os slots c)
  none_taken os slots a missing c = by (eqb a c) refl where
    by : (d : Bool) → eqb a c ≡ d → standing_in os slots c ≡ cond d None (standing_in os slots c)
    by true e = ap (standing_in os slots) (sym (eqb-true a c e)) ∙ stands_nowhere os slots a missing
    by false e = refl

pub among_at : (os : List Opening) (k a : ℕ) → k < length os → get_or (opened_accounts os) k 0 ≡ a
    → is_among (opened_accounts os) a ≡ true
among_at [] k a lt is = absurd (omega arith)
among_at (o ∷ os) zero a lt is = ap (λ c. c || is_among (opened_accounts os) a) (eq-eqb o.account a is)
among_at (o ∷ os) (suc k) a lt is = by (eqb o.account a) (among_at os k a (omega (arith, lt)) is) where
  by : (c : Bool) → is_among (opened_accounts os) a ≡ true → (c || is_among (opened_accounts os) a) ≡ true
  by true e = refl
  by false e = e

-- taking from slots one after another
abbrev pub Name : Type 0
Name = Option (ℕ × ℕ)

same_others : (st new : ℕ → Name) (a : ℕ) (rest : List ℕ) → AllByRecursion (λ b. eqb a b ≡ false) rest
    → ((b : ℕ) → new b ≡ cond (eqb a b) None (st b)) → map new rest ≡ map st rest
same_others st new a [] others after = refl
same_others st new a (b ∷ rest) others after =
    ap (λ n. n ∷ map new rest) (after b ∙ ap (λ c. cond c None (st b)) others.0)
    ∙ ap (λ ns. st b ∷ ns) (same_others st new a rest others.1 after)

pub taken_more : (st new : ℕ → Name) (a : ℕ) (rest : List ℕ) (taken whole : List Name) → IsDistinct eqb (a ∷ rest)
    → ((b : ℕ) → new b ≡ cond (eqb a b) None (st b))
    → taken ++ map st (a ∷ rest) ≡ whole → (taken ++ st a ∷ []) ++ map new rest ≡ whole
unfolding IsDistinct
taken_more st new a rest taken whole distinct after e =
    ap (λ ns. (taken ++ st a ∷ []) ++ ns) (same_others st new a rest distinct.0 after)
    ∙ append_assoc taken (st a ∷ []) (map st rest) ∙ e

-- and the rest is still there
all_same : (st new : ℕ → Name) (rest : List ℕ) → map new rest ≡ map st rest → list_all (λ b. is_some (new b)) rest
    ≡ list_all (λ b. is_some (st b)) rest
all_same st new [] e = refl
all_same st new (b ∷ rest) e =
    let head : new b ≡ st b = cc in
    let tail : map new rest ≡ map st rest = cc in
    ap (λ o. is_some o && list_all (λ b. is_some (new b)) rest) head
    ∙ ap (λ c. is_some (st b) && c) (all_same st new rest tail)

pub there_more : (st new : ℕ → Name) (a : ℕ) (rest : List ℕ) → IsDistinct eqb (a ∷ rest)
    → ((b : ℕ) → new b ≡ cond (eqb a b) None (st b)) → list_all (λ b. is_some (st b)) (a ∷ rest) ≡ true
    → list_all (λ b. is_some (new b)) rest ≡ true
unfolding IsDistinct
there_more st new a rest distinct after there =
    all_same st new rest (same_others st new a rest distinct.0 after)
    ∙ (and_parts (is_some (st a)) (list_all (λ b. is_some (st b)) rest) there).1

pub distinct_rest : (a : ℕ) (rest : List ℕ) → IsDistinct eqb (a ∷ rest) → IsDistinct eqb rest
unfolding IsDistinct
distinct_rest a rest distinct = distinct.1

pub left_more : (st new : ℕ → Name) (a : ℕ) (rest : List ℕ) (b : ℕ) (before : Name) → new b ≡ cond (eqb a b) None (st b)
    → cond (is_among (a ∷ rest) b) None (st b) ≡ before
    → cond (is_among rest b) None (new b) ≡ before
left_more st new a rest b before after e =
    ap (cond (is_among rest b) None) after ∙ by (eqb a b) (is_among rest b) (st b) ∙ e where
      by : (c d : Bool) (o : Name) → cond d None (cond c None o) ≡ cond (c || d) None o
      by true true o = refl
      by true false o = refl
      by false d o = refl

-- an opening is of a touched account
pub opening_touched : (directory : DirectoryValue) (is : List Instruction) (plan : PlanValue) → IsPlan directory is plan
    → (o : Opening) → Contains plan.openings o → is_touched directory is o.account ≡ true
opening_touched directory is plan made o there =
    touched_from directory is o.account o.first ((made.openings.exactly o).0 there).toucher

abbrev pub unopened : Opening → Name
unopened opening = Some (opening.account, 0)

module _ {N : Type 0} {b : Ghosts N} where
  pub opened_more : (slots : List (Option (Parcel N b))) (p : Parcel N b) (o : Opening) (rest : List Opening)
      (whole : List Name) → p.value.number ≡ o.account → p.after ≡ 0
      → map (option_map name_of) slots ++ map unopened (o ∷ rest) ≡ whole
      → map (option_map name_of) (slots ++ Some p ∷ []) ++ map unopened rest ≡ whole
  opened_more slots p o rest whole number after e =
      ap (λ ns. ns ++ map unopened rest) (map-append (option_map name_of) slots (Some p ∷ []))
      ∙ append_assoc (map (option_map name_of) slots) (option_map name_of (Some p) ∷ []) (map unopened rest)
      ∙ ap (λ (n : ℕ × ℕ). map (option_map name_of) slots ++ Some n ∷ map unopened rest) (λ i. (number i, after i))
      ∙ e

  -- what stands in slots that were opened
  pub stands_opened : (os : List Opening) (slots : List (Option (Parcel N b)))
      → map (option_map name_of) slots ≡ map unopened os
      → (a : ℕ) → is_among (opened_accounts os) a ≡ true → standing_in os slots a ≡ Some (a, 0)
  stands_opened [] slots e a among = absurd cc
  stands_opened (o ∷ os) [] e a among = absurd cc
  stands_opened (o ∷ os) (s ∷ ss) e a among = by (eqb o.account a) refl among (stands_opened os ss tail a) where
    head : option_map name_of s ≡ Some (o.account, 0)
    head = cc

    tail : map (option_map name_of) ss ≡ map unopened os
    tail = cc

    by : (c : Bool) → eqb o.account a ≡ c → (c || is_among (opened_accounts os) a) ≡ true
        → (is_among (opened_accounts os) a ≡ true → standing_in os ss a ≡ Some (a, 0))
        → cond c (option_map name_of s) (standing_in os ss a) ≡ Some (a, 0)
    by true h e more = head ∙ ap (λ n. Some (n, 0)) (eqb-true o.account a h)
    by false h e more = more e
