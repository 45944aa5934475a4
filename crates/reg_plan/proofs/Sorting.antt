-- Every list can be sorted.
use Rattle.std.proofs.Common.{◌≡◌, ℕ, zero, suc, ◌+◌, ◌<◌, Bool, true, false, cond, List, [], ◌∷◌, length, get_or}
use Rattle.std.proofs.Common.{arith, refl, subst}
use Rattle.std.specs.List.Sorted.{IsPermutation, IsSortedBy}
use Rattle.std.proofs.lemmas.List.Sorted.{IsPermutation-refl, IsPermutation-sym, IsPermutation-trans}
use Rattle.std.proofs.lemmas.List.Sorted.{IsPermutation-cons, IsPermutation-middle}

-- a list with the same elements, none of which is less than the one before it
pub record InOrder {X : Type 0} (lt : X → X → Bool) (xs : List X) : Type 0 where
  pub list : List X
  pub each : IsPermutation xs list
  pub sorted : IsSortedBy lt list

module _ {X : Type 0} (lt : X → X → Bool) (one_way : (x y : X) → lt x y ≡ true → lt y x ≡ false) where
  -- none of these is less than the one before it, the first after x
  abbrev Follows : X → List X → Type 0
  Follows x [] = Unit {0}
  Follows x (y ∷ ys) = (lt y x ≡ false) × Follows y ys

  abbrev IsOrdered : List X → Type 0
  IsOrdered [] = Unit {0}
  IsOrdered (x ∷ xs) = Follows x xs

  -- one more element, before the first that is greater
  abbrev put : X → List X → List X
  put x [] = x ∷ []
  put x (y ∷ ys) = cond (lt x y) (x ∷ y ∷ ys) (y ∷ put x ys)

  put_after : (before x : X) (ys : List X) → lt x before ≡ false → Follows before ys → Follows before (put x ys)
  put_after before x [] le h = (le, tt)
  put_after before x (y ∷ ys) le h = by (lt x y) refl (put_after y x ys) where
    by : (b : Bool) → lt x y ≡ b → (lt x y ≡ false → Follows y ys → Follows y (put x ys))
        → Follows before (cond b (x ∷ y ∷ ys) (y ∷ put x ys))
    by true e more = (le, (one_way x y e, h.1))
    by false e more = (h.0, more e h.1)

  put_ordered : (x : X) (ys : List X) → IsOrdered ys → IsOrdered (put x ys)
  put_ordered x [] h = tt
  put_ordered x (y ∷ ys) h = by (lt x y) refl where
    by : (b : Bool) → lt x y ≡ b → IsOrdered (cond b (x ∷ y ∷ ys) (y ∷ put x ys))
    by true e = (one_way x y e, h)
    by false e = put_after y x ys e h

  put_each : (x : X) (ys : List X) → IsPermutation (x ∷ ys) (put x ys)
  put_each x [] = IsPermutation-refl (x ∷ [])
  put_each x (y ∷ ys) = by (lt x y) (put_each x ys) where
    by : (b : Bool) → IsPermutation (x ∷ ys) (put x ys)
        → IsPermutation (x ∷ y ∷ ys) (cond b (x ∷ y ∷ ys) (y ∷ put x ys))
    by true more = IsPermutation-refl (x ∷ y ∷ ys)
    by false more =
        IsPermutation-trans (x ∷ y ∷ ys) (y ∷ x ∷ ys) (y ∷ put x ys)
        (IsPermutation-sym (y ∷ x ∷ ys) (x ∷ y ∷ ys) (IsPermutation-middle (y ∷ []) x ys))
        (IsPermutation-cons y (x ∷ ys) (put x ys) more)

  pairs : (xs : List X) → IsOrdered xs → (k : ℕ) (d : X) → k + 1 < length xs → lt (get_or xs (k + 1) d) (get_or xs k d)
      ≡ false
  pairs [] h k d within = absurd (omega arith)
  pairs (x ∷ []) h k d within = absurd (omega arith)
  pairs (x ∷ y ∷ ys) h zero d within = h.0
  pairs (x ∷ y ∷ ys) h (suc k) d within =
      let e : suc (k + 1) ≡ suc k + 1 = omega arith in
      subst (λ n. lt (get_or (x ∷ y ∷ ys) n d) (get_or (y ∷ ys) k d) ≡ false) e (pairs (y ∷ ys) h.1 k d (omega arith))

  record Ordered (xs : List X) : Type 0 where
    pub list : List X
    pub each : IsPermutation xs list
    pub ordered : IsOrdered list

  order : (xs : List X) → Ordered xs
  order [] = record { list = []; each = IsPermutation-refl []; ordered = tt }
  order (x ∷ xs) =
      let rest : Ordered xs = order xs in
      record {
        list = put x rest.list;
        each = IsPermutation-trans (x ∷ xs) (x ∷ rest.list) (put x rest.list)
            (IsPermutation-cons x xs rest.list rest.each) (put_each x rest.list);
        ordered = put_ordered x rest.list rest.ordered;
      }

  pub in_order : (xs : List X) → InOrder lt xs
  in_order xs = let made : Ordered xs = order xs in
      record { list = made.list; each = made.each; sorted = λ k d low within. pairs made.list made.ordered k d within }
