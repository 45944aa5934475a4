-- Members of a list, one by one from its head: in a list in another order, in two lists, in what a filter keeps; what a
-- search and a test of any say of them.
use Rattle.std.proofs.Common.{◌≡◌, ℕ, zero, suc, ◌<◌, ◌⊎◌, inl, inr, Bool, true, false, cond, ◌||◌, List, [], ◌∷◌, ◌++◌}
use Rattle.std.proofs.Common.{length, get_or, Some, None, arith, refl, sym, ap, subst, ◌∙◌}
use Rattle.std.specs.Prelude.{Contains, filter, find}
use Rattle.std.specs.List.{list_any, AllByRecursion}
use Rattle.std.specs.List.Sorted.{IsPermutation}
use Rattle.std.proofs.lemmas.List.Sorted.{Contains-permutation, IsPermutation-sym}

-- the element stands in the list
abbrev pub In : {X : Type 0} → X → List X → Type 0
In x [] = ⊥
In x (y ∷ ys) = (y ≡ x) ⊎ In x ys

pub in_from : {X : Type 0} (xs : List X) (x : X) → Contains xs x → In x xs
in_from [] x c = absurd (omega (arith, c.1))
in_from (y ∷ ys) x c = by c.0 c.1 c.2 (in_from ys x) where
  by : (k : ℕ) → k < length (y ∷ ys) → get_or (y ∷ ys) k x ≡ x → (Contains ys x → In x ys) → In x (y ∷ ys)
  by zero lt e more = inl e
  by (suc k) lt e more = inr (more (k, omega arith, e))

pub contains_from : {X : Type 0} (xs : List X) (x : X) → In x xs → Contains xs x
contains_from [] x m = absurd m
contains_from (y ∷ ys) x (inl e) = (0, omega arith, e)
contains_from (y ∷ ys) x (inr m) = let c : Contains ys x = contains_from ys x m in (suc c.0, omega (arith, c.1), c.2)

pub in_permuted : {X : Type 0} (xs ys : List X) (x : X) → IsPermutation xs ys → In x xs → In x ys
in_permuted xs ys x same m = in_from ys x (Contains-permutation xs ys x same (contains_from xs x m))

pub in_permuted_back : {X : Type 0} (xs ys : List X) (x : X) → IsPermutation xs ys → In x ys → In x xs
in_permuted_back xs ys x same m = in_permuted ys xs x (IsPermutation-sym xs ys same) m

pub in_front : {X : Type 0} (xs ys : List X) (x : X) → In x xs → In x (xs ++ ys)
in_front [] ys x m = absurd m
in_front (y ∷ xs) ys x (inl e) = inl e
in_front (y ∷ xs) ys x (inr m) = inr (in_front xs ys x m)

pub in_back : {X : Type 0} (xs ys : List X) (x : X) → In x ys → In x (xs ++ ys)
in_back [] ys x m = m
in_back (y ∷ xs) ys x m = inr (in_back xs ys x m)

pub in_either : {X : Type 0} (xs ys : List X) (x : X) → In x (xs ++ ys) → In x xs ⊎ In x ys
in_either [] ys x m = inr m
in_either (y ∷ xs) ys x (inl e) = inl (inl e)
in_either (y ∷ xs) ys x (inr m) = elim (in_either xs ys x m) [ inl a ↦ inl (inr a) | inr b ↦ inr b ]

-- what holds of each element holds of a member, and the other way round
pub of_member : {X : Type 0} (P : X → Type 0) (xs : List X) (x : X) → AllByRecursion P xs → In x xs → P x
of_member P [] x all m = absurd m
of_member P (y ∷ ys) x all (inl e) = subst P e all.0
of_member P (y ∷ ys) x all (inr m) = of_member P ys x all.1 m

pub of_each_member : {X : Type 0} (P : X → Type 0) (xs : List X) → ((x : X) → In x xs → P x) → AllByRecursion P xs
of_each_member P [] h = tt
of_each_member P (y ∷ ys) h = (h y (inl refl), of_each_member P ys (λ x m. h x (inr m)))

pub in_filter : {X : Type 0} (p : X → Bool) (xs : List X) (x : X) → p x ≡ true → In x xs → In x (filter p xs)
in_filter p [] x e m = absurd m
in_filter p (y ∷ ys) x e (inl same) = by (p y) (ap p same ∙ e) where
  by : (b : Bool) → b ≡ true → In x (cond b (y ∷ filter p ys) (filter p ys))
  by true h = inl same
  by false h = absurd cc
in_filter p (y ∷ ys) x e (inr m) = by (p y) (in_filter p ys x e m) where
  by : (b : Bool) → In x (filter p ys) → In x (cond b (y ∷ filter p ys) (filter p ys))
  by true n = inr n
  by false n = n

pub of_filter : {X : Type 0} (p : X → Bool) (xs : List X) (x : X) → In x (filter p xs) → In x xs × (p x ≡ true)
of_filter p [] x m = absurd m
of_filter p (y ∷ ys) x m = by (p y) refl m (of_filter p ys x) where
  by : (b : Bool) → p y ≡ b → In x (cond b (y ∷ filter p ys) (filter p ys))
      → (In x (filter p ys) → In x ys × (p x ≡ true)) → In x (y ∷ ys) × (p x ≡ true)
  by true h (inl same) more = (inl same, ap p (sym same) ∙ h)
  by true h (inr n) more = let r : In x ys × (p x ≡ true) = more n in (inr r.0, r.1)
  by false h n more = let r : In x ys × (p x ≡ true) = more n in (inr r.0, r.1)

-- what a search found
pub record Found {X : Type 0} (p : X → Bool) (xs : List X) (x : X) : Type 0 where
  pub found : find p xs ≡ Some x
  pub there : In x xs
  pub passes : p x ≡ true

-- a search that found nothing
pub record Missing {X : Type 0} (p : X → Bool) (xs : List X) : Type 0 where
  pub none : find p xs ≡ None
  pub each_fails : (x : X) → In x xs → p x ≡ false

pub search_of : {X : Type 0} (p : X → Bool) (xs : List X) → Missing p xs ⊎ ((x : X) × Found p xs x)
search_of p [] = inl (record { none = refl; each_fails = λ x m. absurd m })
search_of {X = X} p (y ∷ ys) = by (p y) refl (search_of p ys) where
  by : (b : Bool) → p y ≡ b → Missing p ys ⊎ ((x : X) × Found p ys x) → Missing p (y ∷ ys)
      ⊎ ((x : X) × Found p (y ∷ ys) x)
  by true h any = inr (y, record { found = ap (λ b. cond b (Some y) (find p ys)) h; there = inl refl; passes = h })
  by false h (inl missing) = inl (record {
    none = ap (λ b. cond b (Some y) (find p ys)) h ∙ missing.none;
    each_fails = λ x m. elim m [ inl e ↦ ap p (sym e) ∙ h | inr n ↦ missing.each_fails x n ];
  })
  by false h (inr more) = inr (
    more.0,
    record {
      found = ap (λ b. cond b (Some y) (find p ys)) h ∙ more.1.found;
      there = inr more.1.there;
      passes = more.1.passes;
    },
  )

pub any_in : {X : Type 0} (p : X → Bool) (xs : List X) (x : X) → In x xs → p x ≡ true → list_any p xs ≡ true
any_in p [] x m e = absurd m
any_in p (y ∷ ys) x (inl same) e = ap (λ b. b || list_any p ys) (ap p same ∙ e)
any_in p (y ∷ ys) x (inr m) e = by (p y) (any_in p ys x m e) where
  by : (b : Bool) → list_any p ys ≡ true → (b || list_any p ys) ≡ true
  by true h = refl
  by false h = h

pub of_any : {X : Type 0} (p : X → Bool) (xs : List X) → list_any p xs ≡ true → (x : X) × In x xs × (p x ≡ true)
of_any p [] e = absurd cc
of_any {X = X} p (y ∷ ys) e = by (p y) refl e (of_any p ys) where
  by : (b : Bool) → p y ≡ b → (b || list_any p ys) ≡ true → (list_any p ys ≡ true → (x : X) × In x ys × (p x ≡ true))
      → (x : X) × In x (y ∷ ys) × (p x ≡ true)
  by true h e more = (y, inl refl, h)
  by false h e more = let r : (x : X) × In x ys × (p x ≡ true) = more e in (r.0, inr r.1, r.2)
