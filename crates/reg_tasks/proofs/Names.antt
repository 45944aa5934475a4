-- Names of parcels: those that a place needs, and how they are put in order.
use Rattle.std.proofs.Common.{◌≡◌, ℕ, zero, suc, ◌+◌, ◌<◌, ◌≤◌, inl, inr, Bool, true, false, ◌&&◌, ◌||◌, eqb, List, []}
use Rattle.std.proofs.Common.{◌∷◌, length, get_or, None, refl, sym, ap, ◌∙◌, arith}
use Rattle.std.specs.Prelude.{IsPermutation}
use Rattle.std.specs.List.{IsDistinct, list_all, list_any, swap}
use Rattle.std.proofs.lemmas.Bool.{cases_eq, cases_lt, eq-eqb, eqb-true, and_parts}
use Rattle.std.proofs.lemmas.List.{ext_get_or}
use Rattle.std.proofs.lemmas.List.Edits.{length-swap, swapped_from_swap}
use Rattle.std.proofs.lemmas.List.Sorted.{IsPermutation-map, list_any-IsPermutation, length_permutation}
use Rattle.std.proofs.lemmas.Map.Keys.{apart_from_distinct}
use Rattle.reg_facts.proofs.lemmas.Numbers.{clash}
use Rattle.reg_plan.specs.declared.arrow.Arrow.{Arrow}
use Rattle.reg_schedules.specs.Pool.{tail_in}
use Rattle.reg_schedules.specs.Docks.{names_needed, is_name}
use Rattle.reg_schedules.proofs.lemmas.Needed.{length_needed}
use Rattle.reg_schedules.proofs.lemmas.WorldFits.{same_name}
use Rattle.reg_tasks.specs.Names.{has_names, FindsFrom}
use Rattle.reg_tasks.specs.declared.naming.Naming.{Ghosts}
use Rattle.reg_tasks.specs.declared.parcel.Parcel.{Parcel}
use Rattle.reg_tasks.specs.Parcels.{names_of}

pub needed_at : (arrows : List Arrow) (accounts : List ℕ) (k : ℕ) → k < length accounts
    → get_or (names_needed arrows accounts) k (0, 0) ≡ (get_or accounts k 0, tail_in arrows (get_or accounts k 0))
needed_at arrows [] k lt = absurd (omega arith)
needed_at arrows (a ∷ more) zero lt = refl
needed_at arrows (a ∷ more) (suc k) lt = needed_at arrows more k (omega arith)

all_at : {X : Type 0} (p : X → Bool) (xs : List X) (k : ℕ) (d : X) → k < length xs → list_all p xs ≡ true
    → p (get_or xs k d) ≡ true
all_at p [] k d lt e = absurd (omega arith)
all_at p (x ∷ xs) zero d lt e = (and_parts (p x) (list_all p xs) e).0
all_at p (x ∷ xs) (suc k) d lt e = all_at p xs k d (omega arith) (and_parts (p x) (list_all p xs) e).1

any_at : {X : Type 0} (p : X → Bool) (xs : List X) (d : X) → list_any p xs ≡ true → (m : ℕ) × (m < length xs)
    × (p (get_or xs m d) ≡ true)
any_at p [] d e = absurd cc
any_at p (x ∷ xs) d e = by (p x) refl e (any_at p xs d) where
  by : (b : Bool) → p x ≡ b → (b || list_any p xs) ≡ true
      → (list_any p xs ≡ true → (m : ℕ) × (m < length xs) × (p (get_or xs m d) ≡ true))
      → (m : ℕ) × (m < length (x ∷ xs)) × (p (get_or (x ∷ xs) m d) ≡ true)
  by true h e more = (0, omega arith, h)
  by false h e more = let r : (m : ℕ) × (m < length xs) × (p (get_or xs m d) ≡ true) = more e in
      (suc r.0, omega (arith, r.1), r.2)

pub get_or_any : {X : Type 0} (xs : List X) (k : ℕ) (d e : X) → k < length xs → get_or xs k d ≡ get_or xs k e
get_or_any [] k d e lt = absurd (omega arith)
get_or_any (x ∷ xs) zero d e lt = refl
get_or_any (x ∷ xs) (suc k) d e lt = get_or_any xs k d e (omega arith)

-- the test of names, by lengths and by each one
pub names_test : (arrows : List Arrow) (accounts : List ℕ) (names : List (ℕ × ℕ)) (size : ℕ) → length names ≡ size
    → has_names names (names_needed arrows accounts)
    ≡ (eqb size (length accounts) && list_all (λ w. list_any (λ n. is_name n w) names) (names_needed arrows accounts))
names_test arrows accounts names size e =
    ap (λ m. eqb m (length (names_needed arrows accounts))
    && list_all (λ w. list_any (λ n. is_name n w) names) (names_needed arrows accounts)) e
    ∙ ap (λ m. eqb size m && list_all (λ w. list_any (λ n. is_name n w) names) (names_needed arrows accounts))
    (length_needed arrows accounts)

-- the first names are in order, and the names are those that are needed
pub record InOrder (arrows : List Arrow) (accounts : List ℕ) (names : List (ℕ × ℕ)) (k : ℕ) : Type 0 where
  pub needed : has_names names (names_needed arrows accounts) ≡ true
  pub first : (m : ℕ) → m < k → get_or names m (0, 0) ≡ get_or (names_needed arrows accounts) m (0, 0)

same_size : (arrows : List Arrow) (accounts : List ℕ) (names : List (ℕ × ℕ))
    → has_names names (names_needed arrows accounts) ≡ true → length names ≡ length accounts
same_size arrows accounts names e =
    eqb-true (length names) (length accounts)
    (and_parts (eqb (length names) (length accounts))
    (list_all (λ w. list_any (λ n. is_name n w) names) (names_needed arrows accounts))
    (sym (names_test arrows accounts names (length names) refl) ∙ e)).0

-- the next name stands at this place or behind it
pub is_behind : (arrows : List Arrow) (accounts : List ℕ) (names : List (ℕ × ℕ)) (k : ℕ) → IsDistinct eqb accounts
    → k < length accounts → InOrder arrows accounts names k
    → (m : ℕ) × (k ≤ m) × (m < length names) × (get_or names m (0, 0) ≡ get_or (names_needed arrows accounts) k (0, 0))
is_behind arrows accounts names k distinct lt h =
    let each = (and_parts (eqb (length names) (length accounts))
    (list_all (λ w. list_any (λ n. is_name n w) names) (names_needed arrows accounts))
    (sym (names_test arrows accounts names (length names) refl) ∙ h.needed)).1 in
    let w : ℕ × ℕ = get_or (names_needed arrows accounts) k (0, 0) in
    let some : list_any (λ n. is_name n w) names
    ≡ true = all_at (λ v. list_any (λ n. is_name n v) names) (names_needed arrows accounts) k (0, 0)
    (omega (arith, lt, length_needed arrows accounts)) each in
    let found = any_at (λ n. is_name n w) names (0, 0) some in
    let m : ℕ = found.0 in
    let is : get_or names m (0, 0) ≡ w = same_name (get_or names m (0, 0)) w found.2 in
    elim (cases_lt m k) [
      | inr le ↦ (m, le, found.1, is)
      | inl early ↦
          let same : (get_or accounts m 0, tail_in arrows (get_or accounts m 0))
          ≡ (get_or accounts k 0, tail_in arrows (get_or accounts k 0)) =
          sym (needed_at arrows accounts m (omega (arith, early, lt))) ∙ sym (h.first m early) ∙ is
          ∙ needed_at arrows accounts k lt in
          let number : get_or accounts m 0 ≡ get_or accounts k 0 = ap (λ (n : ℕ × ℕ). n.0) same in
          absurd (clash (eq-eqb (get_or accounts m 0) (get_or accounts k 0) number)
          (apart_from_distinct eqb accounts m k 0 distinct early lt))
    ]

-- the names of the list in another order
module _ {N : Type 0} {b : Ghosts N} where
  pub names_size : (ps : List (Parcel N b)) → length (names_of ps) ≡ length ps
  names_size [] = refl
  names_size (p ∷ ps) = ap suc (names_size ps)

  pub name_at : (ps : List (Parcel N b)) (k : ℕ) (p : Parcel N b) (d : ℕ × ℕ) → k < length ps → p ≡ get_or ps k p
      → get_or (names_of ps) k d ≡ (p.value.number, p.after)
  name_at [] k p d lt e = absurd (omega arith)
  name_at (q ∷ ps) zero p d lt e = ap (λ (x : Parcel N b). (x.value.number, x.after)) (sym e)
  name_at (q ∷ ps) (suc k) p d lt e = name_at ps k p d (omega arith) e

  name_of : (ps : List (Parcel N b)) (k : ℕ) (p : Parcel N b) (d : ℕ × ℕ) → k < length ps
      → get_or (names_of ps) k d ≡ ((get_or ps k p).value.number, (get_or ps k p).after)
  name_of [] k p d lt = absurd (omega arith)
  name_of (q ∷ ps) zero p d lt = refl
  name_of (q ∷ ps) (suc k) p d lt = name_of ps k p d (omega arith)

  -- names after an exchange
  pub names_swapped : (xs ys : List (Parcel N b)) (i j : ℕ) → i < length xs → j < length xs → ys ≡ swap xs i j
      → (get_or (names_of ys) i (0, 0) ≡ get_or (names_of xs) j (0, 0))
      × ((m : ℕ) → m < length xs → (m ≡ i → ⊥) → (m ≡ j → ⊥)
      → get_or (names_of ys) m (0, 0) ≡ get_or (names_of xs) m (0, 0))
  names_swapped [] ys i j i_in j_in e = absurd (omega arith)
  names_swapped (d ∷ xs) ys i j i_in j_in e =
      let moved = swapped_from_swap (d ∷ xs) ys i j d i_in j_in e in
      let size : length ys ≡ length (d ∷ xs) = ap length e ∙ length-swap (d ∷ xs) i j in (
        name_of ys i d (0, 0) (omega (arith, size, i_in)) ∙ ap (λ (x : Parcel N b). (x.value.number, x.after)) moved.0
            ∙ sym (name_of (d ∷ xs) j d (0, 0) j_in),
        λ m lt not_i not_j. name_of ys m d (0, 0) (omega (arith, size, lt))
            ∙ ap (λ (x : Parcel N b). (x.value.number, x.after)) (moved.2 m not_i not_j)
            ∙ sym (name_of (d ∷ xs) m d (0, 0) lt),
      )

  -- parcels in another order have the same names
  pub still_needed : (arrows : List Arrow) (accounts : List ℕ) (xs ys : List (Parcel N b)) → IsPermutation xs ys
      → has_names (names_of ys) (names_needed arrows accounts) ≡ has_names (names_of xs) (names_needed arrows accounts)
  still_needed arrows accounts xs ys same =
      names_test arrows accounts (names_of ys) (length xs) (names_size ys ∙ length_permutation xs ys same)
      ∙ ap (λ b. eqb (length xs) (length accounts) && b) (each (names_needed arrows accounts))
      ∙ sym (names_test arrows accounts (names_of xs) (length xs) (names_size xs))
    where
      each : (ws : List (ℕ × ℕ)) → list_all (λ w. list_any (λ n. is_name n w) (names_of ys)) ws
          ≡ list_all (λ w. list_any (λ n. is_name n w) (names_of xs)) ws
      each [] = refl
      each (w ∷ ws) =
          ap (λ c. c && list_all (λ w. list_any (λ n. is_name n w) (names_of ys)) ws)
          (sym (list_any-IsPermutation (λ n. is_name n w) (names_of xs) (names_of ys)
          (IsPermutation-map (λ (p : Parcel N b). (p.value.number, p.after)) xs ys same)))
          ∙ ap (λ c. list_any (λ n. is_name n w) (names_of xs) && c) (each ws)

  -- a step: the next name is fetched to its place
  pub fetched : (arrows : List Arrow) (accounts : List ℕ) (xs ys : List (Parcel N b)) (k m : ℕ)
      → InOrder arrows accounts (names_of xs) k → k < length accounts → k ≤ m → m < length xs
      → get_or (names_of xs) m (0, 0) ≡ get_or (names_needed arrows accounts) k (0, 0) → ys ≡ swap xs k m → (i : ℕ)
      → i < k + 1 → get_or (names_of ys) i (0, 0) ≡ get_or (names_needed arrows accounts) i (0, 0)
  fetched arrows accounts xs ys k m h in_accounts le lt is e i before =
      let moved = names_swapped xs ys k m (omega (arith, le, lt)) lt e in
      elim (cases_eq i k) [
        | inl same ↦ ap (λ n. get_or (names_of ys) n (0, 0)) same ∙ moved.0 ∙ is
            ∙ ap (λ n. get_or (names_needed arrows accounts) n (0, 0)) (sym same)
        | inr ne ↦ moved.1 i (omega (arith, ne, before, le, lt)) ne (λ same. omega (arith, same, ne, before, le))
            ∙ h.first i (omega (arith, ne, before))
      ]

  pub all_in_order : (arrows : List Arrow) (accounts : List ℕ) (xs : List (Parcel N b)) (k : ℕ) → length accounts ≤ k
      → InOrder arrows accounts (names_of xs) k → names_of xs ≡ names_needed arrows accounts
  all_in_order arrows accounts xs k le h =
      let size : length (names_of xs) ≡ length accounts = same_size arrows accounts (names_of xs) h.needed in
      ext_get_or (0, 0) (names_of xs) (names_needed arrows accounts) (size ∙ sym (length_needed arrows accounts))
      (λ i lt. h.first i (omega (arith, lt, size, le)))

  -- none so far, and not this one
  pub none_more : (ps : List (Parcel N b)) (first place : ℕ) (p : Parcel N b) (name : ℕ × ℕ) → place < length ps
      → p ≡ get_or ps place p → is_name (p.value.number, p.after) name ≡ false
      → ((m : ℕ) → first ≤ m → m < place → is_name (get_or (names_of ps) m name) name ≡ false) → (m : ℕ) → first ≤ m
      → m < place + 1 → is_name (get_or (names_of ps) m name) name ≡ false
  none_more ps first place p name lt is other none m from before = elim (cases_eq m place) [
    | inl same ↦ ap (λ n. is_name (get_or (names_of ps) n name) name) same
        ∙ ap (λ n. is_name n name) (name_at ps place p name lt is) ∙ other
    | inr ne ↦ none m from (omega (arith, ne, before))
  ]

  -- what is looked for next: the search finds it
  pub in_order : (arrows : List Arrow) (accounts : List ℕ) (old now : List (Parcel N b)) (k : ℕ)
      → has_names (names_of old) (names_needed arrows accounts) ≡ true → IsPermutation old now
      → ((m : ℕ) → m < k → get_or (names_of now) m (0, 0) ≡ get_or (names_needed arrows accounts) m (0, 0))
      → InOrder arrows accounts (names_of now) k
  in_order arrows accounts old now k needed same first =
      record { needed = still_needed arrows accounts old now same ∙ needed; first = first }

  pub never_missing : (arrows : List Arrow) (accounts : List ℕ) (now : List (Parcel N b)) (k : ℕ) (name : ℕ × ℕ)
      → IsDistinct eqb accounts → k < length accounts → InOrder arrows accounts (names_of now) k
      → name ≡ get_or (names_needed arrows accounts) k (0, 0) → FindsFrom (names_of now) k name None → ⊥
  never_missing arrows accounts now k name distinct lt h is none =
      let behind = is_behind arrows accounts (names_of now) k distinct lt h in
      let same : get_or (names_of now) behind.0 name ≡ name =
      get_or_any (names_of now) behind.0 name (0, 0) behind.2 ∙ behind.3 ∙ sym is in
      clash (name_is same) (none behind.0 behind.1 behind.2)
    where
      name_is : {x : ℕ × ℕ} → x ≡ name → is_name x name ≡ true
      name_is {x} e = ap (λ n. is_name n name) e ∙ ap (λ b. b && eqb name.1 name.1) (eq-eqb name.0 name.0 refl)
          ∙ eq-eqb name.1 name.1 refl
