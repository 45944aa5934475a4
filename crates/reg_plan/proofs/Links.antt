-- The arrows and openings of touches that rise by account and place.
use Rattle.std.proofs.Common.{◌≡◌, ℕ, zero, suc, ◌+◌, ◌<◌, ◌≤◌, ◌⊎◌, inl, inr, Bool, true, false, cond, ◌&&◌, eqb, List}
use Rattle.std.proofs.Common.{[], ◌∷◌, map, length, get_or, arith, tests, add-one, refl, sym, ap, subst, ◌∙◌}
use Rattle.std.specs.List.{AllByRecursion, IsDistinct}
use Rattle.std.specs.List.Sorted.{IsSorted}
use Rattle.std.specs.Ordering.{ordering_then, nat_cmp, is_lt}
use Rattle.std.specs.Cmp.{IsTotalOrder}
use Rattle.std.proofs.lemmas.Bool.{cases_lt, eqb-true, eqb-false, eq-eqb}
use Rattle.std.proofs.lemmas.Cmp.{then_total, on_total, nat_cmp_total}
use Rattle.std.proofs.lemmas.List.Sorted.{sorted_far, ranks_by}
use Rattle.std.proofs.lemmas.Map.Keys.{apart_from_distinct}
use Rattle.std.proofs.lemmas.List.Elements.{recursion_from_All}
use Rattle.reg_facts.proofs.lemmas.Members.{In, of_member, of_each_member}
use Rattle.reg_base.specs.Rising.{IsRising}
use Rattle.reg_base.proofs.lemmas.RisesFrom.{RisesFrom}
use Rattle.reg_plan.specs.declared.arrow.Arrow.{Arrow}
use Rattle.reg_plan.specs.declared.arrow.Opening.{Opening}
use Rattle.reg_plan.specs.declared.arrow.Touch.{Touch}
use Rattle.reg_plan.specs.Arrows.{same_arrow}
use Rattle.reg_plan.specs.TouchList.{arrow_between, arrows_after, arrows_of, opening_at, openings_after, openings_of}
use Rattle.reg_plan.specs.TouchList.{touch_cmp}
use Rattle.reg_plan.proofs.SortedTouches.{same_touch}

abbrev pub touch : ℕ → ℕ → Touch
touch a k = record { account = a; place = k }

-- the first touch is of an account before, or of the same account at a place before
abbrev pub Below : Touch → Touch → Type 0
Below x y = (x.account < y.account) ⊎ ((x.account ≡ y.account) × (x.place < y.place))

-- each touch is below those after it
abbrev pub Rises : List Touch → Type 0
Rises [] = Unit {0}
Rises (x ∷ xs) = AllByRecursion (Below x) xs × Rises xs

pub rises_by_pairs : (xs : List Touch)
    → ((i j : ℕ) (d : Touch) → i < j → j < length xs → Below (get_or xs i d) (get_or xs j d)) → Rises xs
rises_by_pairs [] h = tt
rises_by_pairs (x ∷ xs) h = (
  recursion_from_All (Below x) xs (λ k d lt. h 0 (suc k) d (omega arith) (omega arith)),
  rises_by_pairs xs (λ i j d lt le. h (suc i) (suc j) d (omega arith) (omega arith)),
)

-- of one account: the first is at the place before
same_account : (x : Touch) (a k : ℕ) → x.account ≡ a → Below x (touch a k) → x.place < k
same_account x a k e (inl lt) = absurd (omega arith)
same_account x a k e (inr h) = h.1

at_account : (x : Touch) (a : ℕ) → x.account ≡ a → x ≡ touch a x.place
at_account x a e = λ i. record { account = e i; place = x.place }

-- what an arrow is, among touches
pub record IsLink (xs : List Touch) (w : Arrow) : Type 0 where
  pub tail : In (touch w.account w.from) xs
  pub head : In (touch w.account w.to) xs
  pub forward : w.from < w.to
  pub apart : (k : ℕ) → In (touch w.account k) xs → (k ≤ w.from) ⊎ (w.to ≤ k)

first_link : (p x : Touch) (xs : List Touch) → Rises (p ∷ x ∷ xs) → p.account ≡ x.account
    → IsLink (p ∷ x ∷ xs) (arrow_between p x)
first_link p x xs r e = record {
  tail = inl (at_account p x.account e);
  head = inr (inl refl);
  forward = same_account p x.account x.place e r.0.0;
  apart = λ k m. elim m [
    | inl at ↦ inl (omega (arith, ap (λ (t : Touch). t.place) at))
    | inr more ↦ elim more [
      | inl at ↦ inr (omega (arith, ap (λ (t : Touch). t.place) at))
      | inr later ↦ inr (omega (
        arith,
        same_account x x.account k refl (of_member (Below x) xs (touch x.account k) r.1.0 later),
      ))
    ]
  ];
}

later_link : (p : Touch) (xs : List Touch) (w : Arrow) → Rises (p ∷ xs) → IsLink xs w → IsLink (p ∷ xs) w
later_link p xs w r h = record {
  tail = inr h.tail;
  head = inr h.head;
  forward = h.forward;
  apart = λ k m. elim m [
    | inl at ↦ inl (omega (
      arith,
      ap (λ (t : Touch). t.place) at,
      same_account p w.account w.from (ap (λ (t : Touch). t.account) at)
          (of_member (Below p) xs (touch w.account w.from) r.0 h.tail),
    ))
    | inr later ↦ h.apart k later
  ];
}

pub links_are : (p : Touch) (xs : List Touch) → Rises (p ∷ xs) → (w : Arrow) → In w (arrows_after p xs)
    → IsLink (p ∷ xs) w
links_are p [] r w m = absurd m
links_are p (x ∷ xs) r w m =
    by (eqb p.account x.account) refl m (λ n. later_link p (x ∷ xs) w r (links_are x xs r.1 w n)) where
      by : (b : Bool) → eqb p.account x.account ≡ b
          → In w (cond b (arrow_between p x ∷ arrows_after x xs) (arrows_after x xs))
          → (In w (arrows_after x xs) → IsLink (p ∷ x ∷ xs) w) → IsLink (p ∷ x ∷ xs) w
      by true e (inl same) more =
          subst (IsLink (p ∷ x ∷ xs)) same (first_link p x xs r (eqb-true p.account x.account e))
      by true e (inr n) more = more n
      by false e n more = more n

-- the tail is the first touch: the head is the next one
next_link : (p x : Touch) (xs : List Touch) (w : Arrow) → Rises (p ∷ x ∷ xs) → IsLink (p ∷ x ∷ xs) w
    → p ≡ touch w.account w.from → In (touch w.account w.to) (x ∷ xs)
    → (p.account ≡ x.account) × (arrow_between p x ≡ w)
next_link p x xs w r h at m = (e, same) where
  account : p.account ≡ w.account
  account = ap (λ (t : Touch). t.account) at

  place : p.place ≡ w.from
  place = ap (λ (t : Touch). t.place) at

  near : Below p x → In (touch w.account w.to) (x ∷ xs) → x.account ≡ w.account
  near (inl lt) (inl here) = ap (λ (t : Touch). t.account) here
  near (inl lt) (inr later) = elim (of_member (Below x) xs (touch w.account w.to) r.1.0 later) [
    | inl up ↦ absurd (omega (arith, account, lt, up))
    | inr h' ↦ h'.0
  ]
  near (inr h') any = sym h'.0 ∙ account

  e' : x.account ≡ w.account
  e' = near r.0.0 m

  e : p.account ≡ x.account
  e = account ∙ sym e'

  ends : In (touch w.account w.to) (x ∷ xs) → x.place ≡ w.to
  ends (inl here) = ap (λ (t : Touch). t.place) here
  ends (inr later) =
      let past : x.place < w.to =
      same_account x w.account w.to e' (of_member (Below x) xs (touch w.account w.to) r.1.0 later) in
      let up : p.place < x.place = same_account p x.account x.place e r.0.0 in
      elim (h.apart x.place (inr (inl (at_account x w.account e')))) [
        | inl before ↦ absurd (omega (arith, place, up, before))
        | inr after ↦ absurd (omega (arith, past, after))
      ]

  same : arrow_between p x ≡ w
  same = λ i. record { to = ends m i; from = place i; account = e' i }

pub each_link : (p : Touch) (xs : List Touch) → Rises (p ∷ xs) → (w : Arrow) → IsLink (p ∷ xs) w
    → In w (arrows_after p xs)
each_link p [] r w h = by h.tail h.head where
  by : In (touch w.account w.from) (p ∷ []) → In (touch w.account w.to) (p ∷ []) → ⊥
  by (inl a) (inl b) = omega (arith, h.forward, ap (λ (t : Touch). t.place) a, ap (λ (t : Touch). t.place) b)
  by (inl a) (inr b) = b
  by (inr a) any = a
each_link p (x ∷ xs) r w h = by h.tail h.head (each_link x xs r.1 w) where
  kept : (b : Bool) → In w (arrows_after x xs)
      → In w (cond b (arrow_between p x ∷ arrows_after x xs) (arrows_after x xs))
  kept true m = inr m
  kept false m = m

  first : (b : Bool) → b ≡ true → arrow_between p x ≡ w
      → In w (cond b (arrow_between p x ∷ arrows_after x xs) (arrows_after x xs))
  first true e same = inl same
  first false e same = absurd (cc)

  by : In (touch w.account w.from) (p ∷ x ∷ xs) → In (touch w.account w.to) (p ∷ x ∷ xs)
      → (IsLink (x ∷ xs) w → In w (arrows_after x xs)) → In w (arrows_after p (x ∷ xs))
  by (inl a) (inl b) more =
      absurd (omega (arith, h.forward, ap (λ (t : Touch). t.place) a, ap (λ (t : Touch). t.place) b))
  by (inl a) (inr b) more =
      let next : (p.account ≡ x.account) × (arrow_between p x ≡ w) = next_link p x xs w r h a b in
      first (eqb p.account x.account) (eq-eqb p.account x.account next.0) next.1
  by (inr a) (inl b) more =
      absurd (omega (
        arith,
        h.forward,
        ap (λ (t : Touch). t.place) b,
        same_account p w.account w.from (ap (λ (t : Touch). t.account) b)
            (of_member (Below p) (x ∷ xs) (touch w.account w.from) r.0 a),
      ))
  by (inr a) (inr b) more =
      kept (eqb p.account x.account)
      (more (record { tail = a; head = b; forward = h.forward; apart = λ k m. h.apart k (inr m) }))

-- what an opening is, among touches
pub record IsFirst (xs : List Touch) (o : Opening) : Type 0 where
  pub at : In (touch o.account o.first) xs
  pub least : (k : ℕ) → In (touch o.account k) xs → o.first ≤ k

-- the first of its account after another account
fresh : (p x : Touch) (xs : List Touch) → Rises (p ∷ x ∷ xs) → eqb p.account x.account ≡ false → p.account < x.account
fresh p x xs r e = elim r.0.0 [ inl lt ↦ lt | inr h ↦ absurd (eqb-false p.account x.account e h.0) ]

first_here : (x : Touch) (xs : List Touch) → Rises (x ∷ xs) → IsFirst (x ∷ xs) (opening_at x)
first_here x xs r = record {
  at = inl refl;
  least = λ k m. elim m [
    | inl at ↦ omega (arith, ap (λ (t : Touch). t.place) at)
    | inr later ↦ omega (arith, same_account x x.account k refl (of_member (Below x) xs (touch x.account k) r.0 later))
  ];
}

first_later : (p : Touch) (xs : List Touch) (o : Opening) → p.account < o.account → IsFirst xs o → IsFirst (p ∷ xs) o
first_later p xs o lt h = record {
  at = inr h.at;
  least = λ k m. elim m [
    | inl at ↦ absurd (omega (arith, lt, ap (λ (t : Touch). t.account) at))
    | inr later ↦ h.least k later
  ];
}

pub openings_are : (p : Touch) (xs : List Touch) → Rises (p ∷ xs) → (o : Opening) → In o (openings_after p xs)
    → IsFirst (p ∷ xs) o × (p.account < o.account)
openings_are p [] r o m = absurd m
openings_are p (x ∷ xs) r o m = by (eqb p.account x.account) refl m (openings_are x xs r.1 o) where
  lifted : p.account ≤ x.account → IsFirst (x ∷ xs) o × (x.account < o.account) → IsFirst (p ∷ x ∷ xs) o
      × (p.account < o.account)
  lifted le h = (first_later p (x ∷ xs) o (omega (arith, le, h.1)) h.0, omega (arith, le, h.1))

  by : (b : Bool) → eqb p.account x.account ≡ b
      → In o (cond b (openings_after x xs) (opening_at x ∷ openings_after x xs))
      → (In o (openings_after x xs) → IsFirst (x ∷ xs) o × (x.account < o.account)) → IsFirst (p ∷ x ∷ xs) o
      × (p.account < o.account)
  by true e n more = let le : p.account ≤ x.account = omega (arith, eqb-true p.account x.account e) in
      lifted le (more n)
  by false e (inl same) more =
      let up : p.account < x.account = fresh p x xs r e in
      let lt : p.account < o.account = omega (arith, up, ap (λ (w : Opening). w.account) same) in
      (first_later p (x ∷ xs) o lt (subst (IsFirst (x ∷ xs)) same (first_here x xs r.1)), lt)
  by false e (inr n) more = let up : p.account < x.account = fresh p x xs r e in let le : p.account ≤ x.account =
      omega (arith, up) in lifted le (more n)

without : (p : Touch) (xs : List Touch) (o : Opening) → IsFirst (p ∷ xs) o → (p.account ≡ o.account → ⊥) → IsFirst xs o
without p xs o h apart = record {
  at = elim h.at [ inl at ↦ absurd (apart (ap (λ (t : Touch). t.account) at)) | inr m ↦ m ];
  least = λ k m. h.least k (inr m);
}

opening_here : (x : Touch) (xs : List Touch) (o : Opening) → Rises (x ∷ xs) → IsFirst (x ∷ xs) o → x.account ≡ o.account
    → opening_at x ≡ o
opening_here x xs o r h e = λ i. record { account = e i; first = place h.at i } where
  place : In (touch o.account o.first) (x ∷ xs) → x.place ≡ o.first
  place (inl at) = ap (λ (t : Touch). t.place) at
  place (inr m) =
      let past : x.place < o.first =
      same_account x o.account o.first e (of_member (Below x) xs (touch o.account o.first) r.0 m) in
      let low : o.first ≤ x.place = h.least x.place (inl (at_account x o.account e)) in
      absurd (omega (arith, past, low))

pub each_opening : (p : Touch) (xs : List Touch) → Rises (p ∷ xs) → (o : Opening) → IsFirst (p ∷ xs) o
    → (p.account ≡ o.account → ⊥) → In o (openings_after p xs)
each_opening p [] r o h apart =
    elim h.at [ inl at ↦ absurd (apart (ap (λ (t : Touch). t.account) at)) | inr m ↦ absurd m ]
each_opening p (x ∷ xs) r o h apart = by (eqb p.account x.account) refl (each_opening x xs r.1 o rest) where
  rest : IsFirst (x ∷ xs) o
  rest = without p (x ∷ xs) o h apart

  by : (b : Bool) → eqb p.account x.account ≡ b → ((x.account ≡ o.account → ⊥) → In o (openings_after x xs))
      → In o (cond b (openings_after x xs) (opening_at x ∷ openings_after x xs))
  by true e more = more (λ same. apart (eqb-true p.account x.account e ∙ same))
  by false e more = here (eqb x.account o.account) refl more where
    here : (b : Bool) → eqb x.account o.account ≡ b → ((x.account ≡ o.account → ⊥) → In o (openings_after x xs))
        → In o (opening_at x ∷ openings_after x xs)
    here true same more' = inl (opening_here x xs o r.1 rest (eqb-true x.account o.account same))
    here false other more' = inr (more' (eqb-false x.account o.account other))

-- all of a list
pub links_of_are : (xs : List Touch) → Rises xs → (w : Arrow) → In w (arrows_of xs) → IsLink xs w
links_of_are [] r w m = absurd m
links_of_are (x ∷ xs) r w m = links_are x xs r w m

pub each_link_of : (xs : List Touch) → Rises xs → (w : Arrow) → IsLink xs w → In w (arrows_of xs)
each_link_of [] r w h = absurd h.tail
each_link_of (x ∷ xs) r w h = each_link x xs r w h

pub openings_of_are : (xs : List Touch) → Rises xs → (o : Opening) → In o (openings_of xs) → IsFirst xs o
openings_of_are [] r o m = absurd m
openings_of_are (x ∷ xs) r o (inl same) = subst (IsFirst (x ∷ xs)) same (first_here x xs r)
openings_of_are (x ∷ xs) r o (inr m) = (openings_are x xs r o m).0

pub each_opening_of : (xs : List Touch) → Rises xs → (o : Opening) → IsFirst xs o → In o (openings_of xs)
each_opening_of [] r o h = absurd h.at
each_opening_of (x ∷ xs) r o h = by (eqb x.account o.account) refl where
  by : (b : Bool) → eqb x.account o.account ≡ b → In o (openings_of (x ∷ xs))
  by true same = inl (opening_here x xs o r h (eqb-true x.account o.account same))
  by false other = inr (each_opening x xs r o h (eqb-false x.account o.account other))

-- no arrow stands twice
apart_arrows : (p x : Touch) (w : Arrow) → Below p (touch w.account w.from) → p.account ≡ x.account
    → same_arrow (arrow_between p x) w ≡ false
apart_arrows p x w below e = by (eqb x.account w.account) refl (eqb p.place w.from) refl where
  by : (a : Bool) → eqb x.account w.account ≡ a → (b : Bool) → eqb p.place w.from ≡ b
      → (eqb x.account w.account && (eqb p.place w.from && eqb x.place w.to)) ≡ false
  by false ea b eb = ap (λ c. c && (eqb p.place w.from && eqb x.place w.to)) ea
  by true ea false eb = ap (λ c. c && (eqb p.place w.from && eqb x.place w.to)) ea ∙ ap (λ c. c && eqb x.place w.to) eb
  by true ea true eb =
      absurd (omega (
        arith,
        eqb-true p.place w.from eb,
        same_account p w.account w.from (e ∙ eqb-true x.account w.account ea) below,
      ))

distinct_after : (p : Touch) (xs : List Touch) → Rises (p ∷ xs) → IsDistinct same_arrow (arrows_after p xs)
unfolding IsDistinct
distinct_after p [] r = tt
distinct_after p (x ∷ xs) r = by (eqb p.account x.account) refl (distinct_after x xs r.1) where
  by : (b : Bool) → eqb p.account x.account ≡ b → IsDistinct same_arrow (arrows_after x xs)
      → IsDistinct same_arrow (cond b (arrow_between p x ∷ arrows_after x xs) (arrows_after x xs))
  by true e more = (
    of_each_member (λ w. same_arrow (arrow_between p x) w ≡ false) (arrows_after x xs)
        (λ w m. apart_arrows p x w
        (of_member (Below p) (x ∷ xs) (touch w.account w.from) r.0 (links_are x xs r.1 w m).tail)
        (eqb-true p.account x.account e)),
    more,
  )
  by false e more = more

pub distinct_arrows : (xs : List Touch) → Rises xs → IsDistinct same_arrow (arrows_of xs)
unfolding IsDistinct
distinct_arrows [] r = tt
distinct_arrows (x ∷ xs) r = distinct_after x xs r

-- openings rise by account
pub openings_rise : (p : Touch) (xs : List Touch) → Rises (p ∷ xs)
    → RisesFrom (suc p.account) (map (λ (o : Opening). o.account) (openings_after p xs))
openings_rise p [] r = tt
openings_rise p (x ∷ xs) r = by (eqb p.account x.account) refl (openings_rise x xs r.1) where
  by : (b : Bool) → eqb p.account x.account ≡ b
      → RisesFrom (suc x.account) (map (λ (o : Opening). o.account) (openings_after x xs))
      → RisesFrom (suc p.account)
      (map (λ (o : Opening). o.account) (cond b (openings_after x xs) (opening_at x ∷ openings_after x xs)))
  by true e more = subst (λ n. RisesFrom (suc n) (map (λ (o : Opening). o.account) (openings_after x xs)))
      (sym (eqb-true p.account x.account e)) more
  by false e more = (omega (arith, fresh p x xs r e), more)

rising_from : (low : ℕ) (xs : List ℕ) → RisesFrom low xs → (k : ℕ) → k + 1 < length xs
    → get_or xs k 0 < get_or xs (suc k) 0
rising_from low [] r k lt = absurd (omega arith)
rising_from low (x ∷ []) r k lt = absurd (omega arith)
rising_from low (x ∷ y ∷ xs) r zero lt = omega (arith, r.1.0)
rising_from low (x ∷ y ∷ xs) r (suc k) lt = rising_from (suc x) (y ∷ xs) r.1 k (omega arith)

pub openings_of_rise : (xs : List Touch) → Rises xs → IsRising (map (λ (o : Opening). o.account) (openings_of xs))
openings_of_rise [] r k lt = absurd (omega arith)
openings_of_rise (x ∷ xs) r k lt =
    rw add-one (rising_from x.account (map (λ (o : Opening). o.account) (openings_of (x ∷ xs))) (
      omega arith,
      openings_rise x xs r,
    ) k lt)

-- what sorting makes of touches none of which stands twice
pair : (a b p q : ℕ) → is_lt (ordering_then (nat_cmp b a) (nat_cmp q p)) ≡ false → (eqb a b && eqb p q) ≡ false
    → (a < b) ⊎ ((a ≡ b) × (p < q))
pair a b p q sorted other = elim (cases_lt a b) [
  | inl lt ↦ inl lt
  | inr ge ↦ elim (cases_lt b a) [
    | inl gt ↦ absurd (grind (arith, tests, sorted, gt))
    | inr le ↦
        let e : a ≡ b = omega arith in
        inr (e, grind (arith, tests, sorted, other, e))
  ]
]

pub touch_cmp-total : IsTotalOrder touch_cmp
touch_cmp-total = then_total (on_total (λ (t : Touch). t.account) nat_cmp_total)
    (on_total (λ (t : Touch). t.place) nat_cmp_total)

pub rises-sorted : (xs : List Touch) → IsSorted touch_cmp xs → IsDistinct same_touch xs → Rises xs
rises-sorted xs sorted distinct =
    rises_by_pairs xs (λ i j d lt within.
    let low : is_lt (touch_cmp (get_or xs j d) (get_or xs i d))
    ≡ false = sorted_far (λ x y. is_lt (touch_cmp x y)) (ranks_by touch_cmp-total (λ t. t)) xs sorted i j d
    (omega arith) within in
    pair (get_or xs i d).account (get_or xs j d).account (get_or xs i d).place (get_or xs j d).place low
    (apart_from_distinct same_touch xs i j d distinct lt within))
