-- Whether a number is among others: by a member of their list, and with one more at its end.
use Rattle.std.proofs.Common.{◌≡◌, ℕ, zero, suc, inl, inr, Bool, true, false, ◌||◌, eqb, List, [], ◌∷◌, ◌++◌, arith}
use Rattle.std.proofs.Common.{refl, ap, ◌∙◌}
use Rattle.std.specs.Prelude.{Contains}
use Rattle.std.specs.List.{AllByRecursion}
use Rattle.std.proofs.lemmas.Bool.{eq-eqb, eqb-true, or_left, or_right}
use Rattle.reg_facts.proofs.lemmas.Members.{In}
use Rattle.reg_facts.proofs.lemmas.Numbers.{clash}
use Rattle.reg_base.specs.Footprint.{is_among}

-- a number that is among the others is a member of their list, and the other way round
pub member_from_among : (ns : List ℕ) (a : ℕ) → is_among ns a ≡ true → In a ns
member_from_among [] a e = absurd cc
member_from_among (n ∷ ns) a e = by (eqb n a) refl e (member_from_among ns a) where
  by : (b : Bool) → eqb n a ≡ b → (b || is_among ns a) ≡ true → (is_among ns a ≡ true → In a ns) → In a (n ∷ ns)
  by true h g more = inl (eqb-true n a h)
  by false h g more = inr (more g)

pub among_from_member : (ns : List ℕ) (a : ℕ) → In a ns → is_among ns a ≡ true
among_from_member [] a m = absurd m
among_from_member (n ∷ ns) a (inl e) = or_left (eqb n a) (is_among ns a) (eq-eqb n a e)
among_from_member (n ∷ ns) a (inr m) = or_right (eqb n a) (is_among ns a) (among_from_member ns a m)

pub is_among-contained : (ns : List ℕ) (a : ℕ) → Contains ns a → is_among ns a ≡ true
is_among-contained [] a (k, lt, is) = absurd (omega arith)
is_among-contained (n ∷ ns) a (zero, lt, is) = or_left (eqb n a) (is_among ns a) (eq-eqb n a is)
is_among-contained (n ∷ ns) a (suc k, lt, is) =
    or_right (eqb n a) (is_among ns a) (is_among-contained ns a (k, omega arith, is))

pub not_contained : (ns : List ℕ) (a : ℕ) → is_among ns a ≡ false → Contains ns a → ⊥
not_contained ns a absent there = clash (is_among-contained ns a there) absent

-- one number more
pub among_push : (xs : List ℕ) (x y : ℕ) → is_among (xs ++ x ∷ []) y ≡ (is_among xs y || eqb x y)
among_push [] x y = or_false (eqb x y) where
  or_false : (b : Bool) → (b || false) ≡ b
  or_false true = refl
  or_false false = refl
among_push (z ∷ zs) x y = ap (λ b. eqb z y || b) (among_push zs x y) ∙ assoc (eqb z y) (is_among zs y) (eqb x y) where
  assoc : (a b c : Bool) → (a || (b || c)) ≡ ((a || b) || c)
  assoc true b c = refl
  assoc false b c = refl

-- what holds of each element holds of a number among them, and the other way round
pub at_among : (P : ℕ → Type 0) (ns : List ℕ) (a : ℕ) → AllByRecursion P ns → is_among ns a ≡ true → P a
at_among P [] a all e = absurd cc
at_among P (n ∷ ns) a all e = by (eqb n a) refl e (at_among P ns a all.1) where
  by : (b : Bool) → eqb n a ≡ b → (b || is_among ns a) ≡ true → (is_among ns a ≡ true → P a) → P a
  by true h e more = subst_eq (eqb-true n a h) where
    subst_eq : n ≡ a → P a
    subst_eq same = rw (← same) all.0
  by false h e more = more e

pub all_among : (P : ℕ → Type 0) (ns : List ℕ) → ((a : ℕ) → is_among ns a ≡ true → P a) → AllByRecursion P ns
all_among P [] h = tt
all_among P (n ∷ ns) h = (
  h n (or_left (eqb n n) (is_among ns n) (eq-eqb n n refl)),
  all_among P ns (λ a e. h a (or_right (eqb n a) (is_among ns a) e)),
)
