-- The touches of a batch: one for each instruction and each account that it touches.
use Rattle.std.proofs.Common.{◌≡◌, ℕ, zero, suc, ◌+◌, ◌<◌, ◌⊎◌, inl, inr, Bool, true, false, ◌&&◌, ◌||◌, eqb, List, []}
use Rattle.std.proofs.Common.{◌∷◌, ◌++◌, arith, refl, sym, ap, subst, ◌∙◌}
use Rattle.std.specs.List.{AllByRecursion, IsDistinct}
use Rattle.std.proofs.lemmas.Bool.{eqb-true, eqb-false, eq-eqb, ne_eqb}
use Rattle.reg_facts.proofs.lemmas.Members.{In, of_each_member, in_front, in_back, in_either}
use Rattle.reg_base.specs.declared.instruction.Instruction.{Instruction}
use Rattle.reg_base.specs.Directory.{DirectoryValue}
use Rattle.reg_base.specs.Footprint.{footprint, is_among, EachFootprintIsSound}
use Rattle.reg_base.specs.Touches.{touches_at}
use Rattle.reg_plan.specs.declared.arrow.Touch.{Touch}
use Rattle.reg_plan.specs.Arrows.{touches_place}
use Rattle.reg_plan.specs.TouchList.{touched_at}
use Rattle.reg_plan.proofs.SortedTouches.{touches_from, same_touch}
use Rattle.reg_plan.proofs.Links.{touch}

among_of : (p : ℕ) (accounts : List ℕ) (t : Touch) → In t (touched_at p accounts)
    → (t.place ≡ p) × (is_among accounts t.account ≡ true)
among_of p [] t m = absurd m
among_of p (x ∷ xs) t (inl at) = (
  sym (ap (λ (u : Touch). u.place) at),
  ap (λ b. b || is_among xs t.account) (eq-eqb x t.account (ap (λ (u : Touch). u.account) at)),
)
among_of p (x ∷ xs) t (inr m) = let h : (t.place ≡ p) × (is_among xs t.account ≡ true) = among_of p xs t m in
    (h.0, or_more (eqb x t.account) (is_among xs t.account) h.1) where
      or_more : (a b : Bool) → b ≡ true → (a || b) ≡ true
      or_more true b e = refl
      or_more false b e = e

in_among : (p : ℕ) (accounts : List ℕ) (a : ℕ) → is_among accounts a ≡ true → In (touch a p) (touched_at p accounts)
in_among p [] a e = absurd cc
in_among p (x ∷ xs) a e = by (eqb x a) refl e (in_among p xs a) where
  by : (b : Bool) → eqb x a ≡ b → (b || is_among xs a) ≡ true
      → (is_among xs a ≡ true → In (touch a p) (touched_at p xs)) → In (touch a p) (touched_at p (x ∷ xs))
  by true same h more = inl (ap (λ n. touch n p) (eqb-true x a same))
  by false other h more = inr (more h)

pub touch_is : (d : DirectoryValue) (p : ℕ) (is : List Instruction) (t : Touch) → In t (touches_from d p is)
    → (k : ℕ) × (t.place ≡ p + k) × (touches_at d is t.account k ≡ true)
touch_is d p [] t m = absurd m
touch_is d p (i ∷ is) t m =
    by (in_either (touched_at p (footprint d i.act)) (touches_from d (p + 1) is) t m) (touch_is d (p + 1) is t) where
      by : In t (touched_at p (footprint d i.act)) ⊎ In t (touches_from d (p + 1) is)
          → (In t (touches_from d (p + 1) is) → (k : ℕ) × (t.place ≡ p + 1 + k) × (touches_at d is t.account k ≡ true))
          → (k : ℕ) × (t.place ≡ p + k) × (touches_at d (i ∷ is) t.account k ≡ true)
      by (inl here) more = let h : (t.place ≡ p) × (is_among (footprint d i.act) t.account ≡ true) =
          among_of p (footprint d i.act) t here in (0, omega (arith, h.0), h.1)
      by (inr later) more = let h : (k : ℕ) × (t.place ≡ p + 1 + k) × (touches_at d is t.account k ≡ true) =
          more later in
          (suc h.0, omega (arith, h.1), h.2)

pub each_touch : (d : DirectoryValue) (p : ℕ) (is : List Instruction) (a k : ℕ) → touches_at d is a k ≡ true
    → In (touch a (p + k)) (touches_from d p is)
each_touch d p [] a k e = absurd cc
each_touch d p (i ∷ is) a zero e =
    let same : p ≡ p + 0 = omega arith in
    in_front (touched_at p (footprint d i.act)) (touches_from d (p + 1) is) (touch a (p + 0))
    (subst (λ n. In (touch a n) (touched_at p (footprint d i.act))) same (in_among p (footprint d i.act) a e))
each_touch d p (i ∷ is) a (suc k) e =
    let same : p + 1 + k ≡ p + suc k = omega arith in
    in_back (touched_at p (footprint d i.act)) (touches_from d (p + 1) is) (touch a (p + suc k))
    (subst (λ n. In (touch a n) (touches_from d (p + 1) is)) same (each_touch d (p + 1) is a k e))

-- the same by places
pub touched-place : (d : DirectoryValue) (is : List Instruction) (t : Touch) → In t (touches_from d 1 is)
    → touches_place d is t.account t.place ≡ true
touched-place d is t m =
    let h : (k : ℕ) × (t.place ≡ 1 + k) × (touches_at d is t.account k ≡ true) = touch_is d 1 is t m in
    let at : t.place ≡ suc h.0 = omega (arith, h.1) in
    ap (touches_place d is t.account) at ∙ h.2

pub place-touched : (d : DirectoryValue) (is : List Instruction) (a k : ℕ) → touches_place d is a k ≡ true
    → In (touch a k) (touches_from d 1 is)
place-touched d is a zero e = absurd cc
place-touched d is a (suc k) e =
    let same : 1 + k ≡ suc k = omega arith in
    subst (λ n. In (touch a n) (touches_from d 1 is)) same (each_touch d 1 is a k e)

-- no touch stands twice
distinct_part : (p : ℕ) (accounts : List ℕ) (rest : List Touch) → IsDistinct eqb accounts → IsDistinct same_touch rest
    → ((t : Touch) → In t rest → p < t.place) → IsDistinct same_touch (touched_at p accounts ++ rest)
unfolding IsDistinct
distinct_part p [] rest d dr late = dr
distinct_part p (x ∷ xs) rest d dr late = (
  of_each_member (λ t. same_touch (touch x p) t ≡ false) (touched_at p xs ++ rest) apart,
  distinct_part p xs rest d.1 dr late,
) where
  other_place : (t : Touch) → p < t.place → (b : Bool) → (b && eqb p t.place) ≡ false
  other_place t lt true = ne_eqb p t.place (λ e. omega (arith, e, lt))
  other_place t lt false = refl

  other_account : (t : Touch) → In t (touched_at p xs) → eqb x t.account ≡ false
  other_account t m = ne_eqb x t.account (λ e. never xs d.0 (among_of p xs t m).1 e) where
    never : (ys : List ℕ) → AllByRecursion (λ y. eqb x y ≡ false) ys → is_among ys t.account ≡ true → x ≡ t.account → ⊥
    never [] all among e = absurd cc
    never (y ∷ ys) all among e = by (eqb y t.account) refl among (λ h. never ys all.1 h e) where
      by : (b : Bool) → eqb y t.account ≡ b → (b || is_among ys t.account) ≡ true → (is_among ys t.account ≡ true → ⊥)
          → ⊥
      by true same h more = eqb-false x y all.0 (e ∙ sym (eqb-true y t.account same))
      by false differs h more = more h

  apart : (t : Touch) → In t (touched_at p xs ++ rest) → same_touch (touch x p) t ≡ false
  apart t m = elim (in_either (touched_at p xs) rest t m) [
    | inl here ↦ ap (λ b. b && eqb p t.place) (other_account t here)
    | inr later ↦ other_place t (late t later) (eqb x t.account)
  ]

pub distinct_touches : EachFootprintIsSound → (d : DirectoryValue) (p : ℕ) (is : List Instruction)
    → IsDistinct same_touch (touches_from d p is)
unfolding IsDistinct
distinct_touches sound d p [] = tt
distinct_touches sound d p (i ∷ is) =
    distinct_part p (footprint d i.act) (touches_from d (p + 1) is) (sound d i.act).once
    (distinct_touches sound d (p + 1) is)
    (λ t m. let h : (k : ℕ) × (t.place ≡ p + 1 + k)
    × (touches_at d is t.account k ≡ true) = touch_is d (p + 1) is t m in omega (arith, h.1))
