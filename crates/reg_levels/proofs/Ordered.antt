-- Places by rising level are a legal order.
use Rattle.std.proofs.Common.{◌≡◌, ℕ, zero, suc, ◌+◌, ◌<◌, inl, inr, ◌&&◌, nat_eq, List, [], ◌∷◌, ◌++◌, length, get_or}
use Rattle.std.proofs.Common.{None, Some, arith, tests, ap, ◌∙◌}
use Rattle.std.specs.Prelude.{not, slice_get, Contains, IsPermutation}
use Rattle.std.specs.Ordering.{nat_cmp, is_lt}
use Rattle.std.specs.List.Sorted.{IsNonDecreasingBy}
use Rattle.std.proofs.lemmas.Bool.{cases_lt}
use Rattle.reg_base.specs.Rising.{count_up}
use Rattle.reg_base.specs.declared.instruction.Instruction.{Instruction}
use Rattle.reg_base.specs.Directory.{DirectoryValue}
use Rattle.reg_plan.specs.declared.arrow.Arrow.{Arrow}
use Rattle.reg_plan.specs.Plans.{PlanValue, IsPlan, level_at}
use Rattle.reg_plan.specs.Orders.{first_order_fault}
use Rattle.reg_levels.specs.Levels.{IsOneLevel}
use Rattle.reg_plan.specs.Laws.{NoFaultIsALegalOrder, LevelsRiseAlongArrows}

at : (xs : List ℕ) (p x : ℕ) → slice_get xs p ≡ Some x → get_or xs p 0 ≡ x
at [] p x e = absurd cc
at (y ∷ xs) zero x e = cc
at (y ∷ xs) (suc p) x e = at xs p x e

within : (xs : List ℕ) (p x : ℕ) → slice_get xs p ≡ Some x → p < length xs
within [] p x e = absurd cc
within (y ∷ xs) zero x e = omega arith
within (y ∷ xs) (suc p) x e = let more = within xs p x e in omega (arith, more)

pub legal_by_level : LevelsRiseAlongArrows → NoFaultIsALegalOrder
    → (directory : DirectoryValue) (is : List Instruction) (plan : PlanValue) → IsPlan directory is plan
    → (order : List ℕ)
    → IsPermutation (count_up 1 (length plan.levels)) order
    → IsNonDecreasingBy (λ place. level_at plan.levels place) order → first_order_fault plan order ≡ None
legal_by_level rise legal directory is plan made order same sorted =
    (legal directory is plan order made).1 (record { permutation = same; tails_first = first })
  where
    first : (arrow : Arrow) → Contains plan.arrows arrow → (p q : ℕ) → slice_get order p ≡ Some arrow.from
        → slice_get order q ≡ Some arrow.to → p < q
    first arrow there p q from to = elim (cases_lt p q) [
      | inl lt ↦ lt
      | inr le ↦
          let up = rise directory is plan arrow made there in
          let down = sorted q p 0 le (within order p arrow.from from) in
          let at_p : level_at plan.levels (get_or order p 0) ≡ level_at plan.levels arrow.from =
          ap (level_at plan.levels) (at order p arrow.from from) in
          let at_q : level_at plan.levels (get_or order q 0) ≡ level_at plan.levels arrow.to =
          ap (level_at plan.levels) (at order q arrow.to to) in
          absurd (omega (arith, up, down, at_p, at_q))
    ]

-- two levels tie exactly if they are one
pub ties_are : (x y : ℕ) → (not (is_lt (nat_cmp x y)) && not (is_lt (nat_cmp y x))) ≡ nat_eq y x
ties_are x y = grind (arith, tests)

-- the first places
pub count_more : (first n : ℕ) → count_up first (n + 1) ≡ count_up first n ++ (first + n) ∷ []
count_more first n = ap (count_up first) (let e : n + 1 ≡ suc n = omega arith in e) ∙ more first n where
  more : (first n : ℕ) → count_up first (suc n) ≡ count_up first n ++ (first + n) ∷ []
  more first zero = ap (λ x. x ∷ []) (let e : first ≡ first + 0 = omega arith in e)
  more first (suc n) = ap (λ xs. first ∷ xs) (more (first + 1) n
      ∙ ap (λ x. count_up (first + 1) n ++ x ∷ []) (let e : first + 1 + n ≡ first + suc n = omega arith in e))

-- places of one level
pub one_first : (plan : PlanValue) (order : List ℕ) (from : ℕ) → IsOneLevel plan order from (from + 1)
one_first plan order from k le lt = let same : k ≡ from = omega (arith, le, lt) in
    ap (λ n. level_at plan.levels (get_or order n 0)) same

pub one_more : (plan : PlanValue) (order : List ℕ) (from k : ℕ) → IsOneLevel plan order from k
    → level_at plan.levels (get_or order k 0) ≡ level_at plan.levels (get_or order from 0)
    → IsOneLevel plan order from (k + 1)
one_more plan order from k level here j le lt = elim (cases_lt j k) [
  | inl before ↦ level j le before
  | inr le_k ↦ let same : j ≡ k = omega (arith, le_k, lt) in
      ap (λ n. level_at plan.levels (get_or order n 0)) same ∙ here
]
