-- That each footprint is few, kept instruction by instruction.
use Rattle.std.proofs.Common.{ℕ, zero, suc, ◌≤◌, List, [], ◌∷◌, ◌++◌, length, arith}
use Rattle.std.specs.List.{AllByRecursion}
use Rattle.reg_base.specs.declared.limits.TheConstants.{MOST_TOUCHED}
use Rattle.reg_plan.specs.Touched.{AreFew}

-- each of these lists is few
abbrev pub EachFew : List (List ℕ) → Type 0
EachFew lists = AllByRecursion (λ accounts. length accounts ≤ MOST_TOUCHED) lists

-- one list more
pub few_more : (lists : List (List ℕ)) (accounts : List ℕ) → EachFew lists → length accounts ≤ MOST_TOUCHED
    → EachFew (lists ++ accounts ∷ [])
few_more [] accounts few one = (one, tt)
few_more (xs ∷ lists) accounts few one = (few.0, few_more lists accounts few.1 one)

-- so the one at a place is, if there is one
pub few_at : (lists : List (List ℕ)) → EachFew lists → AreFew lists
few_at [] few k = omega arith
few_at (xs ∷ lists) few zero = few.0
few_at (xs ∷ lists) few (suc k) = few_at lists few.1 k

-- lists that are few, and others behind them
pub few_both : (front back : List (List ℕ)) → AreFew front → AreFew back → AreFew (front ++ back)
few_both [] back few more = more
few_both (xs ∷ front) back few more = at (few_both front back (λ k. few (suc k)) more) where
  at : AreFew (front ++ back) → AreFew (xs ∷ (front ++ back))
  at rest zero = few 0
  at rest (suc k) = rest k
