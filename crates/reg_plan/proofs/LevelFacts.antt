-- Levels rise along arrows.
use Rattle.std.proofs.Common.{◌≡◌, ℕ, ◌+◌, ◌≤◌, inl, inr, eqb, List, [], ◌∷◌, length, arith}
use Rattle.std.proofs.Common.{refl, ap}
use Rattle.std.proofs.lemmas.Bool.{eq-eqb}
use Rattle.reg_facts.proofs.lemmas.Members.{in_filter, In, in_from}
use Rattle.reg_plan.specs.declared.arrow.Arrow.{Arrow}
use Rattle.reg_plan.specs.Plans.{inward, level_at, greatest_tail, IsBetween}
use Rattle.reg_plan.specs.Laws.{LevelsRiseAlongArrows}
use Rattle.reg_plan.proofs.Results.{arrow_between_places}

greatest_is_one : (levels : List ℕ) (xs : List Arrow) (w : Arrow) → In w xs
    → level_at levels w.from ≤ greatest_tail levels xs
greatest_is_one levels [] w m = absurd m
greatest_is_one levels (x ∷ xs) w (inl same) = omega (arith, ap (λ (y : Arrow). level_at levels y.from) same)
greatest_is_one levels (x ∷ xs) w (inr m) = omega (arith, greatest_is_one levels xs w m)

pub levels_rise : LevelsRiseAlongArrows
levels_rise d is plan w made c =
    let b : IsBetween (length is) w = arrow_between_places d is w ((made.arrows.exactly w).0 c) in
    let at : level_at plan.levels w.to ≡ 1 + greatest_tail plan.levels (inward plan.arrows w.to) =
    made.levels w.to (omega (arith, b.from_one, b.forward)) (omega (arith, b.within, made.places)) in
    let le : level_at plan.levels w.from ≤ greatest_tail plan.levels (inward plan.arrows w.to)
    = greatest_is_one plan.levels (inward plan.arrows w.to) w
    (in_filter (λ (y : Arrow). eqb y.to w.to) plan.arrows w (eq-eqb w.to w.to refl) (in_from plan.arrows w c)) in
    omega (arith, at, le)
