use Rattle.std.proofs.Common.{◌≡◌, ◌==◌, ◌↔◌, Bool, IsTrue, List, [], ◌∷◌, length, arith, refl, subst, sym, ◌∙◌}
use Rattle.std.proofs.lemmas.Bool.{eqb-true}
use Rattle.std.specs.Prelude.{Contains}
use Rattle.reg_plan.specs.declared.arrow.Arrow.{Arrow}
use Rattle.reg_plan.specs.Arrows.{IsArrow}
use Rattle.example_uses.proofs.plan.needs_no_order.Goals as goal

-- the list of all that are so is empty exactly if none is
none-is : (xs : List Arrow) (IsSo : Arrow → Type 0) (empty : Bool) → ((x : Arrow) → Contains xs x ↔ IsSo x)
    → empty ≡ (length xs == 0)
    → IsTrue empty ↔ ((x : Arrow) → ¬ IsSo x)
none-is [] IsSo empty exactly e =
    (λ _ x so. let here = (exactly x).1 so in absurd omega (arith, here.1), λ none. rw e refl)
none-is (x ∷ xs) IsSo empty exactly e = (
  λ t. let same : length (x ∷ xs) ≡ 0 = eqb-true (length (x ∷ xs)) 0 (sym e ∙ t) in
      absurd omega (arith, same),
  λ none. absurd (none x ((exactly x).0 (0, omega arith, refl))),
)

pub returns : goal.returns
returns c =
    let IsSo : Arrow → Type 0 = IsArrow c.args.directory.now c.args.batch.now.instructions in
    none-is c.arrows.result.now IsSo c.is_empty.result
    (subst (λ xs. (x : Arrow) → Contains xs x ↔ IsSo x) (sym c.arrows.ensures) c.in_ok-plan.ensures.arrows.exactly)
    c.is_empty.ensures
