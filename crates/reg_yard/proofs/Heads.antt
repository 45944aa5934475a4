-- No arrow leads on from a number that is no place.
use Rattle.std.proofs.Common.{◌≡◌, ℕ, ◌<◌, ◌⊎◌, inl, inr, true, eqb, List, length, Option, None, arith, ap, ◌∙◌}
use Rattle.std.specs.Prelude.{if◌then◌else◌}
use Rattle.std.specs.Option.{option_map}
use Rattle.std.proofs.Props.{props}
use Rattle.std.proofs.lemmas.Bool.{eqb-true, ne_eqb}
use mathlib.Core.Logic.{∥∥₁_elim}
use Rattle.reg_facts.proofs.lemmas.Members.{In, contains_from, of_filter, Found, Missing, search_of}
use Rattle.reg_base.specs.declared.instruction.Instruction.{Instruction}
use Rattle.reg_base.specs.Directory.{DirectoryValue}
use Rattle.reg_plan.specs.declared.arrow.Arrow.{Arrow}
use Rattle.reg_plan.specs.Arrows.{IsArrow}
use Rattle.reg_plan.specs.Plans.{PlanValue, IsPlan, outward}
use Rattle.reg_schedules.specs.Docks.{ParcelValue}
use Rattle.reg_schedules.specs.World.{head_of}
use Rattle.reg_schedules.proofs.lemmas.Tails.{is_within}
use Rattle.reg_tasks.specs.Openings.{first_at}
use Rattle.reg_yard.specs.Parcels.{goes_to}

no-arrow : (d : DirectoryValue) (is : List Instruction) (plan : PlanValue) → IsPlan d is plan → (place a : ℕ)
    → length is < place → head_of plan place a ≡ None
no-arrow d is plan made place a above = by (search_of (λ (w : Arrow). eqb w.account a) (outward plan.arrows place))
  where
    by : Missing (λ (w : Arrow). eqb w.account a) (outward plan.arrows place)
        ⊎ ((w : Arrow) × Found (λ (w : Arrow). eqb w.account a) (outward plan.arrows place) w)
        → head_of plan place a ≡ None
    by (inl missing) = ap (λ (o : Option Arrow). option_map (λ (w : Arrow). w.to) o) missing.none
    by (inr one) =
        let w : Arrow = one.0 in
        let there : In w plan.arrows × (eqb w.from place ≡ true) =
        of_filter (λ (v : Arrow). eqb v.from place) plan.arrows w one.1.there in
        let arrow : IsArrow d is w = (made.arrows.exactly w).0 (contains_from plan.arrows w there.0) in
        absurd (omega (arith, above, eqb-true w.from place there.1, is_within d is w.account w.from arrow.tail))

-- a parcel that stands after no place goes nowhere
pub goes-nowhere : (d : DirectoryValue) (is : List Instruction) (plan : PlanValue) (p : ParcelValue)
    → ∥ IsPlan d is plan ∥₁ → length is < p.after → goes_to plan p ≡ None
goes-nowhere d is plan p planned above =
    ap (λ b. if b then first_at plan p.value.number else head_of plan p.after p.value.number)
    (ne_eqb p.after 0 (λ e. omega (arith, e, above)))
    ∙ ∥∥₁_elim planned (Prim.hlevel props) (λ made. no-arrow d is plan made p.after p.value.number above)
