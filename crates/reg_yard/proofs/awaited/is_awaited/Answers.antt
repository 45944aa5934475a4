use Rattle.std.proofs.Common.{◌≡◌, ℕ, ◌&&◌, Bool, true, false, refl, sym, ap, ◌∙◌}
use Rattle.std.specs.Prelude.{not, is_some}
use Rattle.std.specs.List.{list_any}
use Rattle.reg_schedules.specs.Docks.{awaited, of_name, still_awaited, is_name}
use Rattle.reg_tasks.specs.Contexts.{the_day}
use Rattle.reg_tasks.specs.Parcels.{parcels_of}
use Rattle.reg_yard.proofs.Wanted.{still-any}
use Rattle.reg_yard.proofs.awaited.is_awaited.Goals as goal

twice : (b : Bool) → not (not b) ≡ b
twice true = refl
twice false = refl

pub returns-then-is_needed : goal.returns-then-is_needed
returns-then-is_needed g c =
    let day = the_day c.args.context.now in
    let plan = c.args.context.now.plan in
    let came = parcels_of c.args.came.now in
    let name : ℕ × ℕ = (c.args.parcel.now.value.number, c.args.parcel.now.after) in
    sym (twice (list_any (is_name name) (still_awaited day plan c.args.place came))
    ∙ still-any came name (awaited day plan c.args.place)
    ∙ ap (λ b. b && not (is_some (of_name came name))) (sym c.is_needed.ensures ∙ c.if-is_needed.true)
    ∙ ap not (sym c.has_come.ensures))

pub returns-else-is_needed : goal.returns-else-is_needed
returns-else-is_needed g c =
    let day = the_day c.args.context.now in
    let plan = c.args.context.now.plan in
    let came = parcels_of c.args.came.now in
    let name : ℕ × ℕ = (c.args.parcel.now.value.number, c.args.parcel.now.after) in
    c.if-is_needed.false
    ∙ sym (twice (list_any (is_name name) (still_awaited day plan c.args.place came))
    ∙ still-any came name (awaited day plan c.args.place)
    ∙ ap (λ b. b && not (is_some (of_name came name))) (sym c.is_needed.ensures ∙ c.if-is_needed.false))
