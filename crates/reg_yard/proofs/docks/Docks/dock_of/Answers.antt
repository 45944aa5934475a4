use Rattle.std.proofs.Common.{◌≡◌, ◌+◌, ◌-◌, length, arith, ap, ◌∙◌, subst}
use Rattle.std.specs.Prelude.{IfSome}
use Rattle.reg_base.specs.Rising.{count_up}
use Rattle.reg_yard.specs.Docks.{dock_places}
use Rattle.reg_yard.proofs.Starting.{dock-there}
use Rattle.reg_yard.proofs.docks.Docks.dock_of.Goals as goal

pub returns : goal.returns
returns g c =
    let docks = c.args.self.now in
    let n = length docks.context.now.batch.now.instructions in
    let i = c.args.place - 1 in
    let same : dock_places c.deref.result.now ≡ count_up 1 n = ap dock_places c.deref.ensures.value ∙ docks.in_order in
    let back : i + 1 ≡ c.args.place = omega (arith, c.if-place-eq0.false) in
    subst (λ p. IfSome c.get.result (λ dock. dock.now.place ≡ p)) back
    (dock-there c.deref.result.now n i c.get.result same c.get.ensures.lookup)
