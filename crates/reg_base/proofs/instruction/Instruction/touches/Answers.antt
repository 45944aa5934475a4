use Rattle.std.proofs.Common.{◌++◌, cond, [], sym, ap, ◌∙◌}
use Rattle.std.specs.Option.{option_to_list}
use Rattle.std.specs.List.{list_all}
use Rattle.reg_base.specs.declared.movement.Movement.{Movement}
use Rattle.reg_base.specs.Acts.{parties_of, other_known}
use Rattle.reg_base.specs.Directory.{is_known}
use Rattle.reg_base.specs.Footprint.{each_once}
use Rattle.reg_base.proofs.instruction.Instruction.touches.Goals as goal

pub returns-then-knows_all : goal.returns-then-knows_all
returns-then-knows_all c =
    let d = c.args.directory.now in
    let m = c.movement-movement.result in
    c.parties.ensures
    ∙ ap (λ b. cond b (each_once (parties_of m)) []) (sym c.if-knows_all.true ∙ c.knows_all.ensures)
    ∙ ap (λ (n : Movement). cond (list_all (is_known d) (parties_of n ++ option_to_list (other_known n.change)))
    (each_once (parties_of n)) []) c.movement-movement.ensures

pub returns-else-knows_all : goal.returns-else-knows_all
returns-else-knows_all c =
    let d = c.args.directory.now in
    let m = c.movement-movement.result in
    c.none.ensures
    ∙ ap (λ b. cond b (each_once (parties_of m)) []) (sym c.if-knows_all.false ∙ c.knows_all.ensures)
    ∙ ap (λ (n : Movement). cond (list_all (is_known d) (parties_of n ++ option_to_list (other_known n.change)))
    (each_once (parties_of n)) []) c.movement-movement.ensures
