use Rattle.std.proofs.Common.{◌&&◌, true, sym, ap, ◌∙◌}
use Rattle.std.specs.Option.{option_map_or}
use Rattle.reg_base.specs.Acts.{other_known}
use Rattle.reg_base.specs.Directory.{is_known}
use Rattle.reg_base.proofs.Known.{in-all-three}
use Rattle.reg_base.proofs.instruction.knows_all.Goals as goal

pub returns-then-knows_parties : goal.returns-then-knows_parties
returns-then-knows_parties c =
    let test = is_known c.args.directory.now in
    let m = c.args.movement.now in
    c.knows_other.ensures
    ∙ ap (λ o. option_map_or test o true) c.also_known.ensures
    ∙ sym (in-all-three test m.first m.shares (other_known m.change)
    ∙ ap (λ b. b && option_map_or test (other_known m.change) true) (sym c.knows_parties.ensures
    ∙ c.if-knows_parties.true))

pub returns-else-knows_parties : goal.returns-else-knows_parties
returns-else-knows_parties c =
    let test = is_known c.args.directory.now in
    let m = c.args.movement.now in
    c.if-knows_parties.false ∙ sym (in-all-three test m.first m.shares (other_known m.change)
    ∙ ap (λ b. b && option_map_or test (other_known m.change) true) (sym c.knows_parties.ensures
    ∙ c.if-knows_parties.false))
