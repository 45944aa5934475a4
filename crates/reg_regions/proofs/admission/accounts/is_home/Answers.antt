use Rattle.std.proofs.Common.{◌≡◌, ◌-◌, [], Some, rules, true, ap, sym, subst, ◌∙◌}
use Rattle.std.specs.Prelude.{slice_get}
use Rattle.std.specs.Option.{option_map_or}
use Rattle.reg_base.specs.declared.movement.Movement.{Movement}
use Rattle.reg_base.specs.Acts.{parties_of, parties, other_known, also_known}
use Rattle.reg_base.specs.Directory.{is_known}
use Rattle.reg_base.specs.Footprint.{footprint, each_once}
use Rattle.reg_rules.specs.State.{Setting, numbers}
use Rattle.reg_book.specs.Indexes.{StandAt}
use Rattle.reg_regions.proofs.Known.{footprint-there}
use Rattle.reg_regions.proofs.admission.accounts.is_home.Goals as goal

pub returns : goal.returns
returns c truth =
    let act = c.at-instruction.result.now.act in
    let d = c.args.setting.now.directory in
    let ns = numbers c.args.accounts.now in
    let indexes = c.args.indexes.now.items in
    let m = c.movement-movement.ensures in
    let inside = c.setting.inside.directory.now in
    let asked : option_map_or (is_known inside) (also_known act) true ≡ true =
    ap (λ (x : Movement). option_map_or (is_known inside) (other_known x.change) true) (sym m)
    ∙ ap (λ o. option_map_or (is_known inside) o true) (sym c.also_known.ensures) ∙ sym c.is_known_if_any.ensures
    ∙ c.if-not-is_known_if_any.false in
    let other : option_map_or (is_known d) (also_known act) true ≡ true =
    subst (λ (k : Setting). option_map_or (is_known k.directory) (also_known act) true ≡ true) c.setting.view_is
    asked in
    let same : c.as_slice-3.result.now ≡ each_once (parties act) = c.as_slice-3.ensures.value
    ∙ c.parties-parties.ensures ∙ ap (λ (x : Movement). each_once (parties_of x)) m in
    let own : c.as_slice-2.result.now ≡ indexes = c.as_slice-2.ensures.value in
    let there : StandAt ns indexes (each_once (parties act)) =
    subst (StandAt ns indexes) same
    (subst (λ own. StandAt ns own c.as_slice-3.result.now) own (c.stand_at-2.ensures truth)) in
    let at : slice_get c.args.batch.now.instructions (c.args.place - 1) ≡ Some c.at-instruction.result.now =
    c.at-instruction.ensures in
    record {
      from_one = search rules;
      within = search rules;
      there = subst (λ o. StandAt ns indexes (option_map_or (λ i. footprint d i.act) o [])) (sym at)
          (footprint-there d act ns indexes c.requires other there);
    }
