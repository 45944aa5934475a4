use Rattle.std.proofs.Common.{◌≡◌, [], true, false, refl, ap, sym, ◌∙◌, subst}
use Rattle.std.specs.Option.{option_map_or}
use Rattle.std.specs.List.{list_all}
use Rattle.reg_base.specs.declared.movement.Movement.{Movement}
use Rattle.reg_base.specs.Acts.{parties_of, parties, other_known, also_known}
use Rattle.reg_base.specs.Directory.{is_known}
use Rattle.reg_base.specs.Footprint.{each_once}
use Rattle.reg_rules.specs.State.{numbers}
use Rattle.reg_book.specs.Book.{directory_of}
use Rattle.reg_book.specs.Indexes.{StandAt}
use Rattle.reg_book.proofs.Footprints.{footprint-known, footprint-unknown}
use Rattle.reg_book.proofs.indexes.indexes_of.Goals as goal

pub returns-in-Some : goal.returns-in-Some
returns-in-Some c =
    let act = c.args.instruction.now.act in
    let d = directory_of c.args.accounts.now in
    let same : c.as_slice.result.now ≡ each_once (parties act) = c.as_slice.ensures.value ∙ c.parties-parties.ensures
    ∙ ap (λ (m : Movement). each_once (parties_of m)) c.movement-movement.ensures in
    let other : option_map_or (is_known d) (also_known act) true ≡ true =
    ap (λ (m : Movement). option_map_or (is_known d) (other_known m.change) true) (sym c.movement-movement.ensures)
    ∙ ap (λ o. option_map_or (is_known d) o true) (sym c.also_known.ensures) ∙ sym c.is_there.ensures
    ∙ c.if-not-is_there.false in
    let known : list_all (is_known d) (each_once (parties act)) ≡ true =
    ap (list_all (is_known d)) (sym same) ∙ c.in-Some.ensures.known in
    subst (StandAt (numbers c.args.accounts.now) c.in-Some.indexes.items) (same ∙ footprint-known d act other known)
    c.in-Some.ensures.indexes

pub returns-in-None : goal.returns-in-None
returns-in-None c =
    let act = c.args.instruction.now.act in
    let d = directory_of c.args.accounts.now in
    let s = numbers c.args.accounts.now in
    let same : c.as_slice.result.now ≡ each_once (parties act) = c.as_slice.ensures.value ∙ c.parties-parties.ensures
    ∙ ap (λ (m : Movement). each_once (parties_of m)) c.movement-movement.ensures in
    let unknown : list_all (is_known d) (each_once (parties act)) ≡ false =
    ap (list_all (is_known d)) (sym same) ∙ c.in-None.ensures.known in
    subst (StandAt s c.new-in-None.result.items) (footprint-unknown d act unknown)
    (subst (λ ps. StandAt s ps []) (sym c.new-in-None.ensures) (record { within = tt; are_there = refl }))
