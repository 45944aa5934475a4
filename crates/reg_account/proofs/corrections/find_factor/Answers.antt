use mir.Syntax.{w64}
use mir.Val.{SFits}
use Rattle.std.proofs.lemmas.Int.{to_z-of_z}
use Rattle.std.proofs.Common.{rules, sym, ap, ◌∙◌}
use Rattle.std.specs.Prelude.{Option, pos}
use Rattle.std.specs.Option.{option_map_or}
use Rattle.reg_account.specs.declared.corrections.Correction.{Correction}
use Rattle.reg_account.proofs.corrections.find_factor.Goals as goal

pub returns-in-Some : goal.returns-in-Some
returns-in-Some c =
    let read : SFits w64 c.factor_of.result = search rules in
    to_z-of_z w64 c.factor_of.result read
    ∙ c.factor_of.ensures
    ∙ ap (λ (o : Option Correction). option_map_or (λ x. x.factor) o (pos 0))
    (sym c.in-Some.is ∙ c.find_correction.ensures)

pub returns-in-None : goal.returns-in-None
returns-in-None c = ap (λ (o : Option Correction). option_map_or (λ x. x.factor) o (pos 0))
    (sym c.in-None.is ∙ c.find_correction.ensures)
