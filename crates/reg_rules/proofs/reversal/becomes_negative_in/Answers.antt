use Rattle.std.proofs.Common.{List, ◌∙◌, ap, sym, false}
use Rattle.std.specs.Prelude.{find, reverse}
use Rattle.std.specs.Option.{option_map_or}
use Rattle.reg_account.specs.declared.years.Figure.{Figure}
use Rattle.reg_base.specs.Rules.{is_year_of}
use Rattle.reg_rules.specs.Checks.{becomes_negative}
use Rattle.reg_rules.proofs.reversal.becomes_negative_in.Goals as goal

pub returns-in-Some : goal.returns-in-Some
returns-in-Some c =
    let a = c.args in
    c.becomes_negative.ensures
    ∙ ap (λ o. option_map_or (λ (latest : Figure). becomes_negative a.rules.now a.number a.account.now latest.year) o
    false)
    (sym c.in-Some.is ∙ c.latest_determined.ensures
    ∙ ap (λ (figures : List Figure). find (λ f. is_year_of a.rules.now a.period f.year) (reverse figures))
    c.all_figures.ensures.value)
