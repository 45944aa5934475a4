use mir.Syntax.{w64}
use mir.Val.{SFits}
use Rattle.std.proofs.lemmas.Int.{to_z-of_z}
use Rattle.std.proofs.Common.{◌≡◌, rules, sym, ap, ◌∙◌, Some}
use Rattle.std.specs.Option.{option_map}
use Rattle.std.proofs.lemmas.Fn.{always_returns_same}
use Rattle.reg_account.specs.declared.years.Figure.{Figure}
use Rattle.reg_account.proofs.Keyed.{from_zero, none_found, number_found, item_at}
use Rattle.reg_account.proofs.years.find_figure.Goals as goal

pub returns-in-Ok : goal.returns-in-Ok
returns-in-Ok c =
    let searched = c.binary_search_by_key.ensures.position (λ v. v.year)
    (always_returns_same _ (λ a r. r ≡ a.0.now.year) _ (λ a r q k. search rules)) in
    let found = rw c.in-Ok.is at searched in
    let within = rw c.in-Ok.is at c.binary_search_by_key.ensures.bound in
    let xs = c.args.figures.now in
    let d = c.index-figures-index.result in
    let read : SFits w64 c.tonnes_of.result = search rules in
    ap Some (to_z-of_z w64 c.tonnes_of.result read ∙ c.tonnes_of.ensures
    ∙ ap (λ (f : Figure). f.tonnes) c.index-figures-index.is)
    ∙ sym (ap (option_map (λ (e : Figure). e.tonnes))
    (item_at (λ (v : Figure). v.year) 0 xs (from_zero _ c.requires) c.in-Ok.index c.args.year d within
    (number_found (λ (v : Figure). v.year) xs c.args.year c.in-Ok.index d found)))

pub returns-in-Err : goal.returns-in-Err
returns-in-Err c =
    let searched = c.binary_search_by_key.ensures.position (λ v. v.year)
    (always_returns_same _ (λ a r. r ≡ a.0.now.year) _ (λ a r q k. search rules)) in
    let absent = rw c.in-Err.is at searched in
    sym (ap (option_map (λ (e : Figure). e.tonnes))
    (none_found (λ (v : Figure). v.year) c.args.figures.now c.args.year _ (from_zero _ c.requires) absent))
