-- What a reversal makes of the compliance figure.
use Rattle.std.proofs.Common.{◌≡◌, ℕ, Bool, ◌&&◌, ℤ, pos, ◌-ℤ◌, Option, Some, None, Result, Ok, Err, refl, sym, ap, ◌∙◌}
use Rattle.std.proofs.Common.{arith}
use Rattle.std.proofs.lemmas.Int.{ints}
use Rattle.std.specs.Option.{option_map_or}
use Rattle.reg_base.specs.Rules.{RulesValue}
use Rattle.reg_account.specs.declared.rows.RetirementRow.{RetirementRow}
use Rattle.reg_account.specs.declared.figure.FigureFault.{FigureFault}
use Rattle.reg_account.specs.Rows.{row_in}
use Rattle.reg_account.specs.Account.{AccountValue, IsAccount, unretired, unretired_row}
use Rattle.reg_account.specs.Figure.{figure_of}
use Rattle.reg_account.specs.Laws.{FigureLaws, lowered_by}
use Rattle.reg_rules.specs.Checks.{counted_amount, becomes_negative, is_compliant, is_negative}

minus-zero : (figure : ℤ) → figure -ℤ pos 0 ≡ figure
minus-zero figure = omega (arith, ints)

lowered-by-none : (r : Result ℤ FigureFault) → lowered_by 0 r ≡ r
lowered-by-none (Ok figure) = ap Ok (minus-zero figure)
lowered-by-none (Err fault) = refl

-- by how much the figure of the year falls if this row is reversed
abbrev lost_by : RulesValue → ℕ → Option RetirementRow → ℕ
lost_by rules year found = option_map_or (counted_amount rules year) found 0

module _ (laws : FigureLaws) (rules : RulesValue) (v : AccountValue) (number year : ℕ) (is : IsAccount v) where
  -- the figure falls by what is lost by the reversal
  after-reversal : figure_of rules (unretired v number) year
      ≡ lowered_by (lost_by rules year (row_in v.rows number)) (figure_of rules v year)
  after-reversal = go (row_in v.rows number) refl where
    go : (o : Option RetirementRow) → row_in v.rows number ≡ o
        → figure_of rules (option_map_or (unretired_row number v) o v) year
        ≡ lowered_by (lost_by rules year o) (figure_of rules v year)
    go None found = sym (lowered-by-none (figure_of rules v year))
    go (Some row) found = ap (λ o. figure_of rules (option_map_or (unretired_row number v) o v) year) (sym found)
        ∙ laws.unretire rules v number row year is found

  pub becomes-answer : (row : RetirementRow) (figure : Result ℤ FigureFault) (lost : ℕ) (r : Bool)
      → row_in v.rows number ≡ Some row → figure ≡ figure_of rules v year → lost ≡ counted_amount rules year row
      → r ≡ (is_compliant figure && is_negative (lowered_by lost figure)) → r ≡ becomes_negative rules number v year
  becomes-answer row figure lost r there found falls answer =
      answer
      ∙ ap (λ n. is_compliant figure && is_negative (lowered_by n figure)) (falls ∙ ap (lost_by rules year) (sym there))
      ∙ ap (λ f. is_compliant f && is_negative (lowered_by (lost_by rules year (row_in v.rows number)) f)) found
      ∙ ap (λ f. is_compliant (figure_of rules v year) && is_negative f) (sym after-reversal)
