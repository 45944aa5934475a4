use Rattle.std.proofs.Common.{◌≡◌, sym, ap, ◌∙◌, subst, leb, Some, List, length, ◌-◌}
use Rattle.std.specs.Prelude.{slice_get}
use Rattle.std.specs.Option.{option_copied}
use Rattle.reg_base.specs.Rising.{IsRising}
use Rattle.reg_account.specs.declared.rows.RetirementRow.{RetirementRow}
use Rattle.reg_account.specs.Rows.{row_numbers}
use Rattle.reg_book.proofs.Directories.{ahead_by_last, ahead_of_none}
use Rattle.reg_book.proofs.draft.has_row_ahead.Goals as goal

pub returns-in-Some : goal.returns-in-Some
returns-in-Some c =
    let rows = c.args.account.now.rows in
    let at : Some c.in-Some.row.now ≡ slice_get rows (length rows - 1) =
    ap option_copied (sym c.in-Some.is) ∙ c.last.ensures.value
    ∙ ap (λ (xs : List RetirementRow). slice_get xs (length xs - 1)) c.rows.ensures.value in
    let found = ahead_by_last c.args.next rows c.in-Some.row.now
    (subst (λ (xs : List RetirementRow). IsRising (row_numbers xs)) c.rows.ensures.value c.rows.ensures.fit.rise)
    at in
    ap (leb c.args.next) c.get.ensures.value ∙ sym found

pub returns-in-None : goal.returns-in-None
returns-in-None c =
    let rows = c.args.account.now.rows in
    sym (ahead_of_none c.args.next rows (ap option_copied (sym c.in-None.is) ∙ c.last.ensures.value
    ∙ ap (λ (xs : List RetirementRow). slice_get xs (length xs - 1)) c.rows.ensures.value))
