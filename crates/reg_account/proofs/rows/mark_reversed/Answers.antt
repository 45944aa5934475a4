use Rattle.std.proofs.Common.{sym, ap, ◌∙◌, Some, get_or}
use Rattle.reg_account.specs.Rows.{row_numbers}
use Rattle.reg_account.proofs.Keyed.{from_zero, item_at}
use Rattle.reg_account.proofs.RowFacts.{number_at, marked_set}
use Rattle.reg_account.proofs.rows.mark_reversed.Goals as goal

pub returns-clause-row : goal.returns-clause-row
returns-clause-row c =
    let rows = c.args.rows.now in
    let d = c.index-rows-index.result in
    item_at (λ v. v.number) 0 rows (from_zero _ c.requires.rising) c.args.index
    (get_or (row_numbers rows) c.args.index 0) d c.requires.within
    (sym (number_at rows c.args.index d c.requires.within))
    ∙ ap Some (sym c.index-rows-index.is)

pub returns-clause-marked : goal.returns-clause-marked
returns-clause-marked c =
    let rows = c.args.rows.now in
    let d = c.index-rows-index-2.result in
    marked_set 0 rows (from_zero _ c.requires.rising) c.args.index (get_or (row_numbers rows) c.args.index 0) d
    c.requires.within (sym (number_at rows c.args.index d c.requires.within))
