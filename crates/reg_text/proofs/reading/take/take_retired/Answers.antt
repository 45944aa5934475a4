use Rattle.std.proofs.Common.{◌∙◌, sym}
use Rattle.reg_text.proofs.Names.{read_behind, fields_of}
use Rattle.reg_text.specs.declared.reading.tag.Tag.TheVariants as tag
use Rattle.reg_text.proofs.FirstRows.{row-unread, row-refused, row-taken, takes-fault}
use Rattle.reg_text.proofs.reading.take.take_retired.Goals as goal

pub returns-in_err-retired : goal.returns-in_err-retired
returns-in_err-retired c =
    let read = sym (rw c.scope.ensures at c.read_retired_row.ensures) ∙ c.in_err-retired.was {u = tt} in
    takes-fault _ _ _ _ c.from_residual.ensures.1
    (row-unread tag.Retired (read_behind c.args.heading.now c.args.body.now) (fields_of c.args.row.now) _ read)

pub returns-in_err-check_row : goal.returns-in_err-check_row
returns-in_err-check_row c =
    let read = sym (rw c.scope.ensures at c.read_retired_row.ensures) ∙ c.in_ok-retired.was {u = tt} in
    takes-fault _ _ _ _ c.from_residual-in_err-check_row.ensures.1
    (row-refused tag.Retired (read_behind c.args.heading.now c.args.body.now) (fields_of c.args.row.now)
    c.in_ok-retired.retired _ read
    (sym c.check_row.ensures ∙ c.in_err-check_row.was {u = tt}))

pub returns : goal.returns
returns c =
    let read = sym (rw c.scope.ensures at c.read_retired_row.ensures) ∙ c.in_ok-retired.was {u = tt} in
    let passes = sym c.check_row.ensures ∙ c.in_ok-check_row.was {u = tt} in
    rw (c.in_ok-push_row.ensures {u = tt}).ok
    (row-taken tag.Retired (read_behind c.args.heading.now c.args.body.now) (fields_of c.args.row.now)
    c.in_ok-retired.retired read
    passes)
