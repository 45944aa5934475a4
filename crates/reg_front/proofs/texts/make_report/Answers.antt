use Rattle.reg_text.specs.Inputs.{day_of_parts}
use Rattle.reg_front.specs.Made.{text_made}
use Rattle.reg_front.proofs.Reports.{reported}
use Rattle.reg_front.proofs.texts.make_report.Goals as goal

pub returns-clause-text : goal.returns-clause-text
returns-clause-text g c =
    let closed = c.in_ok-closed.closed in
    let used = c.in_ok-used.used in
    reported c.log_is_made_again.ensures (day_of_parts c.args.day) closed.parts closed.replies.items
    (text_made used) c.in_ok-closed.ensures.book c.in_ok-closed.ensures.replies c.in_ok-used.ensures
