use Rattle.std.proofs.Common.{ap, ◌∙◌}
use Rattle.reg_book.specs.Book.{BookValue}
use Rattle.reg_book.specs.Day.{day_of, replies_of}
use Rattle.reg_front.proofs.texts.close_day.Goals as goal

pub returns-clause-replies : goal.returns-clause-replies
returns-clause-replies g c =
    c.in_ok-closed.ensures.replies
    ∙ ap (λ (b : BookValue). replies_of (day_of b c.args.rules.now c.args.batch.now)) c.in-Ok.ensures
