use Rattle.std.proofs.Common.{◌+◌, ◌++◌, sym, ap, ◌∙◌, arith}
use Rattle.std.proofs.lemmas.List.{append-nil}
use Rattle.reg_text.proofs.EntryFacts.{log_text, none-left}
use Rattle.reg_text.proofs.writing.entries.put_entries.Goals as goal

pub returns : goal.returns
returns c =
    let text = c.loop-index.text in
    let over = none-left c.args.day (c.loop-index.entry + 1) c.loop-index.index c.args.instructions.now
    c.args.replies.now (omega (arith, c.min-index-end.ensures, c.loop-index-test.false)) in
    sym (append-nil text) ∙ ap (λ rows. text ++ log_text rows) (sym over) ∙ c.loop-index.invariant.whole
