use Rattle.reg_book.proofs.Directories.{empty_draft}
use Rattle.reg_book.proofs.draft.BookDraft.new.Goals as goal

pub invariant_of-result : goal.invariant_of-result
invariant_of-result c = empty_draft c.new.result.items c.empty.result c.args.next c.new.ensures.items c.empty.ensures
    c.requires
