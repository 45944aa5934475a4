use Rattle.std.proofs.Common.{◌≡◌, ◌++◌, ◌∷◌, [], ◌∙◌, ap}
use Rattle.reg_book.proofs.Directories.{more_draft}
use Rattle.reg_book.proofs.draft.BookDraft.insert.Goals as goal

pub invariant_of-self-in-Ok : goal.invariant_of-self-in-Ok
invariant_of-self-in-Ok c =
    let pushed : c.push.new.self.items ≡ c.self.inside.accounts.items ++ c.args.account ∷ [] =
    (rw c.unwrap.ensures at c.push.ensures.items) ∙ ap (λ xs. xs ++ c.args.account ∷ []) c.in-Ok.ensures.items in
    more_draft c.self.inside.accounts.items c.push.new.self.items c.args.account c.self.inside.directory
    c.admit.new.directory c.self.inside.next c.self.invariant pushed c.in-Ok.ensures.entered c.in-Ok.ensures.fault
    c.in-Ok.ensures.within_limits
