use Rattle.reg_book.proofs.Orders.{kept}
use Rattle.reg_book.proofs.draft.BookDraft.finish.Goals as goal

pub from_sorted-requires : goal.from_sorted-requires
from_sorted-requires c = kept c.self.inside.accounts.items c.put_in_order.new.accounts.items c.self.inside.directory
    c.self.inside.next c.self.invariant c.put_in_order.ensures.same c.put_in_order.ensures.len
    c.put_in_order.ensures.rising
