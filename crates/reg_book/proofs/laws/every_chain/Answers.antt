use Rattle.reg_book.proofs.Chains.{book-days, numbers-days, laws-plain, laws-by_hand}
use Rattle.reg_book.proofs.laws.every_chain.Goals as goal

pub returns : goal.returns
returns c =
    let closing = c.settled_is_closing.ensures.committed in
    record {
      books = book-days closing c.stays_ready.ensures c.settled_is_of_book.ensures.of_book;
      accounts = numbers-days closing c.untouched_stay.ensures.numbers;
      plain = laws-plain closing c.fold_keeps_closed.ensures.value c.fold_conserves.ensures;
      by_hand = laws-by_hand closing c.fold_keeps_closed.ensures.value c.fold_conserves.ensures;
    }
