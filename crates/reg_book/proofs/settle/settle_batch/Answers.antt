use Rattle.std.proofs.Common.{List, ◌≡◌, ◌+◌, rules, length, sym, ap, ◌∙◌, subst}
use Rattle.reg_rules.specs.declared.reply.Reply.{Reply}
use Rattle.reg_rules.specs.State.{State, Setting, numbers}
use Rattle.reg_rules.specs.Laws.{IsReady}
use Rattle.reg_book.specs.Book.{directory_of}
use Rattle.reg_book.specs.Day.{DayValue, IsDay, day_of}
use Rattle.reg_book.specs.Fold.{touched_of}
use Rattle.reg_book.specs.Indexes.{AllStandAt, index_lists}
use Rattle.reg_book.specs.Settled.{IsSettled, IsOfBook}
use Rattle.reg_book.proofs.lemmas.Logs.{length-replies_of}
use Rattle.reg_book.proofs.Days.{day-made, log-made, settled-kept, settled-of_book, touched-ready}
use Rattle.reg_book.proofs.settle.settle_batch.Goals as goal
use Rattle.reg_book.proofs.settle.settle_batch.Goals.{After-deref}

table : (c : After-deref)
    → c.deref_mut.result.now ≡ touched_of (directory_of c.args.book.now.accounts) c.args.batch.now.instructions
    c.args.book.now.accounts
table c =
    c.deref_mut.ensures.value ∙ c.in_ok-accounts.ensures.accounts
    ∙ ap (λ is. touched_of (directory_of c.accounts.result.now) is c.accounts.result.now) c.instructions.ensures
    ∙ ap (λ (s : State). touched_of (directory_of s) c.args.batch.now.instructions s) c.accounts.ensures.value

-- the day, as the calls tell it
kept : (c : After-deref) → IsDay (day_of c.args.book.now c.args.rules.now c.args.batch.now)
kept c = record {
  book = c.accounts.ensures.kept;
  rules = c.are_within_limits.ensures;
  batch = c.base-base.ensures.room;
  follows = c.requires;
}

pub settle_all-requires-clause-ready : goal.settle_all-requires-clause-ready
settle_all-requires-clause-ready c =
    subst (IsReady (c.args.batch.now.base + 1)) (sym (table c))
    (touched-ready c.step_laws.ensures (day_of c.args.book.now c.args.rules.now c.args.batch.now) (kept c))

pub settle_all-requires-clause-indexes : goal.settle_all-requires-clause-indexes
settle_all-requires-clause-indexes c =
    let ps = index_lists c.in_ok-accounts.field-0.indexes.items in
    let directory = c.directory-directory.result.now in
    let listed = subst (λ d. AllStandAt d (numbers c.in_ok-accounts.field-0.accounts.items) ps
    c.instructions.result.now) (ap directory_of c.accounts.ensures.value ∙ sym c.directory-directory.ensures)
    c.in_ok-accounts.ensures.indexes in
    let first = subst (AllStandAt directory (numbers c.in_ok-accounts.field-0.accounts.items) ps) c.instructions.ensures
    listed in
    let second = subst (λ (s : State). AllStandAt directory (numbers s) ps c.args.batch.now.instructions)
    (sym c.deref_mut.ensures.value) first in
    subst (λ vs. AllStandAt directory (numbers c.deref_mut.result.now) (index_lists vs) c.args.batch.now.instructions)
    (sym c.deref.ensures.value) second

pub make_log-requires : goal.make_log-requires
make_log-requires c =
    let setting : Setting = record {
      rules = c.args.rules.now;
      day = c.day.result;
      directory = c.directory-directory.result.now;
    } in
    ap (λ (replies : List Reply). length replies) c.in_ok-replies.ensures.replies
    ∙ length-replies_of setting c.deref_mut.result.now (c.args.batch.now.base + 1) c.args.batch.now.instructions

pub new-requires : goal.new-requires
new-requires c =
    let day : DayValue = day_of c.args.book.now c.args.rules.now c.args.batch.now in
    let size : c.in_ok-accounts.field-0.accounts.len ≡ length c.in_ok-accounts.field-0.accounts.items = search rules in
    let setting : Setting = record {
      rules = c.args.rules.now;
      day = c.day.result;
      directory = c.directory-directory.result.now;
    } in
    let logged = log-made setting c.deref_mut.result.now c.args.batch.now c.in_ok-replies.replies.items
    c.in_ok-rows.rows.items c.day.ensures c.in_ok-replies.ensures.replies c.in_ok-rows.ensures in
    let made = day-made c.step_laws.ensures day c.day.result c.directory-directory.result.now c.instructions.result.now
    c.accounts.result.now
    c.in_ok-accounts.field-0.accounts.items c.deref_mut.result.now c.settle_all.new.accounts c.in_ok-rows.rows.items
    c.base-base.result c.in_ok-accounts.field-0.accounts.len
    c.accounts.ensures.kept c.day.ensures c.directory-directory.ensures c.instructions.ensures c.accounts.ensures.value
    c.in_ok-accounts.ensures.accounts c.deref_mut.ensures.value
    logged c.in_ok-replies.ensures.accounts c.base-base.ensures.value size in
    subst IsSettled (sym made) (settled-kept c.step_laws.ensures day c.accounts.ensures.kept c.base-base.ensures.room)

pub returns-clause-settled : goal.returns-clause-settled
returns-clause-settled c =
    let size : c.in_ok-accounts.field-0.accounts.len ≡ length c.in_ok-accounts.field-0.accounts.items = search rules in
    let setting : Setting = record {
      rules = c.args.rules.now;
      day = c.day.result;
      directory = c.directory-directory.result.now;
    } in
    let logged = log-made setting c.deref_mut.result.now c.args.batch.now c.in_ok-replies.replies.items
    c.in_ok-rows.rows.items c.day.ensures c.in_ok-replies.ensures.replies c.in_ok-rows.ensures in
    c.new.ensures
    ∙ day-made c.step_laws.ensures (day_of c.args.book.now c.args.rules.now c.args.batch.now) c.day.result
    c.directory-directory.result.now c.instructions.result.now c.accounts.result.now
    c.in_ok-accounts.field-0.accounts.items c.deref_mut.result.now c.settle_all.new.accounts c.in_ok-rows.rows.items
    c.base-base.result c.in_ok-accounts.field-0.accounts.len
    c.accounts.ensures.kept c.day.ensures c.directory-directory.ensures c.instructions.ensures c.accounts.ensures.value
    c.in_ok-accounts.ensures.accounts c.deref_mut.ensures.value
    logged c.in_ok-replies.ensures.accounts c.base-base.ensures.value size

pub returns-clause-of_book : goal.returns-clause-of_book
returns-clause-of_book c =
    subst (IsOfBook c.args.book.now) (sym (returns-clause-settled c))
    (settled-of_book c.step_laws.ensures (day_of c.args.book.now c.args.rules.now c.args.batch.now)
    (record {
      book = c.accounts.ensures.kept;
      rules = c.are_within_limits.ensures;
      batch = c.base-base.ensures.room;
      follows = c.requires;
    }))
