use Rattle.std.proofs.Common.{List, ◌≡◌, ◌+◌, length, rules, arith, sym, ap, subst, ◌∙◌}
use Rattle.reg_rules.specs.declared.reply.Reply.{Reply}
use Rattle.reg_rules.specs.Laws.{IsReady}
use Rattle.reg_book.specs.Day.{DayValue, IsDay, day_of}
use Rattle.reg_book.proofs.lemmas.Logs.{length-replies_of}
use Rattle.reg_book.proofs.Closings.{whole-after, kept-after_day, committed-after_day}
use Rattle.reg_book.proofs.Values.{ready-book}
use Rattle.reg_book.proofs.closing.settle_in_place.Goals as goal

pub settle_all-requires-clause-ready : goal.settle_all-requires-clause-ready
settle_all-requires-clause-ready c =
    let day : DayValue = day_of c.args.book c.args.rules.now c.args.batch.now in
    let kept : IsDay day = record {
      book = c.into_parts-accounts.ensures.kept;
      rules = c.are_within_limits.ensures;
      batch = c.base.ensures.room;
      follows = c.requires;
    } in
    subst (IsReady (c.args.batch.now.base + 1))
    (sym (c.deref_mut.ensures.value ∙ c.into_parts-accounts.ensures.accounts))
    (ready-book c.step_laws.ensures day kept)

pub from_sorted-requires : goal.from_sorted-requires
from_sorted-requires c =
    let day : DayValue = day_of c.args.book c.args.rules.now c.args.batch.now in
    let kept : IsDay day = record {
      book = c.into_parts-accounts.ensures.kept;
      rules = c.are_within_limits.ensures;
      batch = c.base.ensures.room;
      follows = c.requires;
    } in
    let size : c.into_parts-accounts.result.0.len ≡ length c.into_parts-accounts.result.0.items = search rules in
    let closed = whole-after c.step_laws.ensures day c.day.result c.into_parts-accounts.result.1
    c.into_parts-accounts.result.0.items c.deref_mut.result.now c.settle_all.new.accounts
    c.into_parts-accounts.result.0.len
    c.day.ensures c.into_parts-accounts.ensures.directory c.into_parts-accounts.ensures.accounts
    c.deref_mut.ensures.value size c.in_ok-replies.ensures.accounts in
    let logged = ap (λ (replies : List Reply). length replies) c.in_ok-replies.ensures.replies
    ∙ length-replies_of (record {
      rules = c.args.rules.now;
      day = c.day.result;
      directory = c.into_parts-accounts.result.1;
    }) c.deref_mut.result.now
    (c.args.batch.now.base + 1) c.args.batch.now.instructions in
    let counted : c.len-count.result ≡ length c.args.batch.now.instructions =
    omega (arith, c.len-count.ensures, logged) in
    kept-after_day c.step_laws.ensures day _ c.into_parts-accounts.result.1 c.into_parts-accounts.result.2
    c.len-count.result kept closed c.into_parts-accounts.ensures.directory c.into_parts-accounts.ensures.next
    counted

pub returns-clause-book : goal.returns-clause-book
returns-clause-book c =
    let day : DayValue = day_of c.args.book c.args.rules.now c.args.batch.now in
    let size : c.into_parts-accounts.result.0.len ≡ length c.into_parts-accounts.result.0.items = search rules in
    let closed = whole-after c.step_laws.ensures day c.day.result c.into_parts-accounts.result.1
    c.into_parts-accounts.result.0.items c.deref_mut.result.now c.settle_all.new.accounts
    c.into_parts-accounts.result.0.len
    c.day.ensures c.into_parts-accounts.ensures.directory c.into_parts-accounts.ensures.accounts
    c.deref_mut.ensures.value size c.in_ok-replies.ensures.accounts in
    let logged = ap (λ (replies : List Reply). length replies) c.in_ok-replies.ensures.replies
    ∙ length-replies_of (record {
      rules = c.args.rules.now;
      day = c.day.result;
      directory = c.into_parts-accounts.result.1;
    }) c.deref_mut.result.now
    (c.args.batch.now.base + 1) c.args.batch.now.instructions in
    let counted : c.len-count.result ≡ length c.args.batch.now.instructions =
    omega (arith, c.len-count.ensures, logged) in
    c.from_sorted.ensures ∙ committed-after_day c.step_laws.ensures day _ c.into_parts-accounts.result.2
    c.len-count.result c.into_parts-accounts.ensures.kept c.requires closed c.into_parts-accounts.ensures.next
    counted
