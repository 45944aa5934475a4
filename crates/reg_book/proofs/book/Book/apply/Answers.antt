use Rattle.std.proofs.Common.{◌≡◌, None, ◌+◌, ◌≤◌, refl, ap, sym, subst, ◌∙◌}
use Rattle.reg_base.specs.declared.limits.TheConstants.{MOST_RECORD}
use Rattle.reg_base.specs.Numbers.{IsDayNo}
use Rattle.reg_rules.specs.Checks.{refusal}
use Rattle.reg_book.specs.Book.{BookValue, directory_of}
use Rattle.reg_book.specs.Single.{setting_on, IsApplied}
use Rattle.reg_book.proofs.Singles.{has-stepped, unrefused-of_one, kept-after_one, applied-one}
use Rattle.reg_book.proofs.book.Book.apply.Goals as goal

pub invariant_of-self : goal.invariant_of-self
invariant_of-self c =
    let book : BookValue = record { accounts = c.self.inside.accounts.items; next = c.self.inside.next } in
    let rules = c.args.rules.now in
    let i = c.args.instruction.now in
    let done = has-stepped book rules c.args.day c.in-Some.number c.self.inside.directory i
    c.carry_out.new.accounts.items c.in-Ok.reply c.log_row.result c.self.invariant.listed c.in-Some.ensures.value
    c.in-Ok.ensures.ok c.log_row.ensures in
    kept-after_one c.step_laws.ensures book rules c.args.day i c.carry_out.new.accounts.items c.self.inside.directory
    (record {
      kept = c.self.invariant.book;
      by_rules = c.are_within_limits.ensures;
      on_day = subst IsDayNo c.get.ensures.value c.get.ensures.range;
      sound = c.is_within_limits.ensures;
      numbered = (c.in-Some.ensures.valid.0 refl).high;
    }) done.closed c.self.invariant.listed

pub returns-in-Ok-clause-answer : goal.returns-in-Ok-clause-answer
returns-in-Ok-clause-answer c =
    let book : BookValue = record { accounts = c.self.inside.accounts.items; next = c.self.inside.next } in
    let rules = c.args.rules.now in
    let day = c.args.day in
    let i = c.args.instruction.now in
    let own = c.carry_out.new.accounts.items in
    let done = has-stepped book rules day c.in-Some.number c.self.inside.directory i own c.in-Ok.reply
    c.log_row.result c.self.invariant.listed c.in-Some.ensures.value c.in-Ok.ensures.ok c.log_row.ensures in
    let after : BookValue = record { accounts = own; next = c.self.inside.next + 1 } in
    subst (λ (b : BookValue). IsApplied rules day i b after c.log_row.result) c.self.view_is
    (applied-one c.step_laws.ensures book rules day i own c.log_row.result c.self.invariant.book
    (c.in-Some.ensures.valid.0 refl).high done)

pub returns-in-Ok-clause-directory : goal.returns-in-Ok-clause-directory
returns-in-Ok-clause-directory c =
    sym (invariant_of-self c).listed ∙ c.self.invariant.listed
    ∙ ap (λ (b : BookValue). directory_of b.accounts) c.self.view_is

pub returns-in-Err-clause-answer : goal.returns-in-Err-clause-answer
returns-in-Err-clause-answer c =
    let book : BookValue = record { accounts = c.self.inside.accounts.items; next = c.self.inside.next } in
    let rules = c.args.rules.now in
    let i = c.args.instruction.now in
    record {
      why = subst (λ (b : BookValue). (b.next ≤ MOST_RECORD)
          × (refusal (setting_on b rules c.args.day) b.accounts i ≡ None)) c.self.view_is (
            (c.in-Some.ensures.valid.0 refl).high,
            unrefused-of_one book rules c.args.day c.self.inside.directory i c.self.invariant.listed
                c.in-Err.ensures.err.1,
          );
      unchanged = (λ k. record { accounts = c.in-Err.ensures.err.0 k; next = c.self.inside.next }) ∙ c.self.view_is;
    }
