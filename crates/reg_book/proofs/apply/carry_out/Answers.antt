use Rattle.std.proofs.Common.{◌≡◌, None, nat_eq, length, rules, sym, subst}
use Rattle.std.specs.List.{IsDistinct}
use Rattle.std.specs.Result.{IfOk, OnErr}
use Rattle.reg_base.specs.Footprint.{footprint}
use Rattle.reg_rules.specs.declared.reply.Reply.{Reply}
use Rattle.reg_rules.specs.Checks.{refusal}
use Rattle.reg_rules.specs.State.{State, numbers}
use Rattle.reg_rules.specs.Step.{step}
use Rattle.reg_book.specs.Book.{directory_of}
use Rattle.reg_book.specs.Indexes.{StandAt}
use Rattle.reg_book.proofs.Lookups.{rising-distinct}
use Rattle.reg_book.proofs.Singles.{whole-step, whole-unchanged}
use Rattle.reg_book.proofs.apply.carry_out.Goals as goal

pub execute_at-requires-clause-once : goal.execute_at-requires-clause-once
execute_at-requires-clause-once c =
    subst (λ (s : State). IsDistinct nat_eq (numbers s)) (sym c.deref_mut.ensures.value)
    (rising-distinct c.args.accounts.now.items c.requires.rising)

pub execute_at-requires-clause-there : goal.execute_at-requires-clause-there
execute_at-requires-clause-there c =
    let all : State = c.args.accounts.now.items in
    let act = c.args.instruction.now.act in
    let wanted = footprint c.args.setting.now.directory act in
    let among = subst (λ (s : State). StandAt (numbers s) c.indexes_of-own.result.items
    (footprint (directory_of s) act)) c.deref.ensures.value c.indexes_of-own.ensures in
    let listed = subst (λ d. StandAt (numbers all) c.indexes_of-own.result.items (footprint d act))
    (sym c.requires.listed) among in
    let own = subst (λ ps. StandAt (numbers all) ps wanted) (sym c.as_slice.ensures.value) listed in
    subst (λ (s : State). StandAt (numbers s) c.as_slice.result.now wanted) (sym c.deref_mut.ensures.value) own

pub returns-clause-ok : goal.returns-clause-ok
returns-clause-ok c =
    let size : c.args.accounts.now.len ≡ length c.args.accounts.now.items = search rules in
    whole-step c.step_laws.ensures c.args.setting.now c.args.accounts.now.items c.execute_at.new.accounts c.args.number
    c.args.instruction.now c.execute_at.result c.args.accounts.now.len size
    (subst (λ (s : State). IfOk c.execute_at.result
    (λ reply. ◌≡◌ {A = State × Reply} (c.execute_at.new.accounts, reply)
    (step c.args.setting.now s c.args.number c.args.instruction.now)))
    c.deref_mut.ensures.value c.execute_at.ensures.ok)

pub returns-clause-err : goal.returns-clause-err
returns-clause-err c =
    let size : c.args.accounts.now.len ≡ length c.args.accounts.now.items = search rules in
    whole-unchanged c.args.setting.now c.args.accounts.now.items c.execute_at.new.accounts c.args.instruction.now
    c.execute_at.result c.args.accounts.now.len size
    (subst (λ (s : State). OnErr c.execute_at.result
    ((c.execute_at.new.accounts ≡ s) × (refusal c.args.setting.now s c.args.instruction.now ≡ None)))
    c.deref_mut.ensures.value c.execute_at.ensures.err)
