use Rattle.std.proofs.Common.{ap, List, ◌≡◌, ◌+◌, ◌<◌, ◌∷◌, [], ◌++◌, length, rules, arith, sym, subst, ◌∙◌}
use Rattle.reg_base.specs.Numbers.{IsDayNo, IsRecordNo}
use Rattle.reg_base.specs.Instructions.{IsInstruction}
use Rattle.reg_base.specs.declared.instruction.Instruction.{Instruction}
use Rattle.reg_base.specs.Footprint.{footprint}
use Rattle.std.specs.Prelude.{All}
use Rattle.reg_rules.specs.declared.reply.Reply.{Reply}
use Rattle.reg_rules.specs.State.{State, Setting, numbers}
use Rattle.reg_rules.specs.Laws.{IsReady}
use Rattle.reg_rules.specs.Step.{step}
use Rattle.reg_book.specs.Indexes.{StandAt, AllStandAt, index_lists}
use Rattle.reg_book.proofs.Folds.{replies_more, state_more, numbers_more}
use Rattle.reg_book.proofs.Ranks.{stand-of}
use Rattle.reg_book.proofs.settle.settle_all.Goals as goal

pub execute_at-requires-clause-there : goal.execute_at-requires-clause-there
execute_at-requires-clause-there c =
    let directory = c.args.setting.now.directory in
    let ns = numbers c.args.accounts.now in
    let within : c.loop-index.index < length c.instructions-instructions.result.now = search rules in
    let own = stand-of directory ns c.args.indexes.now c.instructions-instructions.result.now c.loop-index.index
    c.index-indexes-index.result c.index-instructions-index.result
    (subst (AllStandAt directory ns (index_lists c.args.indexes.now)) (sym c.instructions-instructions.ensures)
    c.requires.indexes)
    within c.index-indexes-index.is c.index-instructions-index.is in
    let wanted = footprint directory c.index-instructions-index.result.act in
    subst (λ ms. StandAt ms c.as_slice.result.now wanted) (sym c.loop-index.invariant.same_numbers)
    (subst (λ ps. StandAt ns ps wanted) (sym c.as_slice.ensures.value) own)

pub loop-index-preserved : goal.loop-index-preserved
loop-index-preserved c =
    let setting = c.args.setting.now in
    let within : c.loop-index.index < length c.instructions-instructions.result.now = search rules in
    let counted : c.unwrap-number.result ≡ c.loop-index.last + 1 = search rules in
    let grown : c.push.new.self.items ≡ c.loop-index.replies.items ++ c.in_ok-reply.reply ∷ [] =
    c.in_ok-push.ensures.items in
    let own : IsInstruction c.index-instructions-index.result =
    subst IsInstruction (sym c.index-instructions-index.is)
    ((subst (All IsInstruction) (sym c.instructions-instructions.ensures) c.base-last.ensures.room.each)
    c.loop-index.index c.index-instructions-index.result within) in
    let on : IsDayNo setting.day = subst (λ (k : Setting). IsDayNo k.day) c.setting.view_is
    (subst IsDayNo c.get.ensures.value c.get.ensures.range) in
    let numbered : IsRecordNo (c.loop-index.last + 1) =
    record {
      low = omega arith;
      high = omega (
        arith,
        c.loop-index.invariant.counted,
        c.base-last.ensures.value,
        c.base-last.ensures.room.numbered,
        within,
        ap (λ (is : List Instruction). length is) c.instructions-instructions.ensures,
      );
    } in
    let ready = c.step_laws.ensures.stays_ready setting c.loop-index.accounts
    (c.loop-index.last + 1) c.index-instructions-index.result c.requires.rules on numbered own
    c.loop-index.invariant.ready in
    let stepped : c.execute_at.new.accounts
    ≡ (step setting c.loop-index.accounts (c.loop-index.last + 1) c.index-instructions-index.result).0 =
    ap (λ (r : State × Reply). r.0) c.in_ok-reply.ensures.ok
    ∙ ap (λ m. (step setting c.loop-index.accounts m c.index-instructions-index.result).0) counted in
    record {
      counted = omega (arith, c.loop-index.invariant.counted);
      ready = subst (IsReady (c.loop-index.last + 1 + 1)) (sym stepped) ready;
      same_numbers = numbers_more c.step_laws.ensures setting c.loop-index.accounts c.execute_at.new.accounts
          c.unwrap-number.result c.index-instructions-index.result c.in_ok-reply.reply c.in_ok-reply.ensures.ok
          ∙ c.loop-index.invariant.same_numbers;
      so_far = replies_more setting c.loop-index.accounts c.execute_at.new.accounts
          c.instructions-instructions.result.now c.loop-index.index c.loop-index.last c.unwrap-number.result
          c.index-instructions-index.result c.in_ok-reply.reply c.loop-index.replies.items c.push.new.self.items _
          within c.index-instructions-index.is counted c.in_ok-reply.ensures.ok grown c.loop-index.invariant.so_far;
      state = state_more setting c.loop-index.accounts c.execute_at.new.accounts c.instructions-instructions.result.now
          c.loop-index.index c.loop-index.last c.unwrap-number.result
          c.index-instructions-index.result c.in_ok-reply.reply _ within c.index-instructions-index.is counted
          c.in_ok-reply.ensures.ok c.loop-index.invariant.state;
    }
