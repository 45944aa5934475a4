use Rattle.std.proofs.Common.{◌≡◌, ◌+◌, ◌-◌, ◌<◌, Some, [], length, rules, sym, ap, subst, ◌∙◌, arith, List}
use Rattle.std.specs.Prelude.{All, slice_get}
use Rattle.std.specs.Option.{option_map_or}
use Rattle.reg_base.specs.declared.instruction.Instruction.{Instruction}
use Rattle.reg_base.specs.Footprint.{footprint}
use Rattle.reg_base.specs.Instructions.{IsInstruction}
use Rattle.reg_base.specs.Numbers.{IsDayNo, IsRecordNo}
use Rattle.reg_rules.specs.State.{Setting, numbers}
use Rattle.reg_book.specs.Indexes.{StandAt}
use Rattle.reg_regions.proofs.CarryingOut.{carried-out_at, got-at}
use Rattle.reg_regions.proofs.running.shift.settle_noted.Goals as goal

pub returns-clause-made : goal.returns-clause-made
returns-clause-made g c =
    let setting = c.args.setting.now in
    let batch = c.args.batch.now in
    let instruction = c.index-instructions-index.result in
    let is = c.instructions-instructions.result.now in
    let same : is ≡ batch.instructions = c.instructions-instructions.ensures in
    let one = c.requires.home.from_one in
    let lt : c.args.place - 1 < length batch.instructions =
    let le = c.requires.home.within in omega (arith, one, le) in
    let within : c.args.place - 1 < length is =
    subst (λ (js : List Instruction). c.args.place - 1 < length js) (sym same) lt in
    let at : slice_get batch.instructions (c.args.place - 1) ≡ Some instruction =
    ap (λ (js : List Instruction). slice_get js (c.args.place - 1)) (sym same)
    ∙ got-at is (c.args.place - 1) instruction within c.index-instructions-index.is in
    let counted : c.unwrap-number.result ≡ batch.base + c.args.place = search rules in
    let numbered : IsRecordNo c.unwrap-number.result = record {
      low = omega (arith, counted, one);
      high = omega (arith, counted, lt, c.base.ensures.room.numbered);
    } in
    let fits : IsInstruction instruction =
    subst IsInstruction (sym c.index-instructions-index.is)
    ((subst (All IsInstruction) (sym same) c.base.ensures.room.each) (c.args.place - 1) instruction within) in
    let on : IsDayNo setting.day = subst (λ (k : Setting). IsDayNo k.day) c.setting.view_is
    (subst IsDayNo c.get.ensures.value c.get.ensures.range) in
    let there : StandAt (numbers c.args.accounts.now) c.args.indexes.now.items
    (footprint setting.directory instruction.act) =
    subst (StandAt (numbers c.args.accounts.now) c.args.indexes.now.items)
    (ap (λ r. option_map_or (λ i. footprint setting.directory i.act) r []) at) c.requires.home.there in
    carried-out_at c.step_laws.ensures setting batch c.args.place c.unwrap-number.result instruction
    c.args.accounts.now c.execute_at.new.accounts c.in_ok-reply.reply c.args.indexes.now.items
    one at lt counted c.requires.rules on numbered fits c.requires.ready there
    c.in_ok-reply.ensures.ok
