use Rattle.std.proofs.Common.{◌≡◌, ℕ, Option, Some, None, refl, ap, ◌∙◌}
use Rattle.reg_base.specs.declared.instruction.Instruction.{Instruction}
use Rattle.reg_base.specs.declared.refusals.Refusal.{Refusal}
use Rattle.reg_rules.specs.declared.reply.LogRow.{LogRow}
use Rattle.reg_rules.specs.State.{State, Setting}
use Rattle.reg_rules.specs.Checks.{refusal}
use Rattle.reg_rules.specs.Replies.{refusal_in}
use Rattle.reg_rules.specs.Step.{step_by}
use Rattle.reg_book.specs.Single.{setting_on}
use Rattle.example_uses.proofs.single.settle_one.Goals as goal

-- the reply of a step says what refused it
replied : (c : Setting) (s : State) (number : ℕ) (i : Instruction) (o : Option Refusal)
    → refusal_in (step_by c s number i o).1 ≡ o
replied c s number i None = refl
replied c s number i (Some q) = refl

pub returns-clause-refused : goal.returns-clause-refused
returns-clause-refused c =
    let setting = setting_on c.args.book.now c.args.rules.now c.args.day in
    let accounts = c.args.book.now.accounts in
    c.refusal.ensures ∙ ap (λ (r : LogRow). refusal_in r.reply) c.in_ok-row.ensures.answer.row
    ∙ replied setting accounts c.args.book.now.next c.args.instruction.now
    (refusal setting accounts c.args.instruction.now)
