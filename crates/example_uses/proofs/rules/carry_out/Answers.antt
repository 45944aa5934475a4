use Rattle.std.proofs.Common.{◌≡◌, ℕ, Option, Some, None, ap, sym, ◌∙◌}
use Rattle.reg_base.specs.declared.instruction.Instruction.{Instruction}
use Rattle.reg_base.specs.declared.refusals.Refusal.{Refusal}
use Rattle.reg_rules.specs.declared.reply.Reply.{Reply}
use Rattle.reg_rules.specs.declared.reply.Reply.TheVariants.{Refused}
use Rattle.reg_rules.specs.declared.reply.LogRow.{LogRow}
use Rattle.reg_rules.specs.State.{State, Setting}
use Rattle.reg_rules.specs.Checks.{refusal}
use Rattle.reg_rules.specs.Step.{step, step_by, row_of}
use Rattle.example_uses.proofs.rules.carry_out.Goals as goal

-- a row whose reply is a refusal comes from a step that left the accounts
stays : (c : Setting) (s after : State) (number : ℕ) (i : Instruction) (o : Option Refusal) (reply : Reply)
    (q : Refusal)
    → (after, reply) ≡ step_by c s number i o → reply ≡ Refused q → after ≡ s
stays c s after number i None reply q made e = let done = ap (λ p. p.1) made in absurd cc
stays c s after number i (Some p) reply q made e = ap (λ p. p.0) made

-- the row of what was made, and the state after it
row-made : (c : Setting) (s after : State) (number : ℕ) (i : Instruction) (reply : Reply) (row : LogRow)
    → row ≡ row_of c number i reply → (after, reply) ≡ step c s number i → row ≡ row_of c number i (step c s number i).1
row-made c s after number i reply row said made = said ∙ ap (λ p. row_of c number i p.1) made

pub returns-clause-row : goal.returns-clause-row
returns-clause-row c =
    row-made c.args.setting.now c.args.accounts.now c.execute.new.accounts c.args.number c.args.instruction.now
    c.in_ok-reply.reply c.log_row.result
    (c.log_row.ensures ∙ ap (λ (s : Setting). row_of s c.args.number c.args.instruction.now c.in_ok-reply.reply)
    c.setting.view_is)
    (c.in_ok-reply.ensures.ok
    ∙ ap (λ (s : Setting). step s c.args.accounts.now c.args.number c.args.instruction.now) c.setting.view_is)

pub returns-clause-after : goal.returns-clause-after
returns-clause-after c =
    ap (λ (p : State × Reply). p.0) (c.in_ok-reply.ensures.ok
    ∙ ap (λ (s : Setting). step s c.args.accounts.now c.args.number c.args.instruction.now) c.setting.view_is)

pub returns-clause-refused : goal.returns-clause-refused
returns-clause-refused c q e =
    stays c.args.setting.now c.args.accounts.now c.execute.new.accounts c.args.number c.args.instruction.now
    (refusal c.args.setting.now c.args.accounts.now c.args.instruction.now) c.in_ok-reply.reply q
    (c.in_ok-reply.ensures.ok
    ∙ ap (λ (s : Setting). step s c.args.accounts.now c.args.number c.args.instruction.now) c.setting.view_is)
    (sym (ap (λ (r : LogRow). r.reply) c.log_row.ensures) ∙ e)
