-- What a reply says.
use Rattle.std.specs.Prelude.{Option, Some, None}
use Rattle.reg_base.specs.declared.refusals.Refusal.{Refusal}
use Rattle.reg_rules.specs.declared.reply.Reply.{Reply}
use Rattle.reg_rules.specs.declared.reply.Reply.TheVariants.{Done, Refused}

-- the check that refused the instruction
abbrev pub refusal_in : Reply → Option Refusal
refusal_in (Done closing figure) = None
refusal_in (Refused q) = Some q
