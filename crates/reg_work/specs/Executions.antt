-- What a worker makes of an instruction.
use Rattle.std.specs.Prelude.{ℕ, Option}
use Rattle.std.specs.Option.{option_map}
use Rattle.reg_rules.specs.State.{State}
use Rattle.reg_rules.specs.declared.reply.Reply.{Reply}
use Rattle.reg_book.specs.Day.{DayValue}
use Rattle.reg_schedules.specs.Pool.{run_at}

-- what the instruction at this place makes of its own values, and the reply to it; nothing if it is no place
abbrev pub reply_at : DayValue → ℕ → State → Option (State × Reply)
reply_at day place own = option_map (λ made. (made.0, made.1.reply)) (run_at day place own)
