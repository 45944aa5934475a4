-- The outcome is the text that was made.
use Rattle.std.proofs.Common.{ℕ, List, Ok, subst, sym}
use Rattle.registry_c.specs.Next.{IsNextDue}
use Rattle.registry_c.proofs.answer.tell_next.Goals as goal

pub returns-in-Ok : goal.returns-in-Ok
returns-in-Ok c = (
  Ok c.as_slice.result.now,
  subst (λ (text : List ℕ). IsNextDue c.args.day.now c.args.date.now (Ok text)) (sym c.as_slice.ensures.value)
      c.in-Ok.ensures,
  c.put.ensures.answer,
  c.put.ensures.room,
)
