use Rattle.std.proofs.Common.{◌∙◌, arith, inr, refl, rules}
use Rattle.registry.proofs.Served.{served}
use Rattle.registry.proofs.serve_arguments.Goals as goal

pub returns-in-Ok : goal.returns-in-Ok
returns-in-Ok g c = served (c.as_slice.ensures.value ∙ c.in-Ok.ensures) c.serve.ensures

pub returns-in-Err : goal.returns-in-Err
returns-in-Err g c = inr (record {
  unread = refl;
  ended = search rules;
  help = λ zero. absurd (omega (arith, zero, c.tell.ensures.status));
  taken = λ command taken. c.tell.ensures.status;
})
