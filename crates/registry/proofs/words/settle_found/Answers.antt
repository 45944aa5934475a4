use Rattle.std.proofs.Common.{◌∙◌, Some, ap, codes, refl, sym}
use Rattle.clap.specs.Words.{found_of, rows_of}
use Rattle.reg_front.specs.declared.command.Command.TheVariants.{Settle}
use Rattle.registry.proofs.Found.{settle_only, spelled, text_found}
use Rattle.registry.proofs.words.settle_found.Goals as goal

pub returns-in_err-workers-clause-each : goal.returns-in_err-workers-clause-each
returns-in_err-workers-clause-each c command found =
    let f = found_of c.args.found.now in
    let asked = (settle_only (rows_of f) command found).2 in
    absurd ((c.in_err-workers.ensures.value asked.word (text_found f (codes "workers") asked.word asked.found)).1.0
    asked.numeral)

pub returns-clause-command : goal.returns-clause-command
returns-clause-command c = record {
  name = refl;
  number = spelled (found_of c.args.found.now) (codes "workers") c.in_ok-workers.workers c.in_ok-workers.ensures.none
      (λ word e. (c.in_ok-workers.ensures.value word e).0);
}

pub returns-clause-each : goal.returns-clause-each
returns-clause-each c command found =
    let f = found_of c.args.found.now in
    let only = settle_only (rows_of f) command found in
    let asked = only.2 in
    let read = (c.in_ok-workers.ensures.value asked.word (text_found f (codes "workers") asked.word asked.found)).0.1 in
    ap Some (ap Settle (read ∙ sym asked.value) ∙ sym only.1)
