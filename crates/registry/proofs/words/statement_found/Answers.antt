use Rattle.std.proofs.Common.{◌≡◌, ◌∙◌, Some, ap, codes, false, refl, subst, sym, true}
use Rattle.clap.specs.Words.{found_of, rows_of}
use Rattle.reg_base.specs.Numbers.{IsAccountNo}
use Rattle.reg_front.specs.declared.command.Command.TheVariants.{Statement}
use Rattle.registry.proofs.Found.{spelled, statement_only, text_found}
use Rattle.registry.proofs.words.statement_found.Goals as goal

pub returns-in_err-number-clause-each : goal.returns-in_err-number-clause-each
returns-in_err-number-clause-each c command found =
    let f = found_of c.args.found.now in
    let asked = (statement_only (rows_of f) command found).2 in
    absurd ((c.in_err-number.ensures.value asked.word (text_found f (codes "account") asked.word asked.found)).1.0
    asked.numeral)

pub returns-in_err-account-clause-each : goal.returns-in_err-account-clause-each
returns-in_err-account-clause-each c command found =
    let f = found_of c.args.found.now in
    let only = statement_only (rows_of f) command found in
    let asked = only.2 in
    let read = (c.in_ok-number.ensures.value asked.word (text_found f (codes "account") asked.word asked.found)).0.1 in
    let bad : false ≡ true =
    c.in_err-account.ensures.valid.1 (subst IsAccountNo (asked.value ∙ sym read) only.3) in
    cc

pub returns-clause-command : goal.returns-clause-command
returns-clause-command c = record {
  name = refl;
  number = (
    rw c.in_ok-account.ensures.value (spelled (found_of c.args.found.now) (codes "account") c.in_ok-number.number
        c.in_ok-number.ensures.none (λ word e. (c.in_ok-number.ensures.value word e).0)),
    rw c.in_ok-account.ensures.value (c.in_ok-account.ensures.valid.0 refl),
  );
}

pub returns-clause-each : goal.returns-clause-each
returns-clause-each c command found =
    let f = found_of c.args.found.now in
    let only = statement_only (rows_of f) command found in
    let asked = only.2 in
    let read = (c.in_ok-number.ensures.value asked.word (text_found f (codes "account") asked.word asked.found)).0.1 in
    ap Some (ap Statement (c.in_ok-account.ensures.value ∙ read ∙ sym asked.value) ∙ sym only.1)
