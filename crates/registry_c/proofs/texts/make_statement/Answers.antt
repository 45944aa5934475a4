-- A number that is no account number has no statement.
use Rattle.std.proofs.lemmas.Bool.{false≢true}
use Rattle.registry_c.proofs.Nobody.{has_nobody}
use Rattle.registry_c.proofs.texts.make_statement.Goals as goal

pub returns-in_default : goal.returns-in_default
returns-in_default c =
    has_nobody c.args.day.now.book c.args.account c.accounts.ensures.kept
    (λ own. false≢true (c.in_default.ensures.valid.1 own))
