use Rattle.reg_rules.proofs.Acts.{creates, surrenders, deletes, reverses, enters, assesses}
use Rattle.reg_rules.proofs.Distributed.{distributes}
use Rattle.reg_rules.proofs.Listings.{trusts, untrusts, sets}
use Rattle.reg_rules.proofs.Moves.{moves}
use Rattle.reg_rules.proofs.laws.act_laws.Goals as goal

-- each act that moves an amount has its law by the lemma `moves`, and each other act by its own
pub returns : goal.returns
returns c = search (
  moves,
  surrenders,
  deletes,
  reverses,
  creates,
  distributes,
  trusts c.trust_laws.ensures,
  untrusts c.trust_laws.ensures,
  sets,
  enters c.year_laws.ensures,
  assesses c.year_laws.ensures,
)
