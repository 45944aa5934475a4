use Rattle.std.proofs.Common.{map, rules}
use Rattle.clap.specs.Words.{kind_of}
use Rattle.registry.proofs.Described.{missing}
use Rattle.registry.proofs.words.read_words.Goals as goal

pub returns-in_ok-command_missing-in-Ok-None-clause-error : goal.returns-in_ok-command_missing-in-Ok-None-clause-error
returns-in_ok-command_missing-in-Ok-None-clause-error g c =
    missing (map g.S.AsStr.text c.args.words.now) (kind_of c.in_ok-command_missing-in-Ok-None.field-0)
    c.in_ok-command_missing-in-Ok-None.ensures (search rules)
