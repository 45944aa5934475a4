use Rattle.std.proofs.Common.{map}
use Rattle.clap.specs.Words.{app_of}
use Rattle.registry.proofs.Described.{error_of_parse}
use Rattle.registry.proofs.words.parse.Goals as goal

pub returns-clause-error : goal.returns-clause-error
returns-clause-error g c =
    error_of_parse (app_of c.in_ok-describe_program.field-0) (map g.S.AsStr.text c.args.words.now)
    c.try_get_matches_from.result c.in_ok-describe_program.ensures c.try_get_matches_from.ensures.passes
    c.try_get_matches_from.ensures.kinds
