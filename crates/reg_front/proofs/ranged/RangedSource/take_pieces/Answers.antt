-- The pieces are all that was left.
use Rattle.std.proofs.Common.{rules, ◌≡◌, Some}
use Rattle.reg_front.proofs.Ahead.{whole_given}
use Rattle.reg_front.proofs.ranged.RangedSource.take_pieces.Goals as goal

pub returns-clause-whole : goal.returns-clause-whole
returns-clause-whole g c =
    let held : c.args.self.now.pieces ≡ Some c.in_ok-pieces.pieces = search rules in
    whole_given c.args.self.now.is_at_end (g.R.Source.stream c.args.self.now.source) c.args.self.now.pieces
    c.in_ok-pieces.pieces c.if-self.false held c.args.self.now.ahead
