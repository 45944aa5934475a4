use Rattle.std.proofs.Common.{◌≡◌, drop}
use Rattle.reg_text.specs.Words.{named}
use Rattle.reg_text.proofs.fields.words.read_named.Given as goal

-- what the values from here on give is what all of them give
abbrev pub invariant-loop-value : goal.invariant-loop-value
invariant-loop-value g l = named l.otherwise g.W.Word.spelling (drop l.value-index g.W.Word.values) l.field
    ≡ named l.otherwise g.W.Word.spelling g.W.Word.values l.field
