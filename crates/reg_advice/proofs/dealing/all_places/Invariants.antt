use Rattle.std.proofs.Common.{◌≡◌}
use Rattle.reg_base.specs.Rising.{count_up}
use Rattle.reg_advice.proofs.dealing.all_places.Given as goal

abbrev pub invariant-loop-before : goal.invariant-loop-before
invariant-loop-before l = l.places.items ≡ count_up 1 l.before
