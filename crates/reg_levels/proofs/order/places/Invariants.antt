use Rattle.std.proofs.Common.{◌≡◌}
use Rattle.reg_base.specs.Rising.{count_up}
use Rattle.reg_levels.proofs.order.places.Given as goal

-- the places so far
abbrev pub invariant-loop-before : goal.invariant-loop-before
invariant-loop-before l = l.places.items ≡ count_up 1 l.before
