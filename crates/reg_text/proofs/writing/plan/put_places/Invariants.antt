use Rattle.std.proofs.Common.{◌≡◌, ◌++◌}
use Rattle.reg_text.specs.Report.{text_of}
use Rattle.reg_text.specs.PlanText.{places_rows}
use Rattle.reg_text.proofs.writing.plan.put_places.Given as goal

-- the places so far have been added
abbrev pub invariant-loop-before : goal.invariant-loop-before
invariant-loop-before l = l.text ≡ l.initial.text ++ text_of (places_rows l.plan l.before)
