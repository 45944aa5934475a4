use Rattle.std.proofs.Common.{◌≡◌, [], ◌∷◌, ◌++◌, take}
use Rattle.std.specs.List.{flat_map}
use Rattle.reg_text.specs.Report.{text_of}
use Rattle.reg_text.specs.Determined.{determined_row}
use Rattle.reg_text.proofs.writing.determined.put_years.Given as goal

-- the rows so far have been added
abbrev pub invariant-loop-figure : goal.invariant-loop-figure
invariant-loop-figure l =
    l.text ≡ l.initial.text ++ text_of (flat_map (λ f. determined_row l.account f ∷ []) (take l.figure-index l.figures))
